-- What is left of a formula once flags are answered.
use Rattle.std.specs.Prelude.{Bool, true, false}
use Rattle.wesl_cond_features.specs.declared.features.Truth.{Truth}
use Rattle.wesl_cond_features.specs.declared.features.Truth.TheVariants.{Yes, No, Undecided}
use Rattle.wesl_cond_features.specs.Answers.{Answers}
use Rattle.wesl_cond_chains.specs.Formulas.{Form, always, never, flag, templated, within, negation, conjunction, disjunction, other}
use Rattle.wesl_tree_base.specs.declared.span.Span.{Span}
use Rattle.wesl_tree_syntax.specs.Tree.{ForestOf}

module _ {I : Type 0} where
  -- whether a formula is a literal, and which one
  abbrev pub literal : Form I → Truth
  literal always = Yes
  literal never = No
  literal (flag name c) = Undecided
  literal (templated name c) = Undecided
  literal (within p f) = Undecided
  literal (negation p f) = Undecided
  literal (conjunction p f q g) = Undecided
  literal (disjunction p f q g) = Undecided
  literal (other l c) = Undecided

  -- whether it joins two formulas
  abbrev pub is_joined : Form I → Bool
  is_joined (conjunction p f q g) = true
  is_joined (disjunction p f q g) = true
  is_joined _ = false

  -- a flag, or the literal that is known of it
  abbrev pub flag_as : Truth → I → ForestOf I → Form I
  flag_as Yes name c = always
  flag_as No name c = never
  flag_as Undecided name c = flag name c

  -- parentheses stay only round a binary formula
  abbrev pub parenthesized : Span → Form I → Form I
  parenthesized p always = always
  parenthesized p never = never
  parenthesized p (flag name c) = flag name c
  parenthesized p (templated name c) = templated name c
  parenthesized p (within q f) = within q f
  parenthesized p (negation q f) = negation q f
  parenthesized p (conjunction q f r g) = within p (conjunction q f r g)
  parenthesized p (disjunction q f r g) = within p (disjunction q f r g)
  parenthesized p (other l c) = other l c

  -- the negation of f, by whether f is a literal, and which one
  abbrev pub negated_as : Truth → Span → Form I → Form I
  negated_as Yes p f = never
  negated_as No p f = always
  negated_as Undecided p f = negation p f

  -- the other literal, else the negation
  abbrev pub negated : Span → Form I → Form I
  negated p f = negated_as (literal f) p f

  -- the conjunction of f and g, by whether each is a literal, and which one
  abbrev pub both_as : Truth → Truth → Span → Form I → Span → Form I → Form I
  both_as No u p f q g = never
  both_as Yes Yes p f q g = always
  both_as Yes No p f q g = never
  both_as Yes Undecided p f q g = g
  both_as Undecided Yes p f q g = f
  both_as Undecided No p f q g = never
  both_as Undecided Undecided p f q g = conjunction p f q g

  -- false where one is, true where both are, the other where one is true, else both
  abbrev pub both_of : Span → Form I → Span → Form I → Form I
  both_of p f q g = both_as (literal f) (literal g) p f q g

  -- the disjunction of f and g, by whether each is a literal, and which one
  abbrev pub either_as : Truth → Truth → Span → Form I → Span → Form I → Form I
  either_as Yes u p f q g = always
  either_as No Yes p f q g = always
  either_as No No p f q g = never
  either_as No Undecided p f q g = g
  either_as Undecided Yes p f q g = always
  either_as Undecided No p f q g = f
  either_as Undecided Undecided p f q g = disjunction p f q g

  -- true where one is, false where both are, the other where one is false, else both
  abbrev pub either_of : Span → Form I → Span → Form I → Form I
  either_of p f q g = either_as (literal f) (literal g) p f q g

  -- what is left of a formula, from the leaves up; what takes a formula's place has its span
  abbrev pub residual : Answers I → Form I → Form I
  residual known always = always
  residual known never = never
  residual known (flag name c) = flag_as (known name) name c
  residual known (templated name c) = templated name c
  residual known (within p f) = parenthesized p (residual known f)
  residual known (negation p f) = negated p (residual known f)
  residual known (conjunction p f q g) = both_of p (residual known f) q (residual known g)
  residual known (disjunction p f q g) = either_of p (residual known f) q (residual known g)
  residual known (other l c) = other l c

  -- whether answers decide a formula, and how
  abbrev pub decided : Answers I → Form I → Truth
  decided known f = literal (residual known f)
