-- Formulas in stages: what a second stage leaves of what a first one left is what one stage leaves.
use Rattle.std.proofs.Common.{◌≡◌, refl, sym, ap, ◌∙◌}
use Rattle.wesl_cond_features.specs.declared.features.Truth.{Truth}
use Rattle.wesl_cond_features.specs.declared.features.Truth.TheVariants.{Yes, No, Undecided}
use Rattle.wesl_cond_features.specs.Answers.{Answers, or_else, in_stages}
use Rattle.wesl_cond_chains.specs.Formulas.{Form, always, never, flag, templated, within, negation, conjunction, disjunction, other}
use Rattle.wesl_cond_chains.specs.FormulaResidual.{literal, flag_as, parenthesized, negated, both_as, both_of, either_as, either_of, residual}
use Rattle.wesl_tree_base.specs.declared.span.Span.{Span}
use Rattle.wesl_tree_syntax.specs.Tree.{ForestOf}

module _ {I : Type 0} where
  pub residual-flag_as : (known : Answers I) (t : Truth) (name : I) (c : ForestOf I) → residual known (flag_as t name c) ≡ flag_as (or_else t (known name)) name c
  residual-flag_as known Yes name c = refl
  residual-flag_as known No name c = refl
  residual-flag_as known Undecided name c = refl

  parenthesized-flag_as : (p : Span) (t : Truth) (name : I) (c : ForestOf I) → parenthesized p (flag_as t name c) ≡ flag_as t name c
  parenthesized-flag_as p Yes name c = refl
  parenthesized-flag_as p No name c = refl
  parenthesized-flag_as p Undecided name c = refl

  parenthesized-twice : (p q : Span) (f : Form I) → parenthesized p (parenthesized q f) ≡ parenthesized q f
  parenthesized-twice p q always = refl
  parenthesized-twice p q never = refl
  parenthesized-twice p q (flag name c) = refl
  parenthesized-twice p q (templated name c) = refl
  parenthesized-twice p q (within r f) = refl
  parenthesized-twice p q (negation r f) = refl
  parenthesized-twice p q (conjunction r f s g) = refl
  parenthesized-twice p q (disjunction r f s g) = refl
  parenthesized-twice p q (other l c) = refl

  parenthesized-negated : (p q : Span) (f : Form I) → parenthesized p (negated q f) ≡ negated q f
  parenthesized-negated p q always = refl
  parenthesized-negated p q never = refl
  parenthesized-negated p q (flag name c) = refl
  parenthesized-negated p q (templated name c) = refl
  parenthesized-negated p q (within r f) = refl
  parenthesized-negated p q (negation r f) = refl
  parenthesized-negated p q (conjunction r f s g) = refl
  parenthesized-negated p q (disjunction r f s g) = refl
  parenthesized-negated p q (other l c) = refl

  pub residual-parenthesized : (known : Answers I) (p : Span) (f : Form I) → residual known (parenthesized p f) ≡ parenthesized p (residual known f)
  residual-parenthesized known p always = refl
  residual-parenthesized known p never = refl
  residual-parenthesized known p (flag name c) = sym (parenthesized-flag_as p (known name) name c)
  residual-parenthesized known p (templated name c) = refl
  residual-parenthesized known p (within q f) = sym (parenthesized-twice p q (residual known f))
  residual-parenthesized known p (negation q f) = sym (parenthesized-negated p q (residual known f))
  residual-parenthesized known p (conjunction q f r g) = refl
  residual-parenthesized known p (disjunction q f r g) = refl
  residual-parenthesized known p (other l c) = refl

  pub residual-negated : (known : Answers I) (p : Span) (f : Form I) → residual known (negated p f) ≡ negated p (residual known f)
  residual-negated known p always = refl
  residual-negated known p never = refl
  residual-negated known p (flag name c) = refl
  residual-negated known p (templated name c) = refl
  residual-negated known p (within q f) = refl
  residual-negated known p (negation q f) = refl
  residual-negated known p (conjunction q f r g) = refl
  residual-negated known p (disjunction q f r g) = refl
  residual-negated known p (other l c) = refl

  pub is_always : (f : Form I) → literal f ≡ Yes → f ≡ always
  is_always always e = refl
  is_always never e = cc
  is_always (flag name c) e = cc
  is_always (templated name c) e = cc
  is_always (within p f) e = cc
  is_always (negation p f) e = cc
  is_always (conjunction p f q g) e = cc
  is_always (disjunction p f q g) e = cc
  is_always (other l c) e = cc

  pub is_never : (f : Form I) → literal f ≡ No → f ≡ never
  is_never always e = cc
  is_never never e = refl
  is_never (flag name c) e = cc
  is_never (templated name c) e = cc
  is_never (within p f) e = cc
  is_never (negation p f) e = cc
  is_never (conjunction p f q g) e = cc
  is_never (disjunction p f q g) e = cc
  is_never (other l c) e = cc

  -- a literal beside a formula, on either side
  both_as-left : (p q : Span) (t : Truth) (g : Form I) → literal g ≡ t → both_as Yes t p always q g ≡ g
  both_as-left p q Yes g e = sym (is_always g e)
  both_as-left p q No g e = sym (is_never g e)
  both_as-left p q Undecided g e = refl

  both_as-right : (p q : Span) (t : Truth) (f : Form I) → literal f ≡ t → both_as t Yes p f q always ≡ f
  both_as-right p q Yes f e = sym (is_always f e)
  both_as-right p q No f e = sym (is_never f e)
  both_as-right p q Undecided f e = refl

  both_as-no : (p q : Span) (t : Truth) (f : Form I) → both_as t No p f q never ≡ never
  both_as-no p q Yes f = refl
  both_as-no p q No f = refl
  both_as-no p q Undecided f = refl

  either_as-left : (p q : Span) (t : Truth) (g : Form I) → literal g ≡ t → either_as No t p never q g ≡ g
  either_as-left p q Yes g e = sym (is_always g e)
  either_as-left p q No g e = sym (is_never g e)
  either_as-left p q Undecided g e = refl

  either_as-right : (p q : Span) (t : Truth) (f : Form I) → literal f ≡ t → either_as t No p f q never ≡ f
  either_as-right p q Yes f e = sym (is_always f e)
  either_as-right p q No f e = sym (is_never f e)
  either_as-right p q Undecided f e = refl

  either_as-yes : (p q : Span) (t : Truth) (f : Form I) → either_as t Yes p f q always ≡ always
  either_as-yes p q Yes f = refl
  either_as-yes p q No f = refl
  either_as-yes p q Undecided f = refl

  residual-both_as : (known : Answers I) (t u : Truth) (p : Span) (f : Form I) (q : Span) (g : Form I) → literal f ≡ t → literal g ≡ u → residual known (both_as t u p f q g) ≡ both_of p (residual known f) q (residual known g)
  residual-both_as known No u p f q g e d = rw (is_never f e) refl
  residual-both_as known Yes Yes p f q g e d = rw (is_always f e, is_always g d) refl
  residual-both_as known Yes No p f q g e d = rw (is_always f e, is_never g d) refl
  residual-both_as known Yes Undecided p f q g e d = rw (is_always f e) (sym (both_as-left p q _ (residual known g) refl))
  residual-both_as known Undecided Yes p f q g e d = rw (is_always g d) (sym (both_as-right p q _ (residual known f) refl))
  residual-both_as known Undecided No p f q g e d = rw (is_never g d) (sym (both_as-no p q (literal (residual known f)) (residual known f)))
  residual-both_as known Undecided Undecided p f q g e d = refl

  residual-either_as : (known : Answers I) (t u : Truth) (p : Span) (f : Form I) (q : Span) (g : Form I) → literal f ≡ t → literal g ≡ u → residual known (either_as t u p f q g) ≡ either_of p (residual known f) q (residual known g)
  residual-either_as known Yes u p f q g e d = rw (is_always f e) refl
  residual-either_as known No No p f q g e d = rw (is_never f e, is_never g d) refl
  residual-either_as known No Yes p f q g e d = rw (is_never f e, is_always g d) refl
  residual-either_as known No Undecided p f q g e d = rw (is_never f e) (sym (either_as-left p q _ (residual known g) refl))
  residual-either_as known Undecided No p f q g e d = rw (is_never g d) (sym (either_as-right p q _ (residual known f) refl))
  residual-either_as known Undecided Yes p f q g e d = rw (is_always g d) (sym (either_as-yes p q (literal (residual known f)) (residual known f)))
  residual-either_as known Undecided Undecided p f q g e d = refl

  pub residual-both_of : (known : Answers I) (p : Span) (f : Form I) (q : Span) (g : Form I) → residual known (both_of p f q g) ≡ both_of p (residual known f) q (residual known g)
  residual-both_of known p f q g = residual-both_as known _ _ p f q g refl refl

  pub residual-either_of : (known : Answers I) (p : Span) (f : Form I) (q : Span) (g : Form I) → residual known (either_of p f q g) ≡ either_of p (residual known f) q (residual known g)
  residual-either_of known p f q g = residual-either_as known _ _ p f q g refl refl

  pub residual_in_stages : (first second : Answers I) (f : Form I) → residual second (residual first f) ≡ residual (in_stages first second) f
  residual_in_stages first second always = refl
  residual_in_stages first second never = refl
  residual_in_stages first second (flag name c) = residual-flag_as second (first name) name c
  residual_in_stages first second (templated name c) = refl
  residual_in_stages first second (within p f) = residual-parenthesized second p (residual first f) ∙ ap (parenthesized p) (residual_in_stages first second f)
  residual_in_stages first second (negation p f) = residual-negated second p (residual first f) ∙ ap (negated p) (residual_in_stages first second f)
  residual_in_stages first second (conjunction p f q g) = residual-both_of second p (residual first f) q (residual first g) ∙ rw (residual_in_stages first second f, residual_in_stages first second g) refl
  residual_in_stages first second (disjunction p f q g) = residual-either_of second p (residual first f) q (residual first g) ∙ rw (residual_in_stages first second f, residual_in_stages first second g) refl
  residual_in_stages first second (other l c) = refl
