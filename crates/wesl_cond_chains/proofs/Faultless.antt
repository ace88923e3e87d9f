-- A formula without a fault has none in a later stage, nor in both at once.
use Rattle.std.proofs.Common.{◌≡◌, List, [], ◌∷◌, ◌++◌, refl, ap, ◌∙◌}
use Rattle.wesl_cond_features.specs.declared.features.Feature.{Feature}
use Rattle.wesl_cond_features.specs.declared.features.Feature.TheVariants.{Enable, Disable, Keep, Error}
use Rattle.wesl_cond_features.specs.declared.features.Truth.{Truth}
use Rattle.wesl_cond_features.specs.declared.features.Truth.TheVariants.{Yes, No, Undecided}
use Rattle.wesl_cond_features.specs.Features.{and_then, Replies, known, HoldsNoError, then_replies}
use Rattle.wesl_cond_chains.specs.Formulas.{Form, always, never, flag, templated, within, negation, conjunction, disjunction, other}
use Rattle.wesl_cond_chains.specs.FormulaResidual.{literal, flag_as, parenthesized, negated_as, both_as, either_as, residual}
use Rattle.wesl_cond_chains.specs.FormulaFaults.{Fault, faults_if_refused, formula_faults}
use Rattle.wesl_tree_base.specs.declared.span.Span.{Span}
use Rattle.wesl_tree_syntax.specs.Tree.{ForestOf}

module _ {I : Type 0} where
  pub none_before : (xs ys : List (Fault I)) → xs ++ ys ≡ [] → xs ≡ []
  none_before [] ys e = refl
  none_before (x ∷ xs) ys e = cc

  pub none_after : (xs ys : List (Fault I)) → xs ++ ys ≡ [] → ys ≡ []
  none_after [] ys e = e
  none_after (x ∷ xs) ys e = cc

  pub none_in_both : (xs ys : List (Fault I)) → xs ≡ [] → ys ≡ [] → xs ++ ys ≡ []
  none_in_both xs ys e d = ap (λ zs. zs ++ ys) e ∙ d

  none_refused : (a : Feature) (name : I) → (a ≡ Error → ⊥) → faults_if_refused a name ≡ []
  none_refused Enable name h = refl
  none_refused Disable name h = refl
  none_refused Keep name h = refl
  none_refused Error name h = absurd (h refl)

  none_then : (a b : Feature) (name : I) → faults_if_refused a name ≡ [] → (b ≡ Error → ⊥) → faults_if_refused (and_then a b) name ≡ []
  none_then Enable b name e h = refl
  none_then Disable b name e h = refl
  none_then Keep b name e h = none_refused b name h
  none_then Error b name e h = cc

  pub both_stages_faultless : (first second : Replies I) → HoldsNoError second → (f : Form I) → formula_faults first f ≡ [] → formula_faults (then_replies first second) f ≡ []
  both_stages_faultless first second h always e = refl
  both_stages_faultless first second h never e = refl
  both_stages_faultless first second h (flag name c) e = none_then (first name) (second name) name e (h name)
  both_stages_faultless first second h (templated name c) e = cc
  both_stages_faultless first second h (within p f) e = both_stages_faultless first second h f e
  both_stages_faultless first second h (negation p f) e = both_stages_faultless first second h f e
  both_stages_faultless first second h (conjunction p f q g) e = none_in_both _ _ (both_stages_faultless first second h f (none_before (formula_faults first f) (formula_faults first g) e)) (both_stages_faultless first second h g (none_after (formula_faults first f) (formula_faults first g) e))
  both_stages_faultless first second h (disjunction p f q g) e = none_in_both _ _ (both_stages_faultless first second h f (none_before (formula_faults first f) (formula_faults first g) e)) (both_stages_faultless first second h g (none_after (formula_faults first f) (formula_faults first g) e))
  both_stages_faultless first second h (other l c) e = cc

  module _ (reply : Replies I) (h : HoldsNoError reply) where
    flag-faultless : (t : Truth) (name : I) (c : ForestOf I) → formula_faults reply (flag_as t name c) ≡ []
    flag-faultless Yes name c = refl
    flag-faultless No name c = refl
    flag-faultless Undecided name c = none_refused (reply name) name (h name)

    parenthesized-faults : (p : Span) (f : Form I) → formula_faults reply (parenthesized p f) ≡ formula_faults reply f
    parenthesized-faults p always = refl
    parenthesized-faults p never = refl
    parenthesized-faults p (flag name c) = refl
    parenthesized-faults p (templated name c) = refl
    parenthesized-faults p (within q f) = refl
    parenthesized-faults p (negation q f) = refl
    parenthesized-faults p (conjunction q f r g) = refl
    parenthesized-faults p (disjunction q f r g) = refl
    parenthesized-faults p (other l c) = refl

    negated-faultless : (t : Truth) (p : Span) (f : Form I) → formula_faults reply f ≡ [] → formula_faults reply (negated_as t p f) ≡ []
    negated-faultless Yes p f e = refl
    negated-faultless No p f e = refl
    negated-faultless Undecided p f e = e

    both-faultless : (t u : Truth) (p : Span) (f : Form I) (q : Span) (g : Form I) → formula_faults reply f ≡ [] → formula_faults reply g ≡ [] → formula_faults reply (both_as t u p f q g) ≡ []
    both-faultless No u p f q g e d = refl
    both-faultless Yes Yes p f q g e d = refl
    both-faultless Yes No p f q g e d = refl
    both-faultless Yes Undecided p f q g e d = d
    both-faultless Undecided Yes p f q g e d = e
    both-faultless Undecided No p f q g e d = refl
    both-faultless Undecided Undecided p f q g e d = none_in_both _ _ e d

    either-faultless : (t u : Truth) (p : Span) (f : Form I) (q : Span) (g : Form I) → formula_faults reply f ≡ [] → formula_faults reply g ≡ [] → formula_faults reply (either_as t u p f q g) ≡ []
    either-faultless Yes u p f q g e d = refl
    either-faultless No Yes p f q g e d = refl
    either-faultless No No p f q g e d = refl
    either-faultless No Undecided p f q g e d = d
    either-faultless Undecided Yes p f q g e d = refl
    either-faultless Undecided No p f q g e d = e
    either-faultless Undecided Undecided p f q g e d = none_in_both _ _ e d

    pub residual-faultless : (first : Replies I) (f : Form I) → formula_faults first f ≡ [] → formula_faults reply (residual (known first) f) ≡ []
    residual-faultless first always e = refl
    residual-faultless first never e = refl
    residual-faultless first (flag name c) e = flag-faultless (known first name) name c
    residual-faultless first (templated name c) e = cc
    residual-faultless first (within p f) e = parenthesized-faults p (residual (known first) f) ∙ residual-faultless first f e
    residual-faultless first (negation p f) e = negated-faultless (literal (residual (known first) f)) p (residual (known first) f) (residual-faultless first f e)
    residual-faultless first (conjunction p f q g) e =
        both-faultless (literal (residual (known first) f)) (literal (residual (known first) g)) p (residual (known first) f) q (residual (known first) g)
        (residual-faultless first f (none_before (formula_faults first f) (formula_faults first g) e)) (residual-faultless first g (none_after (formula_faults first f) (formula_faults first g) e))
    residual-faultless first (disjunction p f q g) e =
        either-faultless (literal (residual (known first) f)) (literal (residual (known first) g)) p (residual (known first) f) q (residual (known first) g)
        (residual-faultless first f (none_before (formula_faults first f) (formula_faults first g) e)) (residual-faultless first g (none_after (formula_faults first f) (formula_faults first g) e))
    residual-faultless first (other l c) e = cc
