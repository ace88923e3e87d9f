-- The span of the condition at fault, attribute by attribute.
use Rattle.std.proofs.Common.{◌≡◌, ℕ, Bool, true, false, List, [], ◌∷◌, refl}
use Rattle.wesl_cond_chains.specs.Chains.{Condition, none, on, else_on, otherwise}
use Rattle.wesl_cond_chains.specs.Formulas.{nowhere}
use Rattle.wesl_cond_chains.specs.Nodes.{is_any}
use Rattle.wesl_cond_faults.specs.Places.{and_span, second_or_only}
use Rattle.wesl_tree_base.specs.declared.span.Span.{Span}

-- the same where one may be seen already
abbrev pub span_after : Bool → Span → List Span → Span
span_after seen only [] = only
span_after false only (s ∷ others) = span_after true s others
span_after true only (s ∷ others) = s

pub spans-start : (ss : List Span) → second_or_only ss ≡ span_after false nowhere ss
spans-start [] = refl
spans-start (s ∷ []) = refl
spans-start (s ∷ t ∷ others) = refl

pub spans-seen : (c : Condition ℕ) (only s : Span) (others : List Span) → is_any c ≡ true → span_after true only (and_span c s others) ≡ s
spans-seen none only s others e = cc
spans-seen (on x) only s others e = refl
spans-seen (else_on x) only s others e = refl
spans-seen otherwise only s others e = refl

pub spans-first : (c : Condition ℕ) (only s : Span) (others : List Span) → is_any c ≡ true → span_after false only (and_span c s others) ≡ span_after true s others
spans-first none only s others e = cc
spans-first (on x) only s others e = refl
spans-first (else_on x) only s others e = refl
spans-first otherwise only s others e = refl

pub spans-none : (seen : Bool) (c : Condition ℕ) (only s : Span) (others : List Span) → is_any c ≡ false → span_after seen only (and_span c s others) ≡ span_after seen only others
spans-none seen none only s others e = refl
spans-none seen (on x) only s others e = cc
spans-none seen (else_on x) only s others e = cc
spans-none seen otherwise only s others e = cc

pub ruleset spans_steps = (spans-start, spans-seen, spans-first, spans-none)
