-- One step of what is left of a formula, and of its faults.
use Rattle.std.proofs.Common.{◌≡◌, ℕ, rules, List, [], ◌++◌, cond, Option, Result, ◌⊎◌, inl, inr, refl, sym, ap, ◌∙◌, subst}
use Rattle.wesl_cond_features.specs.declared.features.Truth.{Truth}
use Rattle.wesl_cond_features.specs.declared.features.Truth.TheVariants.{Yes, No, Undecided}
use Rattle.wesl_cond_features.specs.Answers.{Answers, opposite, both_hold, one_holds}
use Rattle.wesl_cond_chains.specs.Formulas.{Form, always, never, flag, templated, within, negation, conjunction, disjunction, other, form, written}
use Rattle.wesl_cond_chains.specs.FormulaResidual.{literal, parenthesized, negated, both_as, both_of, either_as, either_of, is_joined, residual, decided}
use Rattle.std.specs.Box.{with_value}
use Rattle.wesl_cond_chains.specs.Step.{operands_left, step, instead}
use Rattle.wesl_cond_features.specs.Features.{Replies}
use Rattle.wesl_cond_chains.specs.Evaluation.{Judges}
use Rattle.wesl_cond_chains.specs.Places.{Place, formula_places}
use Rattle.wesl_tree_names.specs.Path.{Text}
use Rattle.wesl_tree_names.specs.declared.errors.Diagnostic.{Diagnostic}
use Rattle.wesl_cond_chains.proofs.WrittenBack.{written_back}
use Rattle.wesl_tree_base.specs.declared.span.Span.{Span}
use Rattle.wesl_tree_syntax.specs.View.{expression_view}
use Rattle.std.specs.Global.{Box}
use Rattle.wesl_tree_syntax.specs.declared.expression.Expression.{Expression, the_lemmas}
use Rattle.wesl_tree_syntax.specs.declared.expression.Expression.TheViews as made
use Rattle.wesl_tree_syntax.specs.declared.expression.BinaryOperator.{BinaryOperator}
use Rattle.wesl_tree_syntax.specs.declared.expression.UnaryOperator.{UnaryOperator}
use Rattle.wesl_tree_syntax.specs.declared.expression.BinaryOperator.TheVariants.{ShortCircuitAnd, ShortCircuitOr}
use Rattle.wesl_tree_syntax.specs.declared.expression.UnaryOperator.TheVariants.{LogicalNegation}
use Rattle.wesl_tree_syntax.specs.declared.span.Spanned.{Spanned}

module _ {I : Type 0} where
  pub literal-parenthesized : (p : Span) (f : Form I) → literal (parenthesized p f) ≡ literal f
  literal-parenthesized p always = refl
  literal-parenthesized p never = refl
  literal-parenthesized p (flag name c) = refl
  literal-parenthesized p (templated name c) = refl
  literal-parenthesized p (within q f) = refl
  literal-parenthesized p (negation q f) = refl
  literal-parenthesized p (conjunction q f r g) = refl
  literal-parenthesized p (disjunction q f r g) = refl
  literal-parenthesized p (other l c) = refl

  pub literal-negated : (p : Span) (f : Form I) → literal (negated p f) ≡ opposite (literal f)
  literal-negated p always = refl
  literal-negated p never = refl
  literal-negated p (flag name c) = refl
  literal-negated p (templated name c) = refl
  literal-negated p (within q f) = refl
  literal-negated p (negation q f) = refl
  literal-negated p (conjunction q f r g) = refl
  literal-negated p (disjunction q f r g) = refl
  literal-negated p (other l c) = refl

  literal-both_as : (t u : Truth) (p : Span) (f : Form I) (q : Span) (g : Form I) → literal f ≡ t → literal g ≡ u → literal (both_as t u p f q g) ≡ both_hold t u
  literal-both_as No u p f q g e d = refl
  literal-both_as Yes Yes p f q g e d = refl
  literal-both_as Yes No p f q g e d = refl
  literal-both_as Yes Undecided p f q g e d = d
  literal-both_as Undecided Yes p f q g e d = e
  literal-both_as Undecided No p f q g e d = refl
  literal-both_as Undecided Undecided p f q g e d = refl

  pub literal-both : (p : Span) (f : Form I) (q : Span) (g : Form I) → literal (both_of p f q g) ≡ both_hold (literal f) (literal g)
  literal-both p f q g = literal-both_as _ _ p f q g refl refl

  literal-either_as : (t u : Truth) (p : Span) (f : Form I) (q : Span) (g : Form I) → literal f ≡ t → literal g ≡ u → literal (either_as t u p f q g) ≡ one_holds t u
  literal-either_as Yes u p f q g e d = refl
  literal-either_as No Yes p f q g e d = refl
  literal-either_as No No p f q g e d = refl
  literal-either_as No Undecided p f q g e d = d
  literal-either_as Undecided Yes p f q g e d = refl
  literal-either_as Undecided No p f q g e d = e
  literal-either_as Undecided Undecided p f q g e d = refl

  pub literal-either : (p : Span) (f : Form I) (q : Span) (g : Form I) → literal (either_of p f q g) ≡ one_holds (literal f) (literal g)
  literal-either p f q g = literal-either_as _ _ p f q g refl refl

  pub parenthesized-joined : (p : Span) (f : Form I) → parenthesized p f ≡ cond (is_joined f) (within p f) f
  parenthesized-joined p always = refl
  parenthesized-joined p never = refl
  parenthesized-joined p (flag name c) = refl
  parenthesized-joined p (templated name c) = refl
  parenthesized-joined p (within q f) = refl
  parenthesized-joined p (negation q f) = refl
  parenthesized-joined p (conjunction q f r g) = refl
  parenthesized-joined p (disjunction q f r g) = refl
  parenthesized-joined p (other l c) = refl

-- what is left, operands first
pub step_by_step : {I : Type 0} (known : Answers I) (f : Form I) → step known (operands_left known f) ≡ residual known f
step_by_step known always = refl
step_by_step known never = refl
step_by_step known (flag name c) = refl
step_by_step known (templated name c) = refl
step_by_step known (within p f) = refl
step_by_step known (negation p f) = refl
step_by_step known (conjunction p f q g) = refl
step_by_step known (disjunction p f q g) = refl
step_by_step known (other l c) = refl

pub ruleset parenthesized_rule = (parenthesized-joined, parenthesized-joined)

pub ruleset decides = (literal-parenthesized, literal-negated, literal-both, literal-either)

-- an expression that reads as this formula is what that is written as
pub written_as : (e : Expression) (f : Form ℕ) → form (expression_view e) ≡ f → expression_view e ≡ written f
written_as e f is = sym (written_back e) ∙ ap written is

-- how the parts of an expression read in it
form_within : (e : Box (Spanned Expression)) → form (expression_view (made.Parenthesized e)) ≡ within e.value.span (form (expression_view e.value.node))
form_within e = search (rules, the_lemmas)

form_negation : (e : Box (Spanned Expression)) → form (expression_view (made.Unary LogicalNegation e)) ≡ negation e.value.span (form (expression_view e.value.node))
form_negation e = search (rules, the_lemmas)

form_conjunction : (e d : Box (Spanned Expression)) → form (expression_view (made.Binary ShortCircuitAnd e d)) ≡ conjunction e.value.span (form (expression_view e.value.node)) d.value.span (form (expression_view d.value.node))
form_conjunction e d = search (rules, the_lemmas)

form_disjunction : (e d : Box (Spanned Expression)) → form (expression_view (made.Binary ShortCircuitOr e d)) ≡ disjunction e.value.span (form (expression_view e.value.node)) d.value.span (form (expression_view d.value.node))
form_disjunction e d = search (rules, the_lemmas)

-- parentheses decide what is in them
pub decided_within : (known : Answers ℕ) (e : Box (Spanned Expression)) → decided known (form (expression_view (made.Parenthesized e))) ≡ decided known (form (expression_view e.value.node))
decided_within known e =
    ap (decided known) (form_within e) ∙ literal-parenthesized e.value.span (residual known (form (expression_view e.value.node)))

-- what decides an operand, or two, decides the whole
pub decided_both : (known : Answers ℕ) (f : Expression) (o : BinaryOperator) (e d : Box (Spanned Expression)) (x y : Spanned Expression) (s t r : Truth) → f ≡ made.Binary o e d → o ≡ ShortCircuitAnd → x ≡ e.value → y ≡ d.value
    → s ≡ decided known (form (expression_view x.node)) → t ≡ decided known (form (expression_view y.node)) → r ≡ both_hold s t → r ≡ decided known (form (expression_view f))
decided_both known f o e d x y s t r is same lent also first second whole =
    whole ∙ rw (first, second, lent, also) refl
    ∙ sym (ap (decided known) (form_conjunction e d) ∙ literal-both e.value.span (residual known (form (expression_view e.value.node))) d.value.span (residual known (form (expression_view d.value.node))))
    ∙ ap (λ g. decided known (form (expression_view g))) (sym (is ∙ ap (λ q. made.Binary q e d) same))

pub decided_either : (known : Answers ℕ) (f : Expression) (o : BinaryOperator) (e d : Box (Spanned Expression)) (x y : Spanned Expression) (s t r : Truth) → f ≡ made.Binary o e d → o ≡ ShortCircuitOr → x ≡ e.value → y ≡ d.value
    → s ≡ decided known (form (expression_view x.node)) → t ≡ decided known (form (expression_view y.node)) → r ≡ one_holds s t → r ≡ decided known (form (expression_view f))
decided_either known f o e d x y s t r is same lent also first second whole =
    whole ∙ rw (first, second, lent, also) refl
    ∙ sym (ap (decided known) (form_disjunction e d) ∙ literal-either e.value.span (residual known (form (expression_view e.value.node))) d.value.span (residual known (form (expression_view d.value.node))))
    ∙ ap (λ g. decided known (form (expression_view g))) (sym (is ∙ ap (λ q. made.Binary q e d) same))

pub decided_negation : (known : Answers ℕ) (f : Expression) (o : UnaryOperator) (e : Box (Spanned Expression)) (x : Spanned Expression) (s r : Truth) → f ≡ made.Unary o e → o ≡ LogicalNegation → x ≡ e.value
    → s ≡ decided known (form (expression_view x.node)) → r ≡ opposite s → r ≡ decided known (form (expression_view f))
decided_negation known f o e x s r is same lent first whole =
    whole ∙ rw (first, lent) refl
    ∙ sym (ap (decided known) (form_negation e) ∙ literal-negated e.value.span (residual known (form (expression_view e.value.node))))
    ∙ ap (λ g. decided known (form (expression_view g))) (sym (is ∙ ap (λ q. made.Unary q e) same))

-- The steps of an expression f, of which e and d are the operands, lent as x and y and given back as v and w.
module _ (known : Answers ℕ) (f : Expression) (e : Box (Spanned Expression)) (x v : Spanned Expression) where
  abbrev Left : Spanned Expression → Spanned Expression → Type 0
  Left a b = (form (expression_view b.node) ≡ residual known (form (expression_view a.node))) × (b.span ≡ a.span)

  pub within_operands : f ≡ made.Parenthesized e → x ≡ e.value → Left x v → form (expression_view (made.Parenthesized (with_value e v))) ≡ operands_left known (form (expression_view f))
  within_operands is lent h =
      form_within (with_value e v) ∙ ap (within v.span) h.0 ∙ ap (λ p. within p (residual known (form (expression_view x.node)))) h.1
      ∙ ap (λ a. within a.span (residual known (form (expression_view a.node)))) lent ∙ ap (operands_left known) (sym (form_within e)) ∙ ap (λ g. operands_left known (form (expression_view g))) (sym is)

  pub negation_operands : (o : UnaryOperator) → o ≡ LogicalNegation → f ≡ made.Unary o e → x ≡ e.value → Left x v → form (expression_view (made.Unary o (with_value e v))) ≡ operands_left known (form (expression_view f))
  negation_operands o same is lent h =
      ap (λ q. form (expression_view (made.Unary q (with_value e v)))) same ∙ form_negation (with_value e v) ∙ ap (negation v.span) h.0 ∙ ap (λ p. negation p (residual known (form (expression_view x.node)))) h.1
      ∙ ap (λ a. negation a.span (residual known (form (expression_view a.node)))) lent ∙ ap (operands_left known) (sym (form_negation e)) ∙ ap (λ g. operands_left known (form (expression_view g))) (sym (is ∙ ap (λ q. made.Unary q e) same))

  pub within_step : (r : Option Expression) → f ≡ made.Parenthesized e → x ≡ e.value → instead r (within v.span (form (expression_view v.node))) ≡ parenthesized x.span (form (expression_view x.node))
      → instead r (form (expression_view (made.Parenthesized (with_value e v)))) ≡ step known (form (expression_view f))
  within_step r is lent h =
      ap (instead r) (form_within (with_value e v)) ∙ h ∙ ap (λ a. parenthesized a.span (form (expression_view a.node))) lent ∙ ap (step known) (sym (form_within e)) ∙ ap (λ g. step known (form (expression_view g))) (sym is)

  pub negation_step : (r : Option Expression) → f ≡ made.Unary LogicalNegation e → x ≡ e.value → instead r (negation x.span (form (expression_view x.node))) ≡ negated x.span (form (expression_view x.node))
      → instead r (form (expression_view f)) ≡ step known (form (expression_view f))
  negation_step r is lent h =
      ap (λ g. instead r (form (expression_view g))) is ∙ ap (instead r) (form_negation e) ∙ ap (λ a. instead r (negation a.span (form (expression_view a.node)))) (sym lent)
      ∙ h ∙ ap (λ a. negated a.span (form (expression_view a.node))) lent ∙ ap (step known) (sym (form_negation e)) ∙ ap (λ g. step known (form (expression_view g))) (sym is)

  module _ (d : Box (Spanned Expression)) (y w : Spanned Expression) where
    conjunction_equal : {p p' q q' : Span} {h h' k k' : Form ℕ} → p ≡ p' → h ≡ h' → q ≡ q' → k ≡ k' → conjunction p h q k ≡ conjunction p' h' q' k'
    conjunction_equal a b c s = rw (a, b, c, s) refl

    disjunction_equal : {p p' q q' : Span} {h h' k k' : Form ℕ} → p ≡ p' → h ≡ h' → q ≡ q' → k ≡ k' → disjunction p h q k ≡ disjunction p' h' q' k'
    disjunction_equal a b c s = rw (a, b, c, s) refl

    abbrev left_of : Spanned Expression → Form ℕ
    left_of a = residual known (form (expression_view a.node))

    conjunction_operands : (o : BinaryOperator) → o ≡ ShortCircuitAnd → f ≡ made.Binary o e d → x ≡ e.value → y ≡ d.value → Left x v → Left y w → form (expression_view (made.Binary o (with_value e v) (with_value d w))) ≡ operands_left known (form (expression_view f))
    conjunction_operands o same is lent also h k =
        ap (λ q. form (expression_view (made.Binary q (with_value e v) (with_value d w)))) same ∙ form_conjunction (with_value e v) (with_value d w)
        ∙ conjunction_equal (h.1 ∙ ap (λ a. a.span) lent) (h.0 ∙ ap left_of lent) (k.1 ∙ ap (λ a. a.span) also) (k.0 ∙ ap left_of also)
        ∙ ap (operands_left known) (sym (form_conjunction e d)) ∙ ap (λ g. operands_left known (form (expression_view g))) (sym (is ∙ ap (λ q. made.Binary q e d) same))

    disjunction_operands : (o : BinaryOperator) → o ≡ ShortCircuitOr → f ≡ made.Binary o e d → x ≡ e.value → y ≡ d.value → Left x v → Left y w → form (expression_view (made.Binary o (with_value e v) (with_value d w))) ≡ operands_left known (form (expression_view f))
    disjunction_operands o same is lent also h k =
        ap (λ q. form (expression_view (made.Binary q (with_value e v) (with_value d w)))) same ∙ form_disjunction (with_value e v) (with_value d w)
        ∙ disjunction_equal (h.1 ∙ ap (λ a. a.span) lent) (h.0 ∙ ap left_of lent) (k.1 ∙ ap (λ a. a.span) also) (k.0 ∙ ap left_of also)
        ∙ ap (operands_left known) (sym (form_disjunction e d)) ∙ ap (λ g. operands_left known (form (expression_view g))) (sym (is ∙ ap (λ q. made.Binary q e d) same))

    pub joined_operands : (o : BinaryOperator) → (o ≡ ShortCircuitAnd) ⊎ (o ≡ ShortCircuitOr) → f ≡ made.Binary o e d → x ≡ e.value → y ≡ d.value → Left x v → Left y w → form (expression_view (made.Binary o (with_value e v) (with_value d w))) ≡ operands_left known (form (expression_view f))
    joined_operands o (inl both) is lent also h k = conjunction_operands o both is lent also h k
    joined_operands o (inr either) is lent also h k = disjunction_operands o either is lent also h k

    pub conjunction_step : (r : Option Expression) (o : BinaryOperator) → o ≡ ShortCircuitAnd → f ≡ made.Binary o e d → x ≡ e.value → y ≡ d.value
        → instead r (conjunction v.span (form (expression_view v.node)) w.span (form (expression_view w.node))) ≡ both_of x.span (form (expression_view x.node)) y.span (form (expression_view y.node))
        → instead r (form (expression_view (made.Binary o (with_value e v) (with_value d w)))) ≡ step known (form (expression_view f))
    conjunction_step r o same is lent also h =
        ap (λ q. instead r (form (expression_view (made.Binary q (with_value e v) (with_value d w))))) same ∙ ap (instead r) (form_conjunction (with_value e v) (with_value d w)) ∙ h ∙ ap (λ a. both_of a.span (form (expression_view a.node)) y.span (form (expression_view y.node))) lent
        ∙ ap (λ a. both_of e.value.span (form (expression_view e.value.node)) a.span (form (expression_view a.node))) also ∙ ap (step known) (sym (form_conjunction e d)) ∙ ap (λ g. step known (form (expression_view g))) (sym (is ∙ ap (λ q. made.Binary q e d) same))

    pub disjunction_step : (r : Option Expression) (o : BinaryOperator) → o ≡ ShortCircuitOr → f ≡ made.Binary o e d → x ≡ e.value → y ≡ d.value
        → instead r (disjunction v.span (form (expression_view v.node)) w.span (form (expression_view w.node))) ≡ either_of x.span (form (expression_view x.node)) y.span (form (expression_view y.node))
        → instead r (form (expression_view (made.Binary o (with_value e v) (with_value d w)))) ≡ step known (form (expression_view f))
    disjunction_step r o same is lent also h =
        ap (λ q. instead r (form (expression_view (made.Binary q (with_value e v) (with_value d w))))) same ∙ ap (instead r) (form_disjunction (with_value e v) (with_value d w)) ∙ h ∙ ap (λ a. either_of a.span (form (expression_view a.node)) y.span (form (expression_view y.node))) lent
        ∙ ap (λ a. either_of e.value.span (form (expression_view e.value.node)) a.span (form (expression_view a.node))) also ∙ ap (step known) (sym (form_disjunction e d)) ∙ ap (λ g. step known (form (expression_view g))) (sym (is ∙ ap (λ q. made.Binary q e d) same))

-- the faults of two operands
module _ (reply : Replies ℕ) where
  abbrev pub places_in : Spanned Expression → List (Place ℕ)
  places_in e = formula_places reply e.span (form (expression_view e.node))

  pub joined_places : (span : Span) (o : BinaryOperator) (e d : Box (Spanned Expression)) → (o ≡ ShortCircuitAnd) ⊎ (o ≡ ShortCircuitOr)
      → formula_places reply span (form (expression_view (made.Binary o e d))) ≡ places_in e.value ++ places_in d.value
  joined_places span o e d (inl is) = ap (λ p. formula_places reply span (form (expression_view (made.Binary p e d)))) is ∙ ap (formula_places reply span) (form_conjunction e d)
  joined_places span o e d (inr is) = ap (λ p. formula_places reply span (form (expression_view (made.Binary p e d)))) is ∙ ap (formula_places reply span) (form_disjunction e d)

  -- two operands, the first of which has no fault
  pub both_judged : {A : Type 0} (names : List Text) (span : Span) (x : Expression) (o : BinaryOperator) (e d : Box (Spanned Expression)) (left right : Spanned Expression) (r : Result A Diagnostic) → x ≡ made.Binary o e d → (o ≡ ShortCircuitAnd) ⊎ (o ≡ ShortCircuitOr)
      → left ≡ e.value → right ≡ d.value → places_in left ≡ [] → Judges names (places_in right) r → Judges names (formula_places reply span (form (expression_view x))) r
  both_judged names span x o e d left right r is joins same also clear h =
      subst (λ ps. Judges names ps r)
      (sym (ap (λ y. formula_places reply span (form (expression_view y))) is ∙ joined_places span o e d joins ∙ ap (λ ps. ps ++ places_in d.value) (subst (λ y. places_in y ≡ []) same clear)))
      (subst (λ y. Judges names (places_in y) r) also h)
