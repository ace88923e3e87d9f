-- Formulas that can be printed: what answers leave of one can be printed, and holds together as tightly.
use Rattle.std.proofs.Common.{◌≡◌, ◌⊎◌, Bool, true, ◌&&◌, if◌then◌else◌, List, [], ◌∷◌, ◌++◌, Some, None, refl, inl, inr, ap, ap₂, ◌∙◌, append-nil, codes}
use Rattle.wesl_tree_base.specs.declared.span.Span.{Span}
use Rattle.wesl_tree_names.specs.Path.{Text}
use Rattle.wesl_tree_syntax.specs.Tree.{TreeOf, kind, at, end, tree, expression_node, type_or_identifier}
use Rattle.wesl_text_tokens.specs.declared.symbol.Symbol.{Symbol}
use Rattle.wesl_text_tokens.specs.declared.symbol.Symbol.TheVariants as is
use Rattle.wesl_text_form.specs.Slots.{Slot}
use Rattle.wesl_text_form.specs.Operators.{Class, primary, prefixed, both, either, class_of, is_tight, takes_left, takes_right}
use Rattle.wesl_text_form.specs.Productions.{an_expression, a_bare_expression}
use Rattle.wesl_text_form.specs.Spelling.{Forest, Slots, spells, followed, named, signed, first_slots, slots_as}
use Rattle.wesl_text_reading.proofs.Filled.{no_true}
use Rattle.wesl_cond_features.specs.declared.features.Truth.{Truth}
use Rattle.wesl_cond_features.specs.declared.features.Truth.TheVariants.{Yes, No, Undecided}
use Rattle.wesl_cond_features.specs.Answers.{Answers}
use Rattle.wesl_cond_chains.specs.Formulas.{Form, always, never, flag, templated, within, negation, conjunction, disjunction, other, written}
use Rattle.wesl_cond_chains.specs.FormulaResidual.{literal, flag_as, parenthesized, negated_as, both_as, either_as, residual}
use Rattle.wesl_text_left.proofs.Plain.{are_plain, plain_joined}

-- a formula as an expression
abbrev pub expression : Form Text → Slots
expression f = slots_as a_bare_expression (written f)

-- and how tightly it holds together
abbrev pub class : Form Text → Class
class f = class_of (Some (written f).label)

-- without a span
abbrev pub IsNowhere : Span → Type 0
IsNowhere p = (p.start ≡ 0) × (p.end ≡ 0)

-- slots that are there, and plain
abbrev pub IsPlain : Slots → Type 0
IsPlain a = (ss : List Slot) × (a ≡ Some ss) × (are_plain ss ≡ true)

-- it has slots, each of them plain
abbrev pub Fine : Form Text → Type 0
Fine always = Unit {0}
Fine never = Unit {0}
Fine (flag name c) = IsPlain (slots_as a_bare_expression (record { label = kind type_or_identifier; children = c }))
Fine (templated name c) = ⊥
Fine (within p f) = IsNowhere p × Fine f
Fine (negation p f) = IsNowhere p × (is_tight (class f) ≡ true) × Fine f
Fine (conjunction p f q g) = IsNowhere p × IsNowhere q × (takes_left both (class f) ≡ true) × (takes_right both (class g) ≡ true) × Fine f × Fine g
Fine (disjunction p f q g) = IsNowhere p × IsNowhere q × (takes_left either (class f) ≡ true) × (takes_right either (class g) ≡ true) × Fine f × Fine g
Fine (other l c) = ⊥

-- ---- the slots

-- an expression with its span
abbrev pub spanned : Span → TreeOf Text → Slots
spanned p t = first_slots (at expression_node p.start p.end) (tree t.label t.children end) (spells (tree t.label t.children end)) an_expression

pub spanned_is : (p : Span) (t : TreeOf Text) (ss : List Slot) → IsNowhere p → slots_as a_bare_expression t ≡ Some ss → spanned p t ≡ Some ss
spanned_is p t ss n e =
    ap₂ (λ a b. first_slots (at expression_node a b) (tree t.label t.children end) (spells (tree t.label t.children end)) an_expression) n.0 n.1
    ∙ (ap (λ z. followed z (Some [])) e ∙ ap (λ z. Some z) (append-nil ss))

abbrev joined_by : Symbol → Slots → Slots → Slots
joined_by s a b = followed a (followed (Some (signed s ∷ [])) (followed b (Some [])))

plain_within : (p : Span) (f : Form Text) → IsNowhere p → IsPlain (expression f) → IsPlain (expression (within p f))
plain_within p f n x = (
  signed is.ParenLeft ∷ (x.0 ++ signed is.ParenRight ∷ []),
  ap (λ z. followed (Some (signed is.ParenLeft ∷ [])) (followed z (Some (signed is.ParenRight ∷ [])))) (spanned_is p (written f) x.0 n x.1),
  plain_joined x.0 (signed is.ParenRight ∷ []) x.2 refl,
)

plain_negation : (p : Span) (f : Form Text) → IsNowhere p → is_tight (class f) ≡ true → IsPlain (expression f) → IsPlain (expression (negation p f))
plain_negation p f n t x = (
  signed is.Bang ∷ (x.0 ++ []),
  ap (λ (z : Bool). let a : Slots = if z && true then followed (Some (signed is.Bang ∷ [])) (followed (spanned p (written f)) (Some [])) else None in a) t
      ∙ ap (λ z. followed (Some (signed is.Bang ∷ [])) (followed z (Some []))) (spanned_is p (written f) x.0 n x.1),
  plain_joined x.0 [] x.2 refl,
)

-- of two, joined by a symbol
plain_both : (s : Symbol) (p q : Span) (f g : Form Text) → are_plain (signed s ∷ []) ≡ true → IsNowhere p → IsNowhere q → IsPlain (expression f) → IsPlain (expression g) → IsPlain (joined_by s (spanned p (written f)) (spanned q (written g)))
plain_both s p q f g e n m x y = (
  x.0 ++ (signed s ∷ (y.0 ++ [])),
  ap₂ (λ a b. joined_by s a b) (spanned_is p (written f) x.0 n x.1) (spanned_is q (written g) y.0 m y.1),
  plain_joined x.0 (signed s ∷ (y.0 ++ [])) x.2 (plain_joined (signed s ∷ []) (y.0 ++ []) e (plain_joined y.0 [] y.2 refl)),
)

-- slots where two tests hold
where_both : (a b : Bool) (x : Slots) → a ≡ true → b ≡ true → (let y : Slots = if (a && b) && true then x else None in y) ≡ x
where_both a b x h g = ap₂ (λ (c d : Bool). let y : Slots = if (c && d) && true then x else None in y) h g

pub fine_plain : (f : Form Text) → Fine f → IsPlain (expression f)
fine_plain always h = (named (codes "true") ∷ [], refl, refl)
fine_plain never h = (named (codes "false") ∷ [], refl, refl)
fine_plain (flag name c) h = h
fine_plain (templated name c) h = absurd h
fine_plain (within p f) h = plain_within p f h.0 (fine_plain f h.1)
fine_plain (negation p f) h = plain_negation p f h.0 h.1 (fine_plain f h.2)
fine_plain (conjunction p f q g) h =
    let x : IsPlain (joined_by is.AndAnd (spanned p (written f)) (spanned q (written g))) = plain_both is.AndAnd p q f g refl h.0 h.1 (fine_plain f h.4) (fine_plain g h.5) in
    (x.0, where_both (takes_left both (class f)) (takes_right both (class g)) (joined_by is.AndAnd (spanned p (written f)) (spanned q (written g))) h.2 h.3 ∙ x.1, x.2)
fine_plain (disjunction p f q g) h =
    let x : IsPlain (joined_by is.OrOr (spanned p (written f)) (spanned q (written g))) = plain_both is.OrOr p q f g refl h.0 h.1 (fine_plain f h.4) (fine_plain g h.5) in
    (x.0, where_both (takes_left either (class f)) (takes_right either (class g)) (joined_by is.OrOr (spanned p (written f)) (spanned q (written g))) h.2 h.3 ∙ x.1, x.2)
fine_plain (other l c) h = absurd h

-- ---- what is left

-- as tightly as before, or by itself
abbrev Tighter : Form Text → Class → Type 0
Tighter f c = (is_tight (class f) ≡ true) ⊎ (class f ≡ c)

abbrev IsLeft : Form Text → Class → Type 0
IsLeft f c = Fine f × Tighter f c

tight_takes_left : (c : Class) → is_tight c ≡ true → (takes_left both c ≡ true) × (takes_left either c ≡ true)
tight_takes_left primary h = (refl, refl)
tight_takes_left prefixed h = (refl, refl)
tight_takes_left c h = absurd (no_true h)

tight_takes_right : (c : Class) → is_tight c ≡ true → (takes_right both c ≡ true) × (takes_right either c ≡ true)
tight_takes_right primary h = (refl, refl)
tight_takes_right prefixed h = (refl, refl)
tight_takes_right c h = absurd (no_true h)

-- what stands on the right is by itself
right_both : (f : Form Text) → Fine f → takes_right both (class f) ≡ true → is_tight (class f) ≡ true
right_both (conjunction p f q g) h e = absurd (no_true e)
right_both (disjunction p f q g) h e = absurd (no_true e)
right_both (templated name c) h e = absurd h
right_both (other l c) h e = absurd h
right_both f h e = refl

right_either : (f : Form Text) → Fine f → takes_right either (class f) ≡ true → is_tight (class f) ≡ true
right_either (conjunction p f q g) h e = absurd (no_true e)
right_either (disjunction p f q g) h e = absurd (no_true e)
right_either (templated name c) h e = absurd h
right_either (other l c) h e = absurd h
right_either f h e = refl

-- and on the left so, or a chain of the same
left_both : (f : Form Text) → Fine f → takes_left both (class f) ≡ true → Tighter f both
left_both (conjunction p f q g) h e = inr refl
left_both (disjunction p f q g) h e = absurd (no_true e)
left_both (templated name c) h e = absurd h
left_both (other l c) h e = absurd h
left_both f h e = inl refl

left_either : (f : Form Text) → Fine f → takes_left either (class f) ≡ true → Tighter f either
left_either (conjunction p f q g) h e = absurd (no_true e)
left_either (disjunction p f q g) h e = inr refl
left_either (templated name c) h e = absurd h
left_either (other l c) h e = absurd h
left_either f h e = inl refl

-- what is tighter than what is by itself is by itself
still_tight : (f : Form Text) (c : Class) → Tighter f c → is_tight c ≡ true → is_tight (class f) ≡ true
still_tight f c (inl e) h = e
still_tight f c (inr e) h = ap is_tight e ∙ h

-- and tighter than a third what is tighter than the second
tighter_again : (f g : Form Text) (c : Class) → Tighter f (class g) → Tighter g c → Tighter f c
tighter_again f g c (inl e) y = inl e
tighter_again f g c (inr e) (inl h) = inl (ap is_tight e ∙ h)
tighter_again f g c (inr e) (inr h) = inr (e ∙ h)

left_stays : (k c : Class) (f : Form Text) → ((d : Class) → is_tight d ≡ true → takes_left k d ≡ true) → Tighter f c → takes_left k c ≡ true → takes_left k (class f) ≡ true
left_stays k c f t (inl e) h = t (class f) e
left_stays k c f t (inr e) h = ap (takes_left k) e ∙ h

right_stays : (k c : Class) (f : Form Text) → ((d : Class) → is_tight d ≡ true → takes_right k d ≡ true) → Tighter f c → takes_right k c ≡ true → takes_right k (class f) ≡ true
right_stays k c f t (inl e) h = t (class f) e
right_stays k c f t (inr e) h = ap (takes_right k) e ∙ h

left_flag : (t : Truth) (name : Text) (c : Forest) → Fine (flag name c) → IsLeft (flag_as t name c) primary
left_flag Yes name c h = (tt, inl refl)
left_flag No name c h = (tt, inl refl)
left_flag Undecided name c h = (h, inl refl)

left_within : (p : Span) (f : Form Text) → IsNowhere p → Fine f → IsLeft (parenthesized p f) primary
left_within p always n h = (tt, inl refl)
left_within p never n h = (tt, inl refl)
left_within p (flag name c) n h = (h, inl refl)
left_within p (templated name c) n h = absurd h
left_within p (within q f) n h = (h, inl refl)
left_within p (negation q f) n h = (h, inl refl)
left_within p (conjunction q f r g) n h = ((n, h), inl refl)
left_within p (disjunction q f r g) n h = ((n, h), inl refl)
left_within p (other l c) n h = absurd h

left_negation : (t : Truth) (p : Span) (f : Form Text) → IsNowhere p → is_tight (class f) ≡ true → Fine f → IsLeft (negated_as t p f) prefixed
left_negation Yes p f n e h = (tt, inl refl)
left_negation No p f n e h = (tt, inl refl)
left_negation Undecided p f n e h = ((n, e, h), inl refl)

module _ (p q : Span) (n : IsNowhere p) (m : IsNowhere q) (f g : Form Text) (r s : Form Text) where
  left_conjunction : (t u : Truth) → takes_left both (class f) ≡ true → takes_right both (class g) ≡ true → Fine f → Fine g → IsLeft r (class f) → IsLeft s (class g) → IsLeft (both_as t u p r q s) both
  left_conjunction No u a b h k x y = (tt, inl refl)
  left_conjunction Yes Yes a b h k x y = (tt, inl refl)
  left_conjunction Yes No a b h k x y = (tt, inl refl)
  left_conjunction Yes Undecided a b h k x y = (y.0, inl (still_tight s (class g) y.1 (right_both g k b)))
  left_conjunction Undecided Yes a b h k x y = (x.0, tighter_again r f both x.1 (left_both f h a))
  left_conjunction Undecided No a b h k x y = (tt, inl refl)
  left_conjunction Undecided Undecided a b h k x y =
      ((n, m, left_stays both (class f) r (λ d e. (tight_takes_left d e).0) x.1 a, right_stays both (class g) s (λ d e. (tight_takes_right d e).0) y.1 b, x.0, y.0), inr refl)

  left_disjunction : (t u : Truth) → takes_left either (class f) ≡ true → takes_right either (class g) ≡ true → Fine f → Fine g → IsLeft r (class f) → IsLeft s (class g) → IsLeft (either_as t u p r q s) either
  left_disjunction Yes u a b h k x y = (tt, inl refl)
  left_disjunction No Yes a b h k x y = (tt, inl refl)
  left_disjunction No No a b h k x y = (tt, inl refl)
  left_disjunction No Undecided a b h k x y = (y.0, inl (still_tight s (class g) y.1 (right_either g k b)))
  left_disjunction Undecided Yes a b h k x y = (tt, inl refl)
  left_disjunction Undecided No a b h k x y = (x.0, tighter_again r f either x.1 (left_either f h a))
  left_disjunction Undecided Undecided a b h k x y =
      ((n, m, left_stays either (class f) r (λ d e. (tight_takes_left d e).1) x.1 a, right_stays either (class g) s (λ d e. (tight_takes_right d e).1) y.1 b, x.0, y.0), inr refl)

pub left_fine : (known : Answers Text) (f : Form Text) → Fine f → IsLeft (residual known f) (class f)
left_fine known always h = (tt, inl refl)
left_fine known never h = (tt, inl refl)
left_fine known (flag name c) h = left_flag (known name) name c h
left_fine known (templated name c) h = absurd h
left_fine known (within p f) h = left_within p (residual known f) h.0 (left_fine known f h.1).0
left_fine known (negation p f) h =
    let x : IsLeft (residual known f) (class f) = left_fine known f h.2 in
    left_negation (literal (residual known f)) p (residual known f) h.0 (still_tight (residual known f) (class f) x.1 h.1) x.0
left_fine known (conjunction p f q g) h =
    left_conjunction p q h.0 h.1 f g (residual known f) (residual known g) (literal (residual known f)) (literal (residual known g)) h.2 h.3 h.4 h.5 (left_fine known f h.4) (left_fine known g h.5)
left_fine known (disjunction p f q g) h =
    left_disjunction p q h.0 h.1 f g (residual known f) (residual known g) (literal (residual known f)) (literal (residual known g)) h.2 h.3 h.4 h.5 (left_fine known f h.4) (left_fine known g h.5)
left_fine known (other l c) h = absurd h
