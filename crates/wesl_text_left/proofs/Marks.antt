-- What answers leave of attributes can be printed.
use Rattle.std.proofs.Common.{◌≡◌, ◌⊎◌, zero, suc, true, List, [], ◌∷◌, ◌++◌, Some, None, is_some, refl, sym as turned, inl, inr, ap, ◌∙◌, subst, codes}
use Rattle.std.specs.List.{flat_map}
use Rattle.wesl_tree_names.specs.Path.{Text}
use Rattle.wesl_tree_syntax.specs.Tree.{Kind, kind, at, end, tree, expression_node, attribute_node, if_attribute, elif_attribute, else_attribute}
use Rattle.wesl_text_tokens.specs.declared.symbol.Symbol.TheVariants as is
use Rattle.wesl_text_tokens.specs.Tokens.{symbol}
use Rattle.wesl_text_form.specs.Slots.{Slot, may}
use Rattle.wesl_text_form.specs.Productions.{an_expression, an_attribute, a_bare_attribute, Row, nothing, sym, may_sym, says, own}
use Rattle.wesl_text_form.specs.Spelling.{Label, Forest, Slots, spells, followed, named, signed, first_slots}
use Rattle.wesl_text_reading.proofs.Filled.{no_true}
use Rattle.wesl_text_respell.specs.Joined.{AreWritableAs}
use Rattle.wesl_text_respell.proofs.Writable.{are_writable, writable_of_meant}
use Rattle.wesl_cond_features.specs.declared.chain.Role.{Role}
use Rattle.wesl_cond_features.specs.declared.chain.Role.TheVariants.{Plain, If, Elif, Else}
use Rattle.wesl_cond_features.specs.Features.{Replies, known}
use Rattle.wesl_cond_chains.specs.Formulas.{Spot, written}
use Rattle.wesl_cond_chains.specs.FormulaFaults.{formula_faults}
use Rattle.wesl_cond_chains.specs.FormulaResidual.{residual}
use Rattle.wesl_cond_chains.specs.Chains.{Condition, none, on, else_on, otherwise, recast_condition}
use Rattle.wesl_cond_chains.specs.Conditions.{first_spot, condition_at, attribute_of, replaced, recast}
use Rattle.wesl_cond_chains.specs.Faults.{and_rest, condition_faults, conditions}
use Rattle.wesl_cond_chains.proofs.Faultless.{none_before, none_after}
use Rattle.wesl_text_left.specs.Laws.{LeftAttributes}
use Rattle.wesl_text_left.proofs.Plain.{are_plain, plain_joined, plain_meant}
use Rattle.wesl_text_left.proofs.Fine.{Fine, IsNowhere, IsPlain, expression, spanned, spanned_is, fine_plain, left_fine}
use Rattle.wesl_text_left.proofs.Read.{Operand, operand, read_fine, both_there, behind_sign}

abbrev node : Label
node = at attribute_node 0 0

-- an attribute that can be printed, whose tokens are plain
abbrev pub IsMark : Label → Forest → Type 0
IsMark l c = (ss : List Slot) × (first_slots l c (spells c) an_attribute ≡ Some ss) × (are_plain ss ≡ true)

-- a condition with a formula
abbrev mark_slots : Text → Slots → Slots
mark_slots w a = followed (followed (Some (signed is.At ∷ [])) (followed (Some (named w ∷ [])) (followed (Some (signed is.ParenLeft ∷ [])) (followed a (Some (may (symbol is.Comma) ∷ signed is.ParenRight ∷ [])))))) (Some [])

mark_plain : (w : Text) (a : Slots) (ss : List Slot) → a ≡ Some ss → are_plain ss ≡ true → (us : List Slot) × (mark_slots w a ≡ Some us) × (are_plain us ≡ true)
mark_plain w a ss e h = (
  (signed is.At ∷ named w ∷ signed is.ParenLeft ∷ (ss ++ (may (symbol is.Comma) ∷ signed is.ParenRight ∷ []))) ++ [],
  ap (mark_slots w) e,
  plain_joined (signed is.At ∷ named w ∷ signed is.ParenLeft ∷ (ss ++ (may (symbol is.Comma) ∷ signed is.ParenRight ∷ []))) [] (plain_joined ss (may (symbol is.Comma) ∷ signed is.ParenRight ∷ []) h refl) refl,
)

-- each condition with a formula that can be printed is one
abbrev IsFineCondition : Condition Text → Type 0
IsFineCondition none = Unit {0}
IsFineCondition (on x) = IsNowhere x.span × Fine x.form
IsFineCondition (else_on x) = IsNowhere x.span × Fine x.form
IsFineCondition otherwise = Unit {0}

if_mark : (x : Spot Text) → IsNowhere x.span → Fine x.form → IsMark node (attribute_of (on x))
if_mark x n h = let y : IsPlain (expression x.form) = fine_plain x.form h in mark_plain (codes "if") (spanned x.span (written x.form)) y.0 (spanned_is x.span (written x.form) y.0 n y.1) y.2

elif_mark : (x : Spot Text) → IsNowhere x.span → Fine x.form → IsMark node (attribute_of (else_on x))
elif_mark x n h = let y : IsPlain (expression x.form) = fine_plain x.form h in mark_plain (codes "elif") (spanned x.span (written x.form)) y.0 (spanned_is x.span (written x.form) y.0 n y.1) y.2

else_mark : IsMark node (attribute_of otherwise)
else_mark = (signed is.At ∷ named (codes "else") ∷ [], refl, refl)

-- ---- an attribute in a role: as it was, gone, or another

abbrev pub IsMarked : Label → Forest → Forest → Forest → Type 0
IsMarked l c rest f = (f ≡ tree l c rest) ⊎ (f ≡ rest) ⊎ ((d : Forest) × (f ≡ tree l d rest) × IsMark l d)

module _ (reply : Replies Text) (role : Role) (rest : Forest) where
  -- one that was a condition
  recast_mark : (c : Forest) (x : Condition Text) → (x ≡ none → ⊥) → IsFineCondition x → IsMarked node c rest (replaced node c x (recast_condition (known reply) role x) rest)
  recast_mark c none n h = absurd (n refl)
  recast_mark c (on x) n h = by role where
    left : Fine (residual (known reply) x.form)
    left = (left_fine (known reply) x.form h.1).0

    by : (r : Role) → IsMarked node c rest (replaced node c (on x) (recast_condition (known reply) r (on x)) rest)
    by Plain = inr (inl refl)
    by If = inr (inr (attribute_of (on (record { span = x.span; form = residual (known reply) x.form })), refl, if_mark (record { span = x.span; form = residual (known reply) x.form }) h.0 left))
    by Elif = inr (inr (attribute_of (else_on (record { span = x.span; form = residual (known reply) x.form })), refl, elif_mark (record { span = x.span; form = residual (known reply) x.form }) h.0 left))
    by Else = inr (inr (attribute_of otherwise, refl, else_mark))
  recast_mark c (else_on x) n h = by role where
    left : Fine (residual (known reply) x.form)
    left = (left_fine (known reply) x.form h.1).0

    by : (r : Role) → IsMarked node c rest (replaced node c (else_on x) (recast_condition (known reply) r (else_on x)) rest)
    by Plain = inr (inl refl)
    by If = inr (inr (attribute_of (on (record { span = x.span; form = residual (known reply) x.form })), refl, if_mark (record { span = x.span; form = residual (known reply) x.form }) h.0 left))
    by Elif = inr (inr (attribute_of (else_on (record { span = x.span; form = residual (known reply) x.form })), refl, elif_mark (record { span = x.span; form = residual (known reply) x.form }) h.0 left))
    by Else = inr (inr (attribute_of otherwise, refl, else_mark))
  recast_mark c otherwise n h = by role where
    by : (r : Role) → IsMarked node c rest (replaced node c otherwise (recast_condition (known reply) r otherwise) rest)
    by Plain = inr (inl refl)
    by If = inr (inr (attribute_of otherwise, refl, else_mark))
    by Elif = inr (inr (attribute_of otherwise, refl, else_mark))
    by Else = inr (inr (attribute_of otherwise, refl, else_mark))

-- ---- what a condition that can be printed is

behind_word : (w : Text) (c : Forest) (row : Row) → is_some ((spells c).row (says w row)) ≡ true → is_some ((spells c).row row) ≡ true
behind_word w end row h = (both_there (Some (named w ∷ [])) ((spells end).row row) h).1
behind_word w (tree l c o) row h = (both_there (Some (named w ∷ [])) ((spells (tree l c o)).row row) h).1

-- the operand of one
abbrev behind_operand : Row
behind_operand = may_sym is.Comma (sym is.ParenRight nothing)

no_more_behind : (o : Forest) → is_some ((spells o).row behind_operand) ≡ true → o ≡ end
no_more_behind end h = refl
no_more_behind (tree l c o) h = absurd (no_true h)

module _ (reply : Replies Text) where
  first_fine : (c : Forest) → is_some ((spells c).row (own an_expression behind_operand)) ≡ true → formula_faults reply (first_spot c).form ≡ [] → IsNowhere (first_spot c).span × Fine (first_spot c).form
  first_fine c h e = by (operand c behind_operand h) where
    by : Operand c behind_operand → IsNowhere (first_spot c).span × Fine (first_spot c).form
    by x =
        let q : c ≡ tree (at expression_node 0 0) (tree x.label x.children end) end = x.is ∙ ap (λ z. tree (at expression_node 0 0) (tree x.label x.children end) z) (no_more_behind x.others x.later) in
        subst (λ z. IsNowhere (first_spot z).span × Fine (first_spot z).form) (turned q)
        ((refl, refl), read_fine reply x.label x.children x.there (subst (λ z. formula_faults reply (first_spot z).form ≡ []) q e))

  -- the attribute in its node
  bare_there : (l : Label) (c : Forest) → is_some (first_slots l c (spells c) an_attribute) ≡ true → (l ≡ node) × (is_some ((spells c).row (own a_bare_attribute nothing)) ≡ true)
  bare_there (at k zero zero) c h = by k h where
    by : (k : Kind) → is_some (first_slots (at k 0 0) c (spells c) an_attribute) ≡ true → (at k 0 0 ≡ node) × (is_some ((spells c).row (own a_bare_attribute nothing)) ≡ true)
    by attribute_node h = (refl, h)
    by k h = absurd (no_true h)
  bare_there (kind k) c h = absurd (no_true h)
  bare_there (at k zero (suc f)) c h = absurd (no_true h)
  bare_there (at k (suc s) f) c h = absurd (no_true h)
  bare_there l c h = absurd (no_true h)

  -- below `@if(` or `@elif(`
  abbrev condition_row : Text → Row
  condition_row w = sym is.At (says w (sym is.ParenLeft (own an_expression behind_operand)))

  below_word : (w : Text) (c : Forest) → is_some ((spells c).row (condition_row w)) ≡ true → is_some ((spells c).row (own an_expression behind_operand)) ≡ true
  below_word w c h = behind_sign is.ParenLeft c (own an_expression behind_operand) (behind_word w c (sym is.ParenLeft (own an_expression behind_operand)) (behind_sign is.At c (says w (sym is.ParenLeft (own an_expression behind_operand))) h))

  fine_mark : (c : Forest) → is_some ((spells c).row (own a_bare_attribute nothing)) ≡ true → condition_faults reply (condition_at c) ≡ [] → IsFineCondition (condition_at c)
  fine_mark (tree (kind if_attribute) c others) h e = first_fine c (below_word (codes "if") c (both_there (first_slots (kind if_attribute) c (spells c) a_bare_attribute) ((spells others).row nothing) h).0) e
  fine_mark (tree (kind elif_attribute) c others) h e = first_fine c (below_word (codes "elif") c (both_there (first_slots (kind elif_attribute) c (spells c) a_bare_attribute) ((spells others).row nothing) h).0) e
  fine_mark (tree (kind else_attribute) c others) h e = tt
  fine_mark c h e = tt

  -- an attribute that can be printed, and in which no fault stands
  pub marked : (role : Role) (l : Label) (c rest : Forest) → is_some (first_slots l c (spells c) an_attribute) ≡ true → condition_faults reply (condition_at c) ≡ []
      → IsMarked l c rest (replaced l c (condition_at c) (recast_condition (known reply) role (condition_at c)) rest)
  marked role l c rest h e =
      let x : (l ≡ node) × (is_some ((spells c).row (own a_bare_attribute nothing)) ≡ true) = bare_there l c h in
      subst (λ z. IsMarked z c rest (replaced z c (condition_at c) (recast_condition (known reply) role (condition_at c)) rest)) (turned x.0) (by (condition_at c) (fine_mark c x.1 e)) where
        by : (x : Condition Text) → IsFineCondition x → IsMarked node c rest (replaced node c x (recast_condition (known reply) role x) rest)
        by none h = inl refl
        by (on x) h = recast_mark reply role rest c (on x) (λ e. cc) h
        by (else_on x) h = recast_mark reply role rest c (else_on x) (λ e. cc) h
        by otherwise h = recast_mark reply role rest c otherwise (λ e. cc) h

  -- the first condition, and the others
  pub first_faultless : (x : Condition Text) (cs : List (Condition Text)) → flat_map (condition_faults reply) (and_rest x cs) ≡ [] → (condition_faults reply x ≡ []) × (flat_map (condition_faults reply) cs ≡ [])
  first_faultless none cs e = (refl, e)
  first_faultless (on x) cs e = (none_before (condition_faults reply (on x)) (flat_map (condition_faults reply) cs) e, none_after (condition_faults reply (on x)) (flat_map (condition_faults reply) cs) e)
  first_faultless (else_on x) cs e = (none_before (condition_faults reply (else_on x)) (flat_map (condition_faults reply) cs) e, none_after (condition_faults reply (else_on x)) (flat_map (condition_faults reply) cs) e)
  first_faultless otherwise cs e = (refl, e)

pub there_writable : (a : Slots) → are_writable a ≡ true → is_some a ≡ true
there_writable None h = absurd (no_true h)
there_writable (Some ss) h = refl

pub left_attributes : LeftAttributes
left_attributes reply role end h e = tt
left_attributes reply role (tree l c o) h e =
    let x : (condition_faults reply (condition_at c) ≡ []) × (flat_map (condition_faults reply) (conditions o) ≡ []) = first_faultless reply (condition_at c) (conditions o) e in
    by (recast (known reply) role o) (left_attributes reply role o h.1 x.1) (marked reply role l c (recast (known reply) role o) (there_writable (first_slots l c (spells c) an_attribute) h.0) x.0) where
      by : (rest : Forest) → AreWritableAs an_attribute rest → {f : Forest} → IsMarked l c rest f → AreWritableAs an_attribute f
      by rest a (inl q) = subst (AreWritableAs an_attribute) (turned q) (h.0, a)
      by rest a (inr (inl q)) = subst (AreWritableAs an_attribute) (turned q) a
      by rest a (inr (inr x)) = subst (AreWritableAs an_attribute) (turned x.1) (ap are_writable x.2.1 ∙ writable_of_meant x.2.0 (plain_meant x.2.0 x.2.2), a)
