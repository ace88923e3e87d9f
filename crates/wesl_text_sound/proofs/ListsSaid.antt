-- What is read as trees side by side is said: one behind the other, or with commas between.
use Rattle.std.proofs.Common.{◌≡◌, ◌⊎◌, ℕ, zero, suc, ◌<◌, Bool, true, false, ◌==◌, if◌then◌else◌, List, [], ◌∷◌, length, Some, None, option_map, refl, sym as turned, inl, inr, ap, ◌∙◌, subst, lt_of_lt_of_le, lt_of_le_of_lt, le_of_lt, lt-suc_self, lt_irrefl, append_assoc}
use Rattle.std.proofs.lemmas.Bool.Decides.{Decides-eqb}
use Rattle.wesl_tree_names.specs.Path.{Text}
use Rattle.wesl_tree_syntax.specs.Kinds.{same_kind, kind_number}
use Rattle.wesl_tree_syntax.specs.Tree.{Kind, end, tree, TreeOf, before}
use Rattle.wesl_text_tokens.specs.declared.symbol.Symbol.TheVariants as is
use Rattle.wesl_text_tokens.specs.Tokens.{Token, symbol}
use Rattle.wesl_text_form.specs.Slots.{may, behind_if_there, comes_first, left}
use Rattle.wesl_text_form.specs.Productions.{Sort, a_statement, Row}
use Rattle.wesl_text_form.specs.Spelling.{Forest, Slots, spells, followed, signed, trailing, first_slots, without_last, is_end}
use Rattle.wesl_text_reading.specs.Leaves.{Read, after}
use Rattle.wesl_text_reading.specs.FirstTokens.{begins_sign, behind_first}
use Rattle.wesl_text_reading.specs.Reading.{Reader, and_others, all_of, separate_of}
use Rattle.wesl_text_sound.specs.Laws.{AreTokens}
use Rattle.wesl_text_reading.proofs.Filled.{no_some, of_some, no_true, fill, both, same_is, behind_there_le}
use Rattle.wesl_text_reading.proofs.Takes.{first_lt_of}
use Rattle.wesl_text_sound.proofs.TakenApart.{with_rest, after_some, others_some, fill_keeps}

-- ---- what is said of nodes

-- what was read as a node of a sort is said there
abbrev pub NodeSaid : Sort → List Token → TreeOf Text × List Token → Type 0
NodeSaid s ts x = fill (first_slots x.0.label x.0.children (spells x.0.children) s) ts ≡ Some x.1

-- what a reader reads is said
abbrev pub IsSound : Reader → Sort → Type 0
IsSound r s = (ts : List Token) (x : TreeOf Text × List Token) → AreTokens ts → r ts ≡ Some x → NodeSaid s ts x

-- the same without the last token
abbrev pub IsSoundPart : Reader → Type 0
IsSoundPart r = (ts : List Token) (x : TreeOf Text × List Token) → AreTokens ts → r ts ≡ Some x → fill (option_map without_last (first_slots x.0.label x.0.children (spells x.0.children) a_statement)) ts ≡ Some x.1

-- what was read by a row is said by it
abbrev pub RowSaid : Row → List Token → Forest × List Token → Type 0
RowSaid r ts y = fill ((spells y.0).row r) ts ≡ Some y.1

pub kind_self : (k : Kind) → same_kind k k ≡ true
kind_self k = same_number (kind_number k) where
  same_number : (n : ℕ) → (n == n) ≡ true
  same_number n = (Decides-eqb n n).1 refl

-- ---- nodes side by side

-- trees behind one another
pub all_said : (s : Sort) (begins : List Token → Bool) (r : Reader) → IsSound r s → (k : ℕ) (ts : List Token) (y : Forest × List Token) → AreTokens ts → all_of begins r k ts ≡ Some y → fill ((spells y.0).all s) ts ≡ Some y.1
all_said s begins r sound zero ts y a h = by (begins ts) h where
  by : (z : Bool) → (if z then None else Some (end, ts)) ≡ Some y → fill ((spells y.0).all s) ts ≡ Some y.1
  by true g = absurd (no_some y g)
  by false g = subst (λ w. fill ((spells w.0).all s) ts ≡ Some w.1) (of_some (with_rest end ts) y g) refl
all_said s begins r sound (suc k) ts y a h = by (λ us z b g. all_said s begins r sound k us z b g) (begins ts) h where
  by : ((us : List Token) (z : Forest × List Token) → AreTokens us → all_of begins r k us ≡ Some z → fill ((spells z.0).all s) us ≡ Some z.1) → (z : Bool) → elim z as (λ _. Read Forest) [ false ↦ Some (end, ts) | true ↦ after (r ts) (λ t us. and_others t (all_of begins r k us)) ] ≡ Some y → fill ((spells y.0).all s) ts ≡ Some y.1
  by later false g = subst (λ w. fill ((spells w.0).all s) ts ≡ Some w.1) (of_some (with_rest end ts) y g) refl
  by later true g =
      let x : (x : TreeOf Text × List Token) × (r ts ≡ Some x) × (and_others x.0 (all_of begins r k x.1) ≡ Some y) = after_some (r ts) (λ t us. and_others t (all_of begins r k us)) y g in
      let z : (z : Forest × List Token) × (all_of begins r k x.0.1 ≡ Some z) × (with_rest (before x.0.0 z.0) z.1 ≡ y) = others_some x.0.0 (all_of begins r k x.0.1) y x.2 in
      let f : NodeSaid s ts x.0 = sound ts x.0 a x.1 in
      let n : Slots = first_slots x.0.0.label x.0.0.children (spells x.0.0.children) s in
      subst (λ w. fill ((spells w.0).all s) ts ≡ Some w.1) z.2 (both n ((spells z.0.0).all s) ts x.0.1 z.0.1 f (later x.0.1 z.0 (fill_keeps n ts x.0.1 a f) z.1))

-- slots that take a token, and a comma that may stand behind them
and_comma : (a : Slots) (ts us : List Token) → fill a ts ≡ Some us → length us < length ts → fill (option_map trailing a) ts ≡ Some (behind_if_there (symbol is.Comma) us)
and_comma None ts us h g = absurd (no_some us h)
and_comma (Some []) ts us h g = absurd (lt_irrefl (length us) (subst (λ z. length us < length z) (of_some ts us h) g))
and_comma (Some (s ∷ ss)) ts us h g = both (Some (s ∷ ss)) (Some (may (symbol is.Comma) ∷ [])) ts us (behind_if_there (symbol is.Comma) us) h refl

-- the same with a comma and others behind
comma_and : (a b : Slots) (ts vs us : List Token) → fill a ts ≡ Some (symbol is.Comma ∷ vs) → length (symbol is.Comma ∷ vs) < length ts → fill (option_map trailing b) vs ≡ Some us → length us < length vs
    → fill (option_map trailing (followed a (option_map (λ ss. signed is.Comma ∷ ss) b))) ts ≡ Some us
comma_and None b ts vs us h l g m = absurd (no_some (symbol is.Comma ∷ vs) h)
comma_and (Some []) b ts vs us h l g m = absurd (lt_irrefl (length (symbol is.Comma ∷ vs)) (subst (λ z. length (symbol is.Comma ∷ vs) < length z) (of_some ts (symbol is.Comma ∷ vs) h) l))
comma_and (Some (s ∷ ss)) None ts vs us h l g m = absurd (no_some us g)
comma_and (Some (s ∷ ss)) (Some []) ts vs us h l g m = absurd (lt_irrefl (length us) (subst (λ z. length us < length z) (of_some vs us g) m))
comma_and (Some (s ∷ ss)) (Some (p ∷ ps)) ts vs us h l g m =
    ap (λ z. left z ts) (append_assoc (s ∷ ss) (signed is.Comma ∷ p ∷ ps) (may (symbol is.Comma) ∷ []))
    ∙ both (Some (s ∷ ss)) (Some (signed is.Comma ∷ trailing (p ∷ ps))) ts (symbol is.Comma ∷ vs) us h g

-- trees with commas between, which take a token where there are any
abbrev pub ListSaid : Sort → List Token → Forest × List Token → Type 0
ListSaid s ts y = (fill (option_map trailing ((spells y.0).separate s)) ts ≡ Some y.1) × ((y.0 ≡ end) ⊎ (length y.1 < length ts))

-- what a token that comes first, or not, leaves
no_first : (t : Token) (us : List Token) → comes_first t us ≡ false → behind_if_there t us ≡ us
no_first t [] h = refl
no_first t (u ∷ us) h = ap (λ b. if b then us else u ∷ us) h

pub is_first : (t : Token) (us : List Token) → comes_first t us ≡ true → us ≡ t ∷ behind_first us
is_first t [] h = absurd (no_true h)
is_first t (u ∷ us) h = ap (λ z. z ∷ us) (turned (same_is t u h))

module _ (s : Sort) (ts : List Token) (x : TreeOf Text × List Token) (f : NodeSaid s ts x) where
  abbrev slots_here : Slots
  slots_here = first_slots x.0.label x.0.children (spells x.0.children) s

  less : length x.1 < length ts
  less = first_lt_of x.0.label x.0.children s ts x.1 f

  -- one, and a comma or none behind it
  one_said : ListSaid s ts (with_rest (before x.0 end) (behind_if_there (symbol is.Comma) x.1))
  one_said = (and_comma slots_here ts x.1 f less, inr (lt_of_le_of_lt (behind_there_le (symbol is.Comma) x.1) less))

  -- one, a comma, and what is behind
  more_said : (vs : List Token) (g : Forest) (us : List Token) → x.1 ≡ symbol is.Comma ∷ vs → ListSaid s vs (with_rest g us) → ListSaid s ts (with_rest (before x.0 g) us)
  more_said vs end us q h = subst (λ z. ListSaid s ts (with_rest (before x.0 end) z)) (ap (λ z. behind_if_there (symbol is.Comma) z) q ∙ of_some vs us h.0) one_said
  more_said vs (tree m d o) us q h = by h.1 where
    by : (tree m d o ≡ end) ⊎ (length us < length vs) → ListSaid s ts (with_rest (before x.0 (tree m d o)) us)
    by (inl e) = absurd (no_true (ap is_end e))
    by (inr k) =
        let here : fill slots_here ts ≡ Some (symbol is.Comma ∷ vs) = f ∙ ap (λ z. Some z) q in
        let fewer : length (symbol is.Comma ∷ vs) < length ts = subst (λ z. length z < length ts) q less in
        (comma_and slots_here ((spells (tree m d o)).separate s) ts vs us here fewer h.0 k, inr (lt_of_lt_of_le k (le_of_lt (lt_of_lt_of_le (lt-suc_self (length vs)) (le_of_lt fewer)))))

pub separate_said : (s : Sort) (begins : List Token → Bool) (r : Reader) → IsSound r s → (k : ℕ) (ts : List Token) (y : Forest × List Token) → AreTokens ts → separate_of begins r k ts ≡ Some y → ListSaid s ts y
separate_said s begins r sound zero ts y a h = by (begins ts) h where
  by : (z : Bool) → (if z then None else Some (end, ts)) ≡ Some y → ListSaid s ts y
  by true g = absurd (no_some y g)
  by false g = subst (λ w. ListSaid s ts w) (of_some (with_rest end ts) y g) (refl, inl refl)
separate_said s begins r sound (suc k) ts y a h = by (λ us z b g. separate_said s begins r sound k us z b g) (begins ts) h where
  tail_of : List Token → Bool → Read Forest
  tail_of us z = elim z as (λ _. Read Forest) [ false ↦ Some (end, us) | true ↦ separate_of begins r k (behind_first us) ]

  Later : Type 0
  Later = (us : List Token) (z : Forest × List Token) → AreTokens us → separate_of begins r k us ≡ Some z → ListSaid s us z

  go_on : Later → (x : TreeOf Text × List Token) → NodeSaid s ts x → AreTokens x.1 → (z : Forest × List Token) (b : Bool) → begins_sign is.Comma x.1 ≡ b → tail_of x.1 b ≡ Some z → ListSaid s ts (with_rest (before x.0 z.0) z.1)
  go_on later x f t z false e g = subst (λ w. ListSaid s ts (with_rest (before x.0 w.0) w.1)) (ap (λ w. with_rest end w) (no_first (symbol is.Comma) x.1 e) ∙ of_some (with_rest end x.1) z g) (one_said s ts x f)
  go_on later x f t z true e g =
      let q : x.1 ≡ symbol is.Comma ∷ behind_first x.1 = is_first (symbol is.Comma) x.1 e in
      let b : AreTokens (symbol is.Comma ∷ behind_first x.1) = subst AreTokens q t in
      more_said s ts x f (behind_first x.1) z.0 z.1 q (later (behind_first x.1) z b.1 g)

  by : Later → (z : Bool) → elim z as (λ _. Read Forest) [ false ↦ Some (end, ts) | true ↦ after (r ts) (λ t us. and_others t (tail_of us (begins_sign is.Comma us))) ] ≡ Some y → ListSaid s ts y
  by later false g = subst (λ w. ListSaid s ts w) (of_some (with_rest end ts) y g) (refl, inl refl)
  by later true g =
      let x : (x : TreeOf Text × List Token) × (r ts ≡ Some x) × (and_others x.0 (tail_of x.1 (begins_sign is.Comma x.1)) ≡ Some y) = after_some (r ts) (λ t us. and_others t (tail_of us (begins_sign is.Comma us))) y g in
      let z : (z : Forest × List Token) × (tail_of x.0.1 (begins_sign is.Comma x.0.1) ≡ Some z) × (with_rest (before x.0.0 z.0) z.1 ≡ y) = others_some x.0.0 (tail_of x.0.1 (begins_sign is.Comma x.0.1)) y x.2 in
      let f : NodeSaid s ts x.0 = sound ts x.0 a x.1 in
      subst (λ w. ListSaid s ts w) z.2 (go_on later x.0 f (fill_keeps (first_slots x.0.0.label x.0.0.children (spells x.0.0.children) s) ts x.0.1 a f) z.0 (begins_sign is.Comma x.0.1) refl z.1)
