-- What was read, taken apart: what each step read, and what was left behind it.
use Rattle.std.proofs.Common.{◌≡◌, Bool, true, false, ◌&&◌, if◌then◌else◌, List, [], ◌∷◌, Option, Some, None, option_and_then, refl, ap, ◌∙◌, subst, codes}
use Rattle.wesl_tree_syntax.specs.Tree.{TreeOf, before}
use Rattle.wesl_tree_names.specs.Path.{Text}
use Rattle.wesl_text_tokens.specs.declared.symbol.Symbol.TheVariants as is
use Rattle.wesl_text_tokens.specs.Tokens.{Token, name, symbol}
use Rattle.wesl_text_form.specs.Slots.{Slot, must, may, alone, same_token, behind_token, behind_if_there, behind_alone, behind_slot, comes_first, left}
use Rattle.wesl_text_form.specs.Productions.{Sort, Row, row_of}
use Rattle.wesl_text_form.specs.Spelling.{Label, Forest, Slots, spells, followed, first_slots, fits, stands_as}
use Rattle.wesl_text_reading.specs.Leaves.{Read, after, where_so}
use Rattle.wesl_text_reading.specs.Reading.{and_others}
use Rattle.wesl_text_sound.specs.Laws.{AreTokens}
use Rattle.wesl_text_reading.proofs.Filled.{no_some, of_some, fill, both}

-- what was read, and what is left
abbrev pub with_rest : {A : Type 0} → A → List Token → A × List Token
with_rest a ts = (a, ts)

pub after_some : {A B : Type 0} (r : Read A) (f : A → List Token → Read B) (y : B × List Token) → after r f ≡ Some y → (x : A × List Token) × (r ≡ Some x) × (f x.0 x.1 ≡ Some y)
after_some None f y h = absurd (no_some y h)
after_some (Some x) f y h = (x, refl, h)

pub others_some : (t : TreeOf Text) (r : Read Forest) (y : Forest × List Token) → and_others t r ≡ Some y → (x : Forest × List Token) × (r ≡ Some x) × (with_rest (before t x.0) x.1 ≡ y)
others_some t None y h = absurd (no_some y h)
others_some t (Some x) y h = (x, refl, of_some (with_rest (before t x.0) x.1) y h)

pub token_some : {B : Type 0} (o : Option (List Token)) (f : List Token → Read B) (y : B × List Token) → option_and_then f o ≡ Some y → (vs : List Token) × (o ≡ Some vs) × (f vs ≡ Some y)
token_some None f y h = absurd (no_some y h)
token_some (Some vs) f y h = (vs, refl, h)

pub where_some : {A : Type 0} (b : Bool) (a : A) (ts : List Token) (y : A × List Token) → where_so b a ts ≡ Some y → (b ≡ true) × (with_rest a ts ≡ y)
where_some true a ts y h = (refl, of_some (with_rest a ts) y h)
where_some false a ts y h = absurd (no_some y h)

-- ---- slots that are filled

pub fill_must : (t : Token) (b : Slots) (ts vs us : List Token) → behind_token t ts ≡ Some vs → fill b vs ≡ Some us → fill (followed (Some (must t ∷ [])) b) ts ≡ Some us
fill_must t b ts vs us h g = both (Some (must t ∷ [])) b ts vs us (ap (λ o. option_and_then (left []) o) h) g

pub fill_may : (t : Token) (b : Slots) (ts us : List Token) → fill b (behind_if_there t ts) ≡ Some us → fill (followed (Some (may t ∷ [])) b) ts ≡ Some us
fill_may t b ts us g = both (Some (may t ∷ [])) b ts (behind_if_there t ts) us refl g

-- a node whose children fill its row, and fit
pub node_fills : (s : Sort) (l : Label) (c : Forest) (r : Row) (ts us : List Token) → row_of s l ≡ Some r → (fits l c && stands_as s l c) ≡ true → fill ((spells c).row r) ts ≡ Some us → fill (first_slots l c (spells c) s) ts ≡ Some us
node_fills s l c r ts us e d h =
    ap (λ o. fill (option_and_then (λ r. if fits l c && stands_as s l c then (spells c).row r else None) o) ts) e
    ∙ (ap (λ b. fill (if b then (spells c).row r else None) ts) d ∙ h)

-- ---- what is left of the tokens of a text are tokens of one

pub may_rest : (t : Token) (ts : List Token) → AreTokens ts → AreTokens (behind_if_there t ts)
may_rest t [] a = a
may_rest t (u ∷ us) a = at (same_token t u) where
  at : (b : Bool) → AreTokens (if b then us else u ∷ us)
  at true = a.1
  at false = a

pub must_rest : (t : Token) (ts us : List Token) → AreTokens ts → behind_token t ts ≡ Some us → AreTokens us
must_rest t [] us a h = absurd (no_some us h)
must_rest t (u ∷ vs) us a h = at (same_token t u) h where
  at : (b : Bool) → (if b then Some vs else None) ≡ Some us → AreTokens us
  at true g = subst AreTokens (of_some vs us g) a.1
  at false g = absurd (no_some us g)

alone_keeps : (ts us : List Token) → AreTokens ts → behind_alone ts ≡ Some us → AreTokens us
alone_keeps [] us a h = absurd (no_some us h)
alone_keeps (t ∷ ts) us a h = at (same_token (name (codes "default")) t) h where
  later : (b : Bool) → (if b then Some (behind_if_there (symbol is.Comma) (behind_if_there (name (codes "default")) ts)) else None) ≡ Some us → AreTokens us
  later true g = subst AreTokens (of_some (behind_if_there (symbol is.Comma) (behind_if_there (name (codes "default")) ts)) us g) (may_rest (symbol is.Comma) (behind_if_there (name (codes "default")) ts) (may_rest (name (codes "default")) ts a.1))
  later false g = absurd (no_some us g)

  at : (b : Bool) → (if b then Some ts else if same_token (name (codes "case")) t && comes_first (name (codes "default")) ts then Some (behind_if_there (symbol is.Comma) (behind_if_there (name (codes "default")) ts)) else None) ≡ Some us → AreTokens us
  at true g = subst AreTokens (of_some ts us g) a.1
  at false g = later (same_token (name (codes "case")) t && comes_first (name (codes "default")) ts) g

slot_keeps : (s : Slot) (ts us : List Token) → AreTokens ts → behind_slot s ts ≡ Some us → AreTokens us
slot_keeps (must t) ts us a h = must_rest t ts us a h
slot_keeps (may t) ts us a h = subst AreTokens (of_some (behind_if_there t ts) us h) (may_rest t ts a)
slot_keeps alone ts us a h = alone_keeps ts us a h

left_keeps : (ss : List Slot) (ts us : List Token) → AreTokens ts → left ss ts ≡ Some us → AreTokens us
left_keeps [] ts us a h = subst AreTokens (of_some ts us h) a
left_keeps (s ∷ ss) ts us a h = at (behind_slot s ts) refl h (λ vs b g. left_keeps ss vs us b g) where
  at : (o : Option (List Token)) → behind_slot s ts ≡ o → option_and_then (left ss) o ≡ Some us → ((vs : List Token) → AreTokens vs → left ss vs ≡ Some us → AreTokens us) → AreTokens us
  at None e g k = absurd (no_some us g)
  at (Some vs) e g k = k vs (slot_keeps s ts vs a e) g

pub fill_keeps : (o : Slots) (ts us : List Token) → AreTokens ts → fill o ts ≡ Some us → AreTokens us
fill_keeps None ts us a h = absurd (no_some us h)
fill_keeps (Some ss) ts us a h = left_keeps ss ts us a h
