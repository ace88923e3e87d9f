-- Each number that was read has a name.
use Rattle.std.proofs.Common.{◌≡◌, ◌≤◌, ◌-◌, ◌+◌, ℕ, List, [], ◌∷◌, ◌++◌, length, Bool, true, false, ◌&&◌, nat_lt, Option, Some, None, refl, sym, ap, ◌∙◌, arith}
use Rattle.std.proofs.lemmas.Bool.{ltb-false}
use Rattle.std.proofs.lemmas.List.{get_or-append_right, get_or-replicate, get_or_past}
use Rattle.std.proofs.Math.ListN.{replicate}
use Rattle.std.specs.Option.{option_and_then}
use Rattle.std.specs.Prelude.{IfOk, IfSome, Result}
use Rattle.std.proofs.lemmas.Result.{IfOk-weaker}
use Rattle.wesl_tree.specs.Translation.{unit_view}
use Rattle.wesl_tree.specs.declared.unit.TranslationUnit.{TranslationUnit}
use Rattle.wesl_tree_names.specs.Path.{Text}
use Rattle.wesl_tree_syntax.specs.Tree.{Forest, ForestOf, Label, LabelOf, Role, Tree, before, end, forest_below, ident, kind, label_below, respell, respell_forest, respell_label, tree, void}
use Rattle.wesl_tree_syntax.specs.Unit.{UnitOf, UnitView, name_in, spelled, unit_below}
use Rattle.wesl_text_tokens.specs.Tokens.{Token}
use Rattle.wesl_text_form.specs.Spelling.{Forest as SpelledForest, unit_row}
use Rattle.wesl_text_reading.specs.Reading.{reading_of_unit, unit_of}
use Rattle.wesl_text_read.specs.declared.reader.Fault.{Fault}
use Rattle.wesl_text_read.specs.declared.reader.Reader.{Reader}
use Rattle.wesl_text_read.specs.Leads.{Leads, ahead, is_memory, names_of}
use Rattle.wesl_text_read.proofs.Leading.{begins_itself}
use Rattle.wesl_text_read_unit.specs.Wholes.{whole_at}
use Rattle.wesl_text_read_unit.proofs.Wholes.{unit-whole}

-- ---- A tree whose spelling stays the same, whatever names the table ends with, has only numbers of the table.

-- a name that no table gives where it has none, so many times that it reaches a number
abbrev further : ℕ → List Text
further i = replicate (i + 1) (0 ∷ [])

beyond : (xs : List Text) (i : ℕ) → length xs ≤ i → name_in (xs ++ further i) i ≡ 0 ∷ []
beyond xs i h =
    get_or-append_right xs (further i) (length xs) i [] refl h
    ∙ get_or-replicate (i + 1) (i - length xs) (0 ∷ []) [] (omega arith)

name_of : LabelOf Text → Text
name_of (ident r t) = t
name_of l = []

ident-below : (xs : List Text) (r : Role) (i : ℕ) (b : Bool) → nat_lt i (length xs) ≡ b → ((later : List Text) → ◌≡◌ {A = LabelOf Text} (ident r (name_in (xs ++ later) i)) (ident r (name_in xs i))) → b ≡ true
unfolding name_of
ident-below xs r i true h same = refl
ident-below xs r i false h same =
    let past : length xs ≤ i = ltb-false i (length xs) h in
    let one : ◌≡◌ {A = List ℕ} (0 ∷ []) [] = sym (beyond xs i past) ∙ (ap name_of (same (further i)) ∙ get_or_past xs i [] past) in
    cc

label-below : (xs : List Text) (l : Label) → ((later : List Text) → respell_label (name_in (xs ++ later)) l ≡ respell_label (name_in xs) l) → label_below (length xs) l ≡ true
label-below xs (ident r i) same = ident-below xs r i (nat_lt i (length xs)) refl same
label-below xs l same = refl

label_of : ForestOf Text → LabelOf Text
label_of end = kind void
label_of (tree l children others) = l

children_of : ForestOf Text → ForestOf Text
children_of end = end
children_of (tree l children others) = children

others_of : ForestOf Text → ForestOf Text
others_of end = end
others_of (tree l children others) = others

stays-below : (xs : List Text) (f : Forest) → ((later : List Text) → respell_forest (name_in (xs ++ later)) f ≡ respell_forest (name_in xs) f) → forest_below (length xs) f ≡ true
unfolding label_of children_of others_of
stays-below xs end same = refl
stays-below xs (tree l children others) same =
    rw (label-below xs l (λ later. ap label_of (same later)), stays-below xs children (λ later. ap children_of (same later)), stays-below xs others (λ later. ap others_of (same later))) refl

-- ---- units

parts-by : (a b c d e f : Bool) → (a && b && (c && d && (e && f && true))) ≡ true → ((a && b) && (c && d) && (e && f)) ≡ true
parts-by true true true true true true h = refl
parts-by a b c d e f h = cc

module _ {s e : Reader} (i d g : Tree)
    (p : Leads (λ _. whole_at s.levels unit_row (ahead s)) (λ ns. Some (before (respell (name_in ns) i) (before (respell (name_in ns) d) (before (respell (name_in ns) g) end)))) s e) where
  abbrev parts : UnitView
  parts = record { names = names_of e; imports = i; directives = d; declarations = g }

  abbrev spelled_by : List Text → SpelledForest
  spelled_by ns = respell_forest (name_in ns) (before i (before d (before g end)))

  all-stay : e.fault ≡ None → (later : List Text) → spelled_by (names_of e ++ later) ≡ spelled_by (names_of e)
  all-stay clear later =
      ap (λ (o : Option SpelledForest). elim o as (λ _. SpelledForest) [ None ↦ end | Some f ↦ f ])
      (sym (p.read clear (names_of e ++ later) (later, refl)) ∙ p.read clear (names_of e) (begins_itself (names_of e)))

  pub unit-below : e.fault ≡ None → unit_below parts ≡ true
  unit-below clear =
      parts-by (label_below (length (names_of e)) i.label) (forest_below (length (names_of e)) i.children)
      (label_below (length (names_of e)) d.label) (forest_below (length (names_of e)) d.children)
      (label_below (length (names_of e)) g.label) (forest_below (length (names_of e)) g.children)
      (stays-below (names_of e) (before i (before d (before g end))) (all-stay clear))

  pub unit-read : e.fault ≡ None → reading_of_unit s.levels (ahead s) ≡ Some (spelled parts)
  unit-read clear =
      unit-whole s.levels (ahead s)
      ∙ ap (λ (o : Option SpelledForest). option_and_then unit_of o) (p.read clear (names_of e) (begins_itself (names_of e)))

  none-by : (o : Option Fault) (f : Fault) → o ≡ Some f → IfSome o (λ x. is_memory x ≡ false → (ns : List Text) → (later : List Text) × (ns ≡ names_of e ++ later) → whole_at s.levels unit_row (ahead s) ≡ None) → is_memory f ≡ false → whole_at s.levels unit_row (ahead s) ≡ None
  none-by None f h told plain = cc
  none-by (Some x) f h told plain = let same : x ≡ f = cc in told (ap is_memory same ∙ plain) (names_of e) (begins_itself (names_of e))

  pub unit-none : (f : Fault) → s.fault ≡ None → e.fault ≡ Some f → is_memory f ≡ false → reading_of_unit s.levels (ahead s) ≡ None
  unit-none f clear noted plain =
      unit-whole s.levels (ahead s)
      ∙ ap (λ (o : Option SpelledForest). option_and_then unit_of o) (none-by e.fault f noted (p.refused clear) plain)

pub read-same : {ts us : List Token} {o : Option (UnitOf Text)} (n m : ℕ) → n ≡ m → ts ≡ us → reading_of_unit n ts ≡ o → reading_of_unit m us ≡ o
read-same {ts} {us} {o} n m levels tokens read = sym (ap (λ l. reading_of_unit l us) levels) ∙ (sym (ap (reading_of_unit n) tokens) ∙ read)

-- the unit that is made of the parts is the one that is read
pub made_unit : {E : Type 0} (n : ℕ) (us : List Token) (v : UnitView) (r : Result TranslationUnit E) → IfOk r (λ u. unit_view u ≡ v) → reading_of_unit n us ≡ Some (spelled v) → IfOk r (λ u. reading_of_unit n us ≡ Some (spelled (unit_view u)))
made_unit {E} n us v r made read = IfOk-weaker r (λ u. unit_view u ≡ v) (λ u. reading_of_unit n us ≡ Some (spelled (unit_view u))) (λ u same. read ∙ sym (ap (λ w. Some (spelled w)) same)) made
