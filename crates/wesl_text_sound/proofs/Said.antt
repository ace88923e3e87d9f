-- What is read is said: of each sort, and of units.
use Rattle.std.proofs.Common.{◌≡◌, ℕ, zero, suc, Bool, true, false, ◌==◌, List, [], ◌∷◌, Some, None, refl, sym as turned, ap, ◌∙◌}
use Rattle.wesl_tree_names.specs.Path.{Text}
use Rattle.wesl_tree_syntax.specs.Tree.{end, tree, TreeOf}
use Rattle.wesl_tree_syntax.specs.Unit.{UnitOf, forest_of_unit}
use Rattle.wesl_text_tokens.specs.Tokens.{Token}
use Rattle.wesl_text_form.specs.Slots.{Slot, left}
use Rattle.wesl_text_form.specs.Productions.{Sort, an_expression}
use Rattle.wesl_text_form.specs.Spelling.{Forest, Slots, slots, slots_as, spells, unit_row}
use Rattle.wesl_text_form.specs.Says.{Says}
use Rattle.wesl_text_reading.specs.Leaves.{Read}
use Rattle.wesl_text_reading.specs.Reading.{Reader, read_row, read_part, node, any, whole, rank, ranked, at_level, reading, unit_of, where_all_is_read}
use Rattle.wesl_text_sound.specs.Laws.{TreesAreSaid, UnitsAreSaid, TextsAreSaid}
use Rattle.wesl_text_reading.proofs.Filled.{no_some, of_some, no_true, fill}
use Rattle.wesl_text_reading.proofs.Within.{within_read}
use Rattle.wesl_text_sound.proofs.ListsSaid.{NodeSaid, IsSound, RowSaid}
use Rattle.wesl_text_sound.proofs.RowsSaid.{row_said}
use Rattle.wesl_text_sound.proofs.NodesSaid.{node_said, part_said}
use Rattle.wesl_text_sound.proofs.TokensAre.{tokens_of_texts}
use Rattle.wesl_text_sound.proofs.ExpressionsSaid.{IsSoundOf, whole_said}

-- ---- all sorts

ranked_said : (lower : Sort → Reader) → ((s : Sort) → IsSound (lower s) s) → (k : ℕ) (s : Sort) → IsSound (ranked lower k s) s
ranked_said lower below zero s ts x a h = below s ts x a h
ranked_said lower below (suc k) s ts x a h = by (λ q us y b g. ranked_said lower below k q us y b g) (rank s == suc k) h where
  by : ((q : Sort) → IsSound (ranked lower k q) q) → (z : Bool) → elim z as (λ _. Read (TreeOf Text)) [ true ↦ node (ranked lower k) s ts | false ↦ ranked lower k s ts ] ≡ Some x → NodeSaid s ts x
  by nodes true g = node_said (ranked lower k) nodes s ts x a g
  by nodes false g = nodes s ts x a g

-- all nodes at a number of levels, and expressions whose class passes a test
abbrev SoundAt : ℕ → Type 0
SoundAt n = ((s : Sort) → IsSound (at_level n any s) s) × IsSoundOf (λ q ts. at_level n q an_expression ts)

none_read : SoundAt 0
none_read = ((λ s ts x a h. absurd (no_some x h)), (λ q passes ts x a h. absurd (no_some x h)))

one_above : (n : ℕ) → SoundAt n → SoundAt (suc n)
one_above n p = ((λ s ts x a h. of_sort s ts x a h), (λ q passes ts x a h. expressions q passes ts x a h)) where
  expressions : IsSoundOf (λ q ts. at_level (suc n) q an_expression ts)
  expressions q passes ts x a h =
      whole_said (ranked (at_level n any) 6) (λ q us. at_level n q an_expression us) (ranked_said (at_level n any) p.0 6) p.1 q passes n ts x a
      (within_read (suc n) (whole (ranked (at_level n any) 6) (λ q us. at_level n q an_expression us) q n ts) x h)

  of_sort : (s : Sort) → IsSound (at_level (suc n) any s) s
  of_sort an_expression ts x a h = (expressions any (λ c k. refl) ts x a h).0
  of_sort s ts x a h = ranked_said (at_level n any) p.0 7 s ts x a h

sound_at : (n : ℕ) → SoundAt n
sound_at zero = none_read
sound_at (suc n) = one_above n (sound_at n)

reading_said : (n : ℕ) (s : Sort) → IsSound (reading n s) s
reading_said n s ts x a h = ranked_said (at_level n any) (sound_at n).0 6 s ts x a h

-- ---- the laws

-- slots that are filled are there
filled_slots : (o : Slots) (ts : List Token) → fill o ts ≡ Some [] → (ss : List Slot) × (o ≡ Some ss) × (left ss ts ≡ Some [])
filled_slots None ts h = absurd (no_some [] h)
filled_slots (Some ss) ts h = (ss, refl, h)

pub trees_are_said : TreesAreSaid
trees_are_said s n ts t a h = filled_slots (slots_as s t) ts (reading_said n s ts (t, []) a h)

-- the forest of the unit that was read
unit_again : (f : Forest) (u : UnitOf Text) → unit_of f ≡ Some u → f ≡ forest_of_unit u
unit_again (tree l i (tree m d (tree k e end))) u h = ap forest_of_unit (of_some _ u h)
unit_again f u h = absurd (no_some u h)

pub units_are_said : UnitsAreSaid
units_are_said n ts u a h = by (read_row (reading n) (read_part (reading n)) unit_row ts) refl h where
  by : (r : Read Forest) → read_row (reading n) (read_part (reading n)) unit_row ts ≡ r → where_all_is_read r ≡ Some u → Says ts u
  by (Some (f, [])) e g =
      let s : RowSaid unit_row ts (f, []) = row_said (reading n) (read_part (reading n)) (reading_said n) (part_said (reading n) (reading_said n)) unit_row false refl ts (f, []) a (λ c. absurd (no_true c)) e in
      filled_slots (slots u) ts (ap (λ z. fill ((spells z).row unit_row) ts) (turned (unit_again f u g)) ∙ s)
  by (Some (f, t ∷ us)) e g = absurd (no_some u g)
  by None e g = absurd (no_some u g)

pub texts_are_said : TextsAreSaid
texts_are_said n t ts u k e h = (ts, e, units_are_said n ts u (tokens_of_texts t ts k e) h)
