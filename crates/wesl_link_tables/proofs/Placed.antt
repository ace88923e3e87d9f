-- The place of an identifier is its index among all of its module.
use Rattle.std.proofs.Common.{◌≡◌, ℕ, zero, suc, ◌+◌, ◌<◌, List, [], ◌∷◌, ◌++◌, map, length, get_or, arith, sym, subst, ap, ◌∙◌}
use Rattle.wesl_tree_names.specs.Path.{Text}
use Rattle.wesl_tree_syntax.specs.Unit.{UnitView, trees_of, spelled, name_in}
use Rattle.wesl_scope_occurrences.specs.Occurrences.{Block, OccurrenceIn, Occurrence, occurrences}
use Rattle.wesl_scope_occurrences.specs.Walk.{Found, ended_at}
use Rattle.wesl_scope_occurrences.specs.Events.{Event, begins, meets, opens, closes, ends, events}
use Rattle.wesl_scope_occurrences.specs.Collected.{Collected, nothing, last_ended, collecting, collected}
use Rattle.wesl_scope_occurrences.specs.Laws.{renamed}
use Rattle.wesl_scope_occurrences.specs.Outer.{outers}
use Rattle.wesl_scope_occurrences.specs.Ways.{way, told}
use Rattle.wesl_scope_occurrences.proofs.Collecting.{collected_occurrences}
use Rattle.wesl_scope_occurrences.proofs.Respelled.{spelled_occurrences}

-- each stands at its index, from this one on
abbrev ArePlaced : {I B : Type 0} → ℕ → List (OccurrenceIn I B) → Type 0
ArePlaced k [] = Unit {0}
ArePlaced k (o ∷ os) = (o.place ≡ k) × ArePlaced (suc k) os

ended_placed : (e p k : ℕ) (os : List Found) → ArePlaced k os → ArePlaced k (ended_at e p os)
ended_placed e p k [] h = h
ended_placed e zero k (o ∷ os) h = (h.0, h.1)
ended_placed e (suc p) k (o ∷ os) h = (h.0, ended_placed e p (suc k) os h.1)

last_placed : (ps : List ℕ) (c : Collected) → ArePlaced 0 c.found → ArePlaced 0 (last_ended ps c).found
last_placed [] c h = h
last_placed (p ∷ ps) c h = ended_placed (length c.found) p 0 c.found h

one_placed : (k : ℕ) (os : List Found) (o : Found) → ArePlaced k os → o.place ≡ k + length os → ArePlaced k (os ++ o ∷ [])
one_placed k [] o h e = (omega (arith, e), tt)
one_placed k (x ∷ os) o h e = (h.0, one_placed (suc k) os o h.1 (omega (arith, e)))

all_placed : (c : Collected) (es : List Event) → ArePlaced 0 c.found → ArePlaced 0 (collected c es).found
all_placed c [] h = h
all_placed c (begins ∷ es) h = all_placed (collecting c begins) es h
all_placed c (meets here r x ∷ es) h = all_placed (collecting c (meets here r x)) es (one_placed 0 c.found _ h (omega arith))
all_placed c (opens ∷ es) h = all_placed c es h
all_placed c (closes ∷ es) h = all_placed c es h
all_placed c (ends here x ∷ es) h = all_placed (last_ended c.naming c) es (last_placed c.naming c h)

renamed_placed : (f : ℕ → Text) (w : ℕ → Block) (k : ℕ) (os : List Found) → ArePlaced k os → ArePlaced k (map (renamed f) (map (told w) os))
renamed_placed f w k [] h = h
renamed_placed f w k (o ∷ os) h = (h.0, renamed_placed f w (suc k) os h.1)

placed_at : (k : ℕ) (os : List (Occurrence Text)) (i : ℕ) (d : Occurrence Text) → ArePlaced k os → i < length os → (get_or os i d).place ≡ k + i
placed_at k [] i d h b = absurd (omega (arith, b))
placed_at k (o ∷ os) zero d h b = omega (arith, h.0)
placed_at k (o ∷ os) (suc i) d h b = omega (arith, placed_at (suc k) os i d h.1 (omega (arith, b)))

pub place_there : (v : UnitView) (i : ℕ) (d : Occurrence Text) → i < length (occurrences (spelled v)) → (get_or (occurrences (spelled v)) i d).place ≡ i
place_there v i d b =
    let are : occurrences (spelled v) ≡ map (renamed (name_in v.names)) (map (told (way (outers (trees_of v)))) (collected nothing (events (trees_of v))).found) =
    spelled_occurrences v ∙ ap (map (renamed (name_in v.names))) (sym (collected_occurrences (trees_of v))) in
    let placed = renamed_placed (name_in v.names) (way (outers (trees_of v))) 0 (collected nothing (events (trees_of v))).found (all_placed nothing (events (trees_of v)) tt) in
    let there : (get_or (occurrences (spelled v)) i d).place ≡ 0 + i = placed_at 0 (occurrences (spelled v)) i d (subst (ArePlaced 0) (sym are) placed) b in
    omega (arith, there)
