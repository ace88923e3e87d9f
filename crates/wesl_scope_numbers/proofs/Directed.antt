-- Blocks lead outwards, and each identifier has a name.
use Rattle.std.proofs.Common.{◌≡◌, ℕ, zero, suc, ◌<◌, true, List, [], ◌∷◌, length, get_or, map, sym, subst, arith}
use Rattle.wesl_tree_syntax.specs.Tree.{forest_below}
use Rattle.wesl_tree_syntax.specs.Unit.{UnitOf, forest_of_unit}
use Rattle.wesl_scope_occurrences.specs.Occurrences.{Block, OccurrenceIn, Occurrence, occurrences}
use Rattle.wesl_scope_occurrences.specs.Walk.{outermost, all_of, start, walk}
use Rattle.wesl_scope_occurrences.specs.Ways.{AreNested, told, way}
use Rattle.wesl_scope_occurrences.proofs.Bounds.{NameBelow, names_below, module_node}
use Rattle.wesl_scope_occurrences.proofs.Joined.{Each, InBlocks, whole_joined, way_module, way_unfolds}
use Rattle.wesl_scope_open.proofs.Runs.{Every}
use Rattle.wesl_scope_open.proofs.Good.{Outwards, outwards_later}

-- each step of a block is before those in it
abbrev pub Directed : Block → Type 0
Directed b = (q : ℕ) × Outwards 0 q b

way_outwards : (outer : List ℕ) → AreNested outer → (n b : ℕ) → b < n → b < length outer → Outwards 0 (suc b) (way outer b)
way_outwards outer ns zero b l h = absurd (omega (arith, l))
way_outwards outer ns (suc n) zero l h = subst (Outwards 0 1) (sym (way_module outer h)) tt
way_outwards outer ns (suc n) (suc b) l h =
    let c = get_or outer (suc b) 0 in
    let d : c < suc b = ns (suc b) (omega arith) h in
    subst (Outwards 0 (suc (suc b))) (sym (way_unfolds outer (suc b) ns (omega arith) h))
    (omega arith, omega arith, outwards_later 0 (suc c) (suc b) (way outer c) (omega (arith, d)) (way_outwards outer ns n c (omega (arith, d, l)) (omega (arith, d, h))))

told_directed : (outer : List ℕ) → AreNested outer → (os : List (OccurrenceIn ℕ ℕ)) → Each (InBlocks (length outer)) os → Every (λ o. Directed o.block) (map (told (way outer)) os)
told_directed outer ns [] h = tt
told_directed outer ns (o ∷ os) h = ((suc o.block, way_outwards outer ns (suc o.block) o.block (omega arith) h.0), told_directed outer ns os h.1)

pub all_directed : (u : UnitOf ℕ) → Every (λ o. Directed o.block) (occurrences u)
all_directed u =
    let s = walk (all_of outermost) start (forest_of_unit u) in
    let j = whole_joined (forest_of_unit u) in
    subst (Every (λ o. Directed o.block)) j.found_is (told_directed s.outer j.nested s.found j.inside)

each_below : (n : ℕ) (os : List (Occurrence ℕ)) → Each (NameBelow n) os → Every (λ o. o.name < n) os
each_below n [] h = tt
each_below n (o ∷ os) h = (h.0, each_below n os h.1)

pub all_named : (n : ℕ) (u : UnitOf ℕ) → forest_below n (forest_of_unit u) ≡ true → Every (λ o. o.name < n) (occurrences u)
all_named n u h = each_below n (occurrences u) (names_below n (forest_of_unit u) module_node 0 1 h)
