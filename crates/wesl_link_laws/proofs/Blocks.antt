-- The blocks of a unit by their numbers.
use Rattle.std.proofs.Common.{◌≡◌, ℕ, zero, suc, List, [], ◌∷◌, length, map, Contains, arith, sym, ap, ◌∙◌, subst}
use Rattle.wesl_link_reach.proofs.Lists.{contains_map}
use Rattle.wesl_tree_syntax.specs.Unit.{UnitOf, forest_of_unit}
use Rattle.wesl_scope_occurrences.specs.Occurrences.{Block, Occurrence, occurrences}
use Rattle.wesl_scope_occurrences.specs.Walk.{outermost, State, walk, all_of, start}
use Rattle.wesl_scope_occurrences.specs.Ways.{way, told}
use Rattle.wesl_scope_occurrences.specs.Laws.{WaysLeadOutwards}
use Rattle.wesl_scope_occurrences.proofs.Joined.{Each, InBlocks, whole_joined}
use Rattle.wesl_scope_meanings.specs.Keys.{number_of}
use Rattle.wesl_scope_meanings.proofs.Scoping.{number_of_way}

each_held : {X : Type 0} (P : X → Type 0) (xs : List X) (x : X) → Each P xs → Contains xs x → P x
each_held P [] x h (k, b, e) = absurd (omega (arith, b))
each_held P (y ∷ xs) x h (zero, b, e) = subst P e h.0
each_held P (y ∷ xs) x h (suc k, b, e) = each_held P xs x h.1 (k, omega (arith, b), e)

-- the walk over the unit
abbrev walked_unit : UnitOf ℕ → State
walked_unit u = walk (all_of outermost) start (forest_of_unit u)

-- of each block the way of its number
abbrev pub ways_of : UnitOf ℕ → ℕ → Block
ways_of u = way (walked_unit u).outer

pub block_known : WaysLeadOutwards → (u : UnitOf ℕ) (o : Occurrence ℕ) → Contains (occurrences u) o → o.block ≡ ways_of u (number_of o.block)
block_known lead u o held =
    let j = whole_joined (forest_of_unit u) in
    let outer = (walked_unit u).outer in
    let all : map (told (way outer)) (walked_unit u).found ≡ occurrences u = j.found_is in
    let (x, inside, e) = contains_map (told (way outer)) (walked_unit u).found o (subst (λ (os : List (Occurrence ℕ)). Contains os o) (sym all) held) in
    let block : way outer x.block ≡ o.block = ap (λ (y : Occurrence ℕ). y.block) e in
    let number : number_of (way outer x.block) ≡ x.block = number_of_way lead outer x.block j.nested (each_held (InBlocks (length outer)) (walked_unit u).found x j.inside inside) in
    sym block ∙ (ap (way outer) (sym number) ∙ ap (λ b. way outer (number_of b)) block)
