-- The blocks of a module, by their numbers: how many blocks open before each, the module's counted (WGSL, "Declaration
-- and Scope").
use Rattle.std.specs.Prelude.{ℕ, zero, suc, ◌+◌, false, None, List, [], ◌∷◌, ◌++◌}
use Rattle.wesl_tree_syntax.specs.Tree.{ForestOf, TreeOf, before, end, tree, ident}
use Rattle.wesl_tree_syntax.specs.Unit.{UnitOf, forest_of_unit}
use Rattle.wesl_scope_occurrences.specs.Occurrences.{Surroundings, Node, Blocks, plain, node_of, here_in, after_field, opened_by, blocks_in}

-- the block round each of the blocks that a node in block b opens, where q blocks open before: a second one stands in
-- the first
abbrev pub outers_of : ℕ → ℕ → ℕ → List ℕ
outers_of zero q b = []
outers_of (suc zero) q b = b ∷ []
outers_of (suc (suc n)) q b = b ∷ q ∷ []

-- the numbers of the blocks of a node, where q blocks open before
abbrev pub numbers_at : ℕ → Blocks ℕ
numbers_at q = record { own = q; below_own = suc q; whole = 0 }

module _ {I : Type 0} where
  -- the block round each of those that open in the fields of a node, in the order in which they open
  abbrev pub outers_from : Node ℕ → ℕ → ForestOf I → List ℕ
  outers_from node q end = []
  outers_from node q (tree (ident r x) children others) = outers_from (after_field node) q others
  outers_from node q (tree l children others) =
      outers_of (opened_by l) q (here_in node).block
      ++ (outers_from (node_of l children (numbers_at q) (here_in node)) (q + opened_by l) children
      ++ outers_from (after_field node) (q + opened_by l + blocks_in children) others)

  -- the same of one tree in these surroundings
  abbrev pub outers_in : Surroundings ℕ → ℕ → TreeOf I → List ℕ
  outers_in here q t = outers_from (plain here) q (before t end)

  -- the block round each block of a module: the module's own comes first, with itself for the one that it lacks
  abbrev pub outers : UnitOf I → List ℕ
  outers u = 0 ∷ outers_from (plain (record { block = 0; held_block = 0; is_local = false; declaration = None; words = false; excused = false })) 1 (forest_of_unit u)
