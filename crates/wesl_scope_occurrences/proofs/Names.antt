-- The names of a module's occurrences are its identifiers.
use Rattle.std.proofs.Common.{◌≡◌, ℕ, suc, ◌+◌, List, [], ◌∷◌, ◌++◌, map, refl, ◌∙◌, ap}
use Rattle.std.specs.Prelude.{None, false}
use Rattle.std.proofs.lemmas.List.{map-append}
use Rattle.wesl_tree_syntax.specs.Tree.{ForestOf, end, tree, kind, at, ident, text, texts, truth, unary, binary, assignment, space, access, path, identifiers}
use Rattle.wesl_tree_syntax.specs.Unit.{UnitOf, forest_of_unit}
use Rattle.wesl_scope_occurrences.specs.Occurrences.{Block, Occurrence, Node, node_of, opened_by, here_in, after_field, blocks_at, plain, count, blocks_in, occurrences_from, occurrences}

module _ {I : Type 0} where
  abbrev pub named_by : Occurrence I → I
  named_by o = o.name

  split : (a b : List (Occurrence I)) (xs ys : List I) → map named_by a ≡ xs → map named_by b ≡ ys → map named_by (a ++ b) ≡ xs ++ ys
  split a b xs ys e f = map-append named_by a b ∙ (ap (λ zs. zs ++ map named_by b) e ∙ ap (λ zs. xs ++ zs) f)

  names_from : (f : ForestOf I) (node : Node Block) (p q : ℕ) → map named_by (occurrences_from node p q f) ≡ identifiers f
  names_from end node p q = refl
  names_from (tree (ident r x) children others) node p q = ap (λ xs. x ∷ xs) (names_from others (after_field node) (suc p) q)
  names_from (tree (kind k) children others) node p q =
      let inner = node_of (kind k) children (blocks_at q (here_in node).block) (here_in node) in
      let deep = q + opened_by {I = I} (kind k) in
      split (occurrences_from inner p deep children) (occurrences_from (after_field node) (p + count children) (deep + blocks_in children) others) (identifiers children) (identifiers others)
      (names_from children inner p deep) (names_from others (after_field node) (p + count children) (deep + blocks_in children))
  names_from (tree (at k i j) children others) node p q =
      let inner = node_of (at k i j) children (blocks_at q (here_in node).block) (here_in node) in
      let deep = q + opened_by {I = I} (at k i j) in
      split (occurrences_from inner p deep children) (occurrences_from (after_field node) (p + count children) (deep + blocks_in children) others) (identifiers children) (identifiers others)
      (names_from children inner p deep) (names_from others (after_field node) (p + count children) (deep + blocks_in children))
  names_from (tree (text v) children others) node p q =
      let inner = node_of (text v) children (blocks_at q (here_in node).block) (here_in node) in
      let deep = q + opened_by {I = I} (text v) in
      split (occurrences_from inner p deep children) (occurrences_from (after_field node) (p + count children) (deep + blocks_in children) others) (identifiers children) (identifiers others)
      (names_from children inner p deep) (names_from others (after_field node) (p + count children) (deep + blocks_in children))
  names_from (tree (texts v) children others) node p q =
      let inner = node_of (texts v) children (blocks_at q (here_in node).block) (here_in node) in
      let deep = q + opened_by {I = I} (texts v) in
      split (occurrences_from inner p deep children) (occurrences_from (after_field node) (p + count children) (deep + blocks_in children) others) (identifiers children) (identifiers others)
      (names_from children inner p deep) (names_from others (after_field node) (p + count children) (deep + blocks_in children))
  names_from (tree (truth v) children others) node p q =
      let inner = node_of (truth v) children (blocks_at q (here_in node).block) (here_in node) in
      let deep = q + opened_by {I = I} (truth v) in
      split (occurrences_from inner p deep children) (occurrences_from (after_field node) (p + count children) (deep + blocks_in children) others) (identifiers children) (identifiers others)
      (names_from children inner p deep) (names_from others (after_field node) (p + count children) (deep + blocks_in children))
  names_from (tree (unary v) children others) node p q =
      let inner = node_of (unary v) children (blocks_at q (here_in node).block) (here_in node) in
      let deep = q + opened_by {I = I} (unary v) in
      split (occurrences_from inner p deep children) (occurrences_from (after_field node) (p + count children) (deep + blocks_in children) others) (identifiers children) (identifiers others)
      (names_from children inner p deep) (names_from others (after_field node) (p + count children) (deep + blocks_in children))
  names_from (tree (binary v) children others) node p q =
      let inner = node_of (binary v) children (blocks_at q (here_in node).block) (here_in node) in
      let deep = q + opened_by {I = I} (binary v) in
      split (occurrences_from inner p deep children) (occurrences_from (after_field node) (p + count children) (deep + blocks_in children) others) (identifiers children) (identifiers others)
      (names_from children inner p deep) (names_from others (after_field node) (p + count children) (deep + blocks_in children))
  names_from (tree (assignment v) children others) node p q =
      let inner = node_of (assignment v) children (blocks_at q (here_in node).block) (here_in node) in
      let deep = q + opened_by {I = I} (assignment v) in
      split (occurrences_from inner p deep children) (occurrences_from (after_field node) (p + count children) (deep + blocks_in children) others) (identifiers children) (identifiers others)
      (names_from children inner p deep) (names_from others (after_field node) (p + count children) (deep + blocks_in children))
  names_from (tree (space v) children others) node p q =
      let inner = node_of (space v) children (blocks_at q (here_in node).block) (here_in node) in
      let deep = q + opened_by {I = I} (space v) in
      split (occurrences_from inner p deep children) (occurrences_from (after_field node) (p + count children) (deep + blocks_in children) others) (identifiers children) (identifiers others)
      (names_from children inner p deep) (names_from others (after_field node) (p + count children) (deep + blocks_in children))
  names_from (tree (access v) children others) node p q =
      let inner = node_of (access v) children (blocks_at q (here_in node).block) (here_in node) in
      let deep = q + opened_by {I = I} (access v) in
      split (occurrences_from inner p deep children) (occurrences_from (after_field node) (p + count children) (deep + blocks_in children) others) (identifiers children) (identifiers others)
      (names_from children inner p deep) (names_from others (after_field node) (p + count children) (deep + blocks_in children))
  names_from (tree (path v) children others) node p q =
      let inner = node_of (path v) children (blocks_at q (here_in node).block) (here_in node) in
      let deep = q + opened_by {I = I} (path v) in
      split (occurrences_from inner p deep children) (occurrences_from (after_field node) (p + count children) (deep + blocks_in children) others) (identifiers children) (identifiers others)
      (names_from children inner p deep) (names_from others (after_field node) (p + count children) (deep + blocks_in children))

  pub names_each : (u : UnitOf I) → map named_by (occurrences u) ≡ identifiers (forest_of_unit u)
  names_each u = names_from (forest_of_unit u) (plain (record { block = []; held_block = []; is_local = false; declaration = None; words = false; excused = false })) 0 1
