-- Names in place of numbers change nothing but the names.
use Rattle.std.proofs.Common.{◌≡◌, ℕ, suc, ◌+◌, [], ◌∷◌, ◌++◌, map, refl, sym, ◌∙◌, ap}
use Rattle.std.specs.Prelude.{None, false}
use Rattle.std.proofs.lemmas.List.{map-append}
use Rattle.wesl_tree_syntax.specs.Tree.{Forest, end, tree, kind, at, ident, text, texts, truth, unary, binary, assignment, space, access, path, respell_forest}
use Rattle.wesl_tree_syntax.specs.Unit.{UnitView, forest_of_unit, trees_of, spelled, name_in}
use Rattle.wesl_scope_occurrences.specs.Laws.{renamed}
use Rattle.wesl_scope_occurrences.specs.Occurrences.{Block, Shape, of_function, of_parameter, of_body, of_holder, of_loop, of_continuing, of_for, of_words, of_custom, of_type, of_value, of_globals, of_other, shape_of, opens, Surroundings, Blocks, Node, path_of, plain, node_by, here_in, after_field, occurrence, count, blocks_in, blocks_at, occurrences_from, occurrences}

module _ {J : Type 0} (g : ℕ → J) where
  count_same : (f : Forest) → count (respell_forest g f) ≡ count f
  count_same end = refl
  count_same (tree (ident r x) children others) = ap suc (count_same others)
  count_same (tree (kind k) children others) = ap (λ n. n + count (respell_forest g others)) (count_same children) ∙ ap (λ n. count children + n) (count_same others)
  count_same (tree (at k i j) children others) = ap (λ n. n + count (respell_forest g others)) (count_same children) ∙ ap (λ n. count children + n) (count_same others)
  count_same (tree (text v) children others) = ap (λ n. n + count (respell_forest g others)) (count_same children) ∙ ap (λ n. count children + n) (count_same others)
  count_same (tree (texts v) children others) = ap (λ n. n + count (respell_forest g others)) (count_same children) ∙ ap (λ n. count children + n) (count_same others)
  count_same (tree (truth v) children others) = ap (λ n. n + count (respell_forest g others)) (count_same children) ∙ ap (λ n. count children + n) (count_same others)
  count_same (tree (unary v) children others) = ap (λ n. n + count (respell_forest g others)) (count_same children) ∙ ap (λ n. count children + n) (count_same others)
  count_same (tree (binary v) children others) = ap (λ n. n + count (respell_forest g others)) (count_same children) ∙ ap (λ n. count children + n) (count_same others)
  count_same (tree (assignment v) children others) = ap (λ n. n + count (respell_forest g others)) (count_same children) ∙ ap (λ n. count children + n) (count_same others)
  count_same (tree (space v) children others) = ap (λ n. n + count (respell_forest g others)) (count_same children) ∙ ap (λ n. count children + n) (count_same others)
  count_same (tree (access v) children others) = ap (λ n. n + count (respell_forest g others)) (count_same children) ∙ ap (λ n. count children + n) (count_same others)
  count_same (tree (path v) children others) = ap (λ n. n + count (respell_forest g others)) (count_same children) ∙ ap (λ n. count children + n) (count_same others)

  blocks_same : (f : Forest) → blocks_in (respell_forest g f) ≡ blocks_in f
  blocks_same end = refl
  blocks_same (tree (ident r x) children others) = blocks_same others
  blocks_same (tree (kind k) children others) = ap (λ n. opens (shape_of k) + n + blocks_in (respell_forest g others)) (blocks_same children) ∙ ap (λ n. opens (shape_of k) + blocks_in children + n) (blocks_same others)
  blocks_same (tree (at k i j) children others) = ap (λ n. 0 + n + blocks_in (respell_forest g others)) (blocks_same children) ∙ ap (λ n. 0 + blocks_in children + n) (blocks_same others)
  blocks_same (tree (text v) children others) = ap (λ n. 0 + n + blocks_in (respell_forest g others)) (blocks_same children) ∙ ap (λ n. 0 + blocks_in children + n) (blocks_same others)
  blocks_same (tree (texts v) children others) = ap (λ n. 0 + n + blocks_in (respell_forest g others)) (blocks_same children) ∙ ap (λ n. 0 + blocks_in children + n) (blocks_same others)
  blocks_same (tree (truth v) children others) = ap (λ n. 0 + n + blocks_in (respell_forest g others)) (blocks_same children) ∙ ap (λ n. 0 + blocks_in children + n) (blocks_same others)
  blocks_same (tree (unary v) children others) = ap (λ n. 0 + n + blocks_in (respell_forest g others)) (blocks_same children) ∙ ap (λ n. 0 + blocks_in children + n) (blocks_same others)
  blocks_same (tree (binary v) children others) = ap (λ n. 0 + n + blocks_in (respell_forest g others)) (blocks_same children) ∙ ap (λ n. 0 + blocks_in children + n) (blocks_same others)
  blocks_same (tree (assignment v) children others) = ap (λ n. 0 + n + blocks_in (respell_forest g others)) (blocks_same children) ∙ ap (λ n. 0 + blocks_in children + n) (blocks_same others)
  blocks_same (tree (space v) children others) = ap (λ n. 0 + n + blocks_in (respell_forest g others)) (blocks_same children) ∙ ap (λ n. 0 + blocks_in children + n) (blocks_same others)
  blocks_same (tree (access v) children others) = ap (λ n. 0 + n + blocks_in (respell_forest g others)) (blocks_same children) ∙ ap (λ n. 0 + blocks_in children + n) (blocks_same others)
  blocks_same (tree (path v) children others) = ap (λ n. 0 + n + blocks_in (respell_forest g others)) (blocks_same children) ∙ ap (λ n. 0 + blocks_in children + n) (blocks_same others)

  path_same : (sh : Shape) (f : Forest) → path_of sh (respell_forest g f) ≡ path_of sh f
  path_same of_type end = refl
  path_same of_type (tree l end others) = refl
  path_same of_type (tree l (tree (kind k) below beside) others) = refl
  path_same of_type (tree l (tree (at k i j) below beside) others) = refl
  path_same of_type (tree l (tree (text v) below beside) others) = refl
  path_same of_type (tree l (tree (texts v) below beside) others) = refl
  path_same of_type (tree l (tree (truth v) below beside) others) = refl
  path_same of_type (tree l (tree (unary v) below beside) others) = refl
  path_same of_type (tree l (tree (binary v) below beside) others) = refl
  path_same of_type (tree l (tree (assignment v) below beside) others) = refl
  path_same of_type (tree l (tree (space v) below beside) others) = refl
  path_same of_type (tree l (tree (access v) below beside) others) = refl
  path_same of_type (tree l (tree (path v) below beside) others) = refl
  path_same of_type (tree l (tree (ident r x) below beside) others) = refl
  path_same of_function f = refl
  path_same of_parameter f = refl
  path_same of_body f = refl
  path_same of_holder f = refl
  path_same of_loop f = refl
  path_same of_continuing f = refl
  path_same of_for f = refl
  path_same of_words f = refl
  path_same of_custom f = refl
  path_same of_value f = refl
  path_same of_globals f = refl
  path_same of_other f = refl

  node_same : (sh : Shape) (f : Forest) (bs : Blocks Block) (here : Surroundings Block) → node_by sh (respell_forest g f) bs here ≡ node_by sh f bs here
  node_same sh f bs here = ap (λ p. record (node_by sh f bs here) { path = p }) (path_same sh f)

  joined_from : (sh : Shape) (children others : Forest) (node : Node Block) (p q : ℕ)
      → occurrences_from (node_by sh children (blocks_at q (here_in node).block) (here_in node)) p (q + opens sh) (respell_forest g children) ≡ map (renamed g) (occurrences_from (node_by sh children (blocks_at q (here_in node).block) (here_in node)) p (q + opens sh) children)
      → occurrences_from (after_field node) (p + count children) (q + opens sh + blocks_in children) (respell_forest g others) ≡ map (renamed g) (occurrences_from (after_field node) (p + count children) (q + opens sh + blocks_in children) others)
      → occurrences_from (node_by sh (respell_forest g children) (blocks_at q (here_in node).block) (here_in node)) p (q + opens sh) (respell_forest g children) ++ occurrences_from (after_field node) (p + count (respell_forest g children)) (q + opens sh + blocks_in (respell_forest g children)) (respell_forest g others)
      ≡ map (renamed g) (occurrences_from (node_by sh children (blocks_at q (here_in node).block) (here_in node)) p (q + opens sh) children ++ occurrences_from (after_field node) (p + count children) (q + opens sh + blocks_in children) others)
  joined_from sh children others node p q a b =
      let inner = node_by sh children (blocks_at q (here_in node).block) (here_in node) in
      let rest = after_field node in
      let first = occurrences_from inner p (q + opens sh) children in
      let second = occurrences_from rest (p + count children) (q + opens sh + blocks_in children) others in
      ap (λ n. occurrences_from n p (q + opens sh) (respell_forest g children) ++ occurrences_from rest (p + count (respell_forest g children)) (q + opens sh + blocks_in (respell_forest g children)) (respell_forest g others)) (node_same sh children (blocks_at q (here_in node).block) (here_in node))
      ∙ (ap (λ n. occurrences_from inner p (q + opens sh) (respell_forest g children) ++ occurrences_from rest (p + n) (q + opens sh + blocks_in (respell_forest g children)) (respell_forest g others)) (count_same children)
      ∙ (ap (λ n. occurrences_from inner p (q + opens sh) (respell_forest g children) ++ occurrences_from rest (p + count children) (q + opens sh + n) (respell_forest g others)) (blocks_same children)
      ∙ (ap (λ os. os ++ occurrences_from rest (p + count children) (q + opens sh + blocks_in children) (respell_forest g others)) a
      ∙ (ap (λ os. map (renamed g) first ++ os) b ∙ sym (map-append (renamed g) first second)))))

  pub respelled_from : (f : Forest) (node : Node Block) (p q : ℕ) → occurrences_from node p q (respell_forest g f) ≡ map (renamed g) (occurrences_from node p q f)
  respelled_from end node p q = refl
  respelled_from (tree (ident r x) children others) node p q = ap (λ os. occurrence r (g x) node p (suc p + count (respell_forest g others)) ∷ os) (respelled_from others (after_field node) (suc p) q) ∙ ap (λ n. occurrence r (g x) node p (suc p + n) ∷ map (renamed g) (occurrences_from (after_field node) (suc p) q others)) (count_same others)
  respelled_from (tree (kind k) children others) node p q =
      let inner = node_by (shape_of k) children (blocks_at q (here_in node).block) (here_in node) in
      joined_from (shape_of k) children others node p q (respelled_from children inner p (q + opens (shape_of k))) (respelled_from others (after_field node) (p + count children) (q + opens (shape_of k) + blocks_in children))
  respelled_from (tree (at k i j) children others) node p q =
      let inner = node_by of_other children (blocks_at q (here_in node).block) (here_in node) in
      joined_from of_other children others node p q (respelled_from children inner p (q + opens of_other)) (respelled_from others (after_field node) (p + count children) (q + opens of_other + blocks_in children))
  respelled_from (tree (text v) children others) node p q =
      let inner = node_by of_other children (blocks_at q (here_in node).block) (here_in node) in
      joined_from of_other children others node p q (respelled_from children inner p (q + opens of_other)) (respelled_from others (after_field node) (p + count children) (q + opens of_other + blocks_in children))
  respelled_from (tree (texts v) children others) node p q =
      let inner = node_by of_other children (blocks_at q (here_in node).block) (here_in node) in
      joined_from of_other children others node p q (respelled_from children inner p (q + opens of_other)) (respelled_from others (after_field node) (p + count children) (q + opens of_other + blocks_in children))
  respelled_from (tree (truth v) children others) node p q =
      let inner = node_by of_other children (blocks_at q (here_in node).block) (here_in node) in
      joined_from of_other children others node p q (respelled_from children inner p (q + opens of_other)) (respelled_from others (after_field node) (p + count children) (q + opens of_other + blocks_in children))
  respelled_from (tree (unary v) children others) node p q =
      let inner = node_by of_other children (blocks_at q (here_in node).block) (here_in node) in
      joined_from of_other children others node p q (respelled_from children inner p (q + opens of_other)) (respelled_from others (after_field node) (p + count children) (q + opens of_other + blocks_in children))
  respelled_from (tree (binary v) children others) node p q =
      let inner = node_by of_other children (blocks_at q (here_in node).block) (here_in node) in
      joined_from of_other children others node p q (respelled_from children inner p (q + opens of_other)) (respelled_from others (after_field node) (p + count children) (q + opens of_other + blocks_in children))
  respelled_from (tree (assignment v) children others) node p q =
      let inner = node_by of_other children (blocks_at q (here_in node).block) (here_in node) in
      joined_from of_other children others node p q (respelled_from children inner p (q + opens of_other)) (respelled_from others (after_field node) (p + count children) (q + opens of_other + blocks_in children))
  respelled_from (tree (space v) children others) node p q =
      let inner = node_by of_other children (blocks_at q (here_in node).block) (here_in node) in
      joined_from of_other children others node p q (respelled_from children inner p (q + opens of_other)) (respelled_from others (after_field node) (p + count children) (q + opens of_other + blocks_in children))
  respelled_from (tree (access v) children others) node p q =
      let inner = node_by of_other children (blocks_at q (here_in node).block) (here_in node) in
      joined_from of_other children others node p q (respelled_from children inner p (q + opens of_other)) (respelled_from others (after_field node) (p + count children) (q + opens of_other + blocks_in children))
  respelled_from (tree (path v) children others) node p q =
      let inner = node_by of_other children (blocks_at q (here_in node).block) (here_in node) in
      joined_from of_other children others node p q (respelled_from children inner p (q + opens of_other)) (respelled_from others (after_field node) (p + count children) (q + opens of_other + blocks_in children))

-- those of a module's spelling are those of its numbers, each with its name
pub spelled_occurrences : (u : UnitView) → occurrences (spelled u) ≡ map (renamed (name_in u.names)) (occurrences (trees_of u))
spelled_occurrences u =
    respelled_from (name_in u.names) (forest_of_unit (trees_of u)) (plain (record { block = []; held_block = []; is_local = false; declaration = None; words = false; excused = false })) 0 1
