-- Each identifier of a tree has a name in the table.
use Rattle.std.proofs.Common.{◌≡◌, ℕ, zero, suc, ◌+◌, ◌<◌, true, false, ◌&&◌, List, [], ◌∷◌, map, arith, refl}
use Rattle.std.specs.Prelude.{nat_lt, None}
use Rattle.std.specs.List.{All}
use Rattle.std.proofs.lemmas.Bool.Decides.{nat_tests}
use Rattle.wesl_tree_syntax.specs.Tree.{Label, Forest, end, tree, kind, at, ident, text, texts, truth, unary, binary, assignment, space, access, path, label_below, forest_below, tree_below}
use Rattle.wesl_tree_syntax.specs.Unit.{UnitOf, forest_of_unit}
use Rattle.wesl_scope_occurrences.specs.Occurrences.{Block, OccurrenceIn, of_other, shape_of, opens, Node, plain, node_by, here_in, after_field, count, blocks_in, blocks_at, occurrences_from}
use Rattle.wesl_scope_occurrences.specs.Ways.{told}
use Rattle.wesl_scope_occurrences.specs.Views.{occurrence_view}
use Rattle.wesl_scope_occurrences.specs.declared.occurrence.Occurrence as found
use Rattle.wesl_scope_occurrences.proofs.Joined.{Each, Each-append}
use Rattle.std.proofs.lemmas.Bool.{and_parts}

less : (i n : ℕ) → nat_lt i n ≡ true → i < n
less i n h = grind (arith, nat_tests)

abbrev pub NameBelow : {B : Type 0} → ℕ → OccurrenceIn ℕ B → Type 0
NameBelow n o = o.name < n

below_parts : (n : ℕ) (l : Label) (children others : Forest) → forest_below n (tree l children others) ≡ true → (forest_below n children ≡ true) × (forest_below n others ≡ true)
below_parts n l children others h =
    let a = and_parts (label_below n l && forest_below n children) (forest_below n others) h in
    ((and_parts (label_below n l) (forest_below n children) a.0).1, a.1)

pub names_below : (n : ℕ) (f : Forest) (node : Node Block) (p q : ℕ) → forest_below n f ≡ true → Each (NameBelow n) (occurrences_from node p q f)
names_below n end node p q h = tt
names_below n (tree (ident r x) children others) node p q h =
    let a = and_parts (label_below n (ident r x) && forest_below n children) (forest_below n others) h in
    (less x n (and_parts (label_below n (ident r x)) (forest_below n children) a.0).0, names_below n others (after_field node) (suc p) q a.1)
names_below n (tree (kind k) children others) node p q h =
    let a = below_parts n (kind k) children others h in
    let inner = node_by (shape_of k) children (blocks_at q (here_in node).block) (here_in node) in
    let k = opens (shape_of k) in
    Each-append (NameBelow n) (occurrences_from inner p (q + k) children) (occurrences_from (after_field node) (p + count children) (q + k + blocks_in children) others)
    (names_below n children inner p (q + k) a.0) (names_below n others (after_field node) (p + count children) (q + k + blocks_in children) a.1)
names_below n (tree (at k i j) children others) node p q h =
    let a = below_parts n (at k i j) children others h in
    let inner = node_by (of_other) children (blocks_at q (here_in node).block) (here_in node) in
    let k = opens (of_other) in
    Each-append (NameBelow n) (occurrences_from inner p (q + k) children) (occurrences_from (after_field node) (p + count children) (q + k + blocks_in children) others)
    (names_below n children inner p (q + k) a.0) (names_below n others (after_field node) (p + count children) (q + k + blocks_in children) a.1)
names_below n (tree (text v) children others) node p q h =
    let a = below_parts n (text v) children others h in
    let inner = node_by (of_other) children (blocks_at q (here_in node).block) (here_in node) in
    let k = opens (of_other) in
    Each-append (NameBelow n) (occurrences_from inner p (q + k) children) (occurrences_from (after_field node) (p + count children) (q + k + blocks_in children) others)
    (names_below n children inner p (q + k) a.0) (names_below n others (after_field node) (p + count children) (q + k + blocks_in children) a.1)
names_below n (tree (texts v) children others) node p q h =
    let a = below_parts n (texts v) children others h in
    let inner = node_by (of_other) children (blocks_at q (here_in node).block) (here_in node) in
    let k = opens (of_other) in
    Each-append (NameBelow n) (occurrences_from inner p (q + k) children) (occurrences_from (after_field node) (p + count children) (q + k + blocks_in children) others)
    (names_below n children inner p (q + k) a.0) (names_below n others (after_field node) (p + count children) (q + k + blocks_in children) a.1)
names_below n (tree (truth v) children others) node p q h =
    let a = below_parts n (truth v) children others h in
    let inner = node_by (of_other) children (blocks_at q (here_in node).block) (here_in node) in
    let k = opens (of_other) in
    Each-append (NameBelow n) (occurrences_from inner p (q + k) children) (occurrences_from (after_field node) (p + count children) (q + k + blocks_in children) others)
    (names_below n children inner p (q + k) a.0) (names_below n others (after_field node) (p + count children) (q + k + blocks_in children) a.1)
names_below n (tree (unary v) children others) node p q h =
    let a = below_parts n (unary v) children others h in
    let inner = node_by (of_other) children (blocks_at q (here_in node).block) (here_in node) in
    let k = opens (of_other) in
    Each-append (NameBelow n) (occurrences_from inner p (q + k) children) (occurrences_from (after_field node) (p + count children) (q + k + blocks_in children) others)
    (names_below n children inner p (q + k) a.0) (names_below n others (after_field node) (p + count children) (q + k + blocks_in children) a.1)
names_below n (tree (binary v) children others) node p q h =
    let a = below_parts n (binary v) children others h in
    let inner = node_by (of_other) children (blocks_at q (here_in node).block) (here_in node) in
    let k = opens (of_other) in
    Each-append (NameBelow n) (occurrences_from inner p (q + k) children) (occurrences_from (after_field node) (p + count children) (q + k + blocks_in children) others)
    (names_below n children inner p (q + k) a.0) (names_below n others (after_field node) (p + count children) (q + k + blocks_in children) a.1)
names_below n (tree (assignment v) children others) node p q h =
    let a = below_parts n (assignment v) children others h in
    let inner = node_by (of_other) children (blocks_at q (here_in node).block) (here_in node) in
    let k = opens (of_other) in
    Each-append (NameBelow n) (occurrences_from inner p (q + k) children) (occurrences_from (after_field node) (p + count children) (q + k + blocks_in children) others)
    (names_below n children inner p (q + k) a.0) (names_below n others (after_field node) (p + count children) (q + k + blocks_in children) a.1)
names_below n (tree (space v) children others) node p q h =
    let a = below_parts n (space v) children others h in
    let inner = node_by (of_other) children (blocks_at q (here_in node).block) (here_in node) in
    let k = opens (of_other) in
    Each-append (NameBelow n) (occurrences_from inner p (q + k) children) (occurrences_from (after_field node) (p + count children) (q + k + blocks_in children) others)
    (names_below n children inner p (q + k) a.0) (names_below n others (after_field node) (p + count children) (q + k + blocks_in children) a.1)
names_below n (tree (access v) children others) node p q h =
    let a = below_parts n (access v) children others h in
    let inner = node_by (of_other) children (blocks_at q (here_in node).block) (here_in node) in
    let k = opens (of_other) in
    Each-append (NameBelow n) (occurrences_from inner p (q + k) children) (occurrences_from (after_field node) (p + count children) (q + k + blocks_in children) others)
    (names_below n children inner p (q + k) a.0) (names_below n others (after_field node) (p + count children) (q + k + blocks_in children) a.1)
names_below n (tree (path v) children others) node p q h =
    let a = below_parts n (path v) children others h in
    let inner = node_by (of_other) children (blocks_at q (here_in node).block) (here_in node) in
    let k = opens (of_other) in
    Each-append (NameBelow n) (occurrences_from inner p (q + k) children) (occurrences_from (after_field node) (p + count children) (q + k + blocks_in children) others)
    (names_below n children inner p (q + k) a.0) (names_below n others (after_field node) (p + count children) (q + k + blocks_in children) a.1)

pub names_there : (n : ℕ) (w : ℕ → Block) (xs : List found.Occurrence) → Each (NameBelow n) (map (told w) (map occurrence_view xs)) → All (λ o. o.ident.0 < n) xs
names_there n w [] h k d l = absurd (omega arith)
names_there n w (x ∷ xs) h zero d l = h.0
names_there n w (x ∷ xs) h (suc k) d l = names_there n w xs h.1 k d (omega arith)

pub unit_names : (n : ℕ) (u : UnitOf ℕ) → tree_below n u.imports ≡ true → tree_below n u.directives ≡ true → tree_below n u.declarations ≡ true → forest_below n (forest_of_unit u) ≡ true
unit_names n u a b c = rw (a, b, c) refl

abbrev pub module_node : Node Block
module_node = plain (record { block = []; held_block = []; is_local = false; declaration = None; words = false; excused = false })
