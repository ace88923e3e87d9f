-- The directives of a module, and their words.
use Rattle.std.proofs.Common.{◌≡◌, ℕ, zero, suc, ◌<◌, Bool, true, false, ◌&&◌, List, [], ◌∷◌, ◌++◌, length, map, get_or, refl, sym, ◌∙◌, ap, subst, arith}
use Rattle.std.proofs.lemmas.Bool.Decides.{Decides-ltb}
use Rattle.std.specs.Prelude.{String, string_bytes}
use Rattle.std.specs.declared.alloc.Global.{Global}
use Rattle.wesl_tree_names.specs.Path.{Text}
use Rattle.wesl_tree_names.specs.declared.names.Ident.{Ident}
use Rattle.wesl_tree_syntax.specs.Tree.{Tree, Forest, TreeOf, before, end, tree, kind, at, ident, text, texts, truth, unary, binary, assignment, space, access, path, forest_of, trees, identifiers, respell, respell_forest, forest_below, tree_below, directive_node}
use Rattle.wesl_tree_syntax.specs.Unit.{name_in}
use Rattle.wesl_tree_syntax.specs.View.{placed, directive_view}
use Rattle.wesl_tree_syntax.specs.declared.span.Spanned.{Spanned}
use Rattle.wesl_tree_syntax.specs.declared.declaration.GlobalDirective.{GlobalDirective}
use Rattle.wesl_link_assembly.specs.Denotations.{free_name}
use Rattle.wesl_link_assembly.specs.Views.{Meaning}
use Rattle.std.proofs.lemmas.Bool.{and_parts}

abbrev node_tree : Spanned GlobalDirective → Tree
node_tree = placed directive_view directive_node

abbrev pub spelled_node : List Text → Spanned GlobalDirective → TreeOf Text
spelled_node names d = respell (name_in names) (node_tree d)

pub directives_are : (names : List Text) (ds : List (Spanned GlobalDirective)) → map (spelled_node names) ds ≡ trees (respell_forest (name_in names) (forest_of (map node_tree ds)))
directives_are names [] = refl
directives_are names (d ∷ ds) = ap (λ ts. spelled_node names d ∷ ts) (directives_are names ds)

-- each directive has its identifiers in the table
pub each_below : (n : ℕ) (ds : List (Spanned GlobalDirective)) (i : ℕ) (d : Spanned GlobalDirective) → forest_below n (forest_of (map node_tree ds)) ≡ true → i < length ds → tree_below n (node_tree (get_or ds i d)) ≡ true
each_below n [] i d h l = absurd (omega (arith, l))
each_below n (e ∷ ds) zero d h l = (and_parts (tree_below n (node_tree e)) (forest_below n (forest_of (map node_tree ds))) h).0
each_below n (e ∷ ds) (suc i) d h l = each_below n ds i d (and_parts (tree_below n (node_tree e)) (forest_below n (forest_of (map node_tree ds))) h).1 (omega (arith, l))

-- ---- words

abbrev EachBelow : ℕ → List ℕ → Type 0
EachBelow n [] = Unit {0}
EachBelow n (m ∷ ms) = (m < n) × EachBelow n ms

each_joined : (n : ℕ) (xs ys : List ℕ) → EachBelow n xs → EachBelow n ys → EachBelow n (xs ++ ys)
each_joined n [] ys a b = b
each_joined n (x ∷ xs) ys a b = (a.0, each_joined n xs ys a.1 b)

identifiers_below : (n : ℕ) (f : Forest) → forest_below n f ≡ true → EachBelow n (identifiers f)
identifiers_below n end h = tt
identifiers_below n (tree (ident r x) children others) h =
    let t = and_parts (tree_below n (record { label = ident r x; children = children })) (forest_below n others) h in
    ((Decides-ltb x n).0 (and_parts _ (forest_below n children) t.0).0, identifiers_below n others t.1)
identifiers_below n (tree (kind k) children others) h =
    let t = and_parts (forest_below n children) (forest_below n others) h in each_joined n (identifiers children) (identifiers others) (identifiers_below n children t.0) (identifiers_below n others t.1)
identifiers_below n (tree (at k i j) children others) h =
    let t = and_parts (forest_below n children) (forest_below n others) h in each_joined n (identifiers children) (identifiers others) (identifiers_below n children t.0) (identifiers_below n others t.1)
identifiers_below n (tree (text y) children others) h =
    let t = and_parts (forest_below n children) (forest_below n others) h in each_joined n (identifiers children) (identifiers others) (identifiers_below n children t.0) (identifiers_below n others t.1)
identifiers_below n (tree (texts y) children others) h =
    let t = and_parts (forest_below n children) (forest_below n others) h in each_joined n (identifiers children) (identifiers others) (identifiers_below n children t.0) (identifiers_below n others t.1)
identifiers_below n (tree (truth y) children others) h =
    let t = and_parts (forest_below n children) (forest_below n others) h in each_joined n (identifiers children) (identifiers others) (identifiers_below n children t.0) (identifiers_below n others t.1)
identifiers_below n (tree (unary y) children others) h =
    let t = and_parts (forest_below n children) (forest_below n others) h in each_joined n (identifiers children) (identifiers others) (identifiers_below n children t.0) (identifiers_below n others t.1)
identifiers_below n (tree (binary y) children others) h =
    let t = and_parts (forest_below n children) (forest_below n others) h in each_joined n (identifiers children) (identifiers others) (identifiers_below n children t.0) (identifiers_below n others t.1)
identifiers_below n (tree (assignment y) children others) h =
    let t = and_parts (forest_below n children) (forest_below n others) h in each_joined n (identifiers children) (identifiers others) (identifiers_below n children t.0) (identifiers_below n others t.1)
identifiers_below n (tree (space y) children others) h =
    let t = and_parts (forest_below n children) (forest_below n others) h in each_joined n (identifiers children) (identifiers others) (identifiers_below n children t.0) (identifiers_below n others t.1)
identifiers_below n (tree (access y) children others) h =
    let t = and_parts (forest_below n children) (forest_below n others) h in each_joined n (identifiers children) (identifiers others) (identifiers_below n children t.0) (identifiers_below n others t.1)
identifiers_below n (tree (path y) children others) h =
    let t = and_parts (forest_below n children) (forest_below n others) h in each_joined n (identifiers children) (identifiers others) (identifiers_below n children t.0) (identifiers_below n others t.1)

abbrev numbers_of : List Ident → List ℕ
numbers_of = map (λ i. i.0)

place_below : (n : ℕ) (xs : List Ident) (k : ℕ) (d : Ident) → EachBelow n (numbers_of xs) → k < length xs → (get_or xs k d).0 < n
place_below n [] k d b h = absurd (omega (arith, h))
place_below n (x ∷ xs) zero d b h = b.0
place_below n (x ∷ xs) (suc k) d b h = place_below n xs k d b.1 (omega (arith, h))

-- each has a name in the table
pub word_below : (n : ℕ) (t : Tree) (xs : List Ident) (k : ℕ) (d : Ident) → numbers_of xs ≡ identifiers (before t end) → tree_below n t ≡ true → k < length xs → (get_or xs k d).0 < n
word_below n t xs k d e b h = place_below n xs k d (subst (EachBelow n) (sym e) (identifiers_below n (before t end) (alone (tree_below n t) b))) h
  where
    alone : (a : Bool) → a ≡ true → (a && true) ≡ true
    alone true h = refl
    alone false h = h

abbrev pub word_of : List Text → Ident → Text
word_of names i = name_in names i.0

words_told : (names : List Text) (xs : List Ident) → map (word_of names) xs ≡ map (name_in names) (numbers_of xs)
words_told names [] = refl
words_told names (x ∷ xs) = ap (λ ws. word_of names x ∷ ws) (words_told names xs)

pub words_are : (names : List Text) (f : Forest) (xs : List Ident) → numbers_of xs ≡ identifiers f → map (word_of names) xs ≡ map (name_in names) (identifiers f)
words_are names f xs e = words_told names xs ∙ ap (map (name_in names)) e

-- what words stand for
abbrev pub word_meaning : String Global → Meaning
word_meaning w = free_name (string_bytes w)

pub meanings_told : (ws : List (String Global)) → map word_meaning ws ≡ map free_name (map string_bytes ws)
meanings_told [] = refl
meanings_told (w ∷ ws) = ap (λ ms. word_meaning w ∷ ms) (meanings_told ws)
