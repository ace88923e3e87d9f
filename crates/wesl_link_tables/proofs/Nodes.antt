-- Nodes of the code, their trees, and what is found in them.
use Rattle.std.proofs.Common.{◌≡◌, ℕ, zero, suc, ◌+◌, ◌<◌, List, [], ◌∷◌, ◌++◌, map, take, length, get_or, Vec, Global, arith, refl, sym, ◌∙◌, ap, rules, append_assoc, append-nil}
use mathlib.Core.List.{map-map}
use Rattle.wesl_tree_names.specs.Path.{Path}
use Rattle.wesl_tree_syntax.specs.Tree.{TreeOf, trees, forest_of, branch, import_collection, import_node, list}
use Rattle.wesl_tree_syntax.specs.View.{entry_view, item_view, listed, content_view, import_view, placed}
use Rattle.wesl_tree_syntax.specs.declared.span.Spanned.{Spanned}
use Rattle.wesl_tree_syntax.specs.declared.import.ImportStatement.{ImportStatement}
use Rattle.wesl_tree_syntax.specs.declared.import.Import.{Import}
use Rattle.wesl_tree_syntax.specs.declared.import.ImportItem.{ImportItem}
use Rattle.wesl_tree_syntax.specs.declared.import.ImportContent.{ImportContent, the_lemmas, Item, Collection}
use Rattle.wesl_cond_choices.specs.declared.place.Place.{Place}
use Rattle.wesl_cond_choices.specs.declared.place.Place.TheVariants as places
use Rattle.wesl_link_symbols.specs.declared.symbols.Import as world
use Rattle.wesl_link_tables.specs.Imports as spec
use Rattle.wesl_link_tables.specs.Imports.{statement_imports, all_imports}

pub view_item : (x : ImportContent) (i : ImportItem) → x ≡ Item i → content_view x ≡ item_view i
view_item x i is = ap content_view is ∙ shown
  where
    shown : content_view (Item i) ≡ item_view i
    shown = search (rules, the_lemmas)

pub view_collection : (x : ImportContent) (es : Vec Import Global) → x ≡ Collection es → content_view x ≡ branch import_collection (listed entry_view list es ∷ [])
view_collection x es is = ap content_view is ∙ shown
  where
    shown : content_view (Collection es) ≡ branch import_collection (listed entry_view list es ∷ [])
    shown = search (rules, the_lemmas, map-map)

pub trees-forest_of : {I : Type 0} (ts : List (TreeOf I)) → trees (forest_of ts) ≡ ts
trees-forest_of [] = refl
trees-forest_of (t ∷ ts) = ap (λ us. t ∷ us) (trees-forest_of ts)

-- the statements of the code from this number on, and the imports of one
abbrev pub imports_of : Path → Place → Spanned ImportStatement → List (world.Import Path ℕ)
imports_of own stands s = statement_imports own stands (import_view s.node).children

abbrev pub imports_from : Path → ℕ → List (Spanned ImportStatement) → List (world.Import Path ℕ)
imports_from own j [] = []
imports_from own j (x ∷ xs) = imports_of own (places.Import j) x ++ imports_from own (suc j) xs

-- one statement more
pub imports_next : (own : Path) (j : ℕ) (xs : List (Spanned ImportStatement)) (i : ℕ) (x : Spanned ImportStatement) → i < length xs → x ≡ get_or xs i x
    → imports_from own j (take (i + 1) xs) ≡ imports_from own j (take i xs) ++ imports_of own (places.Import (j + i)) x
imports_next own j [] i x b e = absurd (omega (arith, b))
imports_next own j (y ∷ xs) zero x b e =
    let n : j + zero ≡ j = omega arith in
    append-nil (imports_of own (places.Import j) y) ∙ (ap (imports_of own (places.Import j)) (sym e) ∙ ap (λ k. imports_of own (places.Import k) x) (sym n))
imports_next own j (y ∷ xs) (suc i) x b e =
    let n : suc i + 1 ≡ suc (i + 1) = omega arith in
    let m : suc j + i ≡ j + suc i = omega arith in
    let first : List (world.Import Path ℕ) = imports_of own (places.Import j) y in
    ap (λ k. imports_from own j (take k (y ∷ xs))) n
    ∙ (ap (λ l. first ++ l) (imports_next own (suc j) xs i x (omega (arith, b)) e)
    ∙ (sym (append_assoc first (imports_from own (suc j) (take i xs)) (imports_of own (places.Import (suc j + i)) x))
    ∙ ap (λ k. (first ++ imports_from own (suc j) (take i xs)) ++ imports_of own (places.Import k) x) m))

-- and all of them
pub imports_from-all : (own : Path) (j : ℕ) (xs : List (Spanned ImportStatement)) → spec.imports_from own j (map (placed import_view import_node) xs) ≡ imports_from own j xs
imports_from-all own j [] = refl
imports_from-all own j (x ∷ xs) = ap (λ l. imports_of own (places.Import j) x ++ l) (imports_from-all own (suc j) xs)

pub all_imports-all : (own : Path) (xs : List (Spanned ImportStatement)) → all_imports own (forest_of (map (placed import_view import_node) xs)) ≡ imports_from own 0 xs
all_imports-all own xs = ap (spec.imports_from own 0) (trees-forest_of (map (placed import_view import_node) xs)) ∙ imports_from-all own 0 xs
