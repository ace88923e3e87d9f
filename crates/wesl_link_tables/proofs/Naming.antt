-- The names of a module and of its declarations, by numbers.
use Rattle.std.proofs.Common.{◌≡◌, ℕ, zero, suc, ◌<◌, ◌+◌, Option, Some, None, List, [], ◌∷◌, ◌++◌, map, length, get_or, take, arith, refl, sym, subst, ap, ◌∙◌}
use Rattle.std.specs.Prelude.{option_map}
use mathlib.Core.List.{map-map}
use Rattle.wesl_tree_names.specs.Path.{Text}
use Rattle.wesl_tree_names.specs.declared.names.Ident.{Ident}
use Rattle.wesl_tree_syntax.specs.Tree.{Tree, trees, forest_of, respell, respell_forest, declaration_node}
use Rattle.wesl_tree_syntax.specs.Unit.{name_in}
use Rattle.wesl_tree_syntax.specs.View.{global_view, placed}
use Rattle.wesl_tree_syntax.specs.declared.span.Spanned.{Spanned}
use Rattle.wesl_tree_syntax.specs.declared.declaration.GlobalDeclaration.{GlobalDeclaration}
use Rattle.wesl_tree_base.specs.declared.ids.NameId.{NameId}
use Rattle.wesl_link_tables.specs.Numbering.{Numbering, AreRelated, IsRelatedOption, Grows, NameAt}
use Rattle.wesl_link_tables.specs.Tables.{declared_name, name_of}
use Rattle.wesl_link_tables.proofs.Declared.{name_respelled, trees_respelled}
use Rattle.wesl_link_tables.proofs.Lists.{related_append}
use Rattle.wesl_link_tables.proofs.Nodes.{trees-forest_of}
use Rattle.wesl_link_tables.proofs.Related.{name_later, name_option_later, map_next}

abbrev pub node_name : List Text → Spanned GlobalDeclaration → Option Text
node_name names x = name_of (respell (name_in names) (placed global_view declaration_node x))

-- the name of a declaration of the code
pub node_named : (names : List Text) (x : Spanned GlobalDeclaration) (o : Option Ident) → option_map (λ i. i.0) o ≡ declared_name (global_view x.node).children → option_map (λ i. name_in names i.0) o ≡ node_name names x
node_named names x o e = sym (name_respelled (name_in names) (global_view x.node).children ∙ (ap (option_map (name_in names)) (sym e) ∙ twice o))
  where
    twice : (o : Option Ident) → option_map (name_in names) (option_map (λ i. i.0) o) ≡ option_map (λ i. name_in names i.0) o
    twice None = refl
    twice (Some i) = refl

pub node_names : (names : List Text) (xs : List (Spanned GlobalDeclaration)) → map (node_name names) xs ≡ map name_of (trees (respell_forest (name_in names) (forest_of (map (placed global_view declaration_node) xs))))
node_names names xs =
    let f : ℕ → Text = name_in names in
    let nodes : List Tree = map (placed global_view declaration_node) xs in
    let apart : map name_of (map (respell f) nodes) ≡ map (node_name names) xs = simp map-map in
    sym (ap (map name_of) (trees_respelled f (forest_of nodes) ∙ ap (map (respell f)) (trees-forest_of nodes)) ∙ apart)

-- the names of the declarations of a tree that is known by another name
pub declared_are : (names xs : List Text) (t u : Tree) → names ≡ xs → t ≡ u → map name_of (trees (respell (name_in names) t).children) ≡ map name_of (trees (respell (name_in xs) u).children)
declared_are names xs t u e f = ap (λ ns. map name_of (trees (respell (name_in ns) t).children)) e ∙ ap (λ v. map name_of (trees (respell (name_in xs) v).children)) f

module _ (a b : Numbering) (g : Grows a b) where
  -- one name more
  pub names_one : (ns : List NameId) (xs : List Text) (n : NameId) (x : Text) → AreRelated (NameAt a) ns xs → NameAt b n x → AreRelated (NameAt b) (ns ++ n ∷ []) (xs ++ x ∷ [])
  names_one ns xs n x h at = related_append (NameAt a) (NameAt b) (name_later a b g) ns (n ∷ []) xs (x ∷ []) h (at, tt)

  -- the name of one declaration more, if it binds one
  pub named_next : (names : List Text) (xs : List (Spanned GlobalDeclaration)) (i : ℕ) (x : Spanned GlobalDeclaration) (ns : List (Option NameId)) (n : Option NameId) (o : Option Ident) → i < length xs → x ≡ get_or xs i x
      → option_map (λ i. i.0) o ≡ declared_name (global_view x.node).children → AreRelated (IsRelatedOption (NameAt a)) ns (map (node_name names) (take i xs)) → IsRelatedOption (NameAt b) n (option_map (λ i. name_in names i.0) o)
      → AreRelated (IsRelatedOption (NameAt b)) (ns ++ n ∷ []) (map (node_name names) (take (i + 1) xs))
  named_next names xs i x ns n o bound is e h at =
      subst (λ os. AreRelated (IsRelatedOption (NameAt b)) (ns ++ n ∷ []) os) (sym (map_next (node_name names) xs i x bound is))
      (related_append (IsRelatedOption (NameAt a)) (IsRelatedOption (NameAt b)) (name_option_later a b g) ns (n ∷ []) (map (node_name names) (take i xs)) (node_name names x ∷ []) h
      (subst (λ p. IsRelatedOption (NameAt b) n p) (node_named names x o e) at, tt))

-- lists whose elements are related are as long, and so are the elements at a place
module _ {X Y : Type 0} (R : X → Y → Type 0) where
  pub related_length : (xs : List X) (ys : List Y) → AreRelated R xs ys → length xs ≡ length ys
  related_length [] [] h = refl
  related_length (x ∷ xs) (y ∷ ys) h = ap suc (related_length xs ys h.1)
  related_length [] (y ∷ ys) h = absurd h
  related_length (x ∷ xs) [] h = absurd h

  pub related_at : (xs : List X) (ys : List Y) (i : ℕ) (x : X) (d : Y) → AreRelated R xs ys → i < length xs → x ≡ get_or xs i x → R x (get_or ys i d)
  related_at [] ys i x d h l e = absurd (omega (arith, l))
  related_at (z ∷ xs) [] i x d h l e = absurd h
  related_at (z ∷ xs) (y ∷ ys) (suc i) x d h l e = related_at xs ys i x d h.1 (omega (arith, l)) e
  related_at (z ∷ xs) (y ∷ ys) zero x d h l e = subst (λ v. R v y) (sym e) h.0
