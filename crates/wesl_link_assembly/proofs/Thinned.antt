-- One more directive.
use Rattle.std.proofs.Common.{◌≡◌, Some, List, [], ◌∷◌, ◌++◌, map, refl, sym, ◌∙◌, ap}
use Rattle.std.specs.Prelude.{Vec}
use Rattle.std.specs.declared.alloc.Global.{Global}
use Rattle.wesl_tree_names.specs.Path.{Text}
use Rattle.wesl_tree_syntax.specs.Tree.{Tree, TreeOf, end, before, forest_of, identifiers, respell, directive_node}
use Rattle.wesl_tree_syntax.specs.Unit.{name_in}
use Rattle.wesl_tree_syntax.specs.View.{placed, directive_view}
use Rattle.wesl_tree_syntax.specs.declared.span.Spanned.{Spanned}
use Rattle.wesl_tree_syntax.specs.declared.declaration.GlobalDirective.{GlobalDirective}
use Rattle.wesl_link_assembly.specs.Linked.{shape}
use Rattle.wesl_link_assembly.specs.Directives.{last, AreThinned}
use Rattle.wesl_link_assembly.specs.Directives.Thins.{none as none_thinned, other, again}
use Rattle.wesl_link_assembly.proofs.Replaced.{replaced_twice, identifiers_replaced}
use Rattle.wesl_link_assembly.proofs.SideBySide.{side_by_side, forests_joined, shapes_joined, identifiers_joined}
use Rattle.wesl_link_assembly.proofs.Retold.{forget}

abbrev Nodes : Type 0
Nodes = Vec (Spanned GlobalDirective) Global

abbrev node_trees : Nodes → List Tree
node_trees v = map (placed directive_view directive_node) v.items

pub last_is : {X : Type 0} (xs : List X) (x : X) → last (xs ++ x ∷ []) ≡ Some x
last_is [] x = refl
last_is (y ∷ []) x = refl
last_is (y ∷ z ∷ xs) x = last_is (z ∷ xs) x

shape_more : {I J : Type 0} (ts : List (TreeOf I)) (us : List (TreeOf J)) (t : TreeOf I) (u : TreeOf J) → shape (forest_of ts) ≡ shape (forest_of us) → shape (before t end) ≡ shape (before u end) → shape (forest_of (ts ++ t ∷ [])) ≡ shape (forest_of (us ++ u ∷ []))
shape_more ts us t u e f =
    ap shape (forests_joined ts (t ∷ []))
    ∙ (shapes_joined (forest_of ts) (before t end)
    ∙ (ap (λ x. side_by_side x (shape (before t end))) e
    ∙ (ap (λ x. side_by_side (shape (forest_of us)) x) f
    ∙ (sym (shapes_joined (forest_of us) (before u end)) ∙ ap shape (sym (forests_joined us (u ∷ [])))))))

-- none yet
pub none_yet : (nodes : Nodes) (words : List Text) → nodes.items ≡ [] → words ≡ [] → AreThinned [] nodes words
none_yet nodes words e f = record { kept = []; thinned = none_thinned; same_shape = ap (λ xs. shape (forest_of (map (placed directive_view directive_node) xs))) e; words_are = f }

-- one that stays
pub stays : (all : List (TreeOf Text)) (old new : Nodes) (ws vs : List Text) (names : List Text) (t : Tree) → (last all ≡ Some (respell (name_in names) t) → ⊥)
    → node_trees new ≡ node_trees old ++ t ∷ [] → vs ≡ ws ++ map (name_in names) (identifiers (before t end))
    → AreThinned all old ws → AreThinned (all ++ respell (name_in names) t ∷ []) new vs
stays all old new ws vs names t fresh nodes words s =
    let x = respell (name_in names) t in
    record {
      kept = s.kept ++ x ∷ [];
      thinned = other all s.kept x s.thinned fresh;
      same_shape =
          ap (λ ts. shape (forest_of ts)) nodes
          ∙ shape_more (node_trees old) s.kept t x s.same_shape (replaced_twice (name_in names) forget forget (λ y. refl) (before t end));
      words_are =
          words
          ∙ (ap (λ us. us ++ map (name_in names) (identifiers (before t end))) s.words_are
          ∙ (ap (λ ns. identifiers (forest_of s.kept) ++ ns) (sym (identifiers_replaced (name_in names) (before t end)))
          ∙ (sym (identifiers_joined (forest_of s.kept) (before x end)) ∙ ap identifiers (sym (forests_joined s.kept (x ∷ []))))));
    }

-- one that equals the one before it
pub goes : (all : List (TreeOf Text)) (nodes : Nodes) (ws : List Text) (x : TreeOf Text) → last all ≡ Some x → AreThinned all nodes ws → AreThinned (all ++ x ∷ []) nodes ws
goes all nodes ws x e s = record { kept = s.kept; thinned = again all s.kept x s.thinned e; same_shape = s.same_shape; words_are = s.words_are }
