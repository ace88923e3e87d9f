-- One more directive is met, and the directives of a module one after the other.
use Rattle.std.proofs.Common.{◌≡◌, ℕ, ◌+◌, ◌<◌, Some, List, [], ◌∷◌, ◌++◌, length, map, get_or, take, sym, ◌∙◌, ap, subst, append_assoc}
use Rattle.std.specs.Prelude.{flat_map}
use Rattle.std.proofs.lemmas.List.{map-append, take_more}
use denote.Ref.{Bor}
use Rattle.wesl_tree_names.specs.Path.{Text}
use Rattle.wesl_tree_syntax.specs.Tree.{Tree, TreeOf, before, end, identifiers, respell, directive_node}
use Rattle.wesl_tree_syntax.specs.Unit.{name_in}
use Rattle.wesl_tree_syntax.specs.View.{placed, directive_view, texts_of}
use Rattle.wesl_tree_syntax.specs.declared.span.Spanned.{Spanned}
use Rattle.wesl_tree_syntax.specs.declared.declaration.GlobalDirective.{GlobalDirective}
use Rattle.wesl_tree.specs.Translation.{unit_view}
use Rattle.wesl_tree.specs.declared.unit.TranslationUnit.{TranslationUnit}
use Rattle.wesl_link_assembly.specs.Directives.{directives_of, all_directives}
use Rattle.wesl_link_assembly.specs.Thinning.{told, IsThinning}
use Rattle.wesl_link_assembly.specs.declared.directives.Directives.{Directives}
use Rattle.wesl_link_assembly.specs.declared.thinning.Met.{Met}
use Rattle.wesl_link_assembly.specs.declared.thinning.Thinning.{Thinning}
use Rattle.wesl_link_assembly.proofs.Thinned.{last_is, stays, goes}
use Rattle.wesl_link_assembly.proofs.Words.{spelled_node}
use Rattle.wesl_scope_occurrences.proofs.Cutting.{append_nil}

abbrev node_of : Met → Tree
node_of m = placed directive_view directive_node m.directive.now

abbrev spelled_as : Met → TreeOf Text
spelled_as m = respell (name_in m.names.now) (node_of m)

pub one_stays : (all : List (TreeOf Text)) (old : Thinning) (d e : Directives) (m : Met) → (told old.last ≡ Some (spelled_as m) → ⊥) → d ≡ e
    → map (placed directive_view directive_node) e.nodes.items ≡ map (placed directive_view directive_node) old.directives.nodes.items ++ node_of m ∷ []
    → texts_of e.words ≡ texts_of old.directives.words ++ map (name_in m.names.now) (identifiers (before (node_of m) end))
    → IsThinning all old → IsThinning (all ++ spelled_as m ∷ []) (record { directives = d; last = Some m })
one_stays all old d e m fresh same nodes words s =
    subst (λ (x : Directives). IsThinning (all ++ spelled_as m ∷ []) (record { directives = x; last = Some m })) (sym same)
    (record {
      thinned = stays all old.directives.nodes e.nodes (texts_of old.directives.words) (texts_of e.words) m.names.now (node_of m) (λ h. fresh (sym s.last_met ∙ h)) nodes words s.thinned;
      last_met = last_is all (spelled_as m);
    })

pub one_goes : (all : List (TreeOf Text)) (old : Thinning) (d : Directives) (m : Met) → told old.last ≡ Some (spelled_as m) → d ≡ old.directives
    → IsThinning all old → IsThinning (all ++ spelled_as m ∷ []) (record { directives = d; last = Some m })
one_goes all old d m again same s =
    subst (λ (x : Directives). IsThinning (all ++ spelled_as m ∷ []) (record { directives = x; last = Some m })) (sym same)
    (record {
      thinned = goes all old.directives.nodes (texts_of old.directives.words) (spelled_as m) (s.last_met ∙ again) s.thinned;
      last_met = last_is all (spelled_as m);
    })

-- the directives of a module as far as the next one
pub next_met : (names : List Text) (all : List (TreeOf Text)) (xs : List (Spanned GlobalDirective)) (i : ℕ) (x : Spanned GlobalDirective) → i < length xs → x ≡ get_or xs i x
    → (all ++ map (spelled_node names) (take i xs)) ++ spelled_node names x ∷ [] ≡ all ++ map (spelled_node names) (take (i + 1) xs)
next_met names all xs i x h is =
    append_assoc all (map (spelled_node names) (take i xs)) (spelled_node names x ∷ [])
    ∙ ap (λ ts. all ++ ts) (sym (ap (map (spelled_node names)) (take_more xs i x h)
    ∙ (map-append (spelled_node names) (take i xs) (get_or xs i x ∷ []) ∙ ap (λ y. map (spelled_node names) (take i xs) ++ spelled_node names y ∷ []) (sym is))))

flat_more : {X Y : Type 0} (f : X → List Y) (xs : List X) (x : X) → flat_map f (xs ++ x ∷ []) ≡ flat_map f xs ++ f x
flat_more f [] x = append_nil (f x)
flat_more f (y ∷ ys) x = ap (λ zs. f y ++ zs) (flat_more f ys x) ∙ sym (append_assoc (f y) (flat_map f ys) (f x))

abbrev pub units_view : List (Bor TranslationUnit) → List (TreeOf Text)
units_view us = all_directives (map (λ u. unit_view u.now) us)

-- the modules as far as the next one
pub next_unit : (us : List (Bor TranslationUnit)) (i : ℕ) (u : Bor TranslationUnit) → i < length us → u ≡ get_or us i u → units_view (take i us) ++ directives_of (unit_view u.now) ≡ units_view (take (i + 1) us)
next_unit us i u h is =
    ap (λ (v : Bor TranslationUnit). units_view (take i us) ++ directives_of (unit_view v.now)) is
    ∙ sym (ap units_view (take_more us i u h)
    ∙ (ap all_directives (map-append (λ (w : Bor TranslationUnit). unit_view w.now) (take i us) (get_or us i u ∷ []))
    ∙ flat_more directives_of (map (λ (w : Bor TranslationUnit). unit_view w.now) (take i us)) (unit_view (get_or us i u).now)))
