-- Two names, or two paths, have one number exactly where they are equal; so numbers and texts ask alike.
use Rattle.std.proofs.Common.{◌≡◌, Some, sym, ap, ◌∙◌}
use Rattle.std.specs.Prelude.{slice_get, bytes_eq, ◌==◌}
use Rattle.std.proofs.lemmas.Bool.Decides.{Decides-eqb}
use Rattle.std.proofs.lemmas.Slice.Eq.{bytes_eq-Decides}
use Rattle.wesl_tree_names.specs.Path.{Text, Path}
use Rattle.wesl_tree_names.specs.PathOrder.{same_path}
use Rattle.wesl_tree_names.proofs.Order.{same_path-decides}
use Rattle.wesl_cond_choices.specs.declared.place.Place.{Place}
use Rattle.wesl_link_symbols.specs.declared.ids.PathId.{PathId}
use Rattle.wesl_tree_base.specs.declared.ids.NameId.{NameId}
use Rattle.wesl_tree_interner.specs.Different.{AreDifferent}
use Rattle.wesl_link_split.specs.Grouped.{ids, same_id}
use Rattle.wesl_link_split.specs.Laws.{NameAsksAlike, AskAlike, NumbersAskAlike, NumbersDifferAlike}
use Rattle.wesl_link_split.specs.Numbering.{Numbering, NameAt, PathAt, IsNumberedScope}
use Rattle.wesl_link_split.specs.Split.{Scope}
use Rattle.wesl_link_split.specs.Uses.{texts}
use Rattle.wesl_link_split.proofs.Alike.{has_split_same, two_same, place_at_same, under_same, asked_same, unclear_same, imports_same, settled_same}
use Rattle.wesl_link_split.proofs.Targets.{same_bool}

module _ (k : Numbering) where
  names_agree : AreDifferent k.names → (m n : NameId) (x y : Text) → NameAt k m x → NameAt k n y → same_id m n ≡ bytes_eq x y
  names_agree different m n x y a b =
      same_bool (same_id m n) (bytes_eq x y)
      (λ h. let e : m.0 ≡ n.0 = (Decides-eqb m.0 n.0).0 h in
      let f : Some x ≡ Some y = sym a ∙ (ap (slice_get k.names) e ∙ b) in
      let g : x ≡ y = cc in (bytes_eq-Decides x y).1 g)
      (λ h. let e : x ≡ y = (bytes_eq-Decides x y).0 h in (Decides-eqb m.0 n.0).1 (different m.0 n.0 y (a ∙ ap Some e) b))

  paths_agree : AreDifferent k.paths → (p q : PathId) (x y : Path) → PathAt k p x → PathAt k q y → (p.0 == q.0) ≡ same_path x y
  paths_agree different p q x y a b =
      same_bool (p.0 == q.0) (same_path x y)
      (λ h. let e : p.0 ≡ q.0 = (Decides-eqb p.0 q.0).0 h in
      let f : Some x ≡ Some y = sym a ∙ (ap (slice_get k.paths) e ∙ b) in
      let g : x ≡ y = cc in (same_path-decides x y).1 g)
      (λ h. let e : x ≡ y = (same_path-decides x y).0 h in (Decides-eqb p.0 q.0).1 (different p.0 q.0 y (a ∙ ap Some e) b))

  module _ (dn : AreDifferent k.names) (dp : AreDifferent k.paths) (s : Scope PathId NameId) (t : Scope Path Text) (same : IsNumberedScope k s t) where
    name_asks : (n : NameId) (x : Text) (here : Place) → NameAt k n x → NameAsksAlike k s t n x here
    name_asks n x here at = record {
      place = place_at_same (PathAt k) (NameAt k) ids texts (paths_agree dp) (names_agree dn) s t same n x at here;
      under = λ p q r. under_same (PathAt k) (NameAt k) ids texts (paths_agree dp) (names_agree dn) s t same n x at here p q r;
      plain = asked_same (PathAt k) (NameAt k) ids texts (paths_agree dp) (names_agree dn) s t same n x at here;
      unclear = unclear_same (PathAt k) (NameAt k) ids texts (paths_agree dp) (names_agree dn) s t same n x at here;
      imports = imports_same (PathAt k) (NameAt k) ids texts (paths_agree dp) (names_agree dn) s t same n x at here;
    }

    module_asks : AskAlike k s t
    module_asks = record {
      has_split = has_split_same (PathAt k) (NameAt k) ids texts (paths_agree dp) (names_agree dn) s.binders t.binders same.binders;
      names = name_asks;
      settled = settled_same (PathAt k) (NameAt k) ids texts (paths_agree dp) (names_agree dn) s t same;
    }

pub ask_alike : NumbersAskAlike
ask_alike k dn dp s t same = module_asks k dn dp s t same

pub differ_alike : NumbersDifferAlike
differ_alike k dn dp bs cs h = two_same (PathAt k) (NameAt k) ids texts (paths_agree k dp) (names_agree k dn) bs cs h
