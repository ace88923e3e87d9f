-- The declarations of a table, one after the other.
use Rattle.std.proofs.Common.{◌≡◌, ℕ, suc, ◌+◌, ◌<◌, ◌≤◌, Option, None, List, [], ◌∷◌, ◌++◌, map, length, get_or, take, arith, sym, subst, ap, ◌∙◌}
use Rattle.std.specs.Prelude.{flat_map}
use Rattle.std.specs.Global.{Vec}
use Rattle.std.proofs.lemmas.List.{length-map}
use Rattle.wesl_tree_names.specs.Path.{Text, Path}
use Rattle.wesl_tree_syntax.specs.Tree.{TreeOf, end, kind, void, declarations, respell_label}
use Rattle.wesl_tree_syntax.specs.Unit.{name_in}
use Rattle.wesl_cond_choices.specs.declared.place.Place.TheVariants as places
use Rattle.wesl_link_symbols.specs.declared.ids.PathId.{PathId}
use Rattle.wesl_tree_base.specs.declared.ids.NameId.{NameId}
use Rattle.wesl_link_symbols.specs.Tables.{Declaration}
use Rattle.wesl_scope_occurrences.specs.Occurrences.{occurrences}
use Rattle.wesl_scope_occurrences.specs.Pieces.{declarations_in, starts_from}
use Rattle.wesl_scope_occurrences.proofs.Cutting.{total, whole_length}
use Rattle.wesl_link_tables.specs.Marks.{IsMark, AreMarked}
use Rattle.wesl_link_tables.specs.Numbering.{Numbering, AreRelated, IsRelatedOption, SameDeclaration, Grows, NameAt, PathAt, AreNumberedNames, AreNumberedReferences, AreNumberedDeclarations}
use Rattle.wesl_link_tables.specs.Reading.{IsRead, view_in, unit_in, own_path, scope_in, all_uses, span, references_in, unclear_names}
use Rattle.wesl_link_split.specs.Grouped.{ids}
use Rattle.wesl_link_split.specs.Laws.{AskAlike}
use Rattle.wesl_link_split.specs.ScopeView.{scope_view}
use Rattle.wesl_link_split.specs.Split as split
use Rattle.wesl_link_split.specs.Split.{Scope}
use Rattle.wesl_link_tables.specs.Tables.{name_of, uses, declaration_of, declarations_from}
use Rattle.wesl_link_tables.specs.Uses.{Use, asked, unclear_in}
use Rattle.wesl_link_tables.specs.declared.marks.Asked.{Asked}
use Rattle.wesl_link_tables.specs.declared.marks.Mark.{Mark}
use Rattle.wesl_link_tables.specs.declared.reading.Reading.{Reading}
use Rattle.wesl_link_tables.proofs.Added.{mark_later}
use Rattle.wesl_link_tables.proofs.Alike.{place_alike}
use Rattle.wesl_link_tables.proofs.Lists.{get_mapped, related_more, related_append}
use Rattle.wesl_link_tables.proofs.Naming.{related_length, related_at}
use Rattle.wesl_link_tables.proofs.Pieced.{first_in, cut_length, starts_length, piece_at, piece_inside, starts_spelled, uses_cut}
use Rattle.wesl_link_tables.proofs.Related.{declarations_more, name_option_later}
use Rattle.wesl_link_tables.proofs.Seen.{declarations_at, declarations_length, uses_length}
use Rattle.wesl_link_split.proofs.Lists.{take_one}
use Rattle.wesl_link_split.proofs.Orders.{itself}

-- marks stay right as names and paths are added
pub marks_more : (a b : Numbering) → Grows a b → (ms vs : List (Vec Mark)) (us ws : List (List (Use Path Text))) → AreMarked a ms us → AreMarked b vs ws → AreMarked b (ms ++ vs) (us ++ ws)
marks_more a b g ms vs us ws h k =
    related_append (λ m u. AreRelated (IsMark a) m.items u) (λ m u. AreRelated (IsMark b) m.items u) (λ m u. related_more (IsMark a) (IsMark b) (mark_later a b g) m.items u) ms vs us ws h k

any_tree : TreeOf Text
any_tree = record { label = kind void; children = end }

-- names for numbers leave the label
label_kept : (r : Reading) → IsRead r → (unit_in r).declarations.label ≡ kind declarations
label_kept r read = ap (respell_label (name_in (view_in r).names)) read.label

pub pieces_length : (r : Reading) → length (uses (own_path r) (unit_in r)) ≡ length (declarations_in (unit_in r))
pieces_length r = ap length (uses_cut r) ∙ cut_length (declarations_in (unit_in r)) _

-- the declarations of the table
abbrev pub made_in : Reading → List (Declaration Path Text)
made_in r = declarations_from (scope_in r) 0 (declarations_in (unit_in r)) (uses (own_path r) (unit_in r))

pub made_length : (r : Reading) → length (made_in r) ≡ length (declarations_in (unit_in r))
made_length r = declarations_length (scope_in r) 0 (declarations_in (unit_in r)) (uses (own_path r) (unit_in r)) (sym (pieces_length r))

pub names_length : (r : Reading) (nb : Numbering) (names : List (Option NameId)) → AreRelated (IsRelatedOption (NameAt nb)) names (map name_of (declarations_in (unit_in r))) → length names ≡ length (declarations_in (unit_in r))
names_length r nb names h = related_length (IsRelatedOption (NameAt nb)) names (map name_of (declarations_in (unit_in r))) h ∙ length-map (declarations_in (unit_in r)) name_of

pub names_more : (a b : Numbering) → Grows a b → (names : List (Option NameId)) (os : List (Option Text)) → AreRelated (IsRelatedOption (NameAt a)) names os → AreRelated (IsRelatedOption (NameAt b)) names os
names_more a b g names os h = related_more (IsRelatedOption (NameAt a)) (IsRelatedOption (NameAt b)) (name_option_later a b g) names os h

module _ (r : Reading) (read : IsRead r) where
  abbrev nodes : List (TreeOf Text)
  nodes = declarations_in (unit_in r)

  abbrev pieces_used : List (List (Use Path Text))
  pieces_used = uses (own_path r) (unit_in r)

  abbrev first_places : List ℕ
  first_places = r.senses.now.starts.items

  abbrev whole : ℕ
  whole = length r.senses.now.all.items

  places_are : first_places ≡ starts_from (first_in r) nodes
  places_are = read.senses.starts ∙ sym (starts_spelled (view_in r))

  pub places_length : length first_places ≡ length nodes
  places_length = ap length places_are ∙ starts_length (first_in r) nodes

  whole_is : whole ≡ first_in r + total nodes
  whole_is = sym (uses_length r read) ∙ (length-map (occurrences (unit_in r)) _ ∙ whole_length (unit_in r) (label_kept r read))

  module _ (k from to : ℕ) (bound : k < length nodes) (at : from ≡ get_or first_places k from) (until : to ≡ get_or first_places (suc k) whole) where
    here : from ≡ get_or (starts_from (first_in r) nodes) k from
    here = at ∙ ap (λ l. get_or l k from) places_are

    there : to ≡ get_or (starts_from (first_in r) nodes) (suc k) whole
    there = until ∙ ap (λ l. get_or l (suc k) whole) places_are

    pub piece_bounds : (from ≤ to) × (to ≤ whole)
    piece_bounds = let (a, b) = piece_inside nodes (first_in r) whole k from bound whole_is in (omega (arith, a, here, there), omega (arith, b, there))

    pub piece_is : get_or pieces_used k [] ≡ span from to (all_uses r)
    piece_is =
        ap (λ l. get_or l k []) (uses_cut r)
        ∙ (piece_at nodes (first_in r) whole k from (all_uses r) [] bound whole_is
        ∙ (ap (λ n. span n (get_or (starts_from (first_in r) nodes) (suc k) whole) (all_uses r)) (sym here) ∙ ap (λ n. span from n (all_uses r)) (sym there)))

    module _ (a b : Numbering) (g : Grows a b) where
      -- one declaration more
      pub declared_next : AskAlike b (scope_view r.scope.now) (scope_in r) → (names : List (Option NameId)) (name : Option NameId) → AreRelated (IsRelatedOption (NameAt b)) names (map name_of nodes) → name ≡ get_or names k name
          → (found : Asked) → AreNumberedReferences b found.references.items (references_in r from to) → AreNumberedNames b found.unclear.items (unclear_names r from to) → (d : Declaration PathId NameId)
          → d ≡ record { name = name; place = split.place_of ids (scope_view r.scope.now) name (places.Declaration k); references = found.references.items; unclear = found.unclear.items }
          → (ds : List (Declaration PathId NameId)) → AreNumberedDeclarations a ds (take k (made_in r)) → AreNumberedDeclarations b (ds ++ d ∷ []) (take (k + 1) (made_in r))
      declared_next alike names name named is found refs doubts d d_is ds h =
          let s : Scope Path Text = scope_in r in
          let t : TreeOf Text = get_or nodes k any_tree in
          let us : List (Use Path Text) = get_or pieces_used k [] in
          let made : List (Declaration Path Text) = made_in r in
          let e : Declaration Path Text = declaration_of s k t us in
          let longer : k < length names = omega (arith, bound, related_length (IsRelatedOption (NameAt b)) names (map name_of nodes) named, length-map nodes name_of) in
          let same_name : IsRelatedOption (NameAt b) name (name_of t) =
          subst (λ o. IsRelatedOption (NameAt b) name o) (get_mapped name_of nodes k any_tree bound None) (related_at (IsRelatedOption (NameAt b)) names (map name_of nodes) k name None named longer is) in
          let same_refs : AreNumberedReferences b found.references.items (flat_map asked us) = subst (λ l. AreNumberedReferences b found.references.items (flat_map asked l)) (sym piece_is) refs in
          let same_doubts : AreNumberedNames b found.unclear.items (flat_map unclear_in us) = subst (λ l. AreNumberedNames b found.unclear.items (flat_map unclear_in l)) (sym piece_is) doubts in
          let by_number : Declaration PathId NameId = record { name = name; place = split.place_of ids (scope_view r.scope.now) name (places.Declaration k); references = found.references.items; unclear = found.unclear.items } in
          let same : SameDeclaration (PathAt b) (NameAt b) by_number e = record { name = same_name; place = place_alike b (scope_view r.scope.now) s alike name (name_of t) same_name (places.Declaration k); references = same_refs; unclear = same_doubts } in
          let number : 0 + k ≡ k = omega arith in
          let at_k : get_or made k e ≡ e =
          declarations_at s 0 nodes pieces_used k t us e bound (omega (arith, bound, pieces_length r)) (itself nodes k any_tree bound) (itself pieces_used k [] (omega (arith, bound, pieces_length r)))
          ∙ ap (λ j. declaration_of s j t us) number in
          let more : take (k + 1) made ≡ take k made ++ e ∷ [] = take_one made k e (omega (arith, bound, made_length r)) ∙ ap (λ x. take k made ++ x ∷ []) at_k in
          subst (λ es. AreNumberedDeclarations b (ds ++ d ∷ []) es) (sym more)
          (subst (λ x. AreNumberedDeclarations b (ds ++ x ∷ []) (take k made ++ e ∷ [])) (sym d_is)
          (declarations_more a b g ds (take k made) (by_number ∷ []) (e ∷ []) h (same, tt)))

      pub marked_next : (m : Vec Mark) → AreRelated (IsMark b) m.items (span from to (all_uses r)) → (ms : List (Vec Mark)) → AreMarked a ms (take k pieces_used) → AreMarked b (ms ++ m ∷ []) (take (k + 1) pieces_used)
      marked_next m marked ms h =
          let us : List (Use Path Text) = get_or pieces_used k [] in
          let one : AreRelated (IsMark b) m.items us = subst (λ l. AreRelated (IsMark b) m.items l) (sym piece_is) marked in
          subst (λ l. AreMarked b (ms ++ m ∷ []) l) (sym (take_one pieces_used k [] (omega (arith, bound, pieces_length r))))
          (marks_more a b g ms (m ∷ []) (take k pieces_used) (us ∷ []) h (one, tt))
