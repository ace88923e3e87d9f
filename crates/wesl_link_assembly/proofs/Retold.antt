-- What identifiers stand for, told in other words.
use Rattle.std.proofs.Common.{◌≡◌, ℕ, zero, suc, ◌<◌, List, [], ◌∷◌, ◌++◌, length, map, get_or, refl, sym, ◌∙◌, ap, subst, arith}
use Rattle.std.proofs.lemmas.List.{map-append}
use Rattle.std.proofs.lemmas.List.Elements.{Contains-get_or, Contains-append_left, Contains-append_right}
use Rattle.std.specs.List.{Contains}
use Rattle.wesl_tree_names.specs.Path.{Text}
use Rattle.wesl_tree_syntax.specs.Tree.{LabelOf, ForestOf, TreeOf, end, tree, kind, at, ident, text, texts, truth, unary, binary, assignment, space, access, path, identifiers, respell_label, respell_forest}
use Rattle.wesl_tree_syntax.specs.Unit.{UnitOf, UnitView, forest_of_unit, numbers}
use Rattle.wesl_tree_syntax.specs.Numbers.{AreNumbers}
use Rattle.wesl_link_assembly.specs.Pathless.{without_paths}
use Rattle.wesl_link_assembly.specs.Linked.{shape, printed_unit, IsLinkedAs}
use Rattle.wesl_link_assembly.proofs.Pathless.{respelled_without}
use Rattle.wesl_link_assembly.proofs.Replaced.{replaced_twice}
use Rattle.wesl_scope_numbers.proofs.Taken.{one_unit}
use Rattle.wesl_link_assembly.proofs.Renumbered.{paired}
use Rattle.wesl_scope_numbers.proofs.Canonical.{mapped_length}

abbrev pub forget : {I : Type 0} → I → Unit {0}
forget i = tt

told_at : {X Y : Type 0} (f : X → Y) (xs : List X) (i : ℕ) (d : X) (e : Y) → i < length xs → get_or (map f xs) i e ≡ f (get_or xs i d)
told_at f [] i d e h = absurd (omega (arith, h))
told_at f (x ∷ xs) zero d e h = refl
told_at f (x ∷ xs) (suc i) d e h = told_at f xs i d e (omega (arith, h))

-- below an identifier nothing is listed
abbrev below : {K L : Type 0} → LabelOf K → ForestOf L → ForestOf L → ForestOf L
below (ident r x) unlisted listed = unlisted
below l unlisted listed = listed

module _ {K L : Type 0} (f : K → L) (plain : K → L) where
  -- listed identifiers in other words, and any others in plain ones
  abbrev retold : ForestOf K → ForestOf L
  retold end = end
  retold (tree l children others) = tree (respell_label f l) (below l (respell_forest plain children) (retold children)) (retold others)

  abbrev retold_tree : TreeOf K → TreeOf L
  retold_tree t = record { label = respell_label f t.label; children = below t.label (respell_forest plain t.children) (retold t.children) }

  abbrev retold_unit : UnitOf K → UnitOf L
  retold_unit u = record { imports = retold_tree u.imports; directives = retold_tree u.directives; declarations = retold_tree u.declarations }

  retold_shape : (t : ForestOf K) → respell_forest forget (retold t) ≡ respell_forest forget t
  retold_shape end = refl
  retold_shape (tree (ident r x) children others) = paired _ _ _ _ _ (sym (replaced_twice plain forget forget (λ y. refl) children)) (retold_shape others)
  retold_shape (tree (kind k) children others) = paired _ _ _ _ _ (retold_shape children) (retold_shape others)
  retold_shape (tree (at k i j) children others) = paired _ _ _ _ _ (retold_shape children) (retold_shape others)
  retold_shape (tree (text y) children others) = paired _ _ _ _ _ (retold_shape children) (retold_shape others)
  retold_shape (tree (texts y) children others) = paired _ _ _ _ _ (retold_shape children) (retold_shape others)
  retold_shape (tree (truth y) children others) = paired _ _ _ _ _ (retold_shape children) (retold_shape others)
  retold_shape (tree (unary y) children others) = paired _ _ _ _ _ (retold_shape children) (retold_shape others)
  retold_shape (tree (binary y) children others) = paired _ _ _ _ _ (retold_shape children) (retold_shape others)
  retold_shape (tree (assignment y) children others) = paired _ _ _ _ _ (retold_shape children) (retold_shape others)
  retold_shape (tree (space y) children others) = paired _ _ _ _ _ (retold_shape children) (retold_shape others)
  retold_shape (tree (access y) children others) = paired _ _ _ _ _ (retold_shape children) (retold_shape others)
  retold_shape (tree (path y) children others) = paired _ _ _ _ _ (retold_shape children) (retold_shape others)

  joined : (xs ys : List K) (us vs : List L) → us ≡ map f xs → vs ≡ map f ys → us ++ vs ≡ map f (xs ++ ys)
  joined xs ys us vs e g = ap (λ z. z ++ vs) e ∙ (ap (λ z. map f xs ++ z) g ∙ sym (map-append f xs ys))

  retold_identifiers : (t : ForestOf K) → identifiers (retold t) ≡ map f (identifiers t)
  retold_identifiers end = refl
  retold_identifiers (tree (ident r x) children others) = ap (λ xs. f x ∷ xs) (retold_identifiers others)
  retold_identifiers (tree (kind k) children others) = joined _ _ _ _ (retold_identifiers children) (retold_identifiers others)
  retold_identifiers (tree (at k i j) children others) = joined _ _ _ _ (retold_identifiers children) (retold_identifiers others)
  retold_identifiers (tree (text y) children others) = joined _ _ _ _ (retold_identifiers children) (retold_identifiers others)
  retold_identifiers (tree (texts y) children others) = joined _ _ _ _ (retold_identifiers children) (retold_identifiers others)
  retold_identifiers (tree (truth y) children others) = joined _ _ _ _ (retold_identifiers children) (retold_identifiers others)
  retold_identifiers (tree (unary y) children others) = joined _ _ _ _ (retold_identifiers children) (retold_identifiers others)
  retold_identifiers (tree (binary y) children others) = joined _ _ _ _ (retold_identifiers children) (retold_identifiers others)
  retold_identifiers (tree (assignment y) children others) = joined _ _ _ _ (retold_identifiers children) (retold_identifiers others)
  retold_identifiers (tree (space y) children others) = joined _ _ _ _ (retold_identifiers children) (retold_identifiers others)
  retold_identifiers (tree (access y) children others) = joined _ _ _ _ (retold_identifiers children) (retold_identifiers others)
  retold_identifiers (tree (path y) children others) = joined _ _ _ _ (retold_identifiers children) (retold_identifiers others)

  module _ (print : K → Text) (reprint : L → Text) (as_before : (x : K) → print x ≡ reprint (plain x)) where
    abbrev PrintsAlike : List K → Type 0
    PrintsAlike xs = (d : K) → Contains xs d → reprint (f d) ≡ print d

    printed_node : (l : LabelOf Text) (xs ys : List K) (a b c d : ForestOf Text) → PrintsAlike (xs ++ ys) → (PrintsAlike xs → a ≡ c) → (PrintsAlike ys → b ≡ d) → tree l a b ≡ tree l c d
    printed_node l xs ys a b c d same p q = paired l a b c d (p (λ x h. same x (Contains-append_left xs ys x h))) (q (λ y h. same y (Contains-append_right xs ys y h)))

    retold_printed : (t : ForestOf K) → PrintsAlike (identifiers t) → respell_forest reprint (retold t) ≡ respell_forest print t
    retold_printed end same = refl
    retold_printed (tree (ident r x) children others) same =
        ap (λ y. tree (ident r y) (respell_forest reprint (respell_forest plain children)) (respell_forest reprint (retold others))) (same x (0, omega arith, refl))
        ∙ paired _ _ _ _ _ (sym (replaced_twice plain reprint print as_before children)) (retold_printed others (λ y h. same y (Contains-append_right (x ∷ []) (identifiers others) y h)))
    retold_printed (tree (kind k) children others) same = printed_node _ (identifiers children) (identifiers others) _ _ _ _ same (retold_printed children) (retold_printed others)
    retold_printed (tree (at k i j) children others) same = printed_node _ (identifiers children) (identifiers others) _ _ _ _ same (retold_printed children) (retold_printed others)
    retold_printed (tree (text y) children others) same = printed_node _ (identifiers children) (identifiers others) _ _ _ _ same (retold_printed children) (retold_printed others)
    retold_printed (tree (texts y) children others) same = printed_node _ (identifiers children) (identifiers others) _ _ _ _ same (retold_printed children) (retold_printed others)
    retold_printed (tree (truth y) children others) same = printed_node _ (identifiers children) (identifiers others) _ _ _ _ same (retold_printed children) (retold_printed others)
    retold_printed (tree (unary y) children others) same = printed_node _ (identifiers children) (identifiers others) _ _ _ _ same (retold_printed children) (retold_printed others)
    retold_printed (tree (binary y) children others) same = printed_node _ (identifiers children) (identifiers others) _ _ _ _ same (retold_printed children) (retold_printed others)
    retold_printed (tree (assignment y) children others) same = printed_node _ (identifiers children) (identifiers others) _ _ _ _ same (retold_printed children) (retold_printed others)
    retold_printed (tree (space y) children others) same = printed_node _ (identifiers children) (identifiers others) _ _ _ _ same (retold_printed children) (retold_printed others)
    retold_printed (tree (access y) children others) same = printed_node _ (identifiers children) (identifiers others) _ _ _ _ same (retold_printed children) (retold_printed others)
    retold_printed (tree (path y) children others) same = printed_node _ (identifiers children) (identifiers others) _ _ _ _ same (retold_printed children) (retold_printed others)

module _ {K L : Type 0} (f : K → L) where
  abbrev StaysApart : List K → Type 0
  StaysApart xs = (c d : K) → Contains xs c → Contains xs d → f c ≡ f d → c ≡ d

  -- numbers of things that are told apart are those of what they are told as
  same_numbers : (ds : List K) (ns : List ℕ) → StaysApart ds → AreNumbers ds ns → AreNumbers (map f ds) ns
  same_numbers [] ns apart s = record {
    one_each = s.one_each;
    equal_where_keys = λ d i j hi hj. absurd (omega (arith, hi));
    by_first = λ i m h. absurd (omega (arith, h));
  }
  same_numbers (x ∷ xs) ns apart s =
      let many = mapped_length f (x ∷ xs) in
      record {
        one_each = s.one_each ∙ sym many;
        equal_where_keys = λ d i j hi hj.
            let hi' : i < length (x ∷ xs) = omega (arith, hi, many) in
            let hj' : j < length (x ∷ xs) = omega (arith, hj, many) in
            let at_i = told_at f (x ∷ xs) i x d hi' in
            let at_j = told_at f (x ∷ xs) j x d hj' in
            let known = s.equal_where_keys x i j hi' hj' in (
              λ e. at_i ∙ (ap f (known.0 e) ∙ sym at_j),
              λ e. known.1 (apart (get_or (x ∷ xs) i x) (get_or (x ∷ xs) j x) (Contains-get_or (x ∷ xs) i x hi') (Contains-get_or (x ∷ xs) j x hj') (sym at_i ∙ (e ∙ at_j))),
            );
        by_first = λ i m h l. s.by_first i m (omega (arith, h, many)) l;
      }

  pub linked_again : {I J : Type 0} (print : K → Text) (reprint : L → Text) (named : Text → L) (nodes : UnitOf I) (others : UnitOf J) (ds : List K) (unit : UnitView)
      → ((d : K) → Contains ds d → reprint (f d) ≡ print d) → ((n : Text) → reprint (named n) ≡ n) → StaysApart ds
      → shape (forest_of_unit others) ≡ shape (forest_of_unit nodes) → IsLinkedAs print nodes ds unit → IsLinkedAs reprint others (map f ds) unit
  linked_again print reprint named nodes others ds unit same itself apart shapes s =
      let plain : K → L = λ x. named (print x) in
      let linked = retold_unit f plain s.linked in
      let alike = λ (d : K) (h : Contains (identifiers (forest_of_unit s.linked)) d). same d (subst (λ xs. Contains xs d) s.meanings h) in
      record {
        linked = linked;
        same_shape =
            retold_shape f plain (forest_of_unit s.linked)
            ∙ (s.same_shape
            ∙ (respelled_without forget (forest_of_unit nodes)
            ∙ (ap without_paths (sym shapes) ∙ sym (respelled_without forget (forest_of_unit others)))));
        meanings = retold_identifiers f plain (forest_of_unit s.linked) ∙ ap (map f) s.meanings;
        named = s.named ∙ one_unit (printed_unit print s.linked) (printed_unit reprint linked) (sym (retold_printed f plain print reprint (λ x. sym (itself (print x))) (forest_of_unit s.linked) alike));
        numbered = same_numbers ds (numbers unit) apart s.numbered;
        table = s.table;
      }
