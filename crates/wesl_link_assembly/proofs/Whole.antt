-- A whole unit whose identifiers stand for something.
use Rattle.std.proofs.Common.{◌≡◌, ℕ, zero, suc, ◌<◌, true, List, [], ◌∷◌, length, map, get_or, refl, sym, ◌∙◌, ap, subst, arith, ◌↔◌}
use Rattle.std.specs.List.{All, Contains}
use Rattle.std.proofs.lemmas.Grind.{get_or_default_zero}
use Rattle.wesl_tree_names.specs.Path.{Text}
use Rattle.wesl_tree_syntax.specs.Tree.{Tree, Forest, tree, branch, identifiers, respell, respell_forest, forest_below, imports as imports_kind}
use Rattle.wesl_tree_syntax.specs.Unit.{UnitOf, UnitView, forest_of_unit, trees_of, name_in, spelled, unit_below}
use Rattle.wesl_tree_syntax.specs.Numbers.{AreNumbers, number_at}
use Rattle.wesl_tree_copies.specs.Renumbered.{renumbered}
use Rattle.wesl_tree_renumber.specs.Renumbers.{Renumbered as NumberedTree}
use Rattle.wesl_tree_renumber.specs.declared.renumbering.Renumbering.{Renumbering}
use Rattle.wesl_scope_numbers.specs.Leaves.{are_leaves}
use Rattle.wesl_scope_numbers.proofs.Taken.{numbers_are, one_unit, taken}
use Rattle.wesl_scope_numbers.proofs.Units.{each_below, parts_below}
use Rattle.wesl_link_assembly.specs.Pathless.{without_paths}
use Rattle.wesl_link_assembly.specs.Linked.{printed_unit, IsLinkedAs}
use Rattle.wesl_link_assembly.proofs.Pathless.{same_identifiers, respelled_without}
use Rattle.wesl_link_assembly.proofs.Replaced.{replaced_twice, identifiers_replaced}
use Rattle.wesl_link_assembly.proofs.Renumbered.{same_shape}
use Rattle.wesl_link_assembly.proofs.Numbering.{Numbered, at_number}
use Rattle.wesl_scope_numbers.proofs.Canonical.{mapped_length}
use Rattle.wesl_link_assembly.proofs.Retold.{forget}

-- each number that is below the count stands among the numbers, and no other does
abbrev pub AreAllUsed : ℕ → List ℕ → Type 0
AreAllUsed count ns = (m : ℕ) → (m < count) ↔ Contains ns m

same_use : (count other : ℕ) (ns others : List ℕ) → other ≡ count → others ≡ ns → AreAllUsed count ns → AreAllUsed other others
same_use count other ns others e f used m = (
  λ h. subst (λ xs. Contains xs m) (sym f) ((used m).0 (subst (λ k. m < k) e h)),
  λ c. subst (λ k. m < k) (sym e) ((used m).1 (subst (λ xs. Contains xs m) f c)),
)

module _ {K : Type 0} (print : K → Text) (nothing : K) (silent : print nothing ≡ []) where
  name_of_number : (seen : List K) (n : ℕ) → name_in (map print seen) n ≡ print (at_number nothing seen n)
  name_of_number [] n = sym silent
  name_of_number (x ∷ xs) zero = refl
  name_of_number (x ∷ xs) (suc n) = name_of_number xs n

  pub linked_as : (nodes : UnitOf ℕ) (seen ks : List K) (ns : List ℕ) (unit : UnitView) → are_leaves (forest_of_unit nodes) ≡ true → AreNumbers ks ns → map (at_number nothing seen) ns ≡ ks → AreAllUsed (length seen) ns → length ks ≡ length (identifiers (forest_of_unit nodes))
      → unit.names ≡ map print seen → forest_of_unit (trees_of unit) ≡ without_paths (renumbered (forest_of_unit nodes) ns) → IsLinkedAs print nodes ks unit
  linked_as nodes seen ks ns unit leaves are leads used all names trees =
      let f = forest_of_unit nodes in
      let x = forest_of_unit (trees_of unit) in
      let h : ℕ → K = at_number nothing seen in
      let linked : UnitOf K = record { imports = respell h unit.imports; directives = respell h unit.directives; declarations = respell h unit.declarations } in
      let numbers_is : identifiers x ≡ ns = ap identifiers trees ∙ (same_identifiers (renumbered f ns) ∙ numbers_are f ns leaves (sym (are.one_each ∙ all))) in
      record {
        linked = linked;
        same_shape =
            sym (replaced_twice h forget forget (λ y. refl) x)
            ∙ (ap (respell_forest forget) trees ∙ (respelled_without forget (renumbered f ns) ∙ (ap without_paths (same_shape f ns) ∙ sym (respelled_without forget f))));
        meanings = identifiers_replaced h x ∙ (ap (map h) numbers_is ∙ leads);
        named = one_unit (spelled unit) (printed_unit print linked) (replaced_twice h print (name_in unit.names) (λ n. ap (λ ns. name_in ns n) names ∙ name_of_number seen n) x);
        numbered = subst (AreNumbers ks) (sym numbers_is) are;
        table = same_use (length seen) (length unit.names) ns (identifiers x) (ap length names ∙ mapped_length print seen) numbers_is used;
      }

-- what the code's numbers lead to
module _ {K : Type 0} (nothing : K) where
  pointwise_same : (xs ys : List K) → length xs ≡ length ys → ((i : ℕ) → i < length ys → get_or xs i nothing ≡ get_or ys i nothing) → xs ≡ ys
  pointwise_same [] [] h e = refl
  pointwise_same [] (y ∷ ys) h e = absurd (omega (arith, h))
  pointwise_same (x ∷ xs) [] h e = absurd (omega (arith, h))
  pointwise_same (x ∷ xs) (y ∷ ys) h e = ap (λ z. z ∷ xs) (e 0 (omega arith)) ∙ ap (λ zs. y ∷ zs) (pointwise_same xs ys (omega (arith, h)) (λ i l. e (suc i) (omega (arith, l))))

  mapped : (h : ℕ → K) (ns : List ℕ) (i : ℕ) → i < length ns → get_or (map h ns) i nothing ≡ h (number_at ns i)
  mapped h [] i l = absurd (omega (arith, l))
  mapped h (n ∷ ns) zero l = refl
  mapped h (n ∷ ns) (suc i) l = mapped h ns i (omega (arith, l))

  as_long : (h : ℕ → K) (ns : List ℕ) → length (map h ns) ≡ length ns
  as_long h [] = refl
  as_long h (n ∷ ns) = ap suc (as_long h ns)

  pub leads_to : (seen ks : List K) (ns : List ℕ) → Numbered nothing ks ns seen → map (at_number nothing seen) ns ≡ ks
  leads_to seen ks ns s =
      pointwise_same (map (at_number nothing seen) ns) ks (as_long (at_number nothing seen) ns ∙ s.one_each)
      (λ i l. mapped (at_number nothing seen) ns i (omega (arith, l, s.one_each)) ∙ s.means i l)

  pub all_below : (seen ks : List K) (ns : List ℕ) → Numbered nothing ks ns seen → All (λ n. n < length seen) ns
  all_below seen ks ns s = λ i d l.
      let b = s.in_seen i (omega (arith, l, s.one_each)) in
      subst (λ n. n < length seen) (sym (get_or_default_zero ns i d l)) b

  pub all_used : (seen ks : List K) (ns : List ℕ) → Numbered nothing ks ns seen → AreAllUsed (length seen) ns
  all_used seen ks ns s m = (
    λ h.
        let u = s.used m h in
        let inside : u.0 < length ns = omega (arith, u.1, s.one_each) in
        (u.0, inside, get_or_default_zero ns u.0 m inside ∙ u.2),
    λ c. subst (λ k. k < length seen) c.2 (all_below seen ks ns s c.0 m c.1),
  )

-- ---- a unit with other numbers

still_below : (n : ℕ) (f : Forest) (ns : List ℕ) → are_leaves f ≡ true → length ns ≡ length (identifiers f) → All (λ m. m < n) ns → forest_below n (renumbered f ns) ≡ true
still_below n f ns l h b = ((taken f ns l (omega (arith, h))).below n (each_below n ns b)).0

-- from what directives and declarations become, one after the other
pub made : (names : List Text) {old first new : Renumbering} {td te : Tree} (i d e : Tree) → i ≡ branch imports_kind [] → NumberedTree old first td d → NumberedTree first new te e
    → forest_of_unit (trees_of (record { names = names; imports = i; directives = d; declarations = e })) ≡ renumbered (forest_of_unit (record { imports = branch imports_kind []; directives = td; declarations = te })) old.rest.now
made names i d e none p q = rw (none, p.tree, q.tree, p.rest) refl

pub all_named : (names : List Text) (ns : List ℕ) (nodes : UnitOf ℕ) (w : UnitView) → are_leaves (forest_of_unit nodes) ≡ true → w.names ≡ names → forest_of_unit (trees_of w) ≡ renumbered (forest_of_unit nodes) ns → length ns ≡ length (identifiers (forest_of_unit nodes)) → All (λ m. m < length names) ns → unit_below w ≡ true
all_named names ns nodes w l n f h b =
    parts_below (length w.names) w.imports w.directives w.declarations
    (subst (λ k. forest_below k (forest_of_unit (trees_of w)) ≡ true) (sym (ap length n)) (subst (λ g. forest_below (length names) g ≡ true) (sym f) (still_below (length names) (forest_of_unit nodes) ns l h b)))
