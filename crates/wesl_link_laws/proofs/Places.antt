-- What a choice keeps of import statements and global declarations, by their places and by their positions.
use Rattle.std.proofs.Common.{◌≡◌, ℕ, zero, suc, ◌+◌, ◌≤◌, nat_eq, Bool, true, false, ◌&&◌, ◌||◌, Option, None, List, [], ◌∷◌, ◌++◌, map, length, refl, sym, ap, ◌∙◌, arith}
use Rattle.std.proofs.Math.Bool.{and-true, and-false, or-false}
use Rattle.std.proofs.lemmas.Bool.{eq-eqb, ne_eqb, eqb-true, eqb-false}
use Rattle.std.proofs.lemmas.List.Folds.{list_any-append}
use Rattle.std.specs.List.{list_any}
use Rattle.wesl_tree_names.specs.Path.{Text}
use Rattle.wesl_cond_chains.specs.Lists.{Element, elements}
use Rattle.wesl_cond_chains.specs.Picked.{Choice}
use Rattle.wesl_cond_choices.specs.Places.{same_place, keeps}
use Rattle.wesl_cond_choices.specs.declared.place.Place.{Place}
use Rattle.wesl_cond_choices.specs.declared.place.Place.TheVariants.{Import, Declaration, Name}
use Rattle.wesl_tree_syntax.specs.Tree.{ForestOf, end, tree, kind, imports, declarations}
use Rattle.wesl_tree_syntax.specs.Unit.{UnitOf}
use Rattle.wesl_cond_alive.specs.Alive.{kept_numbers}
use Rattle.wesl_cond_alive.specs.Kept.{kept_indexes, numbered_element, numbered_from}
use Rattle.wesl_cond_alive.specs.Positions.{has, kept_at}
use Rattle.wesl_cond_alive.specs.Sound.{outline_of}
use Rattle.wesl_cond_alive.proofs.Turns.{IsTold, Verdict, goes, stays, picked, all_become, kept_is, verdicts}
use Rattle.wesl_link_laws.specs.Positions.{PlacesArePositions}

module _ {I : Type 0} (choice : Choice I) where
  is_told : IsTold numbered_element (λ (x : Element I × ℕ). x.0)
  is_told = record { voids = λ n. refl; conditions = λ n. refl }

  abbrev numbers : List Verdict → List (Element I × ℕ) → List ℕ
  numbers vs ns = map (λ x. x.1) (all_become numbered_element (λ (x : Element I × ℕ). x.0) is_told choice (λ n e. refl) vs ns)

  -- numbers are counted up to the end of the list
  none_left : (vs : List Verdict) (xs : List (Element I)) (n j : ℕ) → n + length xs ≤ j → has (numbers vs (numbered_from n xs)) j ≡ false
  none_left [] xs n j h = refl
  none_left (v ∷ vs) [] n j h = refl
  none_left (goes ∷ vs) (x ∷ xs) n j h = none_left vs xs (suc n) j (omega arith)
  none_left (stays ∷ vs) (x ∷ xs) n j h = rw (ne_eqb j n (λ e. omega arith)) (none_left vs xs (suc n) j (omega arith))
  none_left (picked ∷ vs) (x ∷ xs) n j h = rw (ne_eqb j n (λ e. omega arith)) (none_left vs xs (suc n) j (omega arith))

  none_past : (xs : List (Element I)) (j : ℕ) → length xs ≤ j → has (kept_indexes choice xs) j ≡ false
  none_past xs j h =
      ap (λ (ns : List (Element I × ℕ)). has (map (λ x. x.1) ns) j) (kept_is numbered_element (λ (x : Element I × ℕ). x.0) is_told choice (λ n e. refl) (numbered_from 0 xs))
      ∙ none_left (verdicts choice true true (map (λ (x : Element I × ℕ). outline_of x.0) (numbered_from 0 xs))) xs 0 j (omega arith)

  -- where there is no node with this number, the list is not so long
  past_end : (held : Option (List ℕ)) (c : ForestOf I) (j : ℕ) → kept_at choice held j [] c ≡ false → length (elements false c) ≤ j
  past_end held end j e = omega arith
  past_end held (tree l c o) zero e = cc
  past_end held (tree l c o) (suc j) e = omega (arith, past_end held o j e)

  is_present_at : (held : Option (List ℕ)) (c : ForestOf I) (j : ℕ) (b : Bool) → kept_at choice held j [] c ≡ b
      → (has (kept_indexes choice (elements false c)) j && b) ≡ has (kept_indexes choice (elements false c)) j
  is_present_at held c j true e = and-true (has (kept_indexes choice (elements false c)) j)
  is_present_at held c j false e = and-false (has (kept_indexes choice (elements false c)) j) ∙ sym (none_past (elements false c) j (past_end held c j e))

  -- a node that is kept is there
  is_present : (held : Option (List ℕ)) (c : ForestOf I) (j : ℕ) → has (kept_indexes choice (elements false c)) j ≡ (has (kept_indexes choice (elements false c)) j && kept_at choice held j [] c)
  is_present held c j = sym (is_present_at held c j (kept_at choice held j [] c) refl)

same_both : (i j : ℕ) → nat_eq i j ≡ nat_eq j i
same_both i j = by_test (nat_eq j i) refl
  where
    by_test : (b : Bool) → nat_eq j i ≡ b → nat_eq i j ≡ nat_eq j i
    by_test true e = eq-eqb i j (sym (eqb-true j i e)) ∙ sym e
    by_test false e = ne_eqb i j (λ k. eqb-false j i e (sym k)) ∙ sym e

-- places of one kind
module _ (place : ℕ → Place) where
  others : (q : Place) → ((i : ℕ) → same_place (place i) q ≡ false) → (ns : List ℕ) → list_any (λ p. same_place p q) (map place ns) ≡ false
  others q apart [] = refl
  others q apart (n ∷ ns) = rw (apart n) (others q apart ns)

  alike : ((i j : ℕ) → same_place (place i) (place j) ≡ nat_eq i j) → (ns : List ℕ) (j : ℕ) → list_any (λ p. same_place p (place j)) (map place ns) ≡ has ns j
  alike same [] j = refl
  alike same (n ∷ ns) j = rw (same n j, same_both n j, alike same ns j) refl

module _ (is js ks : List ℕ) where
  abbrev all_places : List Place
  all_places = map Import is ++ map Declaration js ++ map Name ks

  three : (q : Place) → list_any (λ p. same_place p q) all_places
      ≡ ((list_any (λ p. same_place p q) (map Import is) || list_any (λ p. same_place p q) (map Declaration js)) || list_any (λ p. same_place p q) (map Name ks))
  three q =
      list_any-append (λ p. same_place p q) (map Import is ++ map Declaration js) (map Name ks)
      ∙ ap (λ b. b || list_any (λ p. same_place p q) (map Name ks)) (list_any-append (λ p. same_place p q) (map Import is) (map Declaration js))

  keeps_import : (j : ℕ) → keeps all_places (Import j) ≡ has is j
  keeps_import j =
      three (Import j)
      ∙ (λ t. (alike Import (λ i k. refl) is j t || others Declaration (Import j) (λ i. refl) js t) || others Name (Import j) (λ i. refl) ks t)
      ∙ or-false (has is j || false) ∙ or-false (has is j)

  keeps_declaration : (k : ℕ) → keeps all_places (Declaration k) ≡ has js k
  keeps_declaration k =
      three (Declaration k)
      ∙ (λ t. (others Import (Declaration k) (λ i. refl) is t || alike Declaration (λ i j. refl) js k t) || others Name (Declaration k) (λ i. refl) ks t)
      ∙ or-false (has js k)

module _ (u : UnitOf Text) (choice : Choice Text) where
  abbrev kept_imports : List ℕ
  kept_imports = kept_indexes choice (elements false u.imports.children)

  abbrev kept_declarations : List ℕ
  kept_declarations = kept_indexes choice (elements false u.declarations.children)

  abbrev after_imports : ForestOf Text
  after_imports = tree u.directives.label u.directives.children (tree u.declarations.label u.declarations.children end)

  import_at : u.imports.label ≡ kind imports → (j : ℕ) → has kept_imports j ≡ kept_at choice None 0 (j ∷ []) (tree u.imports.label u.imports.children after_imports)
  import_at is j = rw is (is_present choice None u.imports.children j)

  declaration_at : u.declarations.label ≡ kind declarations → (k : ℕ)
      → has kept_declarations k ≡ kept_at choice None 0 (k ∷ []) (tree u.declarations.label u.declarations.children end)
  declaration_at is k = rw is (is_present choice None u.declarations.children k)

pub places_are_positions : (u : UnitOf Text) → u.imports.label ≡ kind imports → u.declarations.label ≡ kind declarations → PlacesArePositions u
places_are_positions u is are = record {
  imports = λ choice j. keeps_import (kept_imports u choice) (kept_declarations u choice) (kept_numbers u choice) j ∙ import_at u choice is j;
  declarations = λ choice k. keeps_declaration (kept_imports u choice) (kept_declarations u choice) (kept_numbers u choice) k ∙ declaration_at u choice are k;
}
