-- Numbers, and the texts that they stand for.
use Rattle.std.proofs.Common.{◌≡◌, ℕ, zero, suc, Bool, true, false, Some, List, [], ◌∷◌, refl, sym, ap, ◌∙◌}
use Rattle.std.specs.Prelude.{slice_get, bytes_eq, option_map, if◌then◌else◌}
use Rattle.std.proofs.lemmas.Option.{get_or_from_slice_get}
use Rattle.std.proofs.lemmas.Slice.Eq.{bytes_eq-Decides}
use Rattle.wesl_tree_names.specs.Path.{Text, Path, root_path}
use Rattle.wesl_tree_names.specs.PathOrder.{same_path}
use Rattle.wesl_tree_names.proofs.Order.{same_path-decides}
use Rattle.wesl_link_symbols.specs.declared.ids.PathId.{PathId}
use Rattle.wesl_tree_base.specs.declared.ids.NameId.{NameId}
use Rattle.wesl_link_tables.specs.Numbering.{Numbering, NameAt, PathAt, AreDifferent}
use Rattle.wesl_link_engine.specs.Given.{Given}
use Rattle.wesl_link_assembly.specs.Denotations.{symbol, local, free_name}
use Rattle.wesl_link_assembly.specs.Views.{Meaning}
use Rattle.wesl_link_engine.specs.Keeping.{path_text, name_text, place_of, or_own, given_at, name_under, denotation_text}
use Rattle.wesl_link_engine.specs.Holding.{printed_by, IsNamed}
use Rattle.std.proofs.lemmas.Bool.{false_from_ne_true}

pub path_is : (nb : Numbering) (p : PathId) (q : Path) → PathAt nb p q → path_text nb p ≡ q
path_is nb p q at = get_or_from_slice_get nb.paths p.0 q root_path at

pub name_is : (nb : Numbering) (n : NameId) (x : Text) → NameAt nb n x → name_text nb n ≡ x
name_is nb n x at = get_or_from_slice_get nb.names n.0 x [] at

-- ---- places

if_false : {X : Type 0} (b : Bool) (x y : X) → b ≡ false → (if b then x else y) ≡ y
if_false false x y e = refl
if_false true x y e = absurd (cc)

if_true : {X : Type 0} (b : Bool) (x y : X) → b ≡ true → (if b then x else y) ≡ x
if_true true x y e = refl
if_true false x y e = absurd (cc)

-- in a list where nothing stands twice, the place of what a test picks alone
module _ {X : Type 0} (test : X → Bool) (x : X) (own : test x ≡ true) (alone : (y : X) → test y ≡ true → y ≡ x) where
  pub place_is : (xs : List X) (i : ℕ) → AreDifferent xs → slice_get xs i ≡ Some x → place_of test xs ≡ Some i
  place_is [] i d at = absurd (cc)
  place_is (y ∷ xs) zero d at = let e : y ≡ x = cc in if_true (test y) _ _ (ap test e ∙ own)
  place_is (y ∷ xs) (suc i) d at =
      let apart : test y ≡ true → ⊥ = λ h. let e : zero ≡ suc i = d zero (suc i) x (ap Some (alone y h)) at in absurd (cc) in
      let rest : AreDifferent xs = λ j k z a b. let e : suc j ≡ suc k = d (suc j) (suc k) z a b in cc in
      if_false (test y) _ _ (false_from_ne_true (test y) apart) ∙ ap (option_map suc) (place_is xs i rest at)

same_bytes : (x y : Text) → bytes_eq x y ≡ true → y ≡ x
same_bytes x y h = sym ((bytes_eq-Decides x y).0 h)

own_bytes : (x : Text) → bytes_eq x x ≡ true
own_bytes x = (bytes_eq-Decides x x).1 refl

-- a symbol prints by its texts as by its numbers
module _ (nb : Numbering) (different_paths : AreDifferent nb.paths) (different_names : AreDifferent nb.names) (given : Given) where
  pub name_by : (p : PathId) (n : NameId) (q : Path) (x : Text) → PathAt nb p q → NameAt nb n x → name_under nb given q x ≡ printed_by nb given p n
  name_by p n q x at named =
      let i : place_of (same_path q) nb.paths ≡ Some p.0 = place_is (same_path q) q ((same_path-decides q q).1 refl) (λ y h. sym ((same_path-decides q y).0 h)) nb.paths p.0 different_paths at in
      let j : place_of (bytes_eq x) nb.names ≡ Some n.0 = place_is (bytes_eq x) x (own_bytes x) (same_bytes x) nb.names n.0 different_names named in
      ap (λ o. or_own x (given_at given o (place_of (bytes_eq x) nb.names))) i
      ∙ (ap (λ o. or_own x (given_at given (Some p.0) o)) j
      ∙ ap (λ t. or_own t (given (record { path = p; name = n }))) (sym (name_is nb n x named)))

  -- what stands for different things in numbers does so in texts
  pub told_apart : (c d : Meaning) → IsNamed nb c → IsNamed nb d → denotation_text nb c ≡ denotation_text nb d → c ≡ d
  told_apart (symbol p n) (symbol r m) ((q, at), (x, named)) ((s, at2), (y, named2)) e =
      let ep : path_text nb p ≡ path_text nb r = cc in
      let en : name_text nb n ≡ name_text nb m = cc in
      let same_q : q ≡ s = sym (path_is nb p q at) ∙ (ep ∙ path_is nb r s at2) in
      let same_x : x ≡ y = sym (name_is nb n x named) ∙ (en ∙ name_is nb m y named2) in
      let same_p : p.0 ≡ r.0 = different_paths p.0 r.0 s (at ∙ ap Some same_q) at2 in
      let same_n : n.0 ≡ m.0 = different_names n.0 m.0 y (named ∙ ap Some same_x) named2 in
      ap (λ k. symbol (record { 0 = k }) n) same_p ∙ ap (λ k. symbol r (record { 0 = k })) same_n
  told_apart (local p b n) (local r a m) (q, at) (s, at2) e =
      let ep : path_text nb p ≡ path_text nb r = cc in
      let eb : b ≡ a = cc in
      let en : n ≡ m = cc in
      let same_q : q ≡ s = sym (path_is nb p q at) ∙ (ep ∙ path_is nb r s at2) in
      let same_p : p.0 ≡ r.0 = different_paths p.0 r.0 s (at ∙ ap Some same_q) at2 in
      ap (λ k. local (record { 0 = k }) b n) same_p ∙ (ap (λ k. local r k n) eb ∙ ap (local r a) en)
  told_apart (free_name n) (free_name m) h k e = let en : n ≡ m = cc in ap free_name en
  told_apart (symbol p n) (local r b m) h k e = absurd (cc)
  told_apart (symbol p n) (free_name m) h k e = absurd (cc)
  told_apart (local p b n) (symbol r m) h k e = absurd (cc)
  told_apart (local p b n) (free_name m) h k e = absurd (cc)
  told_apart (free_name n) (symbol r m) h k e = absurd (cc)
  told_apart (free_name n) (local r b m) h k e = absurd (cc)
