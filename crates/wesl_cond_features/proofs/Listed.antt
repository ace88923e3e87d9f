-- The names that a map lists.
use Rattle.std.proofs.Common.{◌≡◌, ℕ, List, [], ◌∷◌, Bool, true, false, ◌||◌, Option, Some, map, String, string_bytes, bytes_eq, refl, ap, sym, subst, ◌∙◌, is_some, cond, ◌++◌}
use Rattle.std.specs.BTreeMap.{BTreeMap, Updates, get_by_text, is_at}
use Rattle.std.specs.Prelude.{Err, Ok, OnOk, Result}
use Rattle.std.specs.Result.{is_ok}
use Rattle.std.specs.String.{string_cmp}
use Rattle.std.specs.Cmp.Lexicographic.{slice_cmp, bytes_decides, nat_list_eq_equiv}
use Rattle.std.specs.List.{list_any}
use Rattle.std.specs.Map.{lookup, keys_of}
use Rattle.std.specs.Map.Iter.{deref}
use denote.Ref.{Bor}
use Rattle.std.specs.Ordering.{nat_cmp}
use Rattle.std.proofs.lemmas.List.Folds.{list_any-append}
use Rattle.std.proofs.lemmas.Map.Text.{btree_map_updates_text, is_eq-slice_cmp}
use Rattle.std.specs.declared.alloc.Global.{Global}
use mathlib.Core.Bool.{or-false}

abbrev names : {X : Type 0} → List ℕ → List (String Global × X) → Bool
names q es = list_any (λ k. bytes_eq q (string_bytes k)) (keys_of es)

abbrev finds : {X : Type 0} → List ℕ → List (String Global × X) → Option X
finds q es = lookup (is_at (λ k. slice_cmp nat_cmp q (string_bytes k))) es

one_more : {X : Type 0} (q : List ℕ) (e : String Global × X) (es : List (String Global × X)) (b : Bool) → bytes_eq q (string_bytes e.0) ≡ b → names q es ≡ is_some (finds q es) → names q (e ∷ es) ≡ is_some (finds q (e ∷ es))
one_more q e es true is h = rw (is_eq-slice_cmp q (string_bytes e.0), is) refl
one_more q e es false is h = rw (is_eq-slice_cmp q (string_bytes e.0), is) h

-- a name is among the keys where it is found
pub names_found : {X : Type 0} (q : List ℕ) (es : List (String Global × X)) → names q es ≡ is_some (finds q es)
names_found q [] = refl
names_found q (e ∷ es) = one_more q e es (bytes_eq q (string_bytes e.0)) refl (names_found q es)

-- a test of what is borrowed
pub any_borrowed : {A : Type 0} (p : A → Bool) (xs : List (Bor A)) → list_any (λ k. p k.now) xs ≡ list_any p (map deref xs)
any_borrowed p [] = refl
any_borrowed p (x ∷ xs) = ap (λ b. p x.now || b) (any_borrowed p xs)

-- the names of all borrowed keys
pub names_borrowed : {X : Type 0} (q : List ℕ) (xs : List (Bor (String Global))) (es : List (String Global × X)) → map deref xs ≡ keys_of es → list_any (λ k. bytes_eq q (string_bytes k.now)) xs ≡ is_some (finds q es)
names_borrowed q xs es all = any_borrowed (λ k. bytes_eq q (string_bytes k)) xs ∙ ap (list_any (λ k. bytes_eq q (string_bytes k))) all ∙ names_found q es

-- What f answers for each name that was listed, and for one name more.
module _ {Y : Type 0} (f : List ℕ → Y) (q : List ℕ) (new old first : Option Y) where
  by_name : (bs : List ℕ) (b e : Bool) → bytes_eq bs q ≡ e → new ≡ cond e (Some (f bs)) old → old ≡ cond b (Some (f q)) first → new ≡ cond (b || bytes_eq q bs) (Some (f q)) first
  by_name bs true true is n o = n ∙ ap (λ w. Some (f w)) ((bytes_decides bs q).0 is)
  by_name bs true false is n o = n ∙ o
  by_name bs false true is n o = n ∙ ap (λ w. Some (f w)) ((bytes_decides bs q).0 is) ∙ sym (ap (λ e. cond e (Some (f q)) first) (nat_list_eq_equiv.symm q bs ∙ is))
  by_name bs false false is n o = n ∙ o ∙ sym (ap (λ e. cond e (Some (f q)) first) (nat_list_eq_equiv.symm q bs ∙ is))

  pub one_more_answer : (ks : List (Bor (String Global))) (k : Bor (String Global)) → new ≡ cond (bytes_eq (string_bytes k.now) q) (Some (f (string_bytes k.now))) old
      → old ≡ cond (list_any (λ l. bytes_eq q (string_bytes l.now)) ks) (Some (f q)) first → new ≡ cond (list_any (λ l. bytes_eq q (string_bytes l.now)) (ks ++ k ∷ [])) (Some (f q)) first
  one_more_answer ks k n o =
      by_name (string_bytes k.now) (list_any (λ l. bytes_eq q (string_bytes l.now)) ks) _ refl n o
      ∙ sym (ap (λ b. cond b (Some (f q)) first) (list_any-append (λ l. bytes_eq q (string_bytes l.now)) ks (k ∷ []) ∙ ap (λ b. list_any (λ l. bytes_eq q (string_bytes l.now)) ks || b) (or-false (bytes_eq q (string_bytes k.now)))))

-- a text that was put into a map is found there, and each other one as before
pub text_added : {X V E : Type 0} (m n : BTreeMap (String Global) X) (k : String Global) (bs : List ℕ) (v : X) (r : Result V E) (b : Bool) → b ≡ is_ok r → OnOk r (Updates string_cmp m n k (Some v)) → string_bytes k ≡ bs
    → b ≡ true → (q : List ℕ) → get_by_text n q ≡ cond (bytes_eq bs q) (Some v) (get_by_text m q)
text_added m n k bs v (Ok x) b is h bytes whole q = subst (λ l. get_by_text n q ≡ cond (bytes_eq l q) (Some v) (get_by_text m q)) bytes (btree_map_updates_text (string_bytes k) m n (Some v) h q)
text_added m n k bs v (Err e) b is h bytes whole q = let f : true ≡ false = sym whole ∙ is in cc
