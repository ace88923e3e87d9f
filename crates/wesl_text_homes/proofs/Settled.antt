-- The home of a home is that home.
use Rattle.std.proofs.Common.{◌≡◌, ◌∙◌, Bool, true, false, cond, Some, None, List, [], ◌∷◌, refl, ap, subst, sym as turned}
use Rattle.std.specs.Prelude.{if◌then◌else◌, Option, string_bytes, unwrap_or}
use Rattle.std.specs.List.{find, list_all}
use Rattle.std.specs.Str.{bytes_eq}
use Rattle.std.proofs.lemmas.Bool.{and_parts}
use Rattle.std.proofs.lemmas.Slice.Eq.{bytes_eq-Decides}
use Rattle.wesl_tree_names.specs.Path.{Text}
use Rattle.wesl_text_homes.specs.declared.chain.Chain.{Chain}
use Rattle.wesl_text_homes.specs.Homes.{chain_of, has_other, home_at, home_of, is_settled}

-- ---- what is found among what all does something does it

found_here : {X : Type 0} (p q : X → Bool) (b : Bool) (y : X) (ys : List X) (x : X) → q y ≡ true → (find p ys ≡ Some x → q x ≡ true) → cond b (Some y) (find p ys) ≡ Some x → q x ≡ true
found_here p q true y ys x h further e = subst (λ z. q z ≡ true) (ap (λ o. unwrap_or o y) e) h
found_here p q false y ys x h further e = further e

all_found : {X : Type 0} (p q : X → Bool) (xs : List X) (x : X) → list_all q xs ≡ true → find p xs ≡ Some x → q x ≡ true
all_found p q [] x h e = let z : ⊥ = Prim.cc e in absurd z
all_found p q (y ∷ ys) x h e = found_here p q (p y) y ys x (and_parts _ _ h).0 (all_found p q ys x (and_parts _ _ h).1) e

-- ---- homes

module _ (cs : List Chain) (name : Text) where
  settled_if : (c : Chain) (b : Bool) → b ≡ has_other c cs → chain_of name cs ≡ Some c → is_settled cs c ≡ true
      → home_of (if b then string_bytes c.home else name) cs ≡ (if b then string_bytes c.home else name)
  settled_if c true other e s = (bytes_eq-Decides _ _).0 s
  settled_if c false other e s = ap (λ o. home_at o name cs) e ∙ ap (λ b. if b then string_bytes c.home else name) (turned other)

  settled_at : (o : Option Chain) → chain_of name cs ≡ o → ((c : Chain) → o ≡ Some c → is_settled cs c ≡ true) → home_of (home_at o name cs) cs ≡ home_at o name cs
  settled_at None e all = ap (λ o. home_at o name cs) e
  settled_at (Some c) e all = settled_if c (has_other c cs) refl e (all c refl)

  pub settled : list_all (is_settled cs) cs ≡ true → home_of (home_of name cs) cs ≡ home_of name cs
  settled h = settled_at (chain_of name cs) refl (λ c e. all_found (λ c. bytes_eq (string_bytes c.name) name) (is_settled cs) cs c h e)
