-- Numbers for keys by the numbers of blocks are numbers for keys.
use Rattle.std.proofs.Common.{◌≡◌, ℕ, zero, suc, ◌<◌, Bool, true, false, Option, Some, None, List, [], ◌∷◌, map, length, refl, sym, ◌∙◌, ap, arith}
use Rattle.std.specs.Prelude.{slice_index_or}
use Rattle.std.specs.Option.{option_or}
use Rattle.std.specs.List.{find, All}
use Rattle.wesl_tree_names.specs.Path.{Text}
use Rattle.wesl_tree_syntax.specs.Numbers.{AreNumbers}
use Rattle.wesl_scope_occurrences.specs.Occurrences.{Block, Standing, module_name, parameter, local, reference, word}
use Rattle.wesl_scope_open.specs.Scopes.{Key, bound, free, qualified, binds, binder_of, meaning, key_as, key_of, keys}
use Rattle.wesl_scope_open.specs.Open.{number_of, by_number}
use Rattle.wesl_scope_open.specs.Told.{AreToldBy}
use Rattle.wesl_scope_open.proofs.Runs.{Every, Found}

-- what holds of all identifiers holds of a binder that is found among them
module _ (P : Found → Type 0) where
  pub every_of : (xs : List Found) → All P xs → Every P xs
  every_of [] a = tt
  every_of (x ∷ xs) a = (a 0 x (omega arith), every_of xs (λ i d h. a (suc i) d (omega (arith, h))))

  -- what is found is such
  abbrev pub IfThere : Option Found → Type 0
  IfThere None = Unit {0}
  IfThere (Some o) = P o

  found_so : (t : Found → Bool) (xs : List Found) → Every P xs → IfThere (find t xs)
  found_so t [] h = tt
  found_so t (x ∷ xs) h = by (t x) refl (found_so t xs h.1)
    where
      by : (b : Bool) → t x ≡ b → IfThere (find t xs) → IfThere (find t (x ∷ xs))
      by true e g = rw e h.0
      by false e g = rw e g

  either_so : (a b : Option Found) → IfThere a → IfThere b → IfThere (option_or a b)
  either_so (Some o) b g h = g
  either_so None b g h = h

  pub binder_so : (all : List Found) → Every P all → (n : Text) (p : ℕ) (b : Block) → IfThere (binder_of all n p b)
  binder_so all h n p [] = found_so (binds [] n p) all h
  binder_so all h n p (k ∷ up) = either_so (find (binds (k ∷ up) n p) all) (binder_of all n p up) (found_so (binds (k ∷ up) n p) all h) (binder_so all h n p up)

module _ (w : ℕ → Block) where
  -- a block of the number in place of the number
  abbrev pub back : Key → Key
  back (bound [] n) = bound [] n
  back (bound (k ∷ up) n) = bound (w k) n
  back (free n) = free n
  back (qualified p n) = qualified p n

  abbrev Told : Found → Type 0
  Told o = o.block ≡ w (number_of o.block)

  meaning_back : (n : Text) (o : Option Found) → IfThere Told o → back (by_number (meaning n o)) ≡ meaning n o
  meaning_back n None h = refl
  meaning_back n (Some o) h = ap (λ b. bound b n) (sym h)

  key_back : (all : List Found) → Every Told all → (o : Found) → Told o → (r : Standing) → back (by_number (key_as all o r)) ≡ key_as all o r
  key_back all h o t module_name = ap (λ b. bound b o.name) (sym t)
  key_back all h o t parameter = ap (λ b. bound b o.name) (sym t)
  key_back all h o t (local e) = ap (λ b. bound b o.name) (sym t)
  key_back all h o t (reference None) = meaning_back o.name (binder_of all o.name o.place o.block) (binder_so Told all h o.name o.place o.block)
  key_back all h o t (reference (Some path)) = refl
  key_back all h o t word = refl

  all_back : (all os : List Found) → Every Told all → Every Told os → map back (map by_number (map (key_of all) os)) ≡ map (key_of all) os
  all_back all [] h g = refl
  all_back all (o ∷ os) h g = let e = key_back all h o g.0 o.role in let es = all_back all os h g.1 in rw (e, es) refl

  pub keys_back : (all : List Found) → AreToldBy w all → map back (map by_number (keys all)) ≡ keys all
  keys_back all a = let h = every_of Told all a in all_back all all h h

-- ---- numbers for what can be taken back
module _ {K L : Type 0} (f : K → L) (g : L → K) where
  same_length : (ks : List K) → length (map f ks) ≡ length ks
  same_length [] = refl
  same_length (k ∷ ks) = ap suc (same_length ks)

  at_place : (ks : List K) (i : ℕ) (d : K) → i < length ks → slice_index_or (map f ks) i (f d) ≡ f (slice_index_or ks i d)
  at_place [] i d h = absurd (omega (arith, h))
  at_place (k ∷ ks) zero d h = refl
  at_place (k ∷ ks) (suc i) d h = at_place ks i d (omega (arith, h))

  abbrev IsBack : K → Type 0
  IsBack k = g (f k) ≡ k

  each_back : (ks : List K) → map g (map f ks) ≡ ks → (i : ℕ) (d : K) → i < length ks → IsBack (slice_index_or ks i d)
  each_back [] e i d h = absurd (omega (arith, h))
  each_back (k ∷ ks) e zero d h = let a : g (f k) ≡ k = cc in a
  each_back (k ∷ ks) e (suc i) d h = each_back ks (let a : map g (map f ks) ≡ ks = cc in a) i d (omega (arith, h))

  pub numbers_back : (ks : List K) (ns : List ℕ) → map g (map f ks) ≡ ks → AreNumbers (map f ks) ns → AreNumbers ks ns
  numbers_back ks ns e a =
      let m = same_length ks in
      record {
        one_each = a.one_each ∙ m;
        equal_where_keys = λ d i j hi hj.
            let old = a.equal_where_keys (f d) i j (omega (arith, hi, m)) (omega (arith, hj, m)) in
            let fi = at_place ks i d hi in
            let fj = at_place ks j d hj in (
              λ n. sym (each_back ks e i d hi) ∙ (ap g (sym fi ∙ (old.0 n ∙ fj)) ∙ each_back ks e j d hj),
              λ k. old.1 (fi ∙ (ap f k ∙ sym fj)),
            );
        by_first = λ i n hi h. a.by_first i n (omega (arith, hi, m)) h;
      }

-- so with the keys of a module
pub numbers_told : (w : ℕ → Block) (all : List Found) → AreToldBy w all → (ns : List ℕ) → AreNumbers (map by_number (keys all)) ns → AreNumbers (keys all) ns
numbers_told w all a ns n = numbers_back by_number (back w) (keys all) ns (keys_back w all a) n
