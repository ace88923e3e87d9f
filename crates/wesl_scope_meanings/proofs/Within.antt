-- Blocks of keys are blocks of identifiers.
use Rattle.std.proofs.Common.{◌≡◌, ℕ, zero, suc, ◌<◌, Option, Some, None, List, [], ◌∷◌, length, map, refl, sym, ap, subst, arith}
use Rattle.std.specs.List.{All}
use Rattle.wesl_tree_names.specs.Path.{Text}
use Rattle.wesl_scope_occurrences.specs.Occurrences.{Block, Standing, module_name, parameter, local, reference, word}
use Rattle.wesl_scope_occurrences.specs.Laws.{WaysLeadOutwards, renamed}
use Rattle.wesl_scope_occurrences.specs.Ways.{AreNested, way, told}
use Rattle.wesl_scope_occurrences.specs.Views.{occurrence_view}
use Rattle.wesl_scope_occurrences.specs.declared.occurrence.Occurrence.{Occurrence as FoundOccurrence}
use Rattle.wesl_scope_open.specs.Scopes.{Key, bound, binder_of, meaning, key_as, key_of, keys}
use Rattle.wesl_scope_open.specs.Open.{number_of, by_number}
use Rattle.wesl_scope_open.proofs.Runs.{Every, Found}
use Rattle.wesl_scope_open.proofs.Told.{IfThere, binder_so, back}
use Rattle.wesl_scope_meanings.specs.declared.keys.Key.{Key as FoundKey}
use Rattle.wesl_scope_meanings.specs.declared.keys.Key.TheVariants as made
use Rattle.wesl_scope_meanings.specs.Keys.{key_view, flat, IsKeyBelow}
use Rattle.wesl_scope_meanings.proofs.Scoping.{number_of_way}

pub all_of : {X : Type 0} (P : X → Type 0) (xs : List X) → Every P xs → All P xs
all_of P [] h = λ i d l. absurd (omega (arith, l))
all_of P (x ∷ xs) h = by (all_of P xs h.1)
  where
    by : All P xs → All P (x ∷ xs)
    by rest zero d l = h.0
    by rest (suc i) d l = rest i d (omega (arith, l))

-- ---- keys below
module _ (n : ℕ) where
  abbrev IsWithin : Found → Type 0
  IsWithin o = number_of o.block < n

  abbrev pub IsBelow : Key → Type 0
  IsBelow (bound b x) = number_of b < n
  IsBelow _ = Unit {0}

  meaning_below : (x : Text) (o : Option Found) → IfThere IsWithin o → IsBelow (by_number (meaning x o))
  meaning_below x None h = tt
  meaning_below x (Some o) h = h

  key_below : (all : List Found) → Every IsWithin all → (o : Found) → IsWithin o → (r : Standing) → IsBelow (by_number (key_as all o r))
  key_below all h o t module_name = t
  key_below all h o t parameter = t
  key_below all h o t (local e) = t
  key_below all h o t (reference None) = meaning_below o.name (binder_of all o.name o.place o.block) (binder_so IsWithin all h o.name o.place o.block)
  key_below all h o t (reference (Some p)) = tt
  key_below all h o t word = tt

  pub keys_from : (all os : List Found) → Every IsWithin all → Every IsWithin os → Every IsBelow (map by_number (map (key_of all) os))
  keys_from all [] h g = tt
  keys_from all (o ∷ os) h g = (key_below all h o g.0 o.role, keys_from all os h g.1)

  one_below : (k : FoundKey) → IsBelow (flat k) → IsKeyBelow n k
  one_below (made.Bound b x) h = h
  one_below (made.Free x) h = tt
  one_below (made.Qualified p x) h = tt

  all_below : (ks : List FoundKey) → Every IsBelow (map flat ks) → Every (IsKeyBelow n) ks
  all_below [] h = tt
  all_below (k ∷ ks) h = (one_below k h.0, all_below ks h.1)

  pub keys_within : (all : List Found) → Every IsWithin all → (ks : List FoundKey) → map flat ks ≡ map by_number (keys all) → All (IsKeyBelow n) ks
  keys_within all h ks e = all_of (IsKeyBelow n) ks (all_below ks (subst (λ xs. Every IsBelow xs) (sym e) (keys_from all all h h)))

-- ---- keys by the ways of blocks
module _ (w : ℕ → Block) where
  one_back : (k : FoundKey) → key_view w k ≡ back w (flat k)
  one_back (made.Bound b x) = refl
  one_back (made.Free x) = refl
  one_back (made.Qualified p x) = refl

  pub keys_seen : (ks : List FoundKey) → map (key_view w) ks ≡ map (back w) (map flat ks)
  keys_seen [] = refl
  keys_seen (k ∷ ks) = let e = one_back k in let es = keys_seen ks in rw (e, es) refl

-- ---- identifiers by the ways of their blocks
module _ (ways : WaysLeadOutwards) (outer : List ℕ) (ns : AreNested outer) (f : ℕ → Text) where
  pub told_by_way : (xs : List FoundOccurrence) → All (λ o. o.block < length outer) xs → Every (λ o. o.block ≡ way outer (number_of o.block)) (map (renamed f) (map (told (way outer)) (map occurrence_view xs)))
  told_by_way [] a = tt
  told_by_way (x ∷ xs) a = (ap (way outer) (sym (number_of_way ways outer x.block ns (a 0 x (omega arith)))), told_by_way xs (λ i d l. a (suc i) d (omega (arith, l))))

  pub within_outer : (xs : List FoundOccurrence) → All (λ o. o.block < length outer) xs → Every (λ o. number_of o.block < length outer) (map (renamed f) (map (told (way outer)) (map occurrence_view xs)))
  within_outer [] a = tt
  within_outer (x ∷ xs) a = (subst (λ b. b < length outer) (sym (number_of_way ways outer x.block ns (a 0 x (omega arith)))) (a 0 x (omega arith)), within_outer xs (λ i d l. a (suc i) d (omega (arith, l))))
