-- What a fault tells is so in the module.
use Rattle.std.proofs.Common.{◌≡◌, ℕ, Bool, true, false, cond, ◌&&◌, List, [], ◌∷◌, map, refl, sym, ap, ◌∙◌}
use Rattle.std.specs.Prelude.{Option, Some, None, slice_get}
use Rattle.std.specs.Option.{option_map}
use Rattle.std.specs.List.{filter, find}
use Rattle.wesl_tree_names.specs.Path.{Text}
use Rattle.wesl_tree_syntax.specs.Unit.{UnitView, trees_of, name_in}
use Rattle.wesl_scope_occurrences.specs.Occurrences.{Block, Occurrence, occurrences, is_module_name}
use Rattle.wesl_scope_occurrences.specs.Walk.{Found}
use Rattle.wesl_scope_occurrences.specs.Ways.{told}
use Rattle.wesl_scope_strip.specs.Declarations.{lies_in, declared_in}
use Rattle.wesl_scope_strip.specs.Marks.{names_here}
use Rattle.wesl_validate_builtins.specs.Builtins.{BuiltinNames}
use Rattle.wesl_validate_rules.specs.Valid.{spelling}
use Rattle.wesl_validate_rules.specs.Faults.{name_round, IsUndefined}
use Rattle.wesl_validate_rules.specs.Known.{IsUndefinedAt}

-- the first of a list that passes, seen by `g`
module _ {A B : Type 0} (v : A → B) (p : B → Bool) (g : B → ℕ) (q : A → Bool) (h : A → ℕ) (tests : (x : A) → p (v x) ≡ q x) (sees : (x : A) → g (v x) ≡ h x) where
  first_passing : (xs : List A) → slice_get (map g (filter p (map v xs))) 0 ≡ option_map h (find q xs)
  first_passing [] = refl
  first_passing (x ∷ xs) = ap (λ t. slice_get (map g (cond t (v x ∷ filter p (map v xs)) (filter p (map v xs)))) 0) (tests x) ∙ by (q x) (first_passing xs)
    where
      by : (t : Bool) → slice_get (map g (filter p (map v xs))) 0 ≡ option_map h (find q xs) → slice_get (map g (cond t (v x ∷ filter p (map v xs)) (filter p (map v xs)))) 0 ≡ option_map h (cond t (Some x) (find q xs))
      by true e = ap Some (sees x)
      by false e = e

module _ (u : UnitView) (names : List Text) (w : ℕ → Block) (os : List Found) (all_is : map (told w) os ≡ occurrences (trees_of u)) (same : names ≡ u.names) where
  first_declared : (j : ℕ) → slice_get (declared_in u j) 0 ≡ option_map (λ o. o.name) (find (names_here j) os)
  first_declared j =
      ap (λ xs. slice_get (map (λ (o : Occurrence ℕ). o.name) (filter (λ (o : Occurrence ℕ). is_module_name o.role && lies_in j o.declaration) xs)) 0) (sym all_is)
      ∙ first_passing (told w) (λ (o : Occurrence ℕ). is_module_name o.role && lies_in j o.declaration) (λ (o : Occurrence ℕ). o.name) (names_here j) (λ (o : Found). o.name) (λ o. refl) (λ o. refl) os

  spelled_as : (r : Option Found) → option_map (name_in names) (option_map (λ o. o.name) r) ≡ option_map (λ o. name_in names o.name) r
  spelled_as None = refl
  spelled_as (Some o) = refl

  -- the name of a declaration, where its name was found
  pub round_is : (j : ℕ) → name_round u (Some j) ≡ option_map (λ o. name_in names o.name) (find (names_here j) os)
  round_is j =
      ap (λ ns. option_map (name_in ns) (slice_get (declared_in u j) 0)) (sym same)
      ∙ (ap (option_map (name_in names)) (first_declared j) ∙ spelled_as (find (names_here j) os))

module _ (u : UnitView) (b : BuiltinNames) (names : List Text) (same : names ≡ u.names) where
  pub undefined_told : (m : ℕ) (d : Option ℕ) (n : Text) (within : Option Text) → IsUndefinedAt u b m d → n ≡ name_in names m → within ≡ name_round u d → IsUndefined u b within n
  undefined_told m d n within f n_is within_is = record {
    found = f.found;
    there = f.there;
    undefined = f.undefined;
    named = ap (spelling u) f.named ∙ (ap (λ ns. name_in ns m) (sym same) ∙ sym n_is);
    round = ap (name_round u) f.lies ∙ sym within_is;
  }
