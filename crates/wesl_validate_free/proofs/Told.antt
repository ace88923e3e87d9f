-- What is told by marks is what is not defined; and the laws.
use Rattle.std.proofs.Common.{◌≡◌, ℕ, ◌<◌, ◌||◌, Bool, List, length, map, refl, sym, ap, ◌∙◌}
use Rattle.std.specs.Prelude.{Option, [], ◌∷◌}
use denote.Ref.{Bor}
use Rattle.std.specs.List.{Contains, filter}
use Rattle.wesl_tree_base.specs.Borrowed.{texts}
use Rattle.wesl_tree_names.specs.Path.{Text}
use Rattle.wesl_tree_syntax.specs.Unit.{UnitView, trees_of, name_in}
use Rattle.wesl_scope_occurrences.specs.Occurrences.{Block, Occurrence, occurrences}
use Rattle.wesl_scope_occurrences.specs.Walk.{Found}
use Rattle.wesl_scope_occurrences.specs.Ways.{told}
use Rattle.wesl_scope_strip.specs.Marks.{mark_at}
use Rattle.wesl_validate_builtins.specs.Builtins.{BuiltinNames}
use Rattle.wesl_validate_rules.specs.Valid.{is_undefined}
use Rattle.wesl_validate_rules.specs.Faults.{IsUndefined, name_round}
use Rattle.wesl_validate_rules.specs.Known.{is_meant, binds, is_unknown}
use Rattle.wesl_validate_rules.proofs.Finding.{test_is}
use Rattle.wesl_validate_free.specs.Free.{each_once, undefined_names, free_names}
use Rattle.wesl_validate_free.specs.Gathered.{unknown_names}
use Rattle.wesl_validate_free.specs.Laws.{NoneIsDefined, TellsUndefined, TellsEachOnce}
use Rattle.wesl_validate_free.proofs.Once.{once_apart}
use Rattle.wesl_validate_free.proofs.Gathering.{same_names, none_named, of_named, to_named}

-- by marks as by the definition
module _ (u : UnitView) (b : BuiltinNames) (names : List Text) (w : ℕ → Block) (os : List Found) (known : List Bool) (all_is : map (told w) os ≡ occurrences (trees_of u)) (same : names ≡ u.names)
    (within : (o : Found) → Contains os o → o.name < length names)
    (known_is : (m : ℕ) → m < length names → mark_at known m ≡ (is_meant b (name_in names m) || binds os m)) where
  pub told_is : each_once (unknown_names known names os) ≡ free_names u b
  told_is =
      ap each_once
      (sym (same_names (told w) (is_undefined u b) (is_unknown known) (λ (o : Occurrence ℕ). name_in u.names o.name) (λ (o : Found). name_in names o.name) (λ o. ap (λ ns. name_in ns o.name) (sym same)) os (test_is u b names w os known all_is same within known_is))
      ∙ ap (λ xs. map (λ (o : Occurrence ℕ). name_in u.names o.name) (filter (is_undefined u b) xs)) all_is)

-- laws
pub none_is_defined : NoneIsDefined
none_is_defined u b = none_named (is_undefined u b) (λ o. name_in u.names o.name) (occurrences (trees_of u))

pub tells_undefined : TellsUndefined
tells_undefined u b n = (there, back)
  where
    there : Contains (free_names u b) n → (within : Option Text) × IsUndefined u b within n
    there c =
        let s = of_named (is_undefined u b) (λ (o : Occurrence ℕ). name_in u.names o.name) (occurrences (trees_of u)) n c in
        (name_round u s.0.declaration, record { found = s.0; there = s.1.0; undefined = s.1.1.0; named = s.1.1.1; round = refl })

    back : (within : Option Text) × IsUndefined u b within n → Contains (free_names u b) n
    back (within, d) = to_named (is_undefined u b) (λ (o : Occurrence ℕ). name_in u.names o.name) (occurrences (trees_of u)) n d.found d.there d.undefined d.named

pub tells_each_once : TellsEachOnce
tells_each_once u b = once_apart (undefined_names u b)

-- texts that are none
pub none_told : (xs : List (Bor Text)) → texts xs ≡ [] → xs ≡ []
none_told [] e = refl
none_told (x ∷ xs) e = cc
