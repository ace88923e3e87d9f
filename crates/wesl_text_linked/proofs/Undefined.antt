-- The first free name.
use Rattle.std.proofs.Common.{◌≡◌, ◌∙◌, Some, None, List, [], ◌∷◌, slice_get, option_map, refl, sym as turned, ap, subst}
use Rattle.std.proofs.lemmas.Option.{slice_get-map}
use Rattle.std.specs.Borrow.{Bor}
use Rattle.wesl_tree_base.specs.Borrowed.{texts}
use Rattle.wesl_tree_names.specs.Path.{Text}
use Rattle.wesl_tree_names.specs.Errors.{IsBare}
use Rattle.wesl_tree_names.specs.declared.errors.Error as error
use Rattle.wesl_tree_names.specs.declared.errors.Diagnostic.{Diagnostic}
use Rattle.wesl_tree_syntax.specs.Unit.{UnitView}
use Rattle.wesl_validate_builtins.specs.Builtins.{BuiltinNames}
use Rattle.wesl_validate_free.specs.Free.{free_names}
use Rattle.wesl_text_linked.specs.Validity.{RefusesNames, TellsUndefined}

-- a list without a first element is empty
pub no_first : {X : Type 0} (xs : List X) → slice_get xs 0 ≡ None → xs ≡ []
no_first [] is = refl
no_first (x ∷ xs) is = let z : ⊥ = Prim.cc is in absurd z

-- the first free name is told
pub first_told : (u : UnitView) (builtins : BuiltinNames) (free : List (Bor Text)) (name : Bor Text) → texts free ≡ free_names u builtins → slice_get free 0 ≡ Some name
    → (e : error.Error) (d : Diagnostic) → TellsUndefined (Some name.now) e → IsBare e d → RefusesNames u builtins d
first_told u builtins free name told is e d undefined bare =
    let first : Some name.now ≡ slice_get (free_names u builtins) 0 =
    turned (ap (option_map (λ x. x.now)) is) ∙ (turned (slice_get-map (λ (x : Bor Text). x.now) free 0) ∙ ap (λ ns. slice_get ns 0) told) in
    (e, subst (λ o. TellsUndefined o e) first undefined, bare)
