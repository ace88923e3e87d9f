-- What is gathered of identifiers, by marks of the numbers that are known.
use Rattle.std.specs.Prelude.{Bool, List, [], ◌∷◌, map, flat_map, if◌then◌else◌}
use Rattle.std.specs.List.{filter}
use Rattle.wesl_tree_names.specs.Path.{Text}
use Rattle.wesl_tree_syntax.specs.Unit.{name_in}
use Rattle.wesl_tree_interner.specs.Interned.{with_text}
use Rattle.wesl_scope_occurrences.specs.Views.{occurrence_view}
use Rattle.wesl_scope_occurrences.specs.Walk.{Found}
use Rattle.wesl_scope_occurrences.specs.declared.occurrence.Occurrence.{Occurrence}
use Rattle.wesl_scope_occurrences.specs.declared.whole.Identifiers.{Identifiers}
use Rattle.wesl_validate_rules.specs.Known.{is_unknown}
use Rattle.wesl_validate_free.specs.Free.{each_once}
use Rattle.wesl_validate_free.specs.Uses.{Use, use_at}
use Rattle.wesl_validate_free.specs.declared.uses.FreeUse.{FreeUse}

-- what uses of the code stand for, one by one
abbrev pub uses_view : List FreeUse → List Use
uses_view = map (λ x. use_at x.place x.name.now)

module _ (known : List Bool) (names : List Text) where
  -- texts with the name of an identifier, which goes last unless it is there, if it is a reference to nothing known
  abbrev pub with_unknown : List Text → Occurrence → List Text
  with_unknown free o = if is_unknown known (occurrence_view o) then with_text free (name_in names o.ident.0) else free

  -- the names of the references to nothing known
  abbrev pub unknown_names : List Found → List Text
  unknown_names os = map (λ o. name_in names o.name) (filter (is_unknown known) os)

  -- those among the identifiers of a module, each once
  abbrev pub unknown_in : Identifiers → List Text
  unknown_in found = each_once (unknown_names (map occurrence_view found.all.items))

  -- the use that an identifier is, if it is a reference to nothing known
  abbrev pub use_here : Found → List Use
  use_here o = if is_unknown known o then use_at o.place (name_in names o.name) ∷ [] else []

  -- those that these identifiers are
  abbrev pub uses_among : List Found → List Use
  uses_among os = flat_map use_here os
