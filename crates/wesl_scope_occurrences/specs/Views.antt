-- What the walk's values stand for.
use Rattle.std.specs.Prelude.{ℕ, Option}
use Rattle.std.specs.Box.{box_value}
use Rattle.std.specs.Global.{Box}
use Rattle.std.specs.Option.{option_map}
use Rattle.wesl_tree_names.specs.Path.{Path, path_view}
use Rattle.wesl_tree_names.specs.declared.path.ModulePath.{ModulePath}
use Rattle.wesl_scope_occurrences.specs.Occurrences as spec
use Rattle.wesl_scope_occurrences.specs.Occurrences.{Surroundings}
use Rattle.wesl_scope_occurrences.specs.Walk.{Found}
use Rattle.wesl_scope_occurrences.specs.declared.occurrence.Standing.{Standing}
use Rattle.wesl_scope_occurrences.specs.declared.occurrence.Standing.TheVariants as standings
use Rattle.wesl_scope_occurrences.specs.declared.occurrence.Occurrence.{Occurrence}
use Rattle.wesl_scope_occurrences.specs.declared.here.Here.{Here}

-- the path before a name, if one stands there
abbrev pub leading_path : Option (Box ModulePath) → Option Path
leading_path = option_map (λ p. path_view (box_value p))

-- how an identifier of the code stands
abbrev pub standing_view : Standing → spec.Standing
standing_view standings.ModuleName = spec.module_name
standing_view standings.Parameter = spec.parameter
standing_view (standings.Local e) = spec.local e
standing_view (standings.Reference p) = spec.reference (option_map (λ r. path_view r.now) p)
standing_view standings.Word = spec.word

-- an identifier of the code, where a block is told by its number
abbrev pub occurrence_view : Occurrence → Found
occurrence_view o = record { role = standing_view o.standing; name = o.ident.0; place = o.place; block = o.block; declaration = o.declaration; excused = o.is_excused }

-- surroundings of the code, where a block is told by its number
abbrev pub here_view : Here → Surroundings ℕ
here_view h = record { block = h.block; held_block = h.held_block; is_local = h.is_local; declaration = h.declaration; words = h.words; excused = h.excused }
