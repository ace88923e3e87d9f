use Rattle.std.proofs.Common.{◌++◌, map, take, string_bytes}
use Rattle.std.specs.List.{flat_map}
use Rattle.wesl_tree_names.specs.Path.{origin_view}
use Rattle.wesl_mangle_forms.specs.Escape.{from_pieces, escaped, escaped_origin}
use Rattle.wesl_mangle_forms.specs.Written.{Says}
use Rattle.wesl_mangle_forms.proofs.escape.escape_form.Given as goal

abbrev pub invariant-loop-component : goal.invariant-loop-component
invariant-loop-component l = Says l.text (from_pieces (escaped_origin (origin_view l.path.origin) ++ flat_map escaped (map string_bytes (take l.component-index l.component-items))))
