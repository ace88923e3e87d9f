use Rattle.std.proofs.Common.{◌≡◌, drop, map}
use Rattle.std.specs.List.{list_all}
use Rattle.wesl_tree_syntax.specs.View.{type_view}
use Rattle.wesl_mangle_forms.specs.TypeText.{is_normal_type}
use Rattle.wesl_mangle_forms.proofs.unicode.are_normal_types.Given as goal

abbrev pub invariant-loop-ty : goal.invariant-loop-ty
invariant-loop-ty l = list_all is_normal_type (map type_view l.types) ≡ list_all is_normal_type (map type_view (drop l.ty-index l.types))
