use Rattle.std.proofs.Common.{◌++◌, ◌∷◌, [], map, take, length}
use Rattle.std.specs.List.{flat_map}
use Rattle.std.specs.Fmt.{decimal}
use lib.Chars.{codes}
use Rattle.wesl_mangle_forms.specs.Escape.{from_pieces, escaped_part}
use Rattle.wesl_mangle_forms.specs.Written.{AddsText}
use Rattle.wesl_mangle_forms.proofs.escape.push_imported.Given as goal

abbrev pub invariant-loop-part : goal.invariant-loop-part
invariant-loop-part l = AddsText l.fn.text l.text (from_pieces ((codes "import" ∷ decimal (length l.parts) ∷ []) ++ flat_map escaped_part (map (λ x. x.now) (take l.part-index l.parts))))
