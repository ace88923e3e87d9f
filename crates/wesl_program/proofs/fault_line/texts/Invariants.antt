use Rattle.std.proofs.Common.{◌≡◌, map, take}
use Rattle.serde_json.specs.View.{items_view}
use Rattle.wesl_program.specs.Line.{texts_value}
use Rattle.wesl_program.proofs.fault_line.texts.Given as goal

abbrev pub invariant-loop-argument : goal.invariant-loop-argument
invariant-loop-argument l = items_view l.texts.items ≡ texts_value (map (λ t. t.now) (take l.argument-index l.arguments))
