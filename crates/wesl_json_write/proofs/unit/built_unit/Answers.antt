use Rattle.std.proofs.Common.{ap, ◌∙◌}
use Rattle.wesl_tree.specs.Translation.{unit_view}
use Rattle.wesl_json_form.specs.Units.{written_as}
use Rattle.wesl_json_write.specs.Holds.{state_of}
use Rattle.wesl_json_write.proofs.Ended.{unit_built}
use Rattle.wesl_json_write.proofs.unit.built_unit.Goals as goal

pub returns : goal.returns
returns c =
    let u = unit_view c.args.unit.now in
    unit_built c.end.result (written_as c.args.spans u) c.into_sink.result (c.law_of_order.ensures c.args.spans u) (ap state_of c.new-out.ensures.sink ∙ c.new.ensures) c.print_unit_to.ensures c.into_sink.ensures c.end.ensures.given c.end.ensures.noted
