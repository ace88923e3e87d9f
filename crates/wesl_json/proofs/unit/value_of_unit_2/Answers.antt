use Rattle.std.proofs.Common.{true, ap, ◌∙◌}
use Rattle.std.proofs.lemmas.Result.{IfOk-weaker}
use Rattle.serde_json.specs.Written.{has_float}
use Rattle.wesl_tree.specs.Translation.{unit_view}
use Rattle.wesl_json.proofs.unit.value_of_unit_2.Goals as goal

pub returns-clause-written : goal.returns-clause-written
returns-clause-written c = c.value_of_unit.ensures.written

pub returns-clause-refused : goal.returns-clause-refused
returns-clause-refused c = c.value_of_unit.ensures.refused

pub returns-clause-whole : goal.returns-clause-whole
returns-clause-whole c = IfOk-weaker c.value_of_unit.result _ _ (λ v h. ap has_float h ∙ c.law_of_whole_values.ensures true (unit_view c.args.unit.now)) c.value_of_unit.ensures.written
