use Rattle.wesl_json_form.specs.View.{borrowed_view}
use Rattle.wesl_program.proofs.TreeFaults.{refused-with}
use Rattle.wesl_program.proofs.bundle_resolver.read_unit.Goals as goal

pub returns-in-Err-clause-refused : goal.returns-in-Err-clause-refused
returns-in-Err-clause-refused c = refused-with (borrowed_view c.args.value.now) c.in-Err.fault c.refused.result c.in-Err.ensures.refused c.refused.ensures.error
