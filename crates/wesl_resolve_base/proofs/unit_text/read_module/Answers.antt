use Rattle.std.proofs.Common.{None, Some}
use Rattle.wesl_tree_names.specs.Path.{path_view}
use Rattle.wesl_resolve_base.proofs.RefusalLemmas.{refused-as}
use Rattle.wesl_resolve_base.proofs.unit_text.read_module.Goals as goal

pub returns-in-Ok-clause-read : goal.returns-in-Ok-clause-read
returns-in-Ok-clause-read g c = c.in-Ok.ensures.read

pub returns-in-Err-clause-refused : goal.returns-in-Err-clause-refused
returns-in-Err-clause-refused g c = refused-as (g.P.UnitText.unreadable c.args.text.now c.args.source.now) _ (path_view c.args.path.now) None (Some c.args.source.now) c.in-Err.ensures.refused c.unreadable.result c.unreadable.ensures
