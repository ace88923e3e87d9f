use Rattle.wesl_tree.specs.Translation.{unit_view}
use Rattle.wesl_cond_positions.proofs.Spelled.{spelled_found}
use Rattle.wesl_cond_positions.proofs.unit.position_set.Goals as goal

pub returns-clause-set : goal.returns-clause-set
returns-clause-set c = spelled_found _ c.unit.result c.args.position.now (unit_view c.args.unit.now) c.names.ensures.names c.unit.ensures
