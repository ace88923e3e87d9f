use Rattle.std.proofs.Common.{false}
use Rattle.wesl_cond_chains.specs.Nodes.{replies}
use Rattle.wesl_cond_chains.proofs.Begun.{list_clear, list_told}
use Rattle.wesl_cond_chains.proofs.faults.check_list.Goals as goal

pub returns-in-Ok : goal.returns-in-Ok
returns-in-Ok g c = list_clear (replies c.args.names.now c.args.features.now) g.T.Conditional.tree c.args.names.now c.args.nodes.now.items c.in-Ok.field-0 (c.in-Ok.ensures false)

pub returns-in-Err : goal.returns-in-Err
returns-in-Err g c = list_told (replies c.args.names.now c.args.features.now) g.T.Conditional.tree c.args.names.now c.args.nodes.now.items c.in-Err.fault (c.in-Err.ensures false)
