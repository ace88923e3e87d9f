use Rattle.std.proofs.Common.{arith, length, rules}
use Rattle.wesl_cond_positions.proofs.Fields.{begins_with}
use Rattle.wesl_cond_positions.proofs.Nodes.{selector_found}
use Rattle.wesl_cond_positions.proofs.lookup.Lookup.selectors.Goals as goal

pub returns-in-len1-up : goal.returns-in-len1-up
returns-in-len1-up c =
    selector_found c.args.self.now c.args.selectors.now.items _ c.args.position.now _ _ c.all_if.result c.all_if.ensures (search rules) (begins_with c.args.position.now 0 (length c.args.position.now) c.in-len1-up.len_at_least (omega arith))
