use Rattle.std.proofs.Common.{◌≡◌, length, rules}
use Rattle.wesl_link_reasons.proofs.Adding.{adds_one, indexed_add}
use Rattle.wesl_link_reasons.proofs.findings.Findings.add.Goals as goal

pub returns-clause-indexed : goal.returns-clause-indexed
returns-clause-indexed c =
    let counted : c.len.result ≡ length c.args.self.now.nodes.items = search rules in
    indexed_add c.args.self.now.nodes.items _ c.args.node c.args.asker c.len.result _ _ counted c.requires.indexed c.requires.fresh c.in_ok-put.ensures.puts c.in_ok-push.ensures.items

pub returns-clause-adds : goal.returns-clause-adds
returns-clause-adds c = adds_one c.args.self.now.nodes.items _ c.args.node c.args.asker c.in_ok-push.ensures.items
