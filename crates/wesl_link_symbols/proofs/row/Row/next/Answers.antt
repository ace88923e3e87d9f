use Rattle.std.proofs.Common.{map}
use Rattle.wesl_link_symbols.proofs.Runs.{unseen_of}
use Rattle.wesl_link_symbols.proofs.row.Row.next.Goals as goal

pub returns-clause-unseen : goal.returns-clause-unseen
returns-clause-unseen c =
    unseen_of c.args.alive.now c.args.self.now.imports.items c.args.from c.args.index c.next.result (c.next.ensures.unseen (map (λ i. i.place) c.args.self.now.imports.items) c.requires)
