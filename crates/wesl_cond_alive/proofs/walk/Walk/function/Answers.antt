use Rattle.std.proofs.Common.{refl}
use Rattle.wesl_cond_alive.specs.Views.{here_view}
use Rattle.wesl_cond_alive.proofs.Steps.{from, next_tree, none, one_mark, over}
use Rattle.wesl_cond_alive.proofs.Nodes.{type_as_open}
use Rattle.wesl_cond_alive.proofs.walk.Walk.function.Goals as goal

pub returns : goal.returns
returns c =
    over (here_view c.args.here.now)
    (next_tree (next_tree (next_tree (next_tree (one_mark (here_view c.args.here.now) c.args.function.now.ident.0 (next_tree (none c.args.self.now) c.attributes.ensures) c.add.ensures) c.parameters.ensures) (from c.whole.ensures c.attributes-2.ensures)) (type_as_open _ c.optional_type.ensures)) (from c.whole-2.ensures c.compound.ensures))
    refl refl
