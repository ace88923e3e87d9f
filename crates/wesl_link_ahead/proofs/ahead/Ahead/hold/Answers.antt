use Rattle.std.proofs.Common.{refl}
use Rattle.wesl_link_symbols.specs.declared.ids.PathId.{PathId}
use Rattle.wesl_tree_base.specs.declared.ids.NameId.{NameId}
use Rattle.wesl_link_symbols.specs.declared.symbols.Symbol.{Symbol}
use Rattle.wesl_link_reach.specs.World.{Reached}
use Rattle.wesl_link_reach.specs.World.Reached.{declared}
use Rattle.wesl_link_ahead.specs.Ahead.{task_in, world_in}
use Rattle.wesl_link_ahead.proofs.Going.{puts_all}
use Rattle.wesl_link_ahead.proofs.ahead.Ahead.hold.Goals as goal

pub returns-in_ok-put-in-Some : goal.returns-in_ok-put-in-Some
returns-in_ok-put-in-Some c = record {
  ahead = record {
    placed = c.requires.ahead.placed;
    entered = c.requires.ahead.entered;
    reached = puts_all (λ (x : Symbol PathId NameId). Reached (world_in c.args.linking.now) (task_in c.args.linking.now) x) _ _ _ (rw c.path-path.ensures at c.in_ok-put-in-Some.ensures) c.requires.ahead.reached
        (declared (record { path = c.args.table.now.path; name = c.in-Some.name }) c.args.table.now c.requires.eager c.requires.entered (c.requires.there, refl) (c.requires.declared c.in-Some.name c.in-Some.is));
    waiting = c.requires.ahead.waiting;
  };
}
