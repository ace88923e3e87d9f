use Rattle.wesl_link_split.proofs.Passing.{if_some}
use Rattle.wesl_link_split.proofs.split.Scope.held_aim.Goals as goal

pub returns : goal.returns
returns c = if_some _ _ c.value_at.result (λ a there. c.args.self.now.aims_are c.args.binder.now a there) c.value_at.ensures.found
