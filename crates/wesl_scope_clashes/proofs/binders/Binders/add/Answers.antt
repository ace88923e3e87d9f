use Rattle.std.proofs.Common.{ap, ◌∙◌}
use Rattle.std.specs.Option.{option_or}
use Rattle.wesl_scope_clashes.specs.Sightings.{if_met}
use Rattle.wesl_scope_clashes.proofs.Steps.{added_in}
use Rattle.wesl_scope_clashes.proofs.binders.Binders.add.Goals as goal

pub returns : goal.returns
returns c = λ k p x.
    added_in c.grow.new.self.of.items c.args.meaning c.index_mut.result.now c.add.new.sightings c.args.next c.in_ok-grow.ensures.there c.index_mut.ensures.value c.in_ok-add.ensures k p x
    ∙ ap (λ o. option_or o (if_met k p x c.args.meaning c.args.next)) (c.in_ok-grow.ensures.same k p x)
