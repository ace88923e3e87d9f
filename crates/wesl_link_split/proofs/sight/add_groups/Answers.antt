use Rattle.std.proofs.Common.{[], subst, sym, take}
use Rattle.wesl_link_split.specs.Grouped.{AreGrouped}
use Rattle.wesl_link_split.proofs.Lists.{take_one, taken_all}
use Rattle.wesl_link_split.proofs.Grouping.{grouped_none}
use Rattle.wesl_link_split.proofs.sight.add_groups.Goals as goal

pub loop-binder-init : goal.loop-binder-init
loop-binder-init c = subst (λ ns. AreGrouped [] ns c.args.groups.now.items) (sym c.requires.names) (subst (λ gs. AreGrouped [] [] gs) (sym c.requires.groups) grouped_none)

pub add_to_group-requires : goal.add_to_group-requires
add_to_group-requires c = c.loop-binder.invariant.long

pub loop-binder-preserved : goal.loop-binder-preserved
loop-binder-preserved c =
    subst (λ bs. AreGrouped bs c.add_to_group.new.names.keys c.add_to_group.new.groups.items) (sym (take_one c.args.binders.now c.loop-binder.binder-index _ c.loop-binder-test.true))
    (c.in_ok-add_to_group.ensures (take c.loop-binder.binder-index c.args.binders.now) c.loop-binder.invariant)

pub returns : goal.returns
returns c = subst (λ bs. AreGrouped bs c.loop-binder.names.keys c.loop-binder.groups.items) (taken_all c.args.binders.now c.loop-binder.binder-index c.loop-binder-test.false) c.loop-binder.invariant
