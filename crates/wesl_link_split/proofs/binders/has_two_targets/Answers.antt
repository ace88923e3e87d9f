use Rattle.std.proofs.Common.{◌∙◌, sym}
use Rattle.wesl_link_split.specs.Grouped.{ids}
use Rattle.wesl_link_split.specs.Split.{same_target}
use Rattle.wesl_link_split.proofs.Grouping.{get_contained}
use Rattle.wesl_link_split.proofs.Targets.{unlike_first, targets_equal}
use Rattle.wesl_link_split.proofs.binders.has_two_targets.Goals as goal

pub returns-in-Some : goal.returns-in-Some
returns-in-Some c = c.differs.ensures ∙ sym (unlike_first (same_target ids) targets_equal c.args.binders.now c.in-Some.first.now (get_contained c.args.binders.now 0 c.in-Some.first.now (sym c.in-Some.ensures.value)))
