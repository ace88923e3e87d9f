use Rattle.std.proofs.Common.{◌∙◌, sym}
use Rattle.wesl_link_split.specs.Grouped.{ids}
use Rattle.wesl_link_split.specs.Split.{same_reference}
use Rattle.wesl_link_split.proofs.Grouping.{get_contained}
use Rattle.wesl_link_split.proofs.Targets.{unlike_first, references_equal}
use Rattle.wesl_link_split.proofs.binders.are_unlike.Goals as goal

pub returns-in-Some : goal.returns-in-Some
returns-in-Some c = c.asks_otherwise.ensures ∙ sym (unlike_first (same_reference ids) references_equal c.args.references.now c.in-Some.first.now (get_contained c.args.references.now 0 c.in-Some.first.now (sym c.in-Some.ensures.value)))
