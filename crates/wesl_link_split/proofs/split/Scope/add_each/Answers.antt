use Rattle.std.proofs.Common.{◌∙◌, ◌++◌, ◌||◌, ap, ap₂, sym, take}
use Rattle.wesl_link_split.specs.Grouped.{ids, are_unlike}
use Rattle.wesl_link_split.specs.Split.{has_two_targets}
use Rattle.wesl_link_split.proofs.split.Scope.add_each.Goals as goal

pub returns : goal.returns
returns c =
    let seen = sym (ap (has_two_targets ids) (c.deref.ensures.value ∙ c.in_ok-seen.ensures)) ∙ (sym c.has_two_targets.ensures ∙ c.if-has_two_targets.false) in
    let aimed = sym (ap are_unlike (c.deref-3.ensures.value ∙ c.in_ok-add_aimed.ensures)) ∙ (sym c.are_unlike.ensures ∙ c.if-are_unlike.false) in
    (sym (ap₂ (λ x y. x || y) seen aimed), c.in_ok-add_first.ensures ∙ ap (λ l. c.args.found.now.items ++ take 1 l) (c.deref-4.ensures.value ∙ c.in_ok-add_aimed.ensures))
