use Rattle.std.proofs.Common.{sym, ◌∙◌}
use Rattle.wesl_cond_choices.proofs.Kept.{told_always, told_second, told_first, told_both}
use Rattle.wesl_cond_choices.proofs.alive.PlaceSets.together.Goals as goal

pub returns-then-is_always-2 : goal.returns-then-is_always-2
returns-then-is_always-2 c =
    told_always c.args.self.now c.args.first c.args.second (sym c.is_always.ensures ∙ c.if-is_always.true) (sym c.is_always-then-is_always.ensures ∙ c.if-is_always-2.true)

pub returns-then-is_always : goal.returns-then-is_always
returns-then-is_always c =
    told_second c.args.self.now c.args.first c.args.second c.share_choice.result (sym c.is_always.ensures ∙ c.if-is_always.true)
    (sym c.is_always-then-is_always.ensures ∙ c.if-is_always-2.false) c.share_choice.ensures

pub returns-then-is_always-3 : goal.returns-then-is_always-3
returns-then-is_always-3 c =
    told_first c.args.self.now c.args.first c.args.second c.share_choice-then-is_always-3.result (sym c.is_always.ensures ∙ c.if-is_always.false)
    (sym c.is_always-2.ensures ∙ c.if-is_always-3.true) c.share_choice-then-is_always-3.ensures

pub returns : goal.returns
returns c =
    told_both c.args.self.now c.args.first c.args.second c.share_choice-2.result (sym c.is_always.ensures ∙ c.if-is_always.false)
    (sym c.is_always-2.ensures ∙ c.if-is_always-3.false) c.share_choice-2.ensures
