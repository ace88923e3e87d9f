use Rattle.std.proofs.Common.{◌∙◌, ◌∷◌, [], ap, false, sym}
use Rattle.wesl_link_split.specs.Grouped.{ids}
use Rattle.wesl_link_split.specs.ScopeView.{scope_view}
use Rattle.wesl_link_split.specs.Split.{asked_plain, is_unclear_plain, under}
use Rattle.wesl_link_split.specs.declared.binders.Aim.{Aim}
use Rattle.wesl_link_split.proofs.Anywhere.{adds_answer, if_ok}
use Rattle.wesl_link_split.proofs.OneTarget.{asks_own, asks_elsewhere}
use Rattle.wesl_link_split.proofs.split.Scope.add_one.Goals as goal

pub returns-then-is_sought_seen : goal.returns-then-is_sought_seen
returns-then-is_sought_seen c =
    let s = scope_view c.args.self.now in
    let asks = asks_own s c.args.name c.args.here c.args.first.now c.requires.one (sym c.is_sought_seen.ensures ∙ c.if-is_sought_seen.true) in
    if_ok c.add_own.result (λ b h.
    adds_answer b false (is_unclear_plain ids s c.args.name c.args.here) c.args.found.now.items c.add_own.new.found.items (under ids s c.args.name c.args.here s.own ∷ []) (asked_plain ids s c.args.name c.args.here)
    h.0 (sym asks.0) h.1 (sym asks.1)) c.add_own.ensures

pub returns : goal.returns
returns c =
    let s = scope_view c.args.self.now in
    let asks = asks_elsewhere s c.args.name c.args.here c.args.first.now c.requires.one (sym c.is_sought_seen.ensures ∙ c.if-is_sought_seen.false) (sym c.is_own_split.ensures ∙ c.if-is_own_split.false) in
    if_ok c.add_reference.result (λ b h.
    adds_answer b false (is_unclear_plain ids s c.args.name c.args.here) c.args.found.now.items c.add_reference.new.found.items (c.aim_elsewhere-aim.result.reference ∷ []) (asked_plain ids s c.args.name c.args.here)
    h.0 (sym asks.0) h.1 (ap (λ (a : Aim). a.reference ∷ []) c.aim_elsewhere-aim.ensures ∙ sym asks.1)) c.add_reference.ensures
