use Rattle.std.proofs.Common.{◌∙◌, sym, ap, take, ◌++◌}
use Rattle.wesl_link_split.specs.ScopeView.{scope_view}
use Rattle.wesl_link_split.proofs.Unsplit.{aimed_whole, never_unclear}
use Rattle.wesl_link_split.proofs.split.Scope.add_plain.Goals as goal

pub returns : goal.returns
returns c =
    let s = scope_view c.args.self.now in
    let none = sym c.has_split.ensures ∙ c.if-has_split.false in
    (sym (never_unclear s none c.args.name c.args.here), c.in_ok-add_whole.ensures ∙ ap (λ rs. c.args.found.now.items ++ take 1 rs) (sym (aimed_whole s none c.args.name c.args.here)))
