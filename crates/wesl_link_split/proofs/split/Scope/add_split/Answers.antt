use Rattle.std.proofs.Common.{◌∙◌, ◌++◌, ap, append-nil, refl, subst, sym}
use Rattle.wesl_link_split.specs.Grouped.{ids, IsStart}
use Rattle.wesl_link_split.specs.ScopeView.{scope_view}
use Rattle.wesl_link_split.specs.Split.{seen}
use Rattle.wesl_link_split.specs.declared.binders.Start.{Start}
use Rattle.wesl_link_split.proofs.Leads.{all_lead}
use Rattle.wesl_link_split.proofs.OneTarget.{asks_none, asks_several}
use Rattle.wesl_link_split.proofs.split.Scope.add_split.Goals as goal

pub returns-in-Nothing : goal.returns-in-Nothing
returns-in-Nothing c =
    let s = scope_view c.args.self.now in
    let bs = seen ids s c.args.name c.args.here in
    let none = subst (IsStart c.lead.result) (all_lead bs) c.lead.ensures in
    let asks = asks_none s c.args.name c.args.here (subst (λ (x : Start). IsStart x bs) c.in-Nothing.is none) in
    (sym asks.0, sym (append-nil c.args.found.now.items) ∙ ap (λ l. c.args.found.now.items ++ l) (sym asks.1))

pub returns-in-Several : goal.returns-in-Several
returns-in-Several c =
    let s = scope_view c.args.self.now in
    let bs = seen ids s c.args.name c.args.here in
    let two = subst (IsStart c.lead.result) (all_lead bs) c.lead.ensures in
    (sym (asks_several s c.args.name c.args.here (subst (λ (x : Start). IsStart x bs) c.in-Several.is two)), refl)

pub add_one-requires-clause-one : goal.add_one-requires-clause-one
add_one-requires-clause-one c =
    let bs = seen ids (scope_view c.args.self.now) c.args.name c.args.here in
    subst (λ (x : Start). IsStart x bs) c.in-One.is (subst (IsStart c.lead.result) (all_lead bs) c.lead.ensures)
