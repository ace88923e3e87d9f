use Rattle.std.proofs.Common.{◌≡◌, ◌∙◌, ◌++◌, ◌∷◌, [], ap, sym, false}
use Rattle.std.specs.List.{filter}
use Rattle.wesl_cond_choices.specs.declared.place.Place.{Place}
use Rattle.wesl_tree_base.specs.declared.ids.NameId.{NameId}
use Rattle.wesl_link_symbols.specs.declared.ids.PathId.{PathId}
use Rattle.wesl_link_symbols.specs.declared.symbols.Reference.{Reference}
use Rattle.wesl_link_split.specs.Grouped.{ids, asked_first, has_declaration}
use Rattle.wesl_link_split.specs.ScopeView.{scope_view}
use Rattle.wesl_link_split.specs.Split.{aimed_of, seen}
use Rattle.wesl_link_split.proofs.Lists.{on_ok}
use Rattle.wesl_link_split.proofs.Orders.{asked_aims}
use Rattle.wesl_link_split.proofs.Unsplit.{aimed_declared, aimed_imported}
use Rattle.wesl_link_split.proofs.split.Scope.add_aimed.Goals as goal

pub returns-then-has_declaration : goal.returns-then-has_declaration
returns-then-has_declaration c =
    let s = scope_view c.args.self.now in
    let one : Place → Reference PathId NameId = λ p. record { path = s.own; name = c.args.name; from = p } in
    c.in_ok-push.ensures.items
    ∙ (ap (λ l. l ++ one c.asked_at.result ∷ []) c.requires.empty
    ∙ (ap (λ p. one p ∷ []) c.asked_at.ensures
    ∙ (sym (aimed_declared s c.args.name c.args.here c.args.seen.now (sym c.has_declaration.ensures ∙ c.if-has_declaration.true))
    ∙ ap (λ bs. aimed_of ids s c.args.name c.args.here (filter (λ b. b.declares) bs) bs) c.requires.seen)))

pub returns : goal.returns
returns c =
    let s = scope_view c.args.self.now in
    let bs = seen ids s c.args.name c.args.here in
    let none : has_declaration bs ≡ false = sym (ap has_declaration c.requires.seen) ∙ (sym c.has_declaration.ensures ∙ c.if-has_declaration.false) in
    on_ok c.add_asked.result (λ e. e ∙ (ap asked_first (c.deref.ensures.value ∙ c.in_ok-add_seen_aims.ensures) ∙ (asked_aims s bs ∙ sym (aimed_imported s c.args.name c.args.here bs none)))) c.add_asked.ensures
