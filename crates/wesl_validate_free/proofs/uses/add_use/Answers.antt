use Rattle.std.proofs.Common.{◌∙◌, ap, sym}
use Rattle.wesl_tree_syntax.specs.Unit.{name_in}
use Rattle.wesl_scope_occurrences.specs.Views.{occurrence_view}
use Rattle.wesl_validate_rules.specs.Known.{is_unknown}
use Rattle.wesl_validate_free.specs.Uses.{use_at}
use Rattle.wesl_validate_free.proofs.Used.{one_used, none_used}
use Rattle.wesl_validate_free.proofs.uses.add_use.Goals as goal

pub returns-in_ok-push : goal.returns-in_ok-push
returns-in_ok-push c =
    let o = occurrence_view c.args.occurrence.now in
    one_used (is_unknown c.args.known.now.items o) c.args.uses.now.items c.push.new.self.items _ (use_at o.place (name_in c.args.names.now o.name)) (sym c.is_unknown.ensures ∙ c.if-is_unknown.true) c.in_ok-push.ensures.items
    (ap (use_at o.place) c.name.ensures)

pub returns-else-is_unknown : goal.returns-else-is_unknown
returns-else-is_unknown c =
    let o = occurrence_view c.args.occurrence.now in
    none_used (is_unknown c.args.known.now.items o) c.args.uses.now.items (use_at o.place (name_in c.args.names.now o.name)) (sym c.is_unknown.ensures ∙ c.if-is_unknown.false)
