use Rattle.std.proofs.Common.{◌≡◌, ◌∙◌, ◌++◌, ◌∷◌, [], sym, rules}
use Rattle.std.specs.Prelude.{bytes_eq, if◌then◌else◌}
use Rattle.std.specs.List.{list_any}
use Rattle.wesl_tree_syntax.specs.Unit.{name_in}
use Rattle.wesl_scope_occurrences.specs.Views.{occurrence_view}
use Rattle.wesl_validate_rules.specs.Known.{is_unknown}
use Rattle.wesl_validate_free.proofs.Gathering.{one_added, none_added}
use Rattle.wesl_validate_free.proofs.gather.add_unknown.Goals as goal

pub returns-in_ok-insert : goal.returns-in_ok-insert
returns-in_ok-insert c =
    let seen = c.args.free.now.keys in
    let key = c.name.result in
    let o = c.args.occurrence.now in
    let keys : c.insert.new.self.keys ≡ (if list_any (λ k. bytes_eq key.now k.now) seen then seen else seen ++ key ∷ []) = search rules in
    one_added (is_unknown c.args.known.now.items (occurrence_view o)) seen c.insert.new.self.keys key (name_in c.args.names.now o.ident.0) (sym c.is_unknown.ensures ∙ c.if-is_unknown.true) c.name.ensures keys

pub returns-else-is_unknown : goal.returns-else-is_unknown
returns-else-is_unknown c =
    let o = c.args.occurrence.now in
    none_added (is_unknown c.args.known.now.items (occurrence_view o)) c.args.free.now.keys (name_in c.args.names.now o.ident.0) (sym c.is_unknown.ensures ∙ c.if-is_unknown.false)
