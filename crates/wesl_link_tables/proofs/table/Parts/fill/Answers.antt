use Rattle.std.proofs.Common.{◌∙◌, ap, sym, subst}
use Rattle.wesl_tree_names.specs.Path.{path_view}
use Rattle.wesl_tree_syntax.specs.Unit.{spelled}
use Rattle.wesl_tree.specs.Translation.{unit_view}
use Rattle.wesl_link_split.specs.ScopeView.{scope_view}
use Rattle.wesl_link_split.proofs.Agreed.{ask_alike}
use Rattle.wesl_link_tables.specs.Imports.{imports}
use Rattle.wesl_link_tables.specs.Numbering.{AreNumberedImports}
use Rattle.wesl_link_tables.specs.NumbersView.{numbering}
use Rattle.wesl_link_tables.specs.Parts.{settled_in}
use Rattle.wesl_link_tables.specs.Tables.{scope_of, table_at}
use Rattle.wesl_link_tables.proofs.Alike.{settled_alike}
use Rattle.wesl_link_tables.proofs.Related.{imports_later}
use Rattle.wesl_link_tables.proofs.table.Parts.fill.Goals as goal
use Rattle.wesl_link_split.proofs.Lists.{on_ok}

pub returns-clause-imports : goal.returns-clause-imports
returns-clause-imports c =
    let numbers = c.args.numbers.now in
    let n0 = numbering numbers in
    let n1 = numbering c.mark_unit.new.numbers in
    let own = path_view c.args.path.now in
    let u = spelled (unit_view c.args.unit.now) in
    let s = scope_view c.args.scope.now in
    let is = c.args.numbered.now.imports.items in
    let same = settled_alike n0 s (scope_of own u) (ask_alike n0 numbers.names.different numbers.paths.different s (scope_of own u) c.requires.scope) is (imports own u) c.requires.numbered.imports in
    let made = c.in_ok-add_settled.ensures ∙ ap (settled_in c.args.scope.now) c.deref.ensures.value in
    on_ok c.mark_unit.result (λ h. subst (λ l. AreNumberedImports n1 l (table_at own u).imports) (sym made) (imports_later n0 n1 c.mark_unit.ensures.grows (settled_in c.args.scope.now is) (table_at own u).imports same)) c.mark_unit.ensures.declared
