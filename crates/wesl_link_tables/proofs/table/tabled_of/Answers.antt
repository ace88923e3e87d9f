use Rattle.std.proofs.Common.{ap, sym, subst}
use Rattle.std.proofs.lemmas.Result.{IfOk-weaker}
use Rattle.wesl_tree_names.specs.Path.{path_view}
use Rattle.wesl_tree_syntax.specs.Unit.{spelled}
use Rattle.wesl_tree.specs.Translation.{unit_view}
use Rattle.wesl_link_tables.specs.Marks.{AreMarked}
use Rattle.wesl_link_tables.specs.NumbersView.{numbering}
use Rattle.wesl_link_tables.specs.Tables.{uses}
use Rattle.wesl_link_tables.proofs.Scoping.{scope_numbered, table_numbered}
use Rattle.wesl_link_tables.proofs.table.tabled_of.Goals as goal

pub fill-requires-clause-scope : goal.fill-requires-clause-scope
fill-requires-clause-scope c =
    let numbers = c.args.numbers.now in
    scope_numbered (numbering numbers) numbers.names.different numbers.paths.different c.args.id (path_view c.args.path.now) c.requires.held (unit_view c.args.unit.now) c.args.numbered.now c.requires.numbered c.in_ok-scoped.scoped c.in_ok-scoped.ensures

pub returns-clause-numbered : goal.returns-clause-numbered
returns-clause-numbered c =
    let numbers = c.args.numbers.now in
    let parts = c.fill.new.self in
    IfOk-weaker c.make_tabled.result _ _
    (λ t e. table_numbered (numbering numbers) numbers.names.different numbers.paths.different c.args.id (path_view c.args.path.now) c.requires.held (unit_view c.args.unit.now) c.args.numbered.now c.requires.numbered
    (numbering c.fill.new.numbers) c.fill.ensures.grows c.in_ok-scoped.scoped c.in_ok-scoped.ensures parts.imports.items parts.declared.declarations.items c.in_ok-fill.ensures.imports c.in_ok-fill.ensures.declared.declared t.table e) c.make_tabled.ensures.table

pub returns-clause-marked : goal.returns-clause-marked
returns-clause-marked c =
    let all = uses (path_view c.args.path.now) (spelled (unit_view c.args.unit.now)) in
    IfOk-weaker c.make_tabled.result _ _ (λ t e. subst (λ ms. AreMarked (numbering c.fill.new.numbers) ms.items all) (sym e) c.in_ok-fill.ensures.declared.marked) c.make_tabled.ensures.marks

pub returns-clause-path : goal.returns-clause-path
returns-clause-path c = IfOk-weaker c.make_tabled.result _ _ (λ t e. ap (λ x. x.path) e) c.make_tabled.ensures.table
