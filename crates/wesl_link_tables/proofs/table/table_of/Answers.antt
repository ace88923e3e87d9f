use Rattle.std.proofs.Common.{◌≡◌, ◌∙◌, ap, subst, sym, map}
use Rattle.wesl_tree_names.specs.Path.{path_view}
use Rattle.wesl_tree_syntax.specs.View.{imports_tree}
use Rattle.wesl_tree.specs.Translation.{unit_view}
use Rattle.wesl_link_tables.specs.Imports.{all_imports}
use Rattle.wesl_link_tables.specs.Numbering.{Numbering, Grows}
use Rattle.wesl_link_tables.specs.NumbersView.{names_of, numbering, paths_of}
use Rattle.wesl_link_tables.specs.Parts.{IsNumberedUnit}
use Rattle.wesl_link_tables.specs.Spelling.{spelled_imports}
use Rattle.wesl_link_tables.specs.Walks.{HavePaths, import_view}
use Rattle.wesl_link_paths.proofs.Lists.{path_of}
use Rattle.wesl_link_tables.proofs.Declared.{imports_are}
use Rattle.wesl_link_tables.proofs.Lists.{longer_itself}
use Rattle.wesl_link_tables.proofs.Related.{grows_trans, path_later}
use Rattle.wesl_link_tables.proofs.table.table_of.Goals as goal

pub returns-in_err-imports-clause-grows : goal.returns-in_err-imports-clause-grows
returns-in_err-imports-clause-grows c = record { names = longer_itself (names_of c.args.numbers.now.names); paths = c.imports-2.ensures.grows }

pub returns-in_err-number_unit-clause-grows : goal.returns-in_err-number_unit-clause-grows
returns-in_err-number_unit-clause-grows c =
    let given = numbering c.args.numbers.now in
    let imported : Numbering = record { names = given.names; paths = paths_of c.imports-2.new.paths } in
    let grows : Grows given imported = record { names = longer_itself given.names; paths = c.imports-2.ensures.grows } in
    grows_trans given imported (numbering c.number_unit.new.numbers) grows c.number_unit.ensures.grows

pub number_unit-requires-clause-paths : goal.number_unit-requires-clause-paths
number_unit-requires-clause-paths c = subst (λ is. HavePaths (paths_of c.imports-2.new.paths) is) (sym c.deref.ensures.value) c.in_ok-imports.ensures.known

pub tabled_of-requires-clause-held : goal.tabled_of-requires-clause-held
tabled_of-requires-clause-held c =
    let given = numbering c.args.numbers.now in
    let imported : Numbering = record { names = given.names; paths = paths_of c.imports-2.new.paths } in
    let grows : Grows given imported = record { names = longer_itself given.names; paths = c.imports-2.ensures.grows } in
    let last = numbering c.number_unit.new.numbers in
    path_later given last (grows_trans given imported last grows c.number_unit.ensures.grows) c.args.id (path_view c.args.path.now) c.requires.held

pub tabled_of-requires-clause-numbered : goal.tabled_of-requires-clause-numbered
tabled_of-requires-clause-numbered c =
    let u = unit_view c.args.unit.now in
    let own = path_view c.args.path.now in
    let paths = paths_of c.imports-2.new.paths in
    let same : map (import_view paths) c.in_ok-imports.imports.items ≡ all_imports own u.imports.children =
    c.in_ok-imports.ensures.imports ∙ (ap (λ p. all_imports p (imports_tree c.imports.result.now).children) (path_of (paths_of c.args.numbers.now.paths) c.args.id own c.requires.held) ∙ ap (λ t. all_imports own t.children) c.imports.ensures.imports) in
    subst (λ js. IsNumberedUnit (numbering c.number_unit.new.numbers) js u c.number_unit.new.numbered) (ap (spelled_imports paths u.names) c.deref.ensures.value ∙ imports_are paths own u c.in_ok-imports.imports.items same) c.in_ok-number_unit.ensures.numbered

pub returns-clause-grows : goal.returns-clause-grows
returns-clause-grows c =
    let given = numbering c.args.numbers.now in
    let imported : Numbering = record { names = given.names; paths = paths_of c.imports-2.new.paths } in
    let grows : Grows given imported = record { names = longer_itself given.names; paths = c.imports-2.ensures.grows } in
    let unit = numbering c.number_unit.new.numbers in
    let last = numbering c.tabled_of.new.numbers in
    grows_trans given unit last (grows_trans given imported unit grows c.number_unit.ensures.grows) c.tabled_of.ensures.grows
