use Rattle.std.proofs.Common.{◌∙◌, ap, subst, sym}
use Rattle.wesl_tree.specs.Translation.{unit_view}
use Rattle.wesl_link_tables.specs.Numbering.{AreRelated, IsRelatedOption, AreNumberedImports, NameAt}
use Rattle.wesl_link_tables.specs.NumbersView.{numbering}
use Rattle.wesl_link_tables.specs.Spelling.{spelled_imports}
use Rattle.wesl_link_tables.proofs.Declared.{spelled_same}
use Rattle.wesl_link_tables.proofs.Known.{found_later}
use Rattle.wesl_link_tables.proofs.Naming.{declared_are}
use Rattle.wesl_link_tables.proofs.Related.{grows_trans, imports_later, names_later}
use Rattle.wesl_link_tables.proofs.table.number_unit.Goals as goal
use Rattle.wesl_link_split.proofs.Lists.{on_ok}

pub add_imports-requires-clause-ids : goal.add_imports-requires-clause-ids
add_imports-requires-clause-ids c =
    let n = numbering c.add_ids.new.numbers in
    let known = c.in_ok-add_ids.ensures.numbered in
    subst (λ is. AreRelated (NameAt n) is c.names-2.result.now) (sym c.deref.ensures.value) (subst (λ xs. AreRelated (NameAt n) c.add_ids.new.ids.items xs) (c.names.ensures.names ∙ sym c.names-2.ensures.names) known)

pub add_imports-requires-clause-paths : goal.add_imports-requires-clause-paths
add_imports-requires-clause-paths c = found_later (numbering c.args.numbers.now).paths (numbering c.add_ids.new.numbers).paths c.add_ids.ensures.grows.paths c.args.imports.now c.requires.paths

pub returns-clause-numbered : goal.returns-clause-numbered
returns-clause-numbered c =
    let n0 = numbering c.args.numbers.now in
    let n1 = numbering c.add_ids.new.numbers in
    let n2 = numbering c.add_imports.new.numbers in
    let n3 = numbering c.add_names.new.numbers in
    let u = unit_view c.args.unit.now in
    let is = c.add_imports.new.found.items in
    let ids = c.add_ids.new.ids.items in
    on_ok c.add_names.result (λ h. record {
      imports = subst (λ js. AreNumberedImports n3 is js)
          (ap (λ ns. spelled_imports n1.paths ns c.args.imports.now) c.names-2.ensures.names ∙ spelled_same n0.paths n1.paths c.add_ids.ensures.grows.paths u.names c.args.imports.now c.requires.paths)
          (imports_later n2 n3 c.add_names.ensures.grows is (spelled_imports n1.paths c.names-2.result.now c.args.imports.now) c.in_ok-add_imports.ensures.numbered);
      ids = names_later n1 n3 (grows_trans n1 n2 n3 c.add_imports.ensures.grows c.add_names.ensures.grows) ids u.names (subst (λ xs. AreRelated (NameAt n1) ids xs) c.names.ensures.names c.in_ok-add_ids.ensures.numbered);
      names = subst (λ os. AreRelated (IsRelatedOption (NameAt n3)) c.add_names.new.found.items os)
          (declared_are c.names-3.result.now u.names _ u.declarations c.names-3.ensures.names c.global_declarations.ensures.declarations) h;
    }) c.add_names.ensures.numbered

pub returns-in_err-add_imports-clause-grows : goal.returns-in_err-add_imports-clause-grows
returns-in_err-add_imports-clause-grows c = grows_trans (numbering c.args.numbers.now) (numbering c.add_ids.new.numbers) (numbering c.add_imports.new.numbers) c.add_ids.ensures.grows c.add_imports.ensures.grows

pub returns-clause-grows : goal.returns-clause-grows
returns-clause-grows c =
    grows_trans (numbering c.args.numbers.now) (numbering c.add_ids.new.numbers) (numbering c.add_names.new.numbers) c.add_ids.ensures.grows
    (grows_trans (numbering c.add_ids.new.numbers) (numbering c.add_imports.new.numbers) (numbering c.add_names.new.numbers) c.add_imports.ensures.grows c.add_names.ensures.grows)
