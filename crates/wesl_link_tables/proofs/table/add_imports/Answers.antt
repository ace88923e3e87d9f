use Rattle.std.proofs.Common.{◌<◌, ◌∙◌, ◌++◌, ◌∷◌, [], ap, length, sym, subst, map, take}
use Rattle.wesl_tree_syntax.specs.Unit.{name_in}
use Rattle.wesl_link_tables.proofs.Known.{below_later, import_same}
use Rattle.wesl_link_tables.specs.Numbering.{AreNumberedImports, IsNumberedImport}
use Rattle.wesl_link_tables.specs.NumbersView.{numbering}
use Rattle.wesl_link_tables.specs.Spelling.{respell_import, spelled_import}
use Rattle.wesl_link_tables.proofs.Related.{grows_itself, grows_trans, imports_one, names_later, map_next}
use Rattle.wesl_link_tables.proofs.table.add_imports.Goals as goal
use Rattle.wesl_link_split.proofs.Lists.{taken_all}

pub loop-i-init : goal.loop-i-init
loop-i-init c =
    let n = numbering c.args.numbers.now in
    record { numbered = subst (λ is. AreNumberedImports n is []) (sym (c.reserve_exact.ensures.items ∙ c.requires.empty)) tt; grows = grows_itself n }

pub loop-i-preserved : goal.loop-i-preserved
loop-i-preserved c =
    let first = numbering c.args.numbers.now in
    let a = numbering c.loop-i.numbers in
    let b = numbering c.number_import.new.numbers in
    let names = c.args.names.now in
    let x = c.import_at.result.now in
    let known : x.path.0 < length first.paths =
    subst (λ i. i.path.0 < length first.paths) (sym c.import_at.ensures) (c.requires.paths c.loop-i.i x c.loop-i-test.true) in
    let same = ap (respell_import (name_in names)) (import_same first.paths a.paths c.loop-i.invariant.grows.paths x known) in
    let one = subst (λ j. IsNumberedImport b c.in_ok-number.number j) same c.in_ok-number.ensures.numbered in
    record {
      numbered = rw c.in_ok-push.ensures.items
          (subst (λ js. AreNumberedImports b (c.loop-i.found.items ++ c.in_ok-number.number ∷ []) js)
          (sym (map_next (spelled_import first.paths names) c.args.imports.now c.loop-i.i x c.loop-i-test.true c.import_at.ensures))
          (imports_one a b c.number_import.ensures.grows c.loop-i.found.items (map (spelled_import first.paths names) (take c.loop-i.i c.args.imports.now))
          c.in_ok-number.number (spelled_import first.paths names x) c.loop-i.invariant.numbered one));
      grows = grows_trans first a b c.loop-i.invariant.grows c.number_import.ensures.grows;
    }

pub returns-in_err-reserve_exact-clause-grows : goal.returns-in_err-reserve_exact-clause-grows
returns-in_err-reserve_exact-clause-grows c = grows_itself (numbering c.args.numbers.now)

pub returns-in_err-number-clause-grows : goal.returns-in_err-number-clause-grows
returns-in_err-number-clause-grows c = grows_trans (numbering c.args.numbers.now) (numbering c.loop-i.numbers) (numbering c.number_import.new.numbers) c.loop-i.invariant.grows c.number_import.ensures.grows

pub returns-in_err-push-clause-grows : goal.returns-in_err-push-clause-grows
returns-in_err-push-clause-grows c = grows_trans (numbering c.args.numbers.now) (numbering c.loop-i.numbers) (numbering c.number_import.new.numbers) c.loop-i.invariant.grows c.number_import.ensures.grows

pub returns-clause-grows : goal.returns-clause-grows
returns-clause-grows c = c.loop-i.invariant.grows

pub number_import-requires-clause-path : goal.number_import-requires-clause-path
number_import-requires-clause-path c =
    let first = numbering c.args.numbers.now in
    let x = c.import_at.result.now in
    let known : x.path.0 < length first.paths =
    subst (λ i. i.path.0 < length first.paths) (sym c.import_at.ensures) (c.requires.paths c.loop-i.i x c.loop-i-test.true) in
    below_later first.paths (numbering c.loop-i.numbers).paths c.loop-i.invariant.grows.paths x.path.0 known

pub number_import-requires-clause-ids : goal.number_import-requires-clause-ids
number_import-requires-clause-ids c = names_later (numbering c.args.numbers.now) (numbering c.loop-i.numbers) c.loop-i.invariant.grows c.args.ids.now c.args.names.now c.requires.ids

pub returns-clause-numbered : goal.returns-clause-numbered
returns-clause-numbered c =
    subst (λ is. AreNumberedImports (numbering c.loop-i.numbers) c.loop-i.found.items (map (spelled_import (numbering c.args.numbers.now).paths c.args.names.now) is))
    (taken_all c.args.imports.now c.loop-i.i c.loop-i-test.false) c.loop-i.invariant.numbered
