use Rattle.std.proofs.Common.{⊎_elim, false, refl, rules, subst, sym, true≢false, ◌∙◌, ◌≡◌}
use Rattle.wesl_json_form.specs.Nodes.{unit_row}
use Rattle.wesl_json_form.specs.Schema.{a_unit}
use Rattle.wesl_json_form.specs.Units.{IsBrokenUnit, IsUnitOf}
use Rattle.wesl_json_form.specs.View.{borrowed_view}
use Rattle.wesl_json_read.proofs.Expressions.{bare-place}
use Rattle.wesl_json_read.proofs.Places.{memory}
use Rattle.wesl_tree.specs.Translation.{unit_view}
use Rattle.wesl_tree_syntax.specs.Tree.{unit}
use Rattle.wesl_tree_syntax.specs.Unit.{unit_below}
use Rattle.wesl_tree_syntax.specs.View.{declarations_tree, directives_tree, imports_tree}
use Rattle.wesl_json_read.proofs.Noting.{NotesRow, many_next, no_more}
use Rattle.wesl_json_read_unit.proofs.Units.{formed_row, is-unit, unit-below, unit-fault, unit-place, unit-read, unit-rows, unit_forest}
use Rattle.wesl_json_read_unit.proofs.unit.read_lists.Goals as goal

pub returns-in-Some-clause-unit : goal.returns-in-Some-clause-unit
returns-in-Some-clause-unit c =
    let d = borrowed_view c.args.value.now in
    let i = imports_tree c.imports-imports.result in
    let r = directives_tree c.directives-directives.result in
    let g = declarations_tree c.declarations-declarations.result in
    let names = c.in-Ok.names in
    let rows : NotesRow formed_row d unit_row (unit_forest i r g) c.new-reader.result c.declarations-declarations.new.reader = many_next refl c.imports-imports.ensures (many_next refl c.directives-directives.ensures (many_next refl c.declarations-declarations.ensures no_more)) in
    let read = unit-read c.args.spans d c.requires.form i r g names c.requires.keys c.requires.second (unit-rows rows c.new-reader.ensures.spans c.new-reader.ensures.names c.in-Ok.ensures.noted c.in-Ok.ensures.names) in
    let made : record { names = names; imports = i; directives = r; declarations = g } ≡ unit_view c.in-Some.unit = search rules in
    subst (IsUnitOf d) made (is-unit c.args.spans d c.requires.form i r g names c.in-Ok.ensures.distinct read.form)

pub returns-in-None-clause-place : goal.returns-in-None-clause-place
returns-in-None-clause-place c =
    let d = borrowed_view c.args.value.now in
    let i = imports_tree c.imports-imports.result in
    let r = directives_tree c.directives-directives.result in
    let g = declarations_tree c.declarations-declarations.result in
    let names = c.in-Ok.names in
    let rows : NotesRow formed_row d unit_row (unit_forest i r g) c.new-reader.result c.declarations-declarations.new.reader = many_next refl c.imports-imports.ensures (many_next refl c.directives-directives.ensures (many_next refl c.declarations-declarations.ensures no_more)) in
    let read = unit-read c.args.spans d c.requires.form i r g names c.requires.keys c.requires.second (unit-rows rows c.new-reader.ensures.spans c.new-reader.ensures.names c.in-Ok.ensures.noted c.in-Ok.ensures.names) in
    let above : unit_below (record { names = names; imports = i; directives = r; declarations = g }) ≡ false = search rules in
    absurd (true≢false (sym (unit-below c.args.spans d i r g names read.form) ∙ above))

pub returns-in-Err-clause-place : goal.returns-in-Err-clause-place
returns-in-Err-clause-place c =
    let d = borrowed_view c.args.value.now in
    let i = imports_tree c.imports-imports.result in
    let r = directives_tree c.directives-directives.result in
    let g = declarations_tree c.declarations-declarations.result in
    let x = c.in-Err.error in
    let rows : NotesRow formed_row d unit_row (unit_forest i r g) c.new-reader.result c.declarations-declarations.new.reader = many_next refl c.imports-imports.ensures (many_next refl c.directives-directives.ensures (many_next refl c.declarations-declarations.ensures no_more)) in
    ⊎_elim (λ is. memory (IsBrokenUnit d) x is)
    (λ is. unit-place c.args.spans d c.requires.form x (bare-place c.args.spans a_unit unit (formed_row c.args.spans) d refl x c.requires.keys (unit-fault x rows c.new-reader.ensures.spans c.new-reader.ensures.fault is)))
    c.in-Err.ensures.fault
