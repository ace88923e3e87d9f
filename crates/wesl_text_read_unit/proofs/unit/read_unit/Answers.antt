use Rattle.std.proofs.Common.{◌≡◌, Some, None, rules}
use Rattle.wesl_tree_interner.specs.Interned.{texts_of}
use Rattle.wesl_tree.specs.Parts.{parts_view}
use Rattle.wesl_tree_syntax.specs.View.{declarations_tree, directives_tree, imports_tree}
use Rattle.wesl_text_read_ahead.specs.Ahead.{tokens_of}
use Rattle.wesl_text_read_unit.specs.Wholes.{most_levels}
use Rattle.wesl_text_read_unit.proofs.Below.{made_unit, read-same, unit-below, unit-none, unit-read}
use Rattle.wesl_text_read_unit.proofs.Wholes.{unit_parts}
use Rattle.wesl_text_read_unit.proofs.unit.read_unit.Goals as goal

pub unit_of-requires : goal.unit_of-requires
unit_of-requires c =
    let i = imports_tree c.imports-imports.result in
    let d = directives_tree c.directives-directives.result in
    let g = declarations_tree c.declarations-declarations.result in
    let clear : c.declarations-declarations.new.reader.fault ≡ None = search rules in
    unit-below i d g (unit_parts i d g c.imports-imports.ensures c.directives-directives.ensures c.declarations-declarations.ensures.declarations c.declarations-declarations.ensures.all) clear

pub returns-in-Some-clause-none : goal.returns-in-Some-clause-none
returns-in-Some-clause-none c = λ plain.
    let i = imports_tree c.imports-imports.result in
    let d = directives_tree c.directives-directives.result in
    let g = declarations_tree c.declarations-declarations.result in
    let noted : c.declarations-declarations.new.reader.fault ≡ Some c.in-Some.fault = search rules in
    read-same c.new-reader.result.levels most_levels c.new-reader.ensures.levels c.new-reader.ensures.ahead
    (unit-none i d g (unit_parts i d g c.imports-imports.ensures c.directives-directives.ensures c.declarations-declarations.ensures.declarations c.declarations-declarations.ensures.all) c.in-Some.fault c.new-reader.ensures.fault noted plain)

pub returns-clause-unit : goal.returns-clause-unit
returns-clause-unit c =
    let i = imports_tree c.imports-imports.result in
    let d = directives_tree c.directives-directives.result in
    let g = declarations_tree c.declarations-declarations.result in
    let clear : c.declarations-declarations.new.reader.fault ≡ None = search rules in
    made_unit most_levels (tokens_of c.args.tokens.now) (parts_view (texts_of c.declarations-declarations.new.reader.names) c.imports-imports.result c.directives-directives.result c.declarations-declarations.result) c.unit_of.result c.unit_of.ensures.unit
    (read-same c.new-reader.result.levels most_levels c.new-reader.ensures.levels c.new-reader.ensures.ahead
    (unit-read i d g (unit_parts i d g c.imports-imports.ensures c.directives-directives.ensures c.declarations-declarations.ensures.declarations c.declarations-declarations.ensures.all) clear))
