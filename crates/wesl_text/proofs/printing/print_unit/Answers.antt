use Rattle.wesl_tree.specs.Translation.{unit_view}
use Rattle.wesl_tree_syntax.specs.Unit.{UnitOf, spelled}
use Rattle.wesl_tree_names.specs.Path.{Text}
use Rattle.wesl_text_sink.specs.Laws.{IsPrinted}
use Rattle.wesl_text.proofs.Printed.{printed, spelled_so, unwritable}
use Rattle.wesl_text.proofs.printing.print_unit.Goals as goal

pub returns-clause-said : goal.returns-clause-said
returns-clause-said c = printed (spelled (unit_view c.args.unit.now)) c.new-sink.result c.print_unit.new.out c.finish.result c.new-sink.ensures.shows c.print_unit.ensures.given c.finish.ensures c.law_of_fewest.ensures.fewest_say

pub returns-clause-tokens : goal.returns-clause-tokens
returns-clause-tokens c =
    let u : UnitOf Text = spelled (unit_view c.args.unit.now) in
    let made : IsPrinted u c.finish.result = c.law_of_printing.ensures u c.new-sink.result c.print_unit.new.out c.finish.result c.new-sink.ensures.shows c.new-sink.ensures.fault c.print_unit.ensures.given c.finish.ensures in
    spelled_so u c.finish.result made

pub returns-clause-unwritable : goal.returns-clause-unwritable
returns-clause-unwritable c =
    let u : UnitOf Text = spelled (unit_view c.args.unit.now) in
    let made : IsPrinted u c.finish.result = c.law_of_printing.ensures u c.new-sink.result c.print_unit.new.out c.finish.result c.new-sink.ensures.shows c.new-sink.ensures.fault c.print_unit.ensures.given c.finish.ensures in
    unwritable u c.finish.result made
