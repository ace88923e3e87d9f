use Rattle.std.proofs.Common.{◌≡◌, true, false, rules}
use Rattle.wesl_tree_syntax.specs.View.{break_if_view}
use Rattle.wesl_text_form.specs.Productions.{a_break_if}
use Rattle.wesl_text_read_statements.proofs.Seen.{part_absent, part_present}
use Rattle.wesl_text_read_statements.proofs.part.optional_break_if.Goals as goal

pub returns-then-not-begins_break_if : goal.returns-then-not-begins_break_if
returns-then-not-begins_break_if c =
    let none : c.begins_break_if.result ≡ false = search rules in
    part_absent a_break_if c.begins_break_if.result c.begins_break_if.ensures none

pub returns : goal.returns
returns c =
    let there : c.begins_break_if.result ≡ true = search rules in
    part_present a_break_if c.begins_break_if.result c.begins_break_if.ensures (break_if_view c.break_if.result) there c.break_if.ensures
