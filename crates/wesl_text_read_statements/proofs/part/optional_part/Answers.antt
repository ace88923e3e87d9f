use Rattle.std.proofs.Common.{◌≡◌, true, false, rules}
use Rattle.wesl_text_form.specs.Productions.{a_statement, nothing, unended}
use Rattle.wesl_text_reading.specs.FirstTokens.{begins_part}
use Rattle.wesl_text_read.specs.Leads.{ahead}
use Rattle.wesl_text_read.proofs.Rows.{may_not}
use Rattle.wesl_text_read_statements.proofs.Along.{part_boxed}
use Rattle.wesl_text_read_statements.proofs.part.optional_part.Goals as goal

pub returns-then-not-begins_part : goal.returns-then-not-begins_part
returns-then-not-begins_part c =
    let first : begins_part (ahead c.args.reader.now) ≡ false = search rules in
    may_not c.args.reader.now.levels (unended a_statement nothing) first

pub returns : goal.returns
returns c =
    let first : begins_part (ahead c.args.reader.now) ≡ true = search rules in
    part_boxed c.read_part-part.result c.boxed.result first c.read_part-part.ensures c.boxed.ensures.same c.boxed.ensures.refused
