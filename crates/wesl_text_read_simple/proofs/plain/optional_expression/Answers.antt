use Rattle.std.proofs.Common.{◌≡◌, true, rules}
use Rattle.wesl_tree_syntax.specs.Tree.{before, end}
use Rattle.wesl_tree_syntax.specs.View.{expression_tree}
use Rattle.wesl_text_form.specs.Productions.{an_expression, nothing, own}
use Rattle.wesl_text_reading.specs.FirstTokens.{begins_expression}
use Rattle.wesl_text_read.specs.Leads.{ahead}
use Rattle.wesl_text_read.proofs.Rows.{may_there}
use Rattle.wesl_text_read_simple.proofs.Parted.{part_ends, part_own}
use Rattle.wesl_text_read_simple.proofs.plain.optional_expression.Goals as goal

pub returns : goal.returns
returns c =
    let first : begins_expression (ahead c.args.reader.now) ≡ true = search rules in
    let tree = expression_tree c.expression.result in
    may_there c.args.reader.now.levels (own an_expression nothing) (before tree end) first (part_own nothing an_expression tree end c.expression.ensures part_ends)
