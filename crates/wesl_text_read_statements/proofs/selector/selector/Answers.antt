use Rattle.std.proofs.Common.{◌≡◌, true, false, codes, rules}
use Rattle.wesl_tree_syntax.specs.View.{expression_tree}
use Rattle.wesl_text_reading.specs.FirstTokens.{begins_word}
use Rattle.wesl_text_read.specs.Leads.{ahead}
use Rattle.wesl_text_read_statements.proofs.Selectors.{default_selected, expression_selected}
use Rattle.wesl_text_read_statements.proofs.selector.selector.Goals as goal

pub returns-then-begins_word : goal.returns-then-begins_word
returns-then-begins_word c =
    let first : begins_word (codes "default") (ahead c.args.reader.now) ≡ true = search rules in
    default_selected first c.step.ensures.skips

pub returns : goal.returns
returns c =
    let first : begins_word (codes "default") (ahead c.args.reader.now) ≡ false = search rules in
    expression_selected (expression_tree c.expression.result) first c.expression.ensures
