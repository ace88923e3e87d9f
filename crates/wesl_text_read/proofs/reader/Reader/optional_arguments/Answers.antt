use Rattle.std.proofs.Common.{◌≡◌, true, false, rules}
use Rattle.wesl_tree_syntax.specs.Tree.{before, end, list}
use Rattle.wesl_tree_syntax.specs.View.{expression_tree, listed}
use Rattle.wesl_text_tokens.specs.declared.symbol.Symbol.TheVariants as is
use Rattle.wesl_text_reading.specs.FirstTokens.{begins_sign}
use Rattle.wesl_text_read.specs.Leads.{ahead}
use Rattle.wesl_text_read.proofs.Attributes.{call_row}
use Rattle.wesl_text_read.proofs.Rows.{may_not, may_there}
use Rattle.wesl_text_read.proofs.reader.Reader.optional_arguments.Goals as goal

pub returns-then-not-begins_sign : goal.returns-then-not-begins_sign
returns-then-not-begins_sign c =
    let first : begins_sign is.ParenLeft (ahead c.args.self.now) ≡ false = search rules in
    may_not c.args.self.now.levels call_row first

pub returns : goal.returns
returns c =
    let first : begins_sign is.ParenLeft (ahead c.args.self.now) ≡ true = search rules in
    may_there c.args.self.now.levels call_row (before (listed expression_tree list c.arguments.result) end) first c.arguments.ensures
