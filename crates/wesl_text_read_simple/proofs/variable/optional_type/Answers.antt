use Rattle.std.proofs.Common.{◌≡◌, true, rules}
use Rattle.wesl_tree_syntax.specs.Tree.{before, end}
use Rattle.wesl_tree_syntax.specs.View.{type_view}
use Rattle.wesl_text_tokens.specs.declared.symbol.Symbol.TheVariants as is
use Rattle.wesl_text_form.specs.Productions.{a_type, nothing, own, sym as sign}
use Rattle.wesl_text_reading.specs.FirstTokens.{begins_sign}
use Rattle.wesl_text_read.specs.Leads.{ahead}
use Rattle.wesl_text_read.proofs.Rows.{may_there}
use Rattle.wesl_text_read_simple.proofs.Parted.{part_ends, part_own, part_sign}
use Rattle.wesl_text_read_simple.proofs.variable.optional_type.Goals as goal

pub returns : goal.returns
returns c =
    let first : begins_sign is.Colon (ahead c.args.reader.now) ≡ true = search rules in
    let tree = type_view c.type_expression.result in
    may_there c.args.reader.now.levels (sign is.Colon (own a_type nothing)) (before tree end) first
    (part_sign (own a_type nothing) is.Colon (before tree end) c.skip_sign.ensures
    (part_own nothing a_type tree end c.type_expression.ensures part_ends))
