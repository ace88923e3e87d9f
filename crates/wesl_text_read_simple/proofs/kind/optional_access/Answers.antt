use Rattle.std.proofs.Common.{◌≡◌, true, rules}
use Rattle.wesl_tree_syntax.specs.Tree.{before, end}
use Rattle.wesl_tree_syntax.specs.View.{access_tree}
use Rattle.wesl_text_tokens.specs.declared.symbol.Symbol.TheVariants as is
use Rattle.wesl_text_form.specs.Productions.{an_access, nothing, own}
use Rattle.wesl_text_read.specs.First.{begins_next}
use Rattle.wesl_text_read.specs.Leads.{ahead}
use Rattle.wesl_text_read.proofs.Rows.{may_there}
use Rattle.wesl_text_read_simple.proofs.Memory.{access_row}
use Rattle.wesl_text_read_simple.proofs.Parted.{part_ends, part_own, part_sign}
use Rattle.wesl_text_read_simple.proofs.kind.optional_access.Goals as goal

pub returns : goal.returns
returns c =
    let first : begins_next (ahead c.args.reader.now) ≡ true = search rules in
    let tree = access_tree c.read_access.result in
    may_there c.args.reader.now.levels access_row (before tree end) first
    (part_sign (own an_access nothing) is.Comma (before tree end) c.skip_sign.ensures
    (part_own nothing an_access tree end c.read_access.ensures part_ends))
