use Rattle.std.proofs.Common.{◌≡◌, true, rules}
use Rattle.wesl_tree_syntax.specs.Tree.{before, end}
use Rattle.wesl_tree_syntax.specs.View.{space_tree}
use Rattle.wesl_text_tokens.specs.Tokens.{open_list}
use Rattle.wesl_text_tokens.specs.declared.symbol.Symbol.TheVariants as is
use Rattle.wesl_text_form.specs.Slots.{comes_first}
use Rattle.wesl_text_form.specs.Productions.{a_space, closes, may_sym, nothing, own}
use Rattle.wesl_text_read.specs.Leads.{ahead}
use Rattle.wesl_text_read.proofs.Rows.{may_there}
use Rattle.wesl_text_read_simple.proofs.Memory.{memory_row}
use Rattle.wesl_text_read_simple.proofs.Parted.{part_closes, part_comma, part_ends, part_opens, part_own}
use Rattle.wesl_text_read_simple.proofs.kind.optional_memory.Goals as goal

pub returns : goal.returns
returns c =
    let first : comes_first open_list (ahead c.args.reader.now) ≡ true = search rules in
    let tree = space_tree c.read_space-memory.result in
    may_there c.args.reader.now.levels memory_row (before tree end) first
    (part_opens (own a_space (may_sym is.Comma (closes nothing))) (before tree end) c.skip_open.ensures
    (part_own (may_sym is.Comma (closes nothing)) a_space tree end c.read_space-memory.ensures
    (part_comma (closes nothing) c.skip_comma-comma.result end c.skip_comma-comma.ensures
    (part_closes nothing end c.skip_close.ensures part_ends))))
