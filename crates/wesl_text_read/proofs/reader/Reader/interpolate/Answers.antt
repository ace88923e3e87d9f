use Rattle.std.proofs.Common.{map, string_bytes}
use Rattle.wesl_tree_syntax.specs.Tree.{before, end, leaf as tree_leaf, texts}
use Rattle.wesl_text_tokens.specs.declared.symbol.Symbol.TheVariants as is
use Rattle.wesl_text_form.specs.Productions.{leaf, nothing, one_or_two, sym as sign}
use Rattle.wesl_text_read.proofs.Attributes.{interpolate_read}
use Rattle.wesl_text_read.proofs.Rows.{row_ends, row_leaf, row_sign}
use Rattle.wesl_text_read.proofs.reader.Reader.interpolate.Goals as goal

pub returns : goal.returns
returns c =
    let n = c.args.self.now.levels in
    let label = texts (map string_bytes c.one_or_two-words.result.items) in
    interpolate_read n (before (tree_leaf label) end)
    (row_sign n is.ParenLeft (leaf one_or_two (sign is.ParenRight nothing)) (before (tree_leaf label) end) c.skip_sign.ensures
    (row_leaf n one_or_two (sign is.ParenRight nothing) label end c.one_or_two-words.ensures
    (row_sign n is.ParenRight nothing end c.skip_sign-2.ensures (row_ends n))))
