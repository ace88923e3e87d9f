use Rattle.std.proofs.Common.{string_bytes}
use Rattle.wesl_tree_syntax.specs.Tree.{before, end, leaf as tree_leaf, text}
use Rattle.wesl_text_tokens.specs.declared.symbol.Symbol.TheVariants as is
use Rattle.wesl_text_form.specs.Productions.{a_word, leaf, may_sym, nothing, sym as sign}
use Rattle.wesl_text_read.proofs.Attributes.{builtin_read}
use Rattle.wesl_text_read.proofs.Rows.{row_ends, row_leaf, row_may, row_sign}
use Rattle.wesl_text_read.proofs.WordLists.{may_comma}
use Rattle.wesl_text_read.proofs.reader.Reader.builtin.Goals as goal

pub returns : goal.returns
returns c =
    let n = c.args.self.now.levels in
    let label = text (string_bytes c.word-name.result) in
    builtin_read n (before (tree_leaf label) end)
    (row_sign n is.ParenLeft (leaf a_word (may_sym is.Comma (sign is.ParenRight nothing))) (before (tree_leaf label) end) c.skip_sign.ensures
    (row_leaf n a_word (may_sym is.Comma (sign is.ParenRight nothing)) label end c.word-name.ensures
    (row_may n is.Comma (sign is.ParenRight nothing) end (may_comma c.skip_comma.result c.skip_comma.ensures)
    (row_sign n is.ParenRight nothing end c.skip_sign-2.ensures (row_ends n)))))
