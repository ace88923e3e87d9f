use Rattle.std.proofs.Common.{◌≡◌, true, false, codes, rules}
use Rattle.wesl_tree_syntax.specs.Tree.{binder, word}
use Rattle.wesl_text_reading.specs.FirstTokens.{begins_word}
use Rattle.wesl_text_read.specs.Leads.{ahead}
use Rattle.wesl_text_read_imports.proofs.Imports.{item_alone, item_renamed}
use Rattle.wesl_text_read_imports.proofs.import.item.Goals as goal

pub returns-then-not-begins_word : goal.returns-then-not-begins_word
returns-then-not-begins_word c =
    let alone : begins_word (codes "as") (ahead c.ident-ident.new.self) ≡ false = search rules in
    item_alone c.ident-ident.result.0 c.requires (c.ident-ident.ensures word) alone

pub returns : goal.returns
returns c =
    let renamed : begins_word (codes "as") (ahead c.ident-ident.new.self) ≡ true = search rules in
    item_renamed c.ident-ident.result.0 c.ident.result.0 c.requires (c.ident-ident.ensures word) renamed c.skip_word.ensures (c.ident.ensures binder)
