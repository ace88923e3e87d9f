use Rattle.std.proofs.Common.{◌≡◌, false, true, rules}
use Rattle.wesl_text_read_imports.proofs.Closed.{item_told}
use Rattle.wesl_text_read_imports.proofs.list.next_item.Goals as goal

pub returns-then-not-skip_comma : goal.returns-then-not-skip_comma
returns-then-not-skip_comma c =
    let none : c.skip_comma.result ≡ false = search rules in
    item_told c.args.closing c.skip_comma.result false c.skip_comma.ensures (search rules)

pub returns : goal.returns
returns c =
    let some : c.skip_comma.result ≡ true = search rules in
    item_told c.args.closing c.skip_comma.result _ c.skip_comma.ensures (search rules)
