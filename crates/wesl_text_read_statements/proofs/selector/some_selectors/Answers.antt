use Rattle.std.proofs.Common.{◌≡◌, ◌==◌, length, rules}
use Rattle.wesl_text_read_statements.proofs.Selectors.{some_selected}
use Rattle.wesl_text_read_statements.proofs.selector.some_selectors.Goals as goal

pub returns : goal.returns
returns c =
    let none : c.is_empty.result ≡ (length c.selectors-selectors.result.items == 0) = search rules in
    some_selected c.selectors-selectors.result.items c.is_empty.result none c.selectors-selectors.ensures c.wrong_if.ensures.refuses c.wrong_if.ensures.same
