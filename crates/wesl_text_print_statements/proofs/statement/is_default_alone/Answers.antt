use Rattle.std.proofs.Common.{◌≡◌, length, rules}
use Rattle.wesl_text_print_statements.proofs.Bodies.{not_alone}
use Rattle.wesl_text_print_statements.proofs.statement.is_default_alone.Goals as goal

pub returns-else-len-eq1 : goal.returns-else-len-eq1
returns-else-len-eq1 c names =
    let n : c.len.result ≡ length c.args.selectors.now.items = search rules in
    not_alone names c.args.selectors.now.items c.len.result n c.if-len-eq1.false
