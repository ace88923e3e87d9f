use Rattle.std.proofs.Common.{◌<◌, length, rules, sym, ◌∙◌}
use Rattle.std.proofs.lemmas.Grind.{common_steps}
use Rattle.wesl_text_print.proofs.Adding.{after_blank, lawful, one, then, told}
use Rattle.wesl_text_print_statements.proofs.Bodies.{cases_printed}
use Rattle.wesl_text_print_statements.proofs.statement.print_selectors.Goals as goal

pub returns-else-is_default_alone : goal.returns-else-is_default_alone
returns-else-is_default_alone g c =
    let l = lawful g.met.S.TokenSink.none g.met.S.TokenSink.more in
    let some : 0 < length c.args.selectors.now.items = search (rules, common_steps) in
    told (cases_printed c.args.names.now c.args.selectors.now some (sym (c.is_default_alone.ensures c.args.names.now) ∙ c.if-is_default_alone.false)) (then l (one l c.keyword.ensures) (after_blank l c.space.ensures c.print_each_selector.ensures))
