use Rattle.std.proofs.Common.{ap, sym}
use Rattle.wesl_text_print.proofs.Adding.{after_blank, lawful, none, then, told}
use Rattle.wesl_text_print_statements.specs.Bodies.{the_expression}
use Rattle.wesl_text_print_statements.specs.Parts.{option_in}
use Rattle.wesl_tree_syntax.specs.View.{expression_tree}
use Rattle.wesl_text_print_statements.proofs.statement.print_optional_expression.Goals as goal

pub returns-in-Some : goal.returns-in-Some
returns-in-Some g c =
    let l = lawful g.met.S.TokenSink.none g.met.S.TokenSink.more in
    told (ap (option_in c.args.names.now the_expression expression_tree) (sym c.in-Some.is)) (after_blank l c.space.ensures (then l c.print_expression.ensures (none l)))
