use Rattle.std.proofs.Common.{ap, sym}
use Rattle.wesl_text_print.proofs.Adding.{lawful, none, one, then, told}
use Rattle.wesl_text_print_statements.specs.Parts.{arguments_row, option_in}
use Rattle.wesl_tree_syntax.specs.Tree.{list}
use Rattle.wesl_tree_syntax.specs.View.{expression_tree, listed}
use Rattle.wesl_text_print_statements.proofs.attribute.print_custom_arguments.Goals as goal

pub returns-in-Some : goal.returns-in-Some
returns-in-Some g c =
    let l = lawful g.met.S.TokenSink.none g.met.S.TokenSink.more in
    told (ap (option_in c.args.names.now arguments_row (listed expression_tree list)) (sym c.in-Some.is)) (then l (one l c.symbol.ensures) (then l c.print_expressions.ensures (then l (one l c.symbol-in-Some.ensures) (none l))))
