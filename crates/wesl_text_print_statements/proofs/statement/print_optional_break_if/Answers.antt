use Rattle.std.proofs.Common.{ap, sym}
use Rattle.wesl_text_print.proofs.Adding.{after_blank, lawful, one, then, told}
use Rattle.wesl_text_print_statements.specs.Bodies.{the_break_if}
use Rattle.wesl_text_print_statements.specs.Parts.{option_in}
use Rattle.wesl_tree_syntax.specs.View.{break_if_view}
use Rattle.wesl_text_print_statements.proofs.statement.print_optional_break_if.Goals as goal

pub returns-in-Some : goal.returns-in-Some
returns-in-Some g c =
    let l = lawful g.met.S.TokenSink.none g.met.S.TokenSink.more in
    told (ap (option_in c.args.names.now the_break_if break_if_view) (sym c.in-Some.is)) (after_blank l c.indent.ensures (after_blank l c.line.ensures (then l c.print_break_if.ensures (one l c.outdent.ensures))))
