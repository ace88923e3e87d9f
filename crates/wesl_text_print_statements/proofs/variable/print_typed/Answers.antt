use Rattle.std.proofs.Common.{ap, sym}
use Rattle.wesl_text_print.proofs.Adding.{after_blank, lawful, none, one, then, told}
use Rattle.wesl_text_print_statements.specs.Parts.{option_in}
use Rattle.wesl_text_print_statements.specs.Variables.{typed_row}
use Rattle.wesl_tree_syntax.specs.View.{type_view}
use Rattle.wesl_text_print_statements.proofs.variable.print_typed.Goals as goal

pub returns-in-Some : goal.returns-in-Some
returns-in-Some g c =
    let l = lawful g.met.S.TokenSink.none g.met.S.TokenSink.more in
    told (ap (option_in c.args.names.now typed_row type_view) (sym c.in-Some.is)) (then l (one l c.symbol.ensures) (after_blank l c.space.ensures (then l c.print_type.ensures (none l))))
