use Rattle.std.proofs.Common.{[], ap, sym}
use Rattle.wesl_text_print.proofs.Adding.{lawful, none, one, then, told}
use Rattle.wesl_text_print_statements.specs.Parts.{option_in}
use Rattle.wesl_text_print_statements.specs.Variables.{space_row}
use Rattle.wesl_tree_syntax.specs.View.{space_tree}
use Rattle.wesl_text_print_statements.proofs.variable.print_space.Goals as goal

pub returns-in-Some : goal.returns-in-Some
returns-in-Some g c =
    let l = lawful g.met.S.TokenSink.none g.met.S.TokenSink.more in
    told (ap (option_in [] space_row space_tree) (sym c.in-Some.is)) (then l (one l c.open_list.ensures) (then l c.print_space_and_mode.ensures (then l (one l c.may.ensures) (then l (one l c.close_list.ensures) (none l)))))
