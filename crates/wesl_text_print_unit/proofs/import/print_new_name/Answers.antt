use Rattle.std.proofs.Common.{ap, sym}
use Rattle.wesl_text_print.proofs.Adding.{after_blank, lawful, none, one, then, told}
use Rattle.wesl_text_print_statements.specs.Parts.{option_in}
use Rattle.wesl_tree_syntax.specs.Tree.{binder}
use Rattle.wesl_tree_syntax.specs.View.{ident_tree}
use Rattle.wesl_text_print_unit.specs.Units.{renamed_row}
use Rattle.wesl_text_print_unit.proofs.import.print_new_name.Goals as goal

pub returns-in-Some : goal.returns-in-Some
returns-in-Some g c =
    let l = lawful g.met.S.TokenSink.none g.met.S.TokenSink.more in
    told (ap (option_in c.args.names.now renamed_row (ident_tree binder)) (sym c.in-Some.is)) (after_blank l c.space.ensures (then l (one l c.keyword.ensures) (after_blank l c.space-in-Some.ensures (then l c.print_name.ensures (none l)))))
