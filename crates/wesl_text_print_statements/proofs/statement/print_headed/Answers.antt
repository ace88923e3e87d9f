use Rattle.std.proofs.Common.{[], ◌∷◌, Some, ap}
use Rattle.wesl_text_form.specs.Spelling.{followed, named}
use Rattle.wesl_text_print.specs.Printing.{expression_slots}
use Rattle.wesl_text_print.proofs.Adding.{after_blank, lawful, nothing_behind, one, then, told}
use Rattle.wesl_text_print_statements.proofs.statement.print_headed.Goals as goal

pub returns : goal.returns
returns g c =
    let l = lawful g.met.S.TokenSink.none g.met.S.TokenSink.more in
    told (ap (followed (Some (named c.args.word.now ∷ []))) (nothing_behind (expression_slots c.args.names.now c.args.expression.now.node))) (then l (one l c.keyword.ensures) (after_blank l c.space.ensures (then l c.print_expression.ensures (one l c.space-2.ensures))))
