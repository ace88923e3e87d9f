use Rattle.wesl_text_print.proofs.Adding.{after_blank, lawful, none, one, then}
use Rattle.wesl_text_print_statements.proofs.variable.print_assertion.Goals as goal

pub returns-clause-statement : goal.returns-clause-statement
returns-clause-statement g c =
    let l = lawful g.met.S.TokenSink.none g.met.S.TokenSink.more in
    let steps = then l c.print_attributes.ensures (then l (one l c.keyword.ensures) (after_blank l c.space.ensures (then l c.print_expression.ensures (then l (one l c.symbol.ensures) (none l))))) in
    steps

pub returns-clause-declaration : goal.returns-clause-declaration
returns-clause-declaration g c =
    let l = lawful g.met.S.TokenSink.none g.met.S.TokenSink.more in
    let steps = then l c.print_attributes.ensures (then l (one l c.keyword.ensures) (after_blank l c.space.ensures (then l c.print_expression.ensures (then l (one l c.symbol.ensures) (none l))))) in
    steps
