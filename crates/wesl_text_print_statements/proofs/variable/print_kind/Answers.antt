use Rattle.std.proofs.Common.{ap, sym, ◌∙◌}
use Rattle.wesl_text_form.specs.Productions.{a_kind}
use Rattle.wesl_text_print.specs.Printing.{slots_in}
use Rattle.wesl_text_print.proofs.Adding.{lawful, none, one, then, told}
use Rattle.std.proofs.Common.{[]}
use Rattle.wesl_text_print_statements.proofs.Variables.{var_printed}
use Rattle.wesl_tree_syntax.specs.View.{kind_tree}
use Rattle.wesl_text_print_statements.proofs.variable.print_kind.Goals as goal

pub returns-in-Var : goal.returns-in-Var
returns-in-Var g c =
    let l = lawful g.met.S.TokenSink.none g.met.S.TokenSink.more in
    told (var_printed c.in-Var.space ∙ ap (λ k. slots_in [] a_kind (kind_tree k)) (sym c.in-Var.is)) (then l (one l c.keyword-in-Var.ensures) (then l c.print_space.ensures (none l)))
