use Rattle.std.proofs.Common.{ap, sym}
use Rattle.wesl_text_form.specs.Productions.{a_literal}
use Rattle.wesl_text_form.specs.Spelling.{leaf_slots}
use Rattle.wesl_tree_syntax.specs.Tree.{end, truth}
use Rattle.wesl_text_print.proofs.Adding.{lawful, one, told}
use Rattle.wesl_text_print.proofs.expression.print_truth.Goals as goal

pub returns-then-truth : goal.returns-then-truth
returns-then-truth g c = told (ap (λ b. leaf_slots a_literal (truth b) end) (sym c.if-truth.true)) (one (lawful g.met.S.TokenSink.none g.met.S.TokenSink.more) c.keyword.ensures)

pub returns-else-truth : goal.returns-else-truth
returns-else-truth g c = told (ap (λ b. leaf_slots a_literal (truth b) end) (sym c.if-truth.false)) (one (lawful g.met.S.TokenSink.none g.met.S.TokenSink.more) c.keyword-else-truth.ensures)
