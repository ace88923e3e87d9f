use Rattle.wesl_text_print.proofs.Lists.{AreBefore}
use Rattle.wesl_text_print.proofs.Paths.{step_slots}
use Rattle.wesl_text_print.proofs.path.print_steps.Given as goal

abbrev pub invariant-loop-step : goal.invariant-loop-step
invariant-loop-step g l = AreBefore step_slots g.S.TokenSink.after l.step-items l.initial.out l.out l.step-index
