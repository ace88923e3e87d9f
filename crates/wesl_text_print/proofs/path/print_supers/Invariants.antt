use Rattle.std.specs.Prelude.{Some}
use Rattle.wesl_text_form.specs.Spelling.{stepped}
use Rattle.wesl_tree_base.specs.Pieces.{supers}
use Rattle.wesl_text_print.specs.Printing.{Prints}
use Rattle.wesl_text_print.proofs.path.print_supers.Given as goal

abbrev pub invariant-loop-done : goal.invariant-loop-done
invariant-loop-done g l = Prints g.S.TokenSink.after l.initial.out l.out (Some (stepped (supers l._done)))
