use Rattle.std.proofs.Common.{sym}
use Rattle.wesl_text_read.proofs.Expressions.{truth_read, viewed}
use Rattle.wesl_text_read.proofs.Trees.{view-truth}
use Rattle.wesl_text_read.proofs.reader.Reader.truth_expression.Goals as goal

pub returns : goal.returns
returns c = viewed _ _ (sym (view-truth c.args.truth)) (truth_read c.args.truth c.requires c.step.ensures.skips)
