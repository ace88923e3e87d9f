use Rattle.std.proofs.Common.{◌++◌, ap, ◌∙◌, List, ℕ, arith}
use lib.Chars.{codes}
use Rattle.wesl_tree_base.proofs.Supers.{relative-more}
use Rattle.wesl_tree_base.proofs.writing.relative_text.Goals as goal

pub loop-done-preserved : goal.loop-done-preserved
loop-done-preserved c =
    c.in_ok-push_str.ensures.bytes
    ∙ ap (λ (t : List ℕ). t ++ codes "::super") c.loop-done.invariant
    ∙ relative-more c.loop-done._done (omega arith)
