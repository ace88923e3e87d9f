use Rattle.std.proofs.Common.{List, sym, subst}
use Rattle.wesl_cond_covers.specs.LevelView.{AreLevelsOf}
use Rattle.wesl_cond_covers.specs.declared.level.Level.{Level}
use Rattle.wesl_cond_covers.proofs.covers.Covers.next_apart.Goals as goal

pub returns-clause-apart : goal.returns-clause-apart
returns-clause-apart c alive places h =
    c.next.ensures.apart alive places (subst (λ (l : List Level). AreLevelsOf alive places l) (sym c.deref.ensures.value) h)
