use Rattle.std.proofs.Common.{true, subst}
use Rattle.wesl_visit_rewrite.specs.Replaced.{rule}
use Rattle.wesl_visit_rewrite.specs.Went.{WentBelowBy}
use Rattle.wesl_visit.proofs.visits.Visit.rewrite_rec.Goals as goal

pub returns-then-replace-clause-replaced : goal.returns-then-replace-clause-replaced
returns-then-replace-clause-replaced g c = subst (λ b. WentBelowBy (rule g.T.Kind.sought g.R.Rewrite.rewrites true) (g.Self.Holder.tree c.args.self.now) b (g.Self.Holder.tree c.replace.new.self)) c.if-replace.true c.replace.ensures.replaced.went

pub returns-else-replace-clause-stopped : goal.returns-else-replace-clause-stopped
returns-else-replace-clause-stopped g c = subst (λ b. WentBelowBy (rule g.T.Kind.sought g.R.Rewrite.rewrites true) (g.Self.Holder.tree c.args.self.now) b (g.Self.Holder.tree c.replace.new.self)) c.if-replace.false c.replace.ensures.replaced.went
