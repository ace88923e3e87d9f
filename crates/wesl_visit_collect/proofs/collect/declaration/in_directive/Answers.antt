use Rattle.std.proofs.Common.{ap, sym}
use Rattle.wesl_tree_syntax.specs.View.{directive_view}
use Rattle.wesl_visit_collect.proofs.Adds.{alone, viewed}
use Rattle.wesl_tree_syntax.specs.declared.declaration.GlobalDirective.TheVariants.{Diagnostic, Enable, Requires}
use Rattle.wesl_visit_collect.proofs.Words.{directive_found}
use Rattle.wesl_visit_collect.proofs.collect.declaration.in_directive.Goals as goal

pub returns-in-Diagnostic : goal.returns-in-Diagnostic
returns-in-Diagnostic g c =
    viewed (ap directive_view c.in-Diagnostic.is) (alone (λ deep. sym (directive_found g.T.Kind.sought deep (Diagnostic c.in-Diagnostic.attributes c.in-Diagnostic.severity c.in-Diagnostic.rule))) c.enter.ensures)

pub returns-in-Enable : goal.returns-in-Enable
returns-in-Enable g c =
    viewed (ap directive_view c.in-Enable.is) (alone (λ deep. sym (directive_found g.T.Kind.sought deep (Enable c.in-Enable.attributes c.in-Enable.names))) c.enter-in-Enable.ensures)

pub returns-in-Requires : goal.returns-in-Requires
returns-in-Requires g c =
    viewed (ap directive_view c.in-Requires.is) (alone (λ deep. sym (directive_found g.T.Kind.sought deep (Requires c.in-Requires.attributes c.in-Requires.names))) c.enter-in-Requires.ensures)
