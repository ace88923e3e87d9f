use Rattle.std.proofs.Common.{refl, ap}
use Rattle.wesl_tree_syntax.specs.View.{directive_view}
use Rattle.wesl_tree_syntax.specs.declared.declaration.GlobalDirective.TheVariants as made
use Rattle.wesl_visit_rewrite.proofs.Steps.{viewed}
use Rattle.wesl_visit_rewrite.proofs.Words.{directive_went}
use Rattle.wesl_visit_rewrite.proofs.replace.declaration.in_directive.Goals as goal

pub returns-in-Diagnostic : goal.returns-in-Diagnostic
returns-in-Diagnostic g c =
    let b = c.in-Diagnostic in
    let d = c.finish_attributes in
    viewed _ _ (ap directive_view b.is) refl (directive_went c.law_of_words.ensures.attributes _ _ _ (made.Diagnostic b.attributes b.severity b.rule) d.new.node d.ensures)

pub returns-in-Enable : goal.returns-in-Enable
returns-in-Enable g c =
    let b = c.in-Enable in
    let d = c.finish_attributes-in-Enable in
    viewed _ _ (ap directive_view b.is) refl (directive_went c.law_of_words.ensures.attributes _ _ _ (made.Enable b.attributes b.names) d.new.node d.ensures)

pub returns-in-Requires : goal.returns-in-Requires
returns-in-Requires g c =
    let b = c.in-Requires in
    let d = c.finish_attributes-in-Requires in
    viewed _ _ (ap directive_view b.is) refl (directive_went c.law_of_words.ensures.attributes _ _ _ (made.Requires b.attributes b.names) d.new.node d.ensures)
