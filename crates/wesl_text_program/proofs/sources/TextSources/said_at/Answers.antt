use Rattle.std.proofs.Common.{sym, subst}
use Rattle.wesl_tree_names.specs.Path.{path_view}
use Rattle.wesl_tree_syntax.specs.Unit.{spelled}
use Rattle.wesl_tree.specs.Translation.{unit_view}
use Rattle.wesl_resolve_base.proofs.ResultLemmas.{IfOk-to, OrMemory-to, refused-to}
use Rattle.wesl_resolve_base.specs.Packages.{IsSaid}
use Rattle.wesl_program.specs.Hands.{found_in}
use Rattle.wesl_text_program.specs.Texts.{IsSaidBy, IsUnsaid}
use Rattle.wesl_text_program.proofs.Said.{missing-unsaid}
use Rattle.wesl_text_program.proofs.sources.TextSources.said_at.Goals as goal

pub returns-in-Ok-clause-said : goal.returns-in-Ok-clause-said
returns-in-Ok-clause-said c = IfOk-to _ _ (λ u h. subst (λ f. IsSaidBy f (spelled (unit_view u))) (sym c.in-Ok.ensures.found) h) c.unit_of_value.result c.unit_of_value.ensures.said

pub returns-in-Ok-clause-refused : goal.returns-in-Ok-clause-refused
returns-in-Ok-clause-refused c = refused-to _ _ (λ e h. subst (λ f. IsUnsaid (path_view c.args.path.now) f e) (sym c.in-Ok.ensures.found) h) c.unit_of_value.result c.unit_of_value.ensures.refused

pub returns-in-Err-clause-refused : goal.returns-in-Err-clause-refused
returns-in-Err-clause-refused c =
    let found = found_in c.args.self.now.sources.now (path_view c.args.path.now) in
    OrMemory-to (IsSaid (path_view c.args.path.now) found) (IsUnsaid (path_view c.args.path.now) found) (missing-unsaid (path_view c.args.path.now) found) c.in-Err.refusal c.in-Err.ensures.missing
