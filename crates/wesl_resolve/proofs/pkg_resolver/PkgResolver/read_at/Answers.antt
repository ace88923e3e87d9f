use Rattle.std.proofs.Common.{None, Some, sym, ◌∙◌, subst, inl, inr, ⊎_elim}
use Rattle.wesl_tree_names.specs.Path.{Text, path_view}
use Rattle.wesl_resolve_base.specs.Refusals.{IsToldRefusal}
use Rattle.wesl_tree_syntax.specs.Unit.{spelled}
use Rattle.wesl_tree.specs.Translation.{unit_view}
use Rattle.wesl_tree.specs.declared.unit.TranslationUnit.{TranslationUnit}
use Rattle.wesl_resolve_base.proofs.ResultLemmas.{IfOk-to, refused-to}
use Rattle.wesl_resolve.proofs.pkg_resolver.PkgResolver.read_at.Goals as goal

pub returns-in-Ok-clause-read : goal.returns-in-Ok-clause-read
returns-in-Ok-clause-read g c =
    let Reads : Text → TranslationUnit → Type 0 = λ text u. g.P.UnitText.reads c.args.self.now.text text (spelled (unit_view u)) in
    let found = c.in-Ok.ensures.found in
    IfOk-to _ _ (λ u h. (found.0, found.1, subst (λ text. Reads text u) (c.as_str.ensures.value ∙ sym found.2) h)) c.read_module.result c.read_module.ensures.read

pub returns-in-Ok-clause-refused : goal.returns-in-Ok-clause-refused
returns-in-Ok-clause-refused g c =
    let found = c.in-Ok.ensures.found in
    refused-to _ _ (λ e h. inr (found.0, found.1, subst (λ text. IsToldRefusal (g.P.UnitText.unreadable c.args.self.now.text text) (path_view c.args.path.now) None (Some text) e) (c.as_str.ensures.value ∙ sym found.2) h)) c.read_module.result c.read_module.ensures.refused

pub returns-in-Err-clause-read : goal.returns-in-Err-clause-read
returns-in-Err-clause-read g c = tt

pub returns-in-Err-clause-refused : goal.returns-in-Err-clause-refused
returns-in-Err-clause-refused g c = ⊎_elim inl (λ missing. inr (inl missing)) c.in-Err.ensures.missing
