use Rattle.std.proofs.Common.{refl, inl, inr, option_copied}
use Rattle.wesl_tree_names.specs.Path.{path_view}
use Rattle.wesl_resolve_base.proofs.ResultLemmas.{OrMemory-to}
use Rattle.wesl_link.specs.Conditions.{RefusesLeft}
use Rattle.wesl_text_program.specs.Sources.{refuses_of, said_of, unsaid_of}
use Rattle.wesl_text_program.proofs.Said.{left-refused}
use Rattle.wesl_text_program.proofs.sources.TextSources.left_at.Goals as goal

pub returns-in-Ok-condition-clause-handed : goal.returns-in-Ok-condition-clause-handed
returns-in-Ok-condition-clause-handed c = (c.in-Ok.unit, c.in-Ok-condition.left, c.in-Ok.ensures.said, c.in-Ok-condition.ensures, refl)

pub returns-in-Err-condition-clause-refused : goal.returns-in-Err-condition-clause-refused
returns-in-Err-condition-clause-refused c =
    let s = c.args.self.now in
    let p = path_view c.args.path.now in
    OrMemory-to (RefusesLeft (option_copied s.features) (said_of s p) p) (refuses_of s p) (λ e h. inr h) c.refused.result
    (left-refused (option_copied s.features) (said_of s p) p c.in-Ok.unit c.in-Ok.ensures.said c.in-Err-condition.fault c.in-Err-condition.ensures c.refused.result c.refused.ensures.error c.refused.ensures.told)

pub returns-in-Err-clause-refused : goal.returns-in-Err-clause-refused
returns-in-Err-clause-refused c =
    let s = c.args.self.now in
    let p = path_view c.args.path.now in
    OrMemory-to (unsaid_of s p) (refuses_of s p) (λ e h. inl h) c.in-Err.refusal c.in-Err.ensures.refused
