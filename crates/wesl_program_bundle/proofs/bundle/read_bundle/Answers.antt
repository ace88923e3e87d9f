use Rattle.std.proofs.Common.{◌≡◌, None, Some, inl, inr}
use Rattle.std.proofs.lemmas.Result.{IfErr-weaker, IfOk-weaker}
use Rattle.wesl_json_form.specs.View.{borrowed_view}
use Rattle.wesl_program_bundle.specs.Bundle.{bundle_of}
use Rattle.wesl_program_bundle.specs.Forms.{HasFloatAt, IsBroken, IsBrokenBundle, a_bundle}
use Rattle.wesl_program_bundle.specs.Views.{bundle_view}
use Rattle.wesl_program_bundle.proofs.Exact.{no-bundle, whole-bundle}
use Rattle.wesl_program_bundle.proofs.Places.{IfPlace-more}
use Rattle.wesl_program_bundle.proofs.bundle.read_bundle.Goals as goal

pub returns-in-Ok-clause-ok : goal.returns-in-Ok-clause-ok
returns-in-Ok-clause-ok c =
    let d = borrowed_view c.args.value.now in
    IfOk-weaker c.read_members.result _ (λ b. bundle_of d ≡ Some (bundle_view b)) (λ b h. whole-bundle d (bundle_view b) c.in-Ok.ensures.ok h) c.read_members.ensures.ok

pub returns-in-Ok-clause-place : goal.returns-in-Ok-clause-place
returns-in-Ok-clause-place c =
    let d = borrowed_view c.args.value.now in
    IfErr-weaker c.read_members.result _ _ (λ e h. IfPlace-more (IsBroken a_bundle d) (IsBrokenBundle d) e (λ place w. inr w) h) c.read_members.ensures.place

pub returns-in-Ok-clause-unread : goal.returns-in-Ok-clause-unread
returns-in-Ok-clause-unread c =
    let d = borrowed_view c.args.value.now in
    IfErr-weaker c.read_members.result _ _ (λ e h. IfPlace-more (IsBroken a_bundle d) (λ _. bundle_of d ≡ None) e (λ place w. no-bundle d place (inr w)) h) c.read_members.ensures.place

pub returns-in-Err-clause-place : goal.returns-in-Err-clause-place
returns-in-Err-clause-place c =
    let d = borrowed_view c.args.value.now in
    IfPlace-more (HasFloatAt d) (IsBrokenBundle d) c.in-Err.error (λ place w. inl w) c.in-Err.ensures.place

pub returns-in-Err-clause-unread : goal.returns-in-Err-clause-unread
returns-in-Err-clause-unread c =
    let d = borrowed_view c.args.value.now in
    IfPlace-more (HasFloatAt d) (λ _. bundle_of d ≡ None) c.in-Err.error (λ place w. no-bundle d place (inl w)) c.in-Err.ensures.place
