use Rattle.std.proofs.Common.{refl, codes}
use Rattle.wesl_json_form.specs.View.{borrowed_view}
use Rattle.wesl_program_bundle.specs.Broken.{Locates}
use Rattle.wesl_program_bundle.specs.Forms.{a_bundle, a_form, a_limit, a_mangler, a_truth, optional}
use Rattle.wesl_program_bundle.proofs.Together.{either, of-both, of-field, part}
use Rattle.wesl_program_bundle.proofs.Readings.{options-read}
use Rattle.wesl_program_bundle.proofs.options.read_options.Goals as goal

pub returns-in-Ok-clause-ok : goal.returns-in-Ok-clause-ok
returns-in-Ok-clause-ok c =
    let all = c.in-Ok.ensures.ok in
    let names = part _ c.both-naming.result all.0 c.both-naming.ensures.ok in
    let others = part _ c.both.result all.1 c.both.ensures.ok in
    let extent = part _ c.both-extent.result others.0 c.both-extent.ensures.ok in
    options-read (borrowed_view c.args.value.now) _ _ _ _ _ (part _ c.naming_member-mangler.result names.0 c.naming_member-mangler.ensures.ok) (part _ c.truth_member-mangle_root.result names.1 c.truth_member-mangle_root.ensures.ok) (part _ c.truth_member-eager.result extent.0 c.truth_member-eager.ensures.ok) (part _ c.limit_member-max_modules.result extent.1 c.limit_member-max_modules.ensures.ok) (part _ c.form_member-spans.result others.1 c.form_member-spans.ensures.ok)

pub returns-in-Err-clause-place : goal.returns-in-Err-clause-place
returns-in-Err-clause-place c =
    let d = borrowed_view c.args.value.now in
    either (Locates a_bundle d) c.both-naming.result c.both.result c.in-Err.error c.in-Err.ensures.place
    (of-both (Locates a_bundle d) c.both-naming.result c.naming_member-mangler.result c.truth_member-mangle_root.result c.both-naming.ensures.place
    (of-field a_bundle (optional (codes "mangler") a_mangler) d c.naming_member-mangler.result (λ w. w) refl c.naming_member-mangler.ensures.place)
    (of-field a_bundle (optional (codes "mangle_root") a_truth) d c.truth_member-mangle_root.result (λ w. w) refl c.truth_member-mangle_root.ensures.place))
    (of-both (Locates a_bundle d) c.both.result c.both-extent.result c.form_member-spans.result c.both.ensures.place
    (of-both (Locates a_bundle d) c.both-extent.result c.truth_member-eager.result c.limit_member-max_modules.result c.both-extent.ensures.place
    (of-field a_bundle (optional (codes "eager") a_truth) d c.truth_member-eager.result (λ w. w) refl c.truth_member-eager.ensures.place)
    (of-field a_bundle (optional (codes "max_modules") a_limit) d c.limit_member-max_modules.result (λ w. w) refl c.limit_member-max_modules.ensures.place))
    (of-field a_bundle (optional (codes "form") a_form) d c.form_member-spans.result (λ w. w) refl c.form_member-spans.ensures.place))
