use Rattle.std.proofs.Common.{Some, option_map, inl, refl, ap, codes}
use Rattle.wesl_json_form.specs.View.{borrowed_view}
use Rattle.wesl_program_bundle.specs.Broken.{Locates}
use Rattle.wesl_program_bundle.specs.Features.{features_keys}
use Rattle.wesl_program_bundle.specs.Forms.{a_feature, an_object_of, optional, some_features}
use Rattle.wesl_json_form.specs.Keys.{has_only}
use Rattle.wesl_program_bundle.proofs.Together.{of-both, of-field, of-only, part}
use Rattle.wesl_program_bundle.proofs.Places.{Locates-here}
use Rattle.wesl_program_bundle.proofs.Readings.{features-read}
use Rattle.wesl_program_bundle.proofs.features.features_of.Goals as goal

pub returns-in-Ok-clause-ok : goal.returns-in-Ok-clause-ok
returns-in-Ok-clause-ok c =
    let parts = part _ c.both.result c.in-Ok.ensures.ok c.both.ensures.ok in
    ap (option_map Some) (features-read (borrowed_view c.args.value.now) _ _ c.in-Ok.ensures.keys (part _ c.feature_member-default.result parts.0 c.feature_member-default.ensures.ok) (part _ c.flags_member-flags.result parts.1 c.flags_member-flags.ensures.ok))

pub returns-in-Err-clause-place : goal.returns-in-Err-clause-place
returns-in-Err-clause-place c =
    let d = borrowed_view c.args.value.now in
    of-only (Locates some_features d) (has_only features_keys d) c.both.result c.in-Err.error c.in-Err.ensures.place
    (λ unknown is. Locates-here some_features d c.in-Err.error is (inl unknown))
    (of-both (Locates some_features d) c.both.result c.feature_member-default.result c.flags_member-flags.result c.both.ensures.place
    (of-field some_features (optional (codes "default") a_feature) d c.feature_member-default.result (λ w. w) refl c.feature_member-default.ensures.place)
    (of-field some_features (optional (codes "flags") (an_object_of a_feature)) d c.flags_member-flags.result (λ w. w) refl c.flags_member-flags.ensures.place))
