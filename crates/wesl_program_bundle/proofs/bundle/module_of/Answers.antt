use Rattle.std.proofs.Common.{inl, refl, codes}
use Rattle.wesl_json_form.specs.View.{borrowed_view}
use Rattle.wesl_program_bundle.specs.Broken.{Locates}
use Rattle.wesl_program_bundle.specs.Bundle.{module_keys}
use Rattle.wesl_program_bundle.specs.Forms.{a_module, a_path, a_unit, required}
use Rattle.wesl_json_form.specs.Keys.{has_only}
use Rattle.wesl_program_bundle.proofs.Together.{of-both, of-field, of-only, part}
use Rattle.wesl_program_bundle.proofs.Places.{Locates-here}
use Rattle.wesl_program_bundle.proofs.Readings.{module-read}
use Rattle.wesl_program_bundle.proofs.bundle.module_of.Goals as goal

pub returns-in-Ok-clause-ok : goal.returns-in-Ok-clause-ok
returns-in-Ok-clause-ok c =
    let parts = part _ c.both.result c.in-Ok.ensures.ok c.both.ensures.ok in
    module-read (borrowed_view c.args.value.now) _ _ c.in-Ok.ensures.keys (part _ c.path_member-path.result parts.0 c.path_member-path.ensures.ok) (part _ c.unit_member-unit.result parts.1 c.unit_member-unit.ensures.ok)

pub returns-in-Err-clause-place : goal.returns-in-Err-clause-place
returns-in-Err-clause-place c =
    let d = borrowed_view c.args.value.now in
    of-only (Locates a_module d) (has_only module_keys d) c.both.result c.in-Err.error c.in-Err.ensures.place
    (λ unknown is. Locates-here a_module d c.in-Err.error is (inl unknown))
    (of-both (Locates a_module d) c.both.result c.path_member-path.result c.unit_member-unit.result c.both.ensures.place
    (of-field a_module (required (codes "path") a_path) d c.path_member-path.result (λ w. w) refl c.path_member-path.ensures.place)
    (of-field a_module (required (codes "unit") a_unit) d c.unit_member-unit.result (λ w. w) refl c.unit_member-unit.ensures.place))
