use Rattle.std.proofs.Common.{[], sym}
use Rattle.serde_json.specs.Find.{get}
use Rattle.wesl_json_form.specs.View.{borrowed_view}
use Rattle.wesl_program_bundle.specs.Features.{flags_in}
use Rattle.wesl_program_bundle.specs.Reading.{or_default}
use Rattle.wesl_program_bundle.specs.Views.{flags_view}
use Rattle.wesl_program_bundle.specs.Forms.{a_feature, an_object_of, optional}
use Rattle.wesl_program_bundle.proofs.Together.{of-inside, there-read}
use Rattle.wesl_program_bundle.proofs.features.flags_member.Goals as goal

pub returns-in-Some-clause-ok : goal.returns-in-Some-clause-ok
returns-in-Some-clause-ok c =
    there-read (or_default [] flags_in) (flags_view) (get c.args.key.now (borrowed_view c.args.value.now)) (borrowed_view c.in-Some.found.now) c.inside.result c.sorted_flags.result (sym c.in-Some.ensures) c.inside.ensures.ok c.sorted_flags.ensures.ok

pub returns-in-Some-clause-place : goal.returns-in-Some-clause-place
returns-in-Some-clause-place c =
    of-inside (optional c.args.key.now (an_object_of a_feature)) (borrowed_view c.args.value.now) (borrowed_view c.in-Some.found.now) c.inside.result c.sorted_flags.result (sym c.in-Some.ensures) c.inside.ensures.place c.sorted_flags.ensures.place
