use Rattle.std.proofs.Common.{option_and_then, string_bytes, refl, sym}
use Rattle.serde_json.specs.Find.{get}
use Rattle.wesl_json_form.specs.View.{borrowed_view}
use Rattle.wesl_program_bundle.specs.Forms.{a_name, required}
use Rattle.wesl_program_bundle.specs.Reading.{name_in}
use Rattle.wesl_program_bundle.proofs.Together.{of-inside, there-read}
use Rattle.wesl_program_bundle.proofs.Places.{LocatesMember-lacks}
use Rattle.wesl_program_bundle.proofs.members.name_member.Goals as goal

pub returns-in-Some-clause-ok : goal.returns-in-Some-clause-ok
returns-in-Some-clause-ok c =
    there-read (option_and_then name_in) string_bytes (get c.args.key.now (borrowed_view c.args.value.now)) (borrowed_view c.in-Some.name.now) c.inside.result c.text_of.result (sym c.in-Some.ensures) c.inside.ensures.ok c.text_of.ensures.ok

pub returns-in-Some-clause-place : goal.returns-in-Some-clause-place
returns-in-Some-clause-place c =
    of-inside (required c.args.key.now a_name) (borrowed_view c.args.value.now) (borrowed_view c.in-Some.name.now) c.inside.result c.text_of.result (sym c.in-Some.ensures) c.inside.ensures.place c.text_of.ensures.place

pub returns-in-None-clause-place : goal.returns-in-None-clause-place
returns-in-None-clause-place c =
    LocatesMember-lacks (required c.args.key.now a_name) (borrowed_view c.args.value.now) c.wrong.result refl (sym c.in-None.ensures) c.wrong.ensures
