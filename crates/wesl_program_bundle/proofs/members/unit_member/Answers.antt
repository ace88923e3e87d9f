use Rattle.std.proofs.Common.{refl, sym}
use Rattle.wesl_json_form.specs.View.{borrowed_view}
use Rattle.wesl_program_bundle.specs.Forms.{a_unit, required}
use Rattle.wesl_program_bundle.proofs.Places.{LocatesMember-lacks}
use Rattle.wesl_program_bundle.proofs.members.unit_member.Goals as goal

pub returns-in-None-clause-place : goal.returns-in-None-clause-place
returns-in-None-clause-place c =
    LocatesMember-lacks (required c.args.key.now a_unit) (borrowed_view c.args.value.now) c.wrong.result refl (sym c.in-None.ensures) c.wrong.ensures
