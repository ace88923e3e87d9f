use Rattle.std.proofs.Common.{◌≡◌, option_and_then, false, refl, sym}
use Rattle.std.proofs.lemmas.Result.{IfOk-at_ok, IfOk-weaker}
use Rattle.serde_json.specs.Find.{get}
use Rattle.wesl_json_form.specs.View.{borrowed_view}
use Rattle.wesl_tree_names.specs.Path.{is_relative, path_view}
use Rattle.wesl_program_bundle.specs.Forms.{a_path, required}
use Rattle.wesl_program_bundle.specs.Reading.{path_in}
use Rattle.wesl_program_bundle.proofs.Together.{of-inside, there-read}
use Rattle.wesl_program_bundle.proofs.Places.{LocatesMember-lacks}
use Rattle.wesl_program_bundle.proofs.members.path_member.Goals as goal

pub returns-in-Some-clause-ok : goal.returns-in-Some-clause-ok
returns-in-Some-clause-ok c =
    there-read (option_and_then path_in) path_view (get c.args.key.now (borrowed_view c.args.value.now)) (borrowed_view c.in-Some.path.now) c.inside.result c.path_of.result (sym c.in-Some.ensures) c.inside.ensures.ok c.path_of.ensures.ok

pub returns-in-Some-clause-fixed : goal.returns-in-Some-clause-fixed
returns-in-Some-clause-fixed c =
    IfOk-weaker c.inside.result _ _ (λ p is. IfOk-at_ok (λ p. is_relative (path_view p) ≡ false) is c.path_of.ensures.fixed) c.inside.ensures.ok

pub returns-in-Some-clause-place : goal.returns-in-Some-clause-place
returns-in-Some-clause-place c =
    of-inside (required c.args.key.now a_path) (borrowed_view c.args.value.now) (borrowed_view c.in-Some.path.now) c.inside.result c.path_of.result (sym c.in-Some.ensures) c.inside.ensures.place c.path_of.ensures.place

pub returns-in-None-clause-place : goal.returns-in-None-clause-place
returns-in-None-clause-place c =
    LocatesMember-lacks (required c.args.key.now a_path) (borrowed_view c.args.value.now) c.wrong.result refl (sym c.in-None.ensures) c.wrong.ensures
