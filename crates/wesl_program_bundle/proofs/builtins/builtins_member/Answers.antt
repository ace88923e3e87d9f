use Rattle.std.proofs.Common.{option_map, sym}
use Rattle.serde_json.specs.Find.{get}
use Rattle.wesl_json_form.specs.View.{borrowed_view}
use Rattle.wesl_program_bundle.specs.Builtins.{builtins_in}
use Rattle.wesl_program_bundle.specs.Reading.{optional_in}
use Rattle.wesl_program_bundle.specs.Views.{builtins_view}
use Rattle.wesl_program_bundle.specs.Forms.{some_builtins, optional}
use Rattle.wesl_program_bundle.proofs.Together.{of-inside, there-read}
use Rattle.wesl_program_bundle.proofs.builtins.builtins_member.Goals as goal

pub returns-in-Some-clause-ok : goal.returns-in-Some-clause-ok
returns-in-Some-clause-ok c =
    there-read (optional_in builtins_in) (option_map builtins_view) (get c.args.key.now (borrowed_view c.args.value.now)) (borrowed_view c.in-Some.found.now) c.inside.result c.builtins_of.result (sym c.in-Some.ensures) c.inside.ensures.ok c.builtins_of.ensures.ok

pub returns-in-Some-clause-place : goal.returns-in-Some-clause-place
returns-in-Some-clause-place c =
    of-inside (optional c.args.key.now (some_builtins)) (borrowed_view c.args.value.now) (borrowed_view c.in-Some.found.now) c.inside.result c.builtins_of.result (sym c.in-Some.ensures) c.inside.ensures.place c.builtins_of.ensures.place
