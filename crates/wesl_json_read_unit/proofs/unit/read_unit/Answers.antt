use Rattle.std.proofs.Common.{false, refl, sym, ◌∙◌, ◌≡◌}
use Rattle.wesl_json_form.specs.View.{borrowed_view}
use Rattle.wesl_json_form.specs.Reading.{known_keys}
use Rattle.wesl_json_form.specs.Keys.{has_only}
use Rattle.wesl_json_form.specs.Schema.{a_unit}
use Rattle.wesl_json_read.proofs.Expressions.{bare-keys}
use Rattle.wesl_tree_syntax.specs.Tree.{unit}
use Rattle.wesl_json_read_unit.proofs.Units.{form-place, formed_row, unit-place}
use Rattle.wesl_json_read_unit.proofs.unit.read_unit.Goals as goal

pub returns-then-not-has_only_beside-clause-place : goal.returns-then-not-has_only_beside-clause-place
returns-then-not-has_only_beside-clause-place c =
    let d = borrowed_view c.args.value.now in
    let lacking : has_only (known_keys (formed_row c.args.spans) d) d ≡ false = sym c.has_only_beside.ensures ∙ c.if-not-has_only_beside.true in
    unit-place c.args.spans d c.requires c.wrong.result (bare-keys c.args.spans a_unit unit (formed_row c.args.spans) d refl c.wrong.result refl lacking c.wrong.ensures)

pub returns-in-Err-clause-place : goal.returns-in-Err-clause-place
returns-in-Err-clause-place c = form-place (borrowed_view c.args.value.now) c.in-Err.error c.in-Err.ensures.place
