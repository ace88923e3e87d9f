use Rattle.std.proofs.Common.{◌≡◌, false, rules, true}
use Rattle.wesl_json_form.specs.View.{borrowed_view}
use Rattle.wesl_json_read_statements.specs.Forms.{has_default}
use Rattle.wesl_json_read_statements.proofs.Cases.{case-noted, default-noted}
use Rattle.wesl_json_read_statements.proofs.selector.case.Goals as goal

pub returns-then-is_default : goal.returns-then-is_default
returns-then-is_default c =
    let is : has_default (borrowed_view c.args.value.now) ≡ true = search rules in
    default-noted is c.keys.ensures

pub returns-else-is_default : goal.returns-else-is_default
returns-else-is_default c =
    let other : has_default (borrowed_view c.args.value.now) ≡ false = search rules in
    case-noted other c.expression.ensures
