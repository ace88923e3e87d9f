use Rattle.std.proofs.Common.{◌≡◌, ◌-◌, Some, length, rules, ◌∙◌}
use Rattle.std.specs.List.{slice_get}
use Rattle.wesl_text_operands.proofs.Targets.{ends_with}
use Rattle.wesl_text_operands.proofs.target.ends_open.Goals as goal

pub returns-in-Some : goal.returns-in-Some
returns-in-Some c names =
    let last : slice_get c.args.attributes.now.items (length c.args.attributes.now.items - 1) ≡ Some c.in-Some.attribute.now = search rules in
    c.is_open.ensures names ∙ ends_with names c.args.attributes.now.items c.in-Some.attribute.now last
