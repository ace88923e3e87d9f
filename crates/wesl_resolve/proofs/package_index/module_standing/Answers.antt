use Rattle.std.proofs.Common.{◌∙◌, sym}
use Rattle.wesl_resolve.proofs.Placing.{standing-nothing, standing-step, standing-past}
use Rattle.wesl_resolve.proofs.package_index.module_standing.Goals as goal

pub returns-in_default : goal.returns-in_default
returns-in_default c = standing-nothing c.args.packages.now.items c.args.place.now c.in_default.ensures.cases

pub returns-in-Some-package_numbered : goal.returns-in-Some-package_numbered
returns-in-Some-package_numbered c =
    c.module_along.ensures ∙ sym (standing-step c.args.packages.now.items c.args.place.now c.in-Some.others.now c.in-Some.first.now c.in-Some-package_numbered.«package».now c.in-Some.ensures.cases.0 c.in-Some-package_numbered.ensures)

pub returns-in-None : goal.returns-in-None
returns-in-None c = standing-past c.args.packages.now.items c.args.place.now c.in-Some.others.now c.in-Some.first.now c.in-Some.ensures.cases.0 c.in-None.ensures
