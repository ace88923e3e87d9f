use Rattle.std.proofs.Common.{◌∙◌, ap}
use Rattle.std.specs.List.{slice_get}
use Rattle.wesl_resolve.proofs.Placing.{lent-at}
use Rattle.wesl_resolve.proofs.package_index.package_numbered.Goals as goal

pub returns : goal.returns
returns c = lent-at c.deref.result.now c.args.number c.get.result c.get.ensures.lookup ∙ ap (λ xs. slice_get xs c.args.number) c.deref.ensures.value
