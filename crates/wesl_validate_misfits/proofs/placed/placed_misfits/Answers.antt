use Rattle.std.proofs.Common.{subst}
use Rattle.wesl_tree.specs.Translation.{unit_view}
use Rattle.wesl_validate_builtins.specs.Builtins.{builtins_view}
use Rattle.wesl_validate_misfits.specs.Placed.{ArePlaced, ArePlacedAmong}
use Rattle.wesl_validate_misfits.proofs.placed.placed_misfits.Goals as goal

pub returns-clause-misfits : goal.returns-clause-misfits
returns-clause-misfits c =
    let u = unit_view c.args.unit.now in
    let ns = c.args.numbers.now.items in
    let w = unit_view c.args.placed.now in
    let ms = c.in_ok-placed_of.field-0.items in
    subst (λ b. ArePlaced u (builtins_view b) ns w ms) c.in_ok-callables.ensures
    (subst (λ cs. ArePlacedAmong u (builtins_view c.in_ok-callables.callables.builtins.now) ns cs ms) c.in_ok-calls.ensures.calls c.in_ok-placed_of.ensures)
