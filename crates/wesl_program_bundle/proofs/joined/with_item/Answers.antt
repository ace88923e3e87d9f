use Rattle.std.proofs.Common.{◌≡◌, Ok}
use Rattle.wesl_program_bundle.proofs.Together.{part}
use Rattle.wesl_program_bundle.proofs.joined.with_item.Goals as goal

pub returns-in-Ok-push-clause-ok : goal.returns-in-Ok-push-clause-ok
returns-in-Ok-push-clause-ok g c =
    let parts = c.in-Ok.ensures.ok in
    (c.in-Ok.list, c.in-Ok.item, parts.0, part (λ x. c.args.item ≡ Ok x) c.inside_index.result parts.1 c.inside_index.ensures.ok, c.in-Ok-push.ensures.items)
