use Rattle.std.proofs.Common.{◌≡◌, ◌∙◌, ◌++◌, ap, arith}
use Rattle.std.specs.Prelude.{flat_map}
use Rattle.std.proofs.lemmas.Grind.{common_steps}
use Rattle.wesl_validate_rules.proofs.Gathering.{added_next, declared_by, all_declared}
use Rattle.wesl_validate_rules.proofs.plain.add_declarations.Goals as goal

pub returns : goal.returns
returns c =
    let old = c.args.numbers.now.items in
    let all = c.args.declarations.now.items in
    let e : c.loop-declaration.numbers.items ≡ old ++ flat_map declared_by all = grind (arith, common_steps, c.loop-declaration.invariant) in
    e ∙ ap (λ ns. old ++ ns) (all_declared all)

pub loop-declaration-preserved : goal.loop-declaration-preserved
loop-declaration-preserved c =
    added_next declared_by c.deref-declaration-items.result.now c.loop-declaration.declaration-index c.declaration-item.result c.args.numbers.now.items c.loop-declaration.numbers.items c.add_declaration.new.numbers.items c.loop-declaration-test.true c.declaration-item.is c.in_ok-add_declaration.ensures c.loop-declaration.invariant
