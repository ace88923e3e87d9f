use Rattle.std.proofs.Common.{◌∙◌, sym, ap}
use Rattle.wesl_link_reach.specs.Eager.{with_named}
use Rattle.wesl_link_reach.proofs.Declaring.{declaring_start, declaring_more, declaring_all}
use Rattle.wesl_link_reach.proofs.eager.declared_symbols.Goals as goal

pub loop-declaration-init : goal.loop-declaration-init
loop-declaration-init c = declaring_start c.args.table.now c.declarations-declaration-items.result.now _ c.new-symbols.ensures.items

pub loop-declaration-preserved : goal.loop-declaration-preserved
loop-declaration-preserved c =
    declaring_more c.args.table.now _ _ c.declaration-item.result c.name.result _ _ c.loop-declaration-test.true c.declaration-item.is (sym c.name.ensures)
    (c.in_ok-add_named.ensures ∙ ap (λ p. with_named p c.name.result c.loop-declaration.symbols.items) c.path.ensures) c.loop-declaration.invariant

pub returns : goal.returns
returns c = declaring_all c.args.table.now _ _ _ _ c.declarations-declaration-items.ensures c.loop-declaration-test.false c.loop-declaration.invariant
