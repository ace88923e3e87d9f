use Rattle.std.proofs.lemmas.List.{take_all}
use Rattle.wesl_link_symbols.proofs.Lists.{contains_nil}
use Rattle.wesl_link_reach.specs.Clashing.{IsAlone}
use Rattle.wesl_link_reach.proofs.Clashing.{clear_by}
use Rattle.wesl_link_reach.proofs.Growing.{element_of, first_more}
use Rattle.wesl_link_reach.proofs.names.clash.Goals as goal

pub loop-import-init : goal.loop-import-init
loop-import-init c = λ i h. absurd (contains_nil i h)

pub clashes-requires : goal.clashes-requires
clashes-requires c = element_of _ _ _ _ c.imports-import-items.ensures c.loop-import-test.true

pub loop-import-preserved : goal.loop-import-preserved
loop-import-preserved c = first_more (λ i. IsAlone c.args.table.now i) _ _ _ c.loop-import-test.true c.loop-import.invariant (c.clashes.ensures.no c.if-clashes.false)

pub returns-clause-none : goal.returns-clause-none
returns-clause-none c = clear_by c.args.table.now (λ i h. c.loop-import.invariant i (rw (take_all _ _ c.loop-import-test.false) (rw c.imports-import-items.ensures h)))
