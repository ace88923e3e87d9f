use Rattle.std.proofs.Common.{arith, refl}
use Rattle.wesl_tree_syntax.specs.Tree.{at, import_node, imports, kind}
use Rattle.wesl_visit_collect.proofs.Adds.{alone, inside, walked_all, walked_next, walked_none}
use Rattle.wesl_visit_collect.proofs.Words.{import_found}
use Rattle.wesl_visit_collect.proofs.collect.declaration.in_imports.Goals as goal

pub loop-import-init : goal.loop-import-init
loop-import-init g c =
    walked_none

pub loop-import-preserved : goal.loop-import-preserved
loop-import-preserved g c =
    walked_next c.import-item.result (omega arith) c.import-item.is c.loop-import.invariant (inside (at import_node _ _) refl (λ f. refl) (alone (λ deep. import_found g.T.Kind.sought deep c.import-item.result.node) c.enter.ensures))

pub returns : goal.returns
returns g c =
    inside (kind imports) refl (λ f. refl) (walked_all (omega arith) c.deref-import-items.ensures.value c.loop-import.invariant)
