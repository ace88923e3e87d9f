use Rattle.std.proofs.Common.{arith, refl}
use Rattle.wesl_tree_syntax.specs.Tree.{at, import_node, imports, kind}
use Rattle.wesl_scope_spans.proofs.Stepped.{walked_all, walked_next, walked_none}
use Rattle.wesl_scope_spans.proofs.Steps.{inside}
use Rattle.wesl_scope_spans.proofs.imports.in_imports.Goals as goal

pub loop-import-init : goal.loop-import-init
loop-import-init c s = walked_none

pub loop-import-preserved : goal.loop-import-preserved
loop-import-preserved c s = walked_next c.import-item.result (omega arith) c.import-item.is (c.loop-import.invariant s) (inside (at import_node _ _) refl c.in_import.ensures)

pub returns : goal.returns
returns c s = inside (kind imports) refl (walked_all (omega arith) c.deref-import-items.ensures.value (c.loop-import.invariant s))
