use Rattle.std.proofs.Common.{arith, refl}
use Rattle.wesl_tree_syntax.specs.Tree.{at, import_node, import_statement, imports, kind}
use Rattle.wesl_tree_syntax.specs.View.{attributes_tree, optional, path_tree}
use Rattle.wesl_scope_words.proofs.Attributes.{attributes_quiet}
use Rattle.wesl_scope_words.proofs.Declared.{path_quiet}
use Rattle.wesl_scope_words.proofs.Steps.{beyond, inside, walked_all, walked_next, walked_none}
use Rattle.wesl_scope_words.proofs.declarations.in_imports.Goals as goal

pub loop-import-init : goal.loop-import-init
loop-import-init c = walked_none

pub loop-import-preserved : goal.loop-import-preserved
loop-import-preserved c =
    let i = c.import-item.result.node in
    walked_next c.import-item.result (omega arith) c.import-item.is c.loop-import.invariant (inside (at import_node _ _) refl (inside (kind import_statement) refl
    (beyond (attributes_tree i.attributes) (attributes_quiet i.attributes) (beyond (optional path_tree i.path) (path_quiet i.path) c.in_content.ensures))))

pub returns : goal.returns
returns c = inside (kind imports) refl (walked_all (omega arith) c.deref-import-items.ensures.value c.loop-import.invariant)
