use Rattle.std.proofs.Common.{refl}
use Rattle.wesl_tree_syntax.specs.Tree.{import_statement, kind}
use Rattle.wesl_tree_syntax.specs.View.{optional, path_tree}
use Rattle.wesl_scope_spans.proofs.Plain.{path_plain}
use Rattle.wesl_scope_spans.proofs.Steps.{beside, beyond, inside}
use Rattle.wesl_scope_spans.proofs.imports.in_import.Goals as goal

pub returns : goal.returns
returns c =
    let i = c.args.import.now in
    let s = c.args.round in
    inside (kind import_statement) refl (beside (c.in_attributes.ensures s) (beyond (optional path_tree i.path) (path_plain s i.path) c.in_content.ensures))
