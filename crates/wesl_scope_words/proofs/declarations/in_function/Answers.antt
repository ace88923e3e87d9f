use Rattle.std.proofs.Common.{refl}
use Rattle.wesl_tree_syntax.specs.Tree.{function, kind, parameters}
use Rattle.wesl_tree_syntax.specs.View.{attributes_tree, optional, type_view}
use Rattle.wesl_scope_words.proofs.Attributes.{attributes_quiet, optional_type_quiet}
use Rattle.wesl_scope_words.proofs.Steps.{beside, beyond, first, inside}
use Rattle.wesl_scope_words.proofs.declarations.in_function.Goals as goal

pub returns : goal.returns
returns c =
    let f = c.args.function.now in
    inside (kind function) refl (beyond (attributes_tree f.attributes) (attributes_quiet f.attributes) (first c.name.ensures (beside (inside (kind parameters) refl c.in_parameters.ensures)
    (beyond (attributes_tree f.return_attributes) (attributes_quiet f.return_attributes) (beyond (optional type_view f.return_type) (optional_type_quiet f.return_type) c.in_compound.ensures)))))
