use Rattle.wesl_tree_syntax.specs.View.{type_view}
use Rattle.wesl_visit_rewrite.proofs.Roots.{type_root}
use Rattle.wesl_visit_rewrite.proofs.holders.TypeExpressionHolder.replace.Goals as goal
use Rattle.wesl_visit_collect.proofs.Variants.{type_label}

pub returns-clause-replaced : goal.returns-clause-replaced
returns-clause-replaced g c =
    type_root _ _ (type_view c.args.self.now) (type_view c.in_type.new.ty) (type_label c.args.self.now) (type_label c.in_type.new.ty) c.in_type.ensures
