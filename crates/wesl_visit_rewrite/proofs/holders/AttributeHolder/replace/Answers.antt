use Rattle.wesl_tree_syntax.specs.View.{attribute_view}
use Rattle.wesl_visit_rewrite.proofs.Roots.{root}
use Rattle.wesl_visit_rewrite.proofs.holders.AttributeHolder.replace.Goals as goal

pub returns-clause-replaced : goal.returns-clause-replaced
returns-clause-replaced g c =
    root _ _ (attribute_view c.args.self.now) (attribute_view c.in_attribute.new.attribute) (c.law_of_variants.ensures.attributes g.T.Kind.sought c.args.self.now) c.in_attribute.ensures
