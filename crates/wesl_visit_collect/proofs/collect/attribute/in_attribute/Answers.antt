use Rattle.std.proofs.Common.{ap, refl}
use Rattle.wesl_tree_syntax.specs.Tree.{align, binding, blend_src, group, id, kind, location, size, workgroup_size}
use Rattle.wesl_tree_syntax.specs.View.{attribute_view}
use Rattle.wesl_visit_collect.proofs.Adds.{beside, inside, nothing, viewed}
use Rattle.wesl_visit_collect.proofs.Words.{rest_found}
use Rattle.wesl_visit_collect.proofs.collect.attribute.in_attribute.Goals as goal

pub returns-in-Align : goal.returns-in-Align
returns-in-Align g c =
    viewed (ap attribute_view c.in-Align.is) (inside (kind align) refl (λ f. refl) c.at_expression.ensures)

pub returns-in-Binding : goal.returns-in-Binding
returns-in-Binding g c =
    viewed (ap attribute_view c.in-Binding.is) (inside (kind binding) refl (λ f. refl) c.at_expression-in-Binding.ensures)

pub returns-in-BlendSrc : goal.returns-in-BlendSrc
returns-in-BlendSrc g c =
    viewed (ap attribute_view c.in-BlendSrc.is) (inside (kind blend_src) refl (λ f. refl) c.at_expression-in-BlendSrc.ensures)

pub returns-in-Group : goal.returns-in-Group
returns-in-Group g c =
    viewed (ap attribute_view c.in-Group.is) (inside (kind group) refl (λ f. refl) c.at_expression-in-Group.ensures)

pub returns-in-Id : goal.returns-in-Id
returns-in-Id g c =
    viewed (ap attribute_view c.in-Id.is) (inside (kind id) refl (λ f. refl) c.at_expression-in-Id.ensures)

pub returns-in-Location : goal.returns-in-Location
returns-in-Location g c =
    viewed (ap attribute_view c.in-Location.is) (inside (kind location) refl (λ f. refl) c.at_expression-in-Location.ensures)

pub returns-in-Size : goal.returns-in-Size
returns-in-Size g c =
    viewed (ap attribute_view c.in-Size.is) (inside (kind size) refl (λ f. refl) c.at_expression-in-Size.ensures)

pub returns-in-WorkgroupSize : goal.returns-in-WorkgroupSize
returns-in-WorkgroupSize g c =
    viewed (ap attribute_view c.in-WorkgroupSize.is) (inside (kind workgroup_size) refl (λ f. refl) (beside c.at_expression-in-WorkgroupSize.ensures (beside c.at_optional_expression.ensures c.at_optional_expression-in-WorkgroupSize.ensures)))

pub returns-in_default : goal.returns-in_default
returns-in_default g c =
    let n = c.in_default in
    nothing _ (λ deep. rest_found g.T.Kind.sought deep c.args.attribute.now n.not-Align n.not-Binding n.not-BlendSrc n.not-Group n.not-Id n.not-Location n.not-Size n.not-WorkgroupSize n.not-Custom)
