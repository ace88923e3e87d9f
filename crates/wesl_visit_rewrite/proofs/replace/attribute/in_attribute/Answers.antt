use Rattle.std.proofs.Common.{refl, ap, ◌∙◌, arith, Some}
use Rattle.wesl_tree_syntax.specs.View.{attribute_view, expression_tree, text_tree}
use Rattle.wesl_tree_syntax.specs.Tree.{before, end, align, binding, blend_src, custom, group, id, kind, list, location, present, size, workgroup_size}
use Rattle.wesl_tree_syntax.specs.declared.attribute.Attribute.TheVariants as made
use Rattle.std.specs.Vec.{with_items}
use Rattle.wesl_visit_rewrite.proofs.Parts.{operand_went}
use Rattle.wesl_visit_rewrite.proofs.Steps.{beside, inside, unmoved, viewed, went_list}
use Rattle.wesl_visit_rewrite.proofs.Words.{rest_went}
use Rattle.wesl_visit_rewrite.proofs.replace.attribute.in_attribute.Goals as goal

pub returns-in-Align : goal.returns-in-Align
returns-in-Align g c =
    let d = c.at_expression in
    operand_went align (attribute_view c.args.attribute.now) c.in-Align.operand d.new.node refl refl (ap attribute_view c.in-Align.is) d.ensures

pub returns-in-Binding : goal.returns-in-Binding
returns-in-Binding g c =
    let d = c.at_expression-in-Binding in
    operand_went binding (attribute_view c.args.attribute.now) c.in-Binding.operand d.new.node refl refl (ap attribute_view c.in-Binding.is) d.ensures

pub returns-in-BlendSrc : goal.returns-in-BlendSrc
returns-in-BlendSrc g c =
    let d = c.at_expression-in-BlendSrc in
    operand_went blend_src (attribute_view c.args.attribute.now) c.in-BlendSrc.operand d.new.node refl refl (ap attribute_view c.in-BlendSrc.is) d.ensures

pub returns-in-Group : goal.returns-in-Group
returns-in-Group g c =
    let d = c.at_expression-in-Group in
    operand_went group (attribute_view c.args.attribute.now) c.in-Group.operand d.new.node refl refl (ap attribute_view c.in-Group.is) d.ensures

pub returns-in-Id : goal.returns-in-Id
returns-in-Id g c =
    let d = c.at_expression-in-Id in
    operand_went id (attribute_view c.args.attribute.now) c.in-Id.operand d.new.node refl refl (ap attribute_view c.in-Id.is) d.ensures

pub returns-in-Location : goal.returns-in-Location
returns-in-Location g c =
    let d = c.at_expression-in-Location in
    operand_went location (attribute_view c.args.attribute.now) c.in-Location.operand d.new.node refl refl (ap attribute_view c.in-Location.is) d.ensures

pub returns-in-Size : goal.returns-in-Size
returns-in-Size g c =
    let d = c.at_expression-in-Size in
    operand_went size (attribute_view c.args.attribute.now) c.in-Size.operand d.new.node refl refl (ap attribute_view c.in-Size.is) d.ensures

pub returns-in-WorkgroupSize : goal.returns-in-WorkgroupSize
returns-in-WorkgroupSize g c =
    let b = c.in-WorkgroupSize in
    let d = c.at_expression-goes in
    let e = c.at_optional_expression-goes in
    let f = c.at_optional_expression in
    viewed _ (attribute_view (made.WorkgroupSize d.new.node e.new.node f.new.node)) (ap attribute_view b.is) refl (inside (kind workgroup_size) refl refl (beside d.ensures (beside e.ensures f.ensures)))

pub returns-in-None : goal.returns-in-None
returns-in-None g c =
    let b = c.in-Custom in
    let e = ap (λ o. attribute_view (made.Custom b.name o)) c.in-None.is in
    viewed _ _ (ap attribute_view b.is ∙ e) e (unmoved _ refl)

pub returns-in-Some : goal.returns-in-Some
returns-in-Some g c =
    let b = c.in-Custom in
    let v = c.in-Some.arguments in
    let d = c.at_expressions in
    viewed _ (attribute_view (made.Custom b.name (Some (with_items v d.new.nodes)))) (ap attribute_view b.is ∙ ap (λ o. attribute_view (made.Custom b.name o)) c.in-Some.is) refl
    (inside (kind custom) refl refl (beside (unmoved (before (text_tree b.name) end) refl) (inside (kind present) refl refl
    (went_list expression_tree list v _ d.new.nodes refl refl c.deref_mut.ensures.value (omega (arith, d.auto.nodes, c.deref_mut.ensures.len)) d.ensures))))

pub returns-in_default : goal.returns-in_default
returns-in_default g c =
    let n = c.in_default in
    rest_went c.law_of_words.ensures.attributes _ _ c.args.attribute.now n.not-Align n.not-Binding n.not-BlendSrc n.not-Group n.not-Id n.not-Location n.not-Size n.not-WorkgroupSize n.not-Custom
