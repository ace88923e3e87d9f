use Rattle.wesl_tree_syntax.specs.declared.attribute.Attribute.TheVariants as attr
use Rattle.std.proofs.Common.{ap, codes, refl, rules, string_bytes, ◌∙◌}
use Rattle.wesl_json_words.specs.Values.{attribute_in, placed_at, placed_in, with_list, with_member, with_option, worded}
use Rattle.wesl_json_print_nodes.specs.Printing.{custom_tree, diagnosed}
use Rattle.serde_json.specs.Data.{no_members, string}
use Rattle.wesl_json_print_nodes.proofs.Attributes.{attribute_printed}
use Rattle.wesl_json_print_nodes.proofs.attribute.print_attribute.Goals as goal

pub returns-in-Align : goal.returns-in-Align
unfolding placed_in placed_at with_member with_list with_option
returns-in-Align g c = attribute_printed c.args.spans c.args.span c.args.names.now c.args.attribute.now (attr.Align c.in-Align.operand) _ (search rules) refl c.print_operand.ensures

pub returns-in-Binding : goal.returns-in-Binding
unfolding placed_in placed_at with_member with_list with_option
returns-in-Binding g c = attribute_printed c.args.spans c.args.span c.args.names.now c.args.attribute.now (attr.Binding c.in-Binding.operand) _ (search rules) refl c.print_operand-in-Binding.ensures

pub returns-in-BlendSrc : goal.returns-in-BlendSrc
unfolding placed_in placed_at with_member with_list with_option
returns-in-BlendSrc g c = attribute_printed c.args.spans c.args.span c.args.names.now c.args.attribute.now (attr.BlendSrc c.in-BlendSrc.operand) _ (search rules) refl c.print_operand-in-BlendSrc.ensures

pub returns-in-Builtin : goal.returns-in-Builtin
unfolding placed_in placed_at with_member with_list with_option
returns-in-Builtin g c = attribute_printed c.args.spans c.args.span c.args.names.now c.args.attribute.now (attr.Builtin c.in-Builtin.name) _ (search rules) (ap (λ t. worded (codes "builtin") (with_member (codes "name") (string t) no_members)) c.as_str.ensures.value) c.print_named.ensures

pub returns-in-Const : goal.returns-in-Const
unfolding placed_in placed_at with_member with_list with_option
returns-in-Const g c = attribute_printed c.args.spans c.args.span c.args.names.now c.args.attribute.now (attr.Const) _ (search rules) refl c.print_word.ensures

pub returns-in-Diagnostic : goal.returns-in-Diagnostic
unfolding placed_in placed_at with_member with_list with_option
returns-in-Diagnostic g c = attribute_printed c.args.spans c.args.span c.args.names.now c.args.attribute.now (attr.Diagnostic c.in-Diagnostic.severity c.in-Diagnostic.rule) _ (search rules) (ap (λ t. diagnosed t c.as_str-in-Diagnostic-2.result.now) c.as_str-in-Diagnostic.ensures.value ∙ ap (λ t. diagnosed (string_bytes c.in-Diagnostic.severity) t) c.as_str-in-Diagnostic-2.ensures.value) c.print_diagnostic.ensures

pub returns-in-Group : goal.returns-in-Group
unfolding placed_in placed_at with_member with_list with_option
returns-in-Group g c = attribute_printed c.args.spans c.args.span c.args.names.now c.args.attribute.now (attr.Group c.in-Group.operand) _ (search rules) refl c.print_operand-in-Group.ensures

pub returns-in-Id : goal.returns-in-Id
unfolding placed_in placed_at with_member with_list with_option
returns-in-Id g c = attribute_printed c.args.spans c.args.span c.args.names.now c.args.attribute.now (attr.Id c.in-Id.operand) _ (search rules) refl c.print_operand-in-Id.ensures

pub returns-in-Interpolate : goal.returns-in-Interpolate
unfolding placed_in placed_at with_member with_list with_option
returns-in-Interpolate g c = attribute_printed c.args.spans c.args.span c.args.names.now c.args.attribute.now (attr.Interpolate c.in-Interpolate.texts) _ (search rules) refl c.print_interpolate.ensures

pub returns-in-Invariant : goal.returns-in-Invariant
unfolding placed_in placed_at with_member with_list with_option
returns-in-Invariant g c = attribute_printed c.args.spans c.args.span c.args.names.now c.args.attribute.now (attr.Invariant) _ (search rules) refl c.print_word-in-Invariant.ensures

pub returns-in-Location : goal.returns-in-Location
unfolding placed_in placed_at with_member with_list with_option
returns-in-Location g c = attribute_printed c.args.spans c.args.span c.args.names.now c.args.attribute.now (attr.Location c.in-Location.operand) _ (search rules) refl c.print_operand-in-Location.ensures

pub returns-in-MustUse : goal.returns-in-MustUse
unfolding placed_in placed_at with_member with_list with_option
returns-in-MustUse g c = attribute_printed c.args.spans c.args.span c.args.names.now c.args.attribute.now (attr.MustUse) _ (search rules) refl c.print_word-in-MustUse.ensures

pub returns-in-Size : goal.returns-in-Size
unfolding placed_in placed_at with_member with_list with_option
returns-in-Size g c = attribute_printed c.args.spans c.args.span c.args.names.now c.args.attribute.now (attr.Size c.in-Size.operand) _ (search rules) refl c.print_operand-in-Size.ensures

pub returns-in-WorkgroupSize : goal.returns-in-WorkgroupSize
unfolding placed_in placed_at with_member with_list with_option
returns-in-WorkgroupSize g c = attribute_printed c.args.spans c.args.span c.args.names.now c.args.attribute.now (attr.WorkgroupSize c.in-WorkgroupSize.x c.in-WorkgroupSize.y c.in-WorkgroupSize.z) _ (search rules) refl c.print_workgroup.ensures

pub returns-in-Vertex : goal.returns-in-Vertex
unfolding placed_in placed_at with_member with_list with_option
returns-in-Vertex g c = attribute_printed c.args.spans c.args.span c.args.names.now c.args.attribute.now (attr.Vertex) _ (search rules) refl c.print_word-in-Vertex.ensures

pub returns-in-Fragment : goal.returns-in-Fragment
unfolding placed_in placed_at with_member with_list with_option
returns-in-Fragment g c = attribute_printed c.args.spans c.args.span c.args.names.now c.args.attribute.now (attr.Fragment) _ (search rules) refl c.print_word-in-Fragment.ensures

pub returns-in-Compute : goal.returns-in-Compute
unfolding placed_in placed_at with_member with_list with_option
returns-in-Compute g c = attribute_printed c.args.spans c.args.span c.args.names.now c.args.attribute.now (attr.Compute) _ (search rules) refl c.print_word-in-Compute.ensures

pub returns-in-Publish : goal.returns-in-Publish
unfolding placed_in placed_at with_member with_list with_option
returns-in-Publish g c = attribute_printed c.args.spans c.args.span c.args.names.now c.args.attribute.now (attr.Publish) _ (search rules) refl c.print_word-in-Publish.ensures

pub returns-in-If : goal.returns-in-If
unfolding placed_in placed_at with_member with_list with_option
returns-in-If g c = attribute_printed c.args.spans c.args.span c.args.names.now c.args.attribute.now (attr.If c.in-If.operand) _ (search rules) refl c.print_operand-in-If.ensures

pub returns-in-Elif : goal.returns-in-Elif
unfolding placed_in placed_at with_member with_list with_option
returns-in-Elif g c = attribute_printed c.args.spans c.args.span c.args.names.now c.args.attribute.now (attr.Elif c.in-Elif.operand) _ (search rules) refl c.print_operand-in-Elif.ensures

pub returns-in-Else : goal.returns-in-Else
unfolding placed_in placed_at with_member with_list with_option
returns-in-Else g c = attribute_printed c.args.spans c.args.span c.args.names.now c.args.attribute.now (attr.Else) _ (search rules) refl c.print_word-in-Else.ensures

pub returns-in-Custom : goal.returns-in-Custom
unfolding placed_in placed_at with_member with_list with_option
returns-in-Custom g c = attribute_printed c.args.spans c.args.span c.args.names.now c.args.attribute.now (attr.Custom c.in-Custom.name c.in-Custom.arguments) _ (search rules) (ap (λ t. attribute_in c.args.spans c.args.names.now (custom_tree t c.in-Custom.arguments)) c.as_str-in-Custom.ensures.value) c.print_custom.ensures
