-- The words of attributes.
use Rattle.std.specs.Prelude.{codes}
use Rattle.wesl_tree_names.specs.Path.{Text}
use Rattle.wesl_tree_syntax.specs.Tree.{Kind, align, binding, blend_src, builtin, const_attribute, diagnostic, group, id, interpolate, invariant_attribute, location, must_use, size, workgroup_size, vertex, fragment, compute, publish, if_attribute, elif_attribute, else_attribute}
use Rattle.wesl_text_read.specs.declared.attribute_word.AttributeWord.{AttributeWord}
use Rattle.wesl_text_read.specs.declared.attribute_word.AttributeWord.TheVariants as words
use Rattle.wesl_text_read.specs.declared.attribute_word.OperandWord.{OperandWord}
use Rattle.wesl_text_read.specs.declared.attribute_word.OperandWord.TheVariants as operands
use Rattle.wesl_text_read.specs.declared.attribute_word.PlainWord.{PlainWord}
use Rattle.wesl_text_read.specs.declared.attribute_word.PlainWord.TheVariants as plains

-- the attributes with one operand, an expression: their kinds and their words
abbrev pub operand_kind : OperandWord → Kind
operand_kind operands.Align = align
operand_kind operands.Binding = binding
operand_kind operands.BlendSrc = blend_src
operand_kind operands.Group = group
operand_kind operands.Id = id
operand_kind operands.Location = location
operand_kind operands.Size = size
operand_kind operands.If = if_attribute
operand_kind operands.Elif = elif_attribute

abbrev pub operand_text : OperandWord → Text
operand_text operands.Align = codes "align"
operand_text operands.Binding = codes "binding"
operand_text operands.BlendSrc = codes "blend_src"
operand_text operands.Group = codes "group"
operand_text operands.Id = codes "id"
operand_text operands.Location = codes "location"
operand_text operands.Size = codes "size"
operand_text operands.If = codes "if"
operand_text operands.Elif = codes "elif"

-- those without operand:
abbrev pub plain_kind : PlainWord → Kind
plain_kind plains.Const = const_attribute
plain_kind plains.Invariant = invariant_attribute
plain_kind plains.MustUse = must_use
plain_kind plains.Vertex = vertex
plain_kind plains.Fragment = fragment
plain_kind plains.Compute = compute
plain_kind plains.Publish = publish
plain_kind plains.Else = else_attribute

abbrev pub plain_text : PlainWord → Text
plain_text plains.Const = codes "const"
plain_text plains.Invariant = codes "invariant"
plain_text plains.MustUse = codes "must_use"
plain_text plains.Vertex = codes "vertex"
plain_text plains.Fragment = codes "fragment"
plain_text plains.Compute = codes "compute"
plain_text plains.Publish = codes "publish"
plain_text plains.Else = codes "else"

-- all of them:
abbrev pub attribute_kind : AttributeWord → Kind
attribute_kind (words.Operand w) = operand_kind w
attribute_kind (words.Plain w) = plain_kind w
attribute_kind words.Builtin = builtin
attribute_kind words.Diagnostic = diagnostic
attribute_kind words.Interpolate = interpolate
attribute_kind words.WorkgroupSize = workgroup_size

abbrev pub attribute_text : AttributeWord → Text
attribute_text (words.Operand w) = operand_text w
attribute_text (words.Plain w) = plain_text w
attribute_text words.Builtin = codes "builtin"
attribute_text words.Diagnostic = codes "diagnostic"
attribute_text words.Interpolate = codes "interpolate"
attribute_text words.WorkgroupSize = codes "workgroup_size"
