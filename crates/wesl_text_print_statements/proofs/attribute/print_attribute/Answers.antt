use Rattle.std.proofs.Common.{[], ◌∷◌, Some, ap, codes, string_bytes, sym, ◌∙◌}
use Rattle.wesl_text_form.specs.Productions.{a_bare_attribute}
use Rattle.wesl_text_form.specs.Spelling.{followed, named, signed}
use Rattle.wesl_text_print.specs.Printing.{slots_in}
use Rattle.wesl_text_print.proofs.Adding.{followed_twice, lawful, then, told}
use Rattle.wesl_text_print_statements.specs.Parts.{builtin_row, custom_tree, diagnosed_row, plain_slots, row_in}
use Rattle.wesl_text_print_statements.proofs.Attributes.{bare}
use Rattle.wesl_text_tokens.specs.declared.symbol.Symbol.TheVariants as sign
use Rattle.wesl_tree_syntax.specs.Tree.{leaf, text}
use Rattle.wesl_text_print_statements.proofs.attribute.print_attribute.Goals as goal

pub returns-in-Align : goal.returns-in-Align
returns-in-Align g c = told (ap (bare c.args.names.now) (sym c.in-Align.is)) c.print_operand.ensures

pub returns-in-Binding : goal.returns-in-Binding
returns-in-Binding g c = told (ap (bare c.args.names.now) (sym c.in-Binding.is)) c.print_operand-in-Binding.ensures

pub returns-in-BlendSrc : goal.returns-in-BlendSrc
returns-in-BlendSrc g c = told (ap (bare c.args.names.now) (sym c.in-BlendSrc.is)) c.print_operand-in-BlendSrc.ensures

pub returns-in-Builtin : goal.returns-in-Builtin
returns-in-Builtin g c = told (ap (λ t. row_in [] builtin_row (leaf (text t) ∷ [])) c.as_str.ensures.value ∙ ap (bare c.args.names.now) (sym c.in-Builtin.is)) c.print_builtin.ensures

pub returns-in-Const : goal.returns-in-Const
returns-in-Const g c = told (ap (bare c.args.names.now) (sym c.in-Const.is)) c.print_plain.ensures

pub returns-in-Diagnostic : goal.returns-in-Diagnostic
returns-in-Diagnostic g c =
    let l = lawful g.met.S.TokenSink.none g.met.S.TokenSink.more in
    told
    (ap (λ t. followed (plain_slots (codes "diagnostic")) (row_in [] diagnosed_row (leaf (text t) ∷ leaf (text c.as_str-in-Diagnostic-2.result.now) ∷ []))) c.as_str-in-Diagnostic.ensures.value
    ∙ ap (λ t. followed (plain_slots (codes "diagnostic")) (row_in [] diagnosed_row (leaf (text (string_bytes c.in-Diagnostic.severity)) ∷ leaf (text t) ∷ []))) c.as_str-in-Diagnostic-2.ensures.value
    ∙ followed_twice (Some (signed sign.At ∷ [])) (Some (named (codes "diagnostic") ∷ [])) _
    ∙ ap (bare c.args.names.now) (sym c.in-Diagnostic.is))
    (then l c.print_plain-in-Diagnostic.ensures c.print_diagnostic.ensures)

pub returns-in-Group : goal.returns-in-Group
returns-in-Group g c = told (ap (bare c.args.names.now) (sym c.in-Group.is)) c.print_operand-in-Group.ensures

pub returns-in-Id : goal.returns-in-Id
returns-in-Id g c = told (ap (bare c.args.names.now) (sym c.in-Id.is)) c.print_operand-in-Id.ensures

pub returns-in-Interpolate : goal.returns-in-Interpolate
returns-in-Interpolate g c = told (ap (bare c.args.names.now) (sym c.in-Interpolate.is)) c.print_interpolate.ensures

pub returns-in-Invariant : goal.returns-in-Invariant
returns-in-Invariant g c = told (ap (bare c.args.names.now) (sym c.in-Invariant.is)) c.print_plain-in-Invariant.ensures

pub returns-in-Location : goal.returns-in-Location
returns-in-Location g c = told (ap (bare c.args.names.now) (sym c.in-Location.is)) c.print_operand-in-Location.ensures

pub returns-in-MustUse : goal.returns-in-MustUse
returns-in-MustUse g c = told (ap (bare c.args.names.now) (sym c.in-MustUse.is)) c.print_plain-in-MustUse.ensures

pub returns-in-Size : goal.returns-in-Size
returns-in-Size g c = told (ap (bare c.args.names.now) (sym c.in-Size.is)) c.print_operand-in-Size.ensures

pub returns-in-WorkgroupSize : goal.returns-in-WorkgroupSize
returns-in-WorkgroupSize g c = told (ap (bare c.args.names.now) (sym c.in-WorkgroupSize.is)) c.print_workgroup.ensures

pub returns-in-Vertex : goal.returns-in-Vertex
returns-in-Vertex g c = told (ap (bare c.args.names.now) (sym c.in-Vertex.is)) c.print_plain-in-Vertex.ensures

pub returns-in-Fragment : goal.returns-in-Fragment
returns-in-Fragment g c = told (ap (bare c.args.names.now) (sym c.in-Fragment.is)) c.print_plain-in-Fragment.ensures

pub returns-in-Compute : goal.returns-in-Compute
returns-in-Compute g c = told (ap (bare c.args.names.now) (sym c.in-Compute.is)) c.print_plain-in-Compute.ensures

pub returns-in-Publish : goal.returns-in-Publish
returns-in-Publish g c = told (ap (bare c.args.names.now) (sym c.in-Publish.is)) c.print_plain-in-Publish.ensures

pub returns-in-If : goal.returns-in-If
returns-in-If g c = told (ap (bare c.args.names.now) (sym c.in-If.is)) c.print_operand-in-If.ensures

pub returns-in-Elif : goal.returns-in-Elif
returns-in-Elif g c = told (ap (bare c.args.names.now) (sym c.in-Elif.is)) c.print_operand-in-Elif.ensures

pub returns-in-Else : goal.returns-in-Else
returns-in-Else g c = told (ap (bare c.args.names.now) (sym c.in-Else.is)) c.print_plain-in-Else.ensures

pub returns-in-Custom : goal.returns-in-Custom
returns-in-Custom g c = told (ap (λ t. slots_in c.args.names.now a_bare_attribute (custom_tree t c.in-Custom.arguments)) c.as_str-in-Custom.ensures.value ∙ ap (bare c.args.names.now) (sym c.in-Custom.is)) c.print_custom.ensures
