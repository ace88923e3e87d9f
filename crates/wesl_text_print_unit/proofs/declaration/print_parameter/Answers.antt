use Rattle.wesl_text_print.specs.Printing.{name_slots}
use Rattle.wesl_text_print.proofs.Adding.{lawful, then, told}
use Rattle.wesl_text_print_statements.specs.Parts.{attributes_slots}
use Rattle.wesl_tree_syntax.specs.Unit.{name_in}
use Rattle.wesl_text_print_unit.proofs.Declarations.{type_ends}
use Rattle.wesl_text_print_unit.proofs.declaration.print_parameter.Goals as goal

pub returns : goal.returns
returns g c =
    let l = lawful g.met.S.TokenSink.none g.met.S.TokenSink.more in
    told (type_ends c.args.names.now (attributes_slots c.args.names.now c.args.parameter.now.attributes) (name_slots (name_in c.args.names.now c.args.parameter.now.ident.0)) c.args.parameter.now.ty)
    (then l c.print_attributes.ensures (then l c.print_name.ensures c.print_declared_type.ensures))
