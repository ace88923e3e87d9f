use Rattle.std.proofs.Common.{ap, string_bytes}
use Rattle.wesl_text_print.specs.Printing.{name_slots}
use Rattle.wesl_text_print.proofs.Adding.{lawful, one, then, told}
use Rattle.wesl_text_print_statements.specs.Parts.{attributes_slots}
use Rattle.wesl_text_print_unit.proofs.Declarations.{type_ends}
use Rattle.wesl_text_print_unit.proofs.declaration.print_member.Goals as goal

pub returns : goal.returns
returns g c =
    let l = lawful g.met.S.TokenSink.none g.met.S.TokenSink.more in
    told (type_ends c.args.names.now (attributes_slots c.args.names.now c.args.member.now.attributes) (name_slots (string_bytes c.args.member.now.name)) c.args.member.now.ty)
    (then l c.print_attributes.ensures (then l (told (ap name_slots c.as_str.ensures.value) (one l c.name.ensures)) c.print_declared_type.ensures))
