use Rattle.std.proofs.Common.{ap, sym, ◌∙◌}
use Rattle.wesl_text_form.specs.Productions.{a_bare_declaration}
use Rattle.wesl_text_print.specs.Printing.{slots_in}
use Rattle.wesl_text_print.proofs.Adding.{lawful, one, then, told}
use Rattle.wesl_text_print_unit.proofs.Declarations.{whole_global}
use Rattle.wesl_tree_syntax.specs.View.{global_view}
use Rattle.wesl_text_print_unit.proofs.declaration.print_declaration.Goals as goal

pub returns-in-Void : goal.returns-in-Void
returns-in-Void g c =
    let l = lawful g.met.S.TokenSink.none g.met.S.TokenSink.more in
    told (ap (λ d. slots_in c.args.names.now a_bare_declaration (global_view d)) (sym c.in-Void.is)) (one l c.symbol.ensures)

pub returns-in-Declaration : goal.returns-in-Declaration
returns-in-Declaration g c =
    let l = lawful g.met.S.TokenSink.none g.met.S.TokenSink.more in
    told (whole_global c.args.names.now c.in-Declaration.declaration ∙ ap (λ d. slots_in c.args.names.now a_bare_declaration (global_view d)) (sym c.in-Declaration.is)) (then l c.print_global.ensures (one l c.symbol-in-Declaration.ensures))

pub returns-in-TypeAlias : goal.returns-in-TypeAlias
returns-in-TypeAlias g c =
    told (ap (λ d. slots_in c.args.names.now a_bare_declaration (global_view d)) (sym c.in-TypeAlias.is)) c.print_alias.ensures

pub returns-in-Struct : goal.returns-in-Struct
returns-in-Struct g c =
    told (ap (λ d. slots_in c.args.names.now a_bare_declaration (global_view d)) (sym c.in-Struct.is)) c.print_struct.ensures

pub returns-in-Function : goal.returns-in-Function
returns-in-Function g c =
    told (ap (λ d. slots_in c.args.names.now a_bare_declaration (global_view d)) (sym c.in-Function.is)) c.print_function.ensures

pub returns-in-ConstAssert : goal.returns-in-ConstAssert
returns-in-ConstAssert g c =
    told (ap (λ d. slots_in c.args.names.now a_bare_declaration (global_view d)) (sym c.in-ConstAssert.is)) c.print_assertion.ensures.declaration
