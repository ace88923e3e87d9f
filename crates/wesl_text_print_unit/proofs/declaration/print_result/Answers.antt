use Rattle.std.proofs.Common.{[], ◌∷◌, Some, ap, sym, ◌∙◌}
use Rattle.wesl_text_form.specs.Productions.{a_type}
use Rattle.wesl_text_form.specs.Spelling.{followed, signed}
use Rattle.wesl_text_print.specs.Printing.{slots_in}
use Rattle.wesl_text_print.proofs.Adding.{after_blank, lawful, nothing_behind, one, then, told}
use Rattle.wesl_text_print_statements.specs.Parts.{attributes_slots}
use Rattle.wesl_text_tokens.specs.declared.symbol.Symbol.TheVariants as sign
use Rattle.wesl_tree_syntax.specs.View.{type_view}
use Rattle.wesl_text_print_unit.specs.Units.{result_slots}
use Rattle.wesl_text_print_unit.proofs.declaration.print_result.Goals as goal

pub returns-in-Some : goal.returns-in-Some
returns-in-Some g c =
    let l = lawful g.met.S.TokenSink.none g.met.S.TokenSink.more in
    told (ap (λ t. followed (Some (signed sign.Arrow ∷ [])) (followed (attributes_slots c.args.names.now c.args.attributes.now) t)) (nothing_behind (slots_in c.args.names.now a_type (type_view c.in-Some.ty))) ∙ ap (result_slots c.args.names.now c.args.attributes.now) (sym c.in-Some.is))
    (then l (one l c.symbol.ensures) (after_blank l c.space.ensures (then l c.print_attributes.ensures (then l c.print_type.ensures (one l c.space-in-Some.ensures)))))

pub returns-in-None : goal.returns-in-None
returns-in-None g c = told (ap (result_slots c.args.names.now c.args.attributes.now) (sym c.in-None.is)) c.print_no_result.ensures
