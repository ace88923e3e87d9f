use Rattle.std.proofs.Common.{[], ◌∷◌, Some, ap, sym, ◌∙◌}
use Rattle.wesl_text_form.specs.Spelling.{followed, signed}
use Rattle.wesl_text_print.specs.Printing.{only_if}
use Rattle.wesl_text_print.proofs.Adding.{lawful, one, then, told}
use Rattle.wesl_text_print_statements.specs.Parts.{attributes_slots}
use Rattle.wesl_text_print_statements.specs.SimpleStatements.{target_slots}
use Rattle.wesl_text_print_statements.proofs.simple.print_step.Goals as goal

pub returns-then-are_apart : goal.returns-then-are_apart
returns-then-are_apart g c =
    let l = lawful g.met.S.TokenSink.none g.met.S.TokenSink.more in
    told (ap (λ b. only_if b (followed (attributes_slots c.args.names.now c.args.attributes.now) (followed (target_slots c.args.names.now c.args.target.now.node) (Some (signed c.args.sign ∷ []))))) (sym c.if-are_apart.true ∙ c.are_apart.ensures c.args.names.now))
    (then l c.print_attributes.ensures (then l c.print_target.ensures (one l c.symbol.ensures)))
