use Rattle.std.proofs.Common.{[], ◌∷◌, Some, ap, codes, string_bytes, sym, ◌∙◌}
use Rattle.wesl_text_form.specs.Productions.{a_bare_directive}
use Rattle.wesl_text_form.specs.Spelling.{followed, named}
use Rattle.wesl_text_print.specs.Printing.{slots_in}
use Rattle.wesl_text_print.proofs.Adding.{lawful, one, then, told}
use Rattle.wesl_text_print_statements.specs.Parts.{attributes_slots, diagnosed_row, row_in}
use Rattle.wesl_text_print_statements.proofs.Variables.{ending}
use Rattle.wesl_tree_syntax.specs.Tree.{leaf, text}
use Rattle.wesl_tree_syntax.specs.View.{directive_view}
use Rattle.wesl_text_print_unit.proofs.Imports.{diagnosed_ended}
use Rattle.wesl_text_print_unit.proofs.import.print_directive.Goals as goal

pub returns-in-Diagnostic : goal.returns-in-Diagnostic
returns-in-Diagnostic g c =
    let l = lawful g.met.S.TokenSink.none g.met.S.TokenSink.more in
    told
    (ap (λ t. followed (attributes_slots c.args.names.now c.in-Diagnostic.attributes) (followed (Some (named (codes "diagnostic") ∷ [])) (followed (row_in [] diagnosed_row (leaf (text t) ∷ leaf (text c.as_str-in-Diagnostic.result.now) ∷ [])) ending))) c.as_str.ensures.value
    ∙ ap (λ t. followed (attributes_slots c.args.names.now c.in-Diagnostic.attributes) (followed (Some (named (codes "diagnostic") ∷ [])) (followed (row_in [] diagnosed_row (leaf (text (string_bytes c.in-Diagnostic.severity)) ∷ leaf (text t) ∷ [])) ending))) c.as_str-in-Diagnostic.ensures.value
    ∙ ap (λ r. followed (attributes_slots c.args.names.now c.in-Diagnostic.attributes) (followed (Some (named (codes "diagnostic") ∷ [])) r)) (diagnosed_ended (string_bytes c.in-Diagnostic.severity) (string_bytes c.in-Diagnostic.rule))
    ∙ ap (λ d. slots_in c.args.names.now a_bare_directive (directive_view d)) (sym c.in-Diagnostic.is))
    (then l c.print_attributes.ensures (then l (one l c.keyword.ensures) (then l c.print_diagnostic.ensures (one l c.symbol.ensures))))

pub returns-in-Enable : goal.returns-in-Enable
returns-in-Enable g c = told (ap (λ d. slots_in c.args.names.now a_bare_directive (directive_view d)) (sym c.in-Enable.is)) c.print_listing.ensures

pub returns-in-Requires : goal.returns-in-Requires
returns-in-Requires g c = told (ap (λ d. slots_in c.args.names.now a_bare_directive (directive_view d)) (sym c.in-Requires.is)) c.print_listing-in-Requires.ensures
