use Rattle.wesl_text_print.proofs.Adding.{after_blank, lawful, none, then, told}
use Rattle.wesl_tree.specs.Translation.{unit_view}
use Rattle.wesl_text_print_unit.proofs.Units.{unit_printed}
use Rattle.wesl_text_print_unit.proofs.unit.print_unit.Goals as goal

pub returns : goal.returns
returns g c =
    let l = lawful g.met.S.TokenSink.none g.met.S.TokenSink.more in
    told (unit_printed c.names-names.result.now c.imports-imports.result.now c.global_directives-directives.result.now c.global_declarations-declarations.result.now (unit_view c.args.unit.now) c.names-names.ensures.names c.imports-imports.ensures.imports c.global_directives-directives.ensures.directives c.global_declarations-declarations.ensures.declarations)
    (then l c.print_imports.ensures (after_blank l c.begin_part.ensures.given (then l c.print_directives.ensures (after_blank l c.begin_last_part.ensures.given (then l c.print_declarations.ensures (none l))))))
