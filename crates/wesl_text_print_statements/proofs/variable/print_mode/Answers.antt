use Rattle.std.proofs.Common.{[], ◌∷◌, Some, ap, sym}
use Rattle.wesl_text_form.specs.Spelling.{named}
use Rattle.wesl_text_print.proofs.Adding.{after_blank, lawful, none, one, then, told}
use Rattle.wesl_text_print_statements.specs.Parts.{option_in}
use Rattle.wesl_text_print_statements.specs.Variables.{mode_row}
use Rattle.wesl_tree_syntax.specs.View.{access_tree}
use Rattle.wesl_text_print_statements.proofs.variable.print_mode.Goals as goal

pub returns-in-Some : goal.returns-in-Some
returns-in-Some g c =
    let l = lawful g.met.S.TokenSink.none g.met.S.TokenSink.more in
    told (ap (option_in [] mode_row access_tree) (sym c.in-Some.is)) (then l (one l c.symbol.ensures) (after_blank l c.space.ensures (then l (told (ap (λ w. Some (named w ∷ [])) c.mode_word.ensures) (one l c.keyword.ensures)) (none l))))
