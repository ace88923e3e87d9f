use Rattle.std.proofs.Common.{[], ◌∷◌, Some, ap}
use Rattle.wesl_text_form.specs.Spelling.{named}
use Rattle.wesl_text_print.proofs.Adding.{lawful, none, one, then, told}
use Rattle.wesl_text_print_statements.proofs.Variables.{space_printed}
use Rattle.wesl_text_print_statements.proofs.variable.print_space_and_mode.Goals as goal

pub returns : goal.returns
returns g c =
    let l = lawful g.met.S.TokenSink.none g.met.S.TokenSink.more in
    told (space_printed c.args.space) (then l (told (ap (λ w. Some (named w ∷ [])) c.space_word.ensures) (one l c.keyword.ensures)) (then l c.print_mode.ensures (none l)))
