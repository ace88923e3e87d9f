use Rattle.std.proofs.Common.{Some, codes, [], ◌∷◌}
use Rattle.wesl_text_form.specs.Spelling.{named, signed}
use Rattle.wesl_text_tokens.specs.declared.symbol.Symbol.TheVariants as sign
use Rattle.wesl_text_print.proofs.Adding.{followed_twice, lawful, none, one, then, told}
use Rattle.wesl_text_print_statements.proofs.attribute.print_builtin.Goals as goal

pub returns : goal.returns
returns g c =
    let l = lawful g.met.S.TokenSink.none g.met.S.TokenSink.more in
    told (followed_twice (Some (signed sign.At ∷ [])) (Some (named (codes "builtin") ∷ [])) _)
    (then l c.print_plain.ensures (then l (one l c.symbol.ensures) (then l (one l c.word.ensures) (then l (one l c.may.ensures) (then l (one l c.symbol-2.ensures) (none l))))))
