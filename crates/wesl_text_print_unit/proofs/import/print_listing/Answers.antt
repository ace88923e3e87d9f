use Rattle.wesl_text_print.proofs.Adding.{after_blank, lawful, none, one, then}
use Rattle.wesl_text_print_unit.proofs.import.print_listing.Goals as goal

pub returns : goal.returns
returns g c =
    let l = lawful g.met.S.TokenSink.none g.met.S.TokenSink.more in
    let steps = then l c.print_attributes.ensures (then l (one l c.keyword.ensures) (after_blank l c.space.ensures (then l c.print_some_words.ensures (then l (one l c.symbol.ensures) (none l))))) in
    steps
