use Rattle.std.proofs.Common.{[], ◌∷◌, ap}
use Rattle.wesl_text_form.specs.Names.{is_word}
use Rattle.wesl_text_form.specs.Spelling.{named, provided}
use Rattle.wesl_text_print.proofs.Adding.{lawful, one, told}
use Rattle.wesl_text_print.proofs.Lists.{all_commas_before, no_commas_before, one_comma_more}
use Rattle.wesl_text_print_statements.proofs.Attributes.{word_shows, word_slots, words_printed}
use Rattle.wesl_text_print_statements.proofs.attribute.print_words.Goals as goal

pub loop-word-init : goal.loop-word-init
loop-word-init g c =
    let l = lawful g.met.S.TokenSink.none g.met.S.TokenSink.more in
    no_commas_before word_slots l c.deref-word-items.result.now c.args.out.now

pub loop-word-preserved : goal.loop-word-preserved
loop-word-preserved g c =
    let l = lawful g.met.S.TokenSink.none g.met.S.TokenSink.more in
    one_comma_more word_slots l c.deref-word-items.result.now c.loop-word.word-index c.word-item.result c.loop-word.is_first c.loop-word-test.true c.word-item.is c.loop-word.invariant c.print_comma.ensures
    (told (ap (λ t. provided (is_word t) (named t ∷ [])) c.as_str.ensures.value) (one l c.word.ensures))

pub returns : goal.returns
returns g c =
    let l = lawful g.met.S.TokenSink.none g.met.S.TokenSink.more in
    told (words_printed c.args.words.now)
    (all_commas_before word_slots l word_shows c.deref-word-items.result.now c.args.words.now.items c.loop-word.word-index c.loop-word.is_first c.deref-word-items.ensures.value c.loop-word-test.false c.loop-word.invariant c.end_commas.ensures)
