use Rattle.std.proofs.Common.{option_map, rules, sym}
use Rattle.wesl_text_read_imports.proofs.Directives.{words_read}
use Rattle.wesl_text_read_imports.proofs.directive.names.Goals as goal

pub returns : goal.returns
returns c =
    let o = option_map (λ t. t.now) c.word_first.result in
    words_read o _ c.is_none-is_wrong.result (sym c.word_first.ensures) (search rules) c.wrong_if.ensures.refuses c.wrong_if.ensures.same c.words.ensures
