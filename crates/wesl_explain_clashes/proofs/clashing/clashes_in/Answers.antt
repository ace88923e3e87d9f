use Rattle.std.proofs.Common.{◌∙◌, map, ap}
use Rattle.wesl_scope_clashes.specs.Clashes.{clash_view}
use Rattle.wesl_scope_words.specs.Captured.{clash_view as word_clash_view}
use Rattle.wesl_explain_clashes.specs.Told.{name, word}
use Rattle.wesl_explain_clashes.proofs.clashing.clashes_in.Goals as goal

pub returns-clause-names : goal.returns-clause-names
returns-clause-names c =
    c.in_ok-names-2.ensures ∙ (ap (λ xs. map name (map clash_view xs)) c.deref.ensures.value ∙ ap (map name) c.in_ok-names.ensures)

pub returns-clause-words : goal.returns-clause-words
returns-clause-words c =
    c.in_ok-words-2.ensures ∙ (ap (λ xs. map word (map word_clash_view xs)) c.deref-2.ensures.value ∙ ap (map word) c.in_ok-words.ensures)
