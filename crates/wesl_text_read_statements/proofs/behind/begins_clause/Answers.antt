use Rattle.std.proofs.Common.{◌≡◌, rules, refl}
use Rattle.wesl_text_form.specs.Productions.{a_clause}
use Rattle.wesl_text_reading.specs.FirstTokens.{begins_sort}
use Rattle.wesl_text_read_ahead.specs.Ahead.{tokens_of}
use Rattle.wesl_text_read_statements.proofs.Seen.{foreseen}
use Rattle.wesl_text_read_statements.proofs.behind.begins_clause.Goals as goal

pub returns-then-word_begins : goal.returns-then-word_begins
returns-then-word_begins c =
    let first : c.word_begins.result ≡ begins_sort a_clause (tokens_of c.peek_behind-behind.result.now) = search rules in
    foreseen a_clause c.word_begins.result (tokens_of c.peek_behind-behind.result.now) refl first c.peek_behind-behind.ensures

pub returns-else-word_begins : goal.returns-else-word_begins
returns-else-word_begins c =
    let first : c.word_begins-else-word_begins.result ≡ begins_sort a_clause (tokens_of c.peek_behind-behind.result.now) = search rules in
    foreseen a_clause c.word_begins-else-word_begins.result (tokens_of c.peek_behind-behind.result.now) refl first c.peek_behind-behind.ensures
