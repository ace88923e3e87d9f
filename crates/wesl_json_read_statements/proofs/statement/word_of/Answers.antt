use Rattle.std.proofs.Common.{None, option_and_then, refl, rules, ◌≡◌}
use Rattle.serde_json.specs.Find.{as_str}
use Rattle.wesl_json_form.specs.Nodes.{statement_words}
use Rattle.wesl_json_form.specs.Schema.{a_statement, look}
use Rattle.wesl_json_form.specs.View.{borrowed_view}
use Rattle.wesl_json_read.proofs.Worded.{wrong-word}
use Rattle.wesl_json_read.proofs.Noting.{wrong_at}
use Rattle.wesl_json_read_statements.proofs.statement.word_of.Goals as goal

pub returns-in-None : goal.returns-in-None
returns-in-None c =
    let spans = c.args.reader.now.spans in
    let v = borrowed_view c.in-Some.word.now in
    let none : option_and_then (look (statement_words spans)) (as_str v) ≡ None = search rules in
    wrong_at c.in-Some.ensures.there.clear c.in-Some.ensures.same c.wrong.ensures c.within.ensures
    (λ i o root under. wrong-word spans a_statement (statement_words spans) (borrowed_view c.args.value.now) refl refl v i o c.in-Some.ensures.there.found none root under)
