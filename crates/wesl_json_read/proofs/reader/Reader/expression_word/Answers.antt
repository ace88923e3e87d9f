use Rattle.std.proofs.Common.{◌≡◌, None, refl, rules}
use Rattle.wesl_json_form.specs.Nodes.{nodes_of}
use Rattle.wesl_json_form.specs.Schema.{an_expression}
use Rattle.wesl_json_form.specs.View.{borrowed_view}
use Rattle.wesl_json_read.proofs.Expressions.{no-expression}
use Rattle.wesl_json_read.proofs.Noting.{wrong_at}
use Rattle.wesl_json_read.proofs.Places.{unknown-word}
use Rattle.wesl_json_read.proofs.reader.Reader.expression_word.Goals as goal

pub returns-in-None : goal.returns-in-None
returns-in-None c =
    let spans = c.args.self.now.spans in
    let d = borrowed_view c.args.value.now in
    let v = borrowed_view c.in_ok-word.word.now in
    let none : nodes_of spans an_expression d ≡ None = no-expression spans d v c.in_ok-word.ensures.there.found (search rules) in
    wrong_at c.in_ok-word.ensures.there.clear refl c.wrong.ensures c.within.ensures (λ i o root under. unknown-word spans an_expression d v i o c.in_ok-word.ensures.there.found none root under)
