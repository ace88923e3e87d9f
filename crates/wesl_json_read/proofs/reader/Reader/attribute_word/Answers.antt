use Rattle.std.proofs.Common.{◌≡◌, None, rules}
use Rattle.wesl_json_form.specs.Nodes.{nodes_of}
use Rattle.wesl_json_form.specs.Schema.{an_attribute}
use Rattle.wesl_json_form.specs.View.{borrowed_view}
use Rattle.wesl_json_read.proofs.Attributes.{no-attribute, no-word}
use Rattle.wesl_json_read.proofs.Noting.{weaker, wrong_at}
use Rattle.wesl_json_read.proofs.Places.{unknown-word}
use Rattle.wesl_json_read.proofs.reader.Reader.attribute_word.Goals as goal

pub returns-in_default : goal.returns-in_default
returns-in_default c = weaker (λ a b never. absurd never) (λ x h. no-word c.args.self.now.spans (borrowed_view c.args.value.now) x c.requires h.1 h.0) c.in_default.ensures.lacks

pub returns-in-None : goal.returns-in-None
returns-in-None c =
    let spans = c.args.self.now.spans in
    let d = borrowed_view c.args.value.now in
    let v = borrowed_view c.in-Some.word.now in
    let none : nodes_of spans an_attribute d ≡ None = no-attribute spans d v c.in-Some.ensures.there.found (search rules) in
    wrong_at c.in-Some.ensures.there.clear c.in-Some.ensures.same c.wrong.ensures c.within.ensures (λ i o root under. unknown-word spans an_attribute d v i o c.in-Some.ensures.there.found none root under)
