use Rattle.wesl_json_laws.proofs.Spans.{spans_are_places}
use Rattle.wesl_json_laws.proofs.laws.law_of_spans.Goals as goal

pub returns : goal.returns
returns c = spans_are_places
