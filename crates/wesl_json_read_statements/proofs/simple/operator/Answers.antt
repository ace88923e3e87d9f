use Rattle.std.proofs.Common.{rules}
use Rattle.wesl_json_form.specs.View.{borrowed_view}
use Rattle.wesl_json_form.specs.Words.{assignment_words}
use Rattle.wesl_json_read.proofs.Operators.{no_operator, operator_is, operator_lacks}
use Rattle.wesl_json_read_statements.proofs.simple.operator.Goals as goal

pub returns-in_default : goal.returns-in_default
returns-in_default c = operator_lacks assignment_words (borrowed_view c.args.value.now) c.in_default.ensures.lacks

pub returns-in-None : goal.returns-in-None
returns-in-None c = no_operator assignment_words (borrowed_view c.args.value.now) (borrowed_view c.in-Some.word.now) c.in-Some.ensures.there (search rules) c.in-Some.ensures.same c.wrong.ensures c.within.ensures

pub returns-in-Some-and_then : goal.returns-in-Some-and_then
returns-in-Some-and_then c = operator_is assignment_words (borrowed_view c.args.value.now) (borrowed_view c.in-Some.word.now) c.in-Some.ensures.there.found (search rules) c.in-Some.ensures.same
