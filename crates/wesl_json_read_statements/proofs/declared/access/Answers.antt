use Rattle.std.proofs.Common.{rules}
use Rattle.wesl_json_form.specs.View.{borrowed_view}
use Rattle.wesl_json_read.proofs.Noting.{may_lacks}
use Rattle.wesl_json_read_statements.proofs.Spaces.{access_is, unknown_access}
use Rattle.wesl_json_read_statements.proofs.declared.access.Goals as goal

pub returns-in_default : goal.returns-in_default
returns-in_default c = may_lacks c.in_default.ensures.lacks

pub returns-in-Some-and_then : goal.returns-in-Some-and_then
returns-in-Some-and_then c = access_is (borrowed_view c.args.value.now) (borrowed_view c.in-Some.word.now) c.in-Some.ensures.there (search rules)

pub returns-in-None : goal.returns-in-None
returns-in-None c = unknown_access (borrowed_view c.args.value.now) (borrowed_view c.in-Some.word.now) c.in-Some.ensures.there (search rules) c.wrong.ensures c.within.ensures
