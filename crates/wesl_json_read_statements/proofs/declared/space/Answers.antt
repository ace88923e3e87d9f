use Rattle.std.proofs.Common.{rules}
use Rattle.wesl_json_form.specs.View.{borrowed_view}
use Rattle.wesl_json_read_statements.proofs.Spaces.{space_is, space_lacks, unknown_space}
use Rattle.wesl_json_read_statements.proofs.declared.space.Goals as goal

pub returns-in_default : goal.returns-in_default
returns-in_default c = space_lacks (borrowed_view c.args.value.now) c.in_default.ensures.lacks

pub returns-in-None : goal.returns-in-None
returns-in-None c = unknown_space (borrowed_view c.args.value.now) (borrowed_view c.in-Some.word.now) c.in-Some.ensures.there (search rules) c.in-Some.ensures.same c.wrong.ensures c.within.ensures

pub returns-in-Some-and_then : goal.returns-in-Some-and_then
returns-in-Some-and_then c = space_is (borrowed_view c.args.value.now) (borrowed_view c.in-Some.word.now) c.in-Some.ensures.there.found (search rules) c.in-Some.ensures.same
