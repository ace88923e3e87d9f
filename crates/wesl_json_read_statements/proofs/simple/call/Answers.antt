use Rattle.wesl_json_read.proofs.Noting.{needed_lacks, needed_part}
use Rattle.wesl_json_read_statements.proofs.simple.call.Goals as goal

pub returns : goal.returns
returns c = needed_part c.in-Some.ensures.there c.in-Some.ensures.same c.call-call.ensures c.within.ensures

pub returns-in_default : goal.returns-in_default
returns-in_default c = needed_lacks c.in_default.ensures.lacks
