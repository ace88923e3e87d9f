use Rattle.wesl_json_read.proofs.Noting.{may_lacks, may_part}
use Rattle.wesl_json_read.proofs.reader.Reader.optional_expression.Goals as goal

pub returns : goal.returns
returns c = may_part c.in-Some.ensures.there c.expression-expression.ensures c.within.ensures

pub returns-in_default : goal.returns-in_default
returns-in_default c = may_lacks c.in_default.ensures.lacks
