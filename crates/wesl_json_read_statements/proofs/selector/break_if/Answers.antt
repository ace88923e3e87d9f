use Rattle.std.proofs.Common.{refl}
use Rattle.wesl_json_read.proofs.Noting.{many_next, may_lacks, may_part, needs_next, no_more, of_bare}
use Rattle.wesl_json_read_statements.proofs.selector.break_if.Goals as goal

pub returns : goal.returns
returns c = may_part c.in-Some.ensures.there (of_bare refl refl refl c.keys.ensures (many_next refl c.attributes-attributes.ensures (needs_next refl c.expression_at-expression.ensures no_more))) c.within.ensures

pub returns-in_default : goal.returns-in_default
returns-in_default c = may_lacks c.in_default.ensures.lacks
