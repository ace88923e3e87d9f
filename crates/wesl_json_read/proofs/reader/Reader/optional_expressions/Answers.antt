use Rattle.std.proofs.Common.{rules}
use Rattle.wesl_json_read.proofs.Noting.{may_lacks, may_many}
use Rattle.wesl_json_read.proofs.reader.Reader.optional_expressions.Goals as goal

pub returns-in-Some : goal.returns-in-Some
returns-in-Some c = may_many (search rules) c.expressions.ensures

pub returns-in-None : goal.returns-in-None
returns-in-None c = may_lacks (λ _. search rules)
