use Rattle.wesl_json_read.proofs.Noting.{needed_lacks, needed_part}
use Rattle.wesl_json_read.proofs.Texts.{in_role}
use Rattle.wesl_json_read.proofs.reader.Reader.ident_at.Goals as goal

pub returns : goal.returns
returns c = λ role. needed_part c.in-Some.ensures.there c.in-Some.ensures.same (in_role role c.ident-ident.ensures) c.within.ensures

pub returns-in_default : goal.returns-in_default
returns-in_default c = λ role. needed_lacks c.in_default.ensures.lacks
