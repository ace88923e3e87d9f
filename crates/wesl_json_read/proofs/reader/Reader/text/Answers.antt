use Rattle.wesl_json_read.proofs.Noting.{needed_lacks, needed_part}
use Rattle.wesl_json_form.specs.View.{borrowed_view}
use Rattle.wesl_json_read.proofs.Texts.{text_form}
use Rattle.wesl_json_read.proofs.reader.Reader.text.Goals as goal

pub returns : goal.returns
returns c = needed_part c.in-Some.ensures.there c.in-Some.ensures.same (text_form c.args.kind (borrowed_view c.in-Some.member.now) c.text_of-text.result c.text_of-text.ensures) c.within.ensures

pub returns-in_default : goal.returns-in_default
returns-in_default c = needed_lacks c.in_default.ensures.lacks
