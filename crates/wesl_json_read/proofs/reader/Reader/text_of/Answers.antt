use Rattle.std.proofs.Common.{sym}
use Rattle.wesl_json_form.specs.View.{borrowed_view}
use Rattle.wesl_json_read.proofs.Texts.{no_text, text_is}
use Rattle.wesl_json_read.proofs.reader.Reader.text_of.Goals as goal

pub returns-in-Some : goal.returns-in-Some
returns-in-Some c = text_is c.args.kind (borrowed_view c.args.value.now) c.own.result c.in-Some.text.now (sym c.in-Some.ensures) c.own.ensures

pub returns-in-None : goal.returns-in-None
returns-in-None c = no_text c.args.kind (borrowed_view c.args.value.now) c.new.result (sym c.in-None.ensures) c.wrong.ensures
