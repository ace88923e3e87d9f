use Rattle.std.proofs.Common.{refl}
use Rattle.serde_json.specs.Data.{string}
use Rattle.wesl_json_print_nodes.specs.Events.{gives}
use Rattle.wesl_json_print.proofs.Writing.{token}
use Rattle.wesl_json_print.proofs.text.TextSinkSink.text.Goals as goal

pub returns : goal.returns
returns c = token (gives (string c.args.text.now)) c.string-done.result refl c.string-done.ensures c.note.ensures.out c.note.ensures.done c.note.ensures.noted
