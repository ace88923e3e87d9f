use Rattle.std.proofs.Common.{refl}
use Rattle.serde_json.specs.Data.{boolean}
use Rattle.wesl_json_print_nodes.specs.Events.{gives}
use Rattle.wesl_json_print.proofs.Writing.{token}
use Rattle.wesl_json_print.proofs.text.TextSinkSink.truth.Goals as goal

pub returns : goal.returns
returns c = token (gives (boolean c.args.truth)) c.boolean-done.result refl c.boolean-done.ensures c.note.ensures.out c.note.ensures.done c.note.ensures.noted
