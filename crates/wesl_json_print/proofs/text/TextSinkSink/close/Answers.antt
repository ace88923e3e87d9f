use Rattle.std.proofs.Common.{refl}
use Rattle.wesl_json_print_nodes.specs.Events.{ends}
use Rattle.wesl_json_print.proofs.Writing.{token}
use Rattle.wesl_json_print.proofs.text.TextSinkSink.close.Goals as goal

pub returns : goal.returns
returns c = token ends c.end_object-done.result refl c.end_object-done.ensures c.note.ensures.out c.note.ensures.done c.note.ensures.noted
