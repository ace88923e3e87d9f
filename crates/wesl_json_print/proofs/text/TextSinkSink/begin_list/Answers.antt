use Rattle.std.proofs.Common.{refl}
use Rattle.wesl_json_print_nodes.specs.Events.{begins_list}
use Rattle.wesl_json_print.proofs.Writing.{token}
use Rattle.wesl_json_print.proofs.text.TextSinkSink.begin_list.Goals as goal

pub returns : goal.returns
returns c = token begins_list c.begin_array-done.result refl c.begin_array-done.ensures c.note.ensures.out c.note.ensures.done c.note.ensures.noted
