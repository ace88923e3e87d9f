use Rattle.std.proofs.Common.{refl}
use Rattle.wesl_json_print_nodes.specs.Events.{ends_list}
use Rattle.wesl_json_print.proofs.Writing.{token}
use Rattle.wesl_json_print.proofs.text.TextSinkSink.close_list.Goals as goal

pub returns : goal.returns
returns c = token ends_list c.end_array-done.result refl c.end_array-done.ensures c.note.ensures.out c.note.ensures.done c.note.ensures.noted
