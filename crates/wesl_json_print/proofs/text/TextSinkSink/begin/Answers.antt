use Rattle.std.proofs.Common.{refl}
use Rattle.wesl_json_print_nodes.specs.Events.{begins}
use Rattle.wesl_json_print.proofs.Writing.{token}
use Rattle.wesl_json_print.proofs.text.TextSinkSink.begin.Goals as goal

pub returns : goal.returns
returns c = token begins c.begin_object-done.result refl c.begin_object-done.ensures c.note.ensures.out c.note.ensures.done c.note.ensures.noted
