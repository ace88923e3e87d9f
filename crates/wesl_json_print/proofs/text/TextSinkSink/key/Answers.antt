use Rattle.std.proofs.Common.{refl}
use Rattle.wesl_json_print_nodes.specs.Events.{key}
use Rattle.wesl_json_print.proofs.Writing.{token}
use Rattle.wesl_json_print.proofs.text.TextSinkSink.key.Goals as goal

pub returns : goal.returns
returns c = token (key c.args.key.now) c.key-done.result refl c.key-done.ensures c.note.ensures.out c.note.ensures.done c.note.ensures.noted
