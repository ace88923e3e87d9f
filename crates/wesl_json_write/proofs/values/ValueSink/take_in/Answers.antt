use Rattle.wesl_json_write.proofs.Builder.{item_taken, taken}
use Rattle.wesl_json_write.proofs.values.ValueSink.take_in.Goals as goal

pub returns-in-Some : goal.returns-in-Some
returns-in-Some c = taken c.put.ensures (item_taken c.args.items c.in-Some.items c.args.value c.in-Some.ensures)
