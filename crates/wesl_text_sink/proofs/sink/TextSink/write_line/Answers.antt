use Rattle.std.proofs.Common.{refl}
use Rattle.std.specs.Prelude.{string_bytes}
use Rattle.wesl_text_sink.proofs.Marks.{parted_more}
use Rattle.wesl_text_sink.proofs.sink.TextSink.write_line.Goals as goal

pub loop-level-preserved : goal.loop-level-preserved
loop-level-preserved c = record {
  fault = c.loop-level.invariant.fault;
  marks = c.loop-level.invariant.marks;
  parted = parted_more (string_bytes c.args.self.now.text) (string_bytes c.loop-level.self.text) (string_bytes c.push_str-in-loop-level.new.self) _ refl c.in_ok-push_str-2.ensures.bytes c.loop-level.invariant.parted;
}
