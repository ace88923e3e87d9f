use Rattle.std.proofs.Common.{◌≡◌}
use Rattle.std.specs.Prelude.{string_bytes}
use Rattle.wesl_text_sink.specs.Filling.{Parted}
use Rattle.wesl_text_sink.proofs.sink.TextSink.write_line.Given as goal

abbrev pub invariant-loop-level : goal.invariant-loop-level
invariant-loop-level l = record { fault : l.self.fault ≡ l.fn.self.fault; marks : l.self.marks ≡ l.fn.self.marks; parted : Parted (string_bytes l.fn.self.text) (string_bytes l.self.text) }
