use Rattle.wesl_text_sink.proofs.Laying.{not_as_many}
use Rattle.wesl_text_sink.proofs.reading.are_marked.Goals as goal

pub returns-then-tokens-marks : goal.returns-then-tokens-marks
returns-then-tokens-marks c = not_as_many c.args.text.now c.args.tokens.now c.args.marks.now c.if-tokens-marks.true
