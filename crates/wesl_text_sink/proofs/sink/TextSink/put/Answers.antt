use Rattle.std.proofs.Common.{sym}
use Rattle.wesl_text_sink.proofs.Laying.{laid_so, laying_fills, none_noted}
use Rattle.wesl_text_sink.proofs.sink.TextSink.put.Goals as goal

pub returns-else-is_err : goal.returns-else-is_err
returns-else-is_err c =
    laying_fills c.args.kind c.args.text.now c.args.self.now c.lay.new.self
    (none_noted c.args.self.now.fault (sym c.if-is_some.ensures)) c.lay.ensures.fault c.utf8.text c.requires (laid_so c.lay.result _ (sym c.if-is_err.ensures.value) c.lay.ensures.laid)
