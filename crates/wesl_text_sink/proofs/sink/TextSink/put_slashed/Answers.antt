use Rattle.wesl_text_sink.specs.Filling.{fills_more}
use Rattle.wesl_text_sink.proofs.sink.TextSink.put_slashed.Goals as goal

pub returns : goal.returns
returns c = fills_more _ _ _ _ _ c.put_symbol.ensures c.put_name.ensures
