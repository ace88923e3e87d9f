use Rattle.wesl_text_sink.specs.Filling.{fills_more}
use Rattle.wesl_text_sink.proofs.Laying.{names_in, told}
use Rattle.wesl_text_sink.proofs.sink.TextSink.put_names.Goals as goal

pub returns-in-len1-up : goal.returns-in-len1-up
returns-in-len1-up c = told (names_in c.args.names.now _ c.in-len1-up.len_at_least) (fills_more _ _ _ _ _ c.put_name.ensures c.put_others.ensures)
