use Rattle.wesl_text_sink.specs.Filling.{fills_more}
use Rattle.wesl_text_sink.proofs.Laying.{rule_in_one, rule_in_two, told}
use Rattle.wesl_text_sink.proofs.sink.TextSink.put_rule.Goals as goal

pub returns-in-len1 : goal.returns-in-len1
returns-in-len1 c = told (rule_in_one c.args.words.now _ c.in-len1.len_at_least c.in-len1.len_below) c.put_word.ensures

pub returns-in-len2 : goal.returns-in-len2
returns-in-len2 c =
    told (rule_in_two c.args.words.now _ _ c.in-len2.len_at_least c.in-len2.len_below)
    (fills_more _ _ _ _ _ c.put_word-in-len2.ensures (fills_more _ _ _ _ _ c.put_symbol.ensures c.put_word-in-len2-2.ensures))
