use Rattle.wesl_text_writable.proofs.Fewest as fewest
use Rattle.wesl_text_writable.proofs.laws.law_of_fewest.Goals as goal

pub returns : goal.returns
returns c = record { fewest_say_trees = fewest.fewest_say_trees; fewest_say = fewest.fewest_say }
