use Rattle.wesl_text_respell.proofs.Writable as writable
use Rattle.wesl_text_respell.proofs.laws.law_of_respelling.Goals as goal

pub returns : goal.returns
returns c = record { respelled_trees = writable.respelled_trees; respelled_units = writable.respelled_units }
