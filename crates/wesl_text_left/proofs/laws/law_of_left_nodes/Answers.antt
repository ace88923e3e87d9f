use Rattle.wesl_text_left.proofs.Marks as marks
use Rattle.wesl_text_left.proofs.Begins as begins
use Rattle.wesl_text_left.proofs.Judged as judged
use Rattle.wesl_text_left.proofs.laws.law_of_left_nodes.Goals as goal

pub returns : goal.returns
returns c = record { left_attributes = marks.left_attributes; left_nodes = begins.left_nodes; left_lists = judged.left_lists }
