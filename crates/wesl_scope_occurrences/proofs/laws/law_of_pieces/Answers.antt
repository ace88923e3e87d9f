use Rattle.wesl_scope_occurrences.proofs.Cutting.{pieces_are}
use Rattle.wesl_scope_occurrences.proofs.laws.law_of_pieces.Goals as goal

pub returns : goal.returns
returns c = λ u label. pieces_are u label
