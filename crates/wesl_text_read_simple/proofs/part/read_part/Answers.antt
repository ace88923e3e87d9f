use Rattle.wesl_text_read_simple.proofs.Wholes.{part_placed}
use Rattle.wesl_text_read_simple.proofs.part.read_part.Goals as goal

pub returns : goal.returns
returns c = part_placed c.read_bare_part-node.result c.placed.result c.read_bare_part-node.ensures c.placed.ensures
