use Rattle.wesl_text_read.proofs.Attributes.{attribute_placed}
use Rattle.wesl_text_read.proofs.reader.Reader.attribute.Goals as goal

pub returns : goal.returns
returns c = attribute_placed c.bare_attribute-node.result c.placed.result c.bare_attribute-node.ensures c.placed.ensures
