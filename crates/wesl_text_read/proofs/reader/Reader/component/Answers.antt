use Rattle.std.proofs.Common.{string_bytes}
use Rattle.wesl_text_read.proofs.Expressions.{component_read}
use Rattle.wesl_text_read.proofs.reader.Reader.component.Goals as goal

pub returns : goal.returns
returns c = component_read c.args.base c.placed.result c.named_component-node.result (string_bytes c.name-component.result) c.step.ensures.skips c.name-component.ensures c.named_component-node.ensures c.placed.ensures
