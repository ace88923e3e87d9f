use Rattle.std.proofs.Common.{string_bytes}
use Rattle.wesl_tree_syntax.specs.Tree.{list}
use Rattle.wesl_tree_syntax.specs.View.{expression_tree, listed, optional}
use Rattle.wesl_text_read.proofs.Attributes.{custom_read}
use Rattle.wesl_text_read.proofs.reader.Reader.custom.Goals as goal

pub returns : goal.returns
returns c = custom_read c.args.word.now (string_bytes c.own-name.result) (optional (listed expression_tree list) c.optional_arguments-arguments.result) c.requires c.own-name.ensures c.optional_arguments-arguments.ensures
