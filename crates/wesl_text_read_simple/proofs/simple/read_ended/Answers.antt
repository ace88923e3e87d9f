use Rattle.wesl_tree_syntax.specs.View.{statement_view}
use Rattle.wesl_text_read_simple.proofs.Wholes.{ended_read}
use Rattle.wesl_text_read_simple.proofs.simple.read_ended.Goals as goal

pub returns : goal.returns
returns c = ended_read c.args.start (statement_view c.read_unended-statement.result) c.requires c.read_unended-statement.ensures c.skip_sign.ensures
