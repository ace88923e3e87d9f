use Rattle.std.proofs.Common.{refl, sym}
use Rattle.wesl_json_read.proofs.Noting.{many_next, needs_next, no_more, of_bare, seen}
use Rattle.wesl_json_read.proofs.reader.Reader.call.Goals as goal
use Rattle.wesl_tree_syntax.proofs.Views.{view_call_of}

pub returns : goal.returns
returns c = seen (sym (view_call_of _ _)) (of_bare refl refl refl c.keys.ensures (needs_next refl c.type_at.ensures (many_next refl c.expressions.ensures no_more)))
