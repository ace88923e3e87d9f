use Rattle.std.proofs.Common.{lit<}
use Rattle.std.proofs.lemmas.Iterator.Consumers.{map_from_collect}
use Rattle.std.proofs.lemmas.Iterator.Splits.{YieldsList-from_str_split}
use Rattle.wesl_tree_base.proofs.Pieces.{cut-split}
use Rattle.wesl_link_paths.proofs.numbers.between_slashes.Goals as goal

pub returns : goal.returns
returns c =
    rw (← cut-split 47 c.args.text.now) (map_from_collect _ c.collect.ensures.ran (YieldsList-from_str_split 47 c.args.text.now (lit< tt) c.split.ensures.text c.split.ensures.has_more c.split.ensures.pattern))
