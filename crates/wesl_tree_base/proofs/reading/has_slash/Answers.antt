use Rattle.std.proofs.Common.{lit<}
use Rattle.std.proofs.lemmas.Bool.Decides.{same_from_decides}
use Rattle.std.proofs.lemmas.Str.Pattern.{contains_char}
use Rattle.wesl_tree_base.proofs.Pieces.{has-decides}
use Rattle.wesl_tree_base.proofs.reading.has_slash.Goals as goal

pub returns : goal.returns
returns c =
    let h = contains_char 47 c.args.piece.now c.contains.result c.contains.ensures.cases (lit< tt) in
    same_from_decides c.contains.result _ (h.0, λ w. h.1 w.0 w.1 w.2) (has-decides 47 c.args.piece.now)
