use Rattle.std.proofs.Common.{◌∙◌, ap, rules, tests, not, eqb, length, lit<}
use Rattle.std.proofs.lemmas.Iterator.Splits.{YieldsList-from_str_split}
use Rattle.std.proofs.lemmas.Iterator.Search.{all_from_yields_List}
use Rattle.wesl_tree_base.specs.Pieces.{all_filled}
use Rattle.std.specs.List.{slice_split}
use Rattle.wesl_tree_base.proofs.Pieces.{all-filled, cut-split}
use Rattle.wesl_tree_base.proofs.reading.is_package_name.Goals as goal

pub returns : goal.returns
returns c =
    all_from_yields_List (λ t. not (eqb (length t) 0)) _ _ _ c.all.ensures.ran (YieldsList-from_str_split 47 c.args.piece.now (lit< tt) c.split.ensures.text c.split.ensures.has_more c.split.ensures.pattern) (λ x b q k. search (rules, tests))
    ∙ all-filled (slice_split (λ b. eqb b 47) c.args.piece.now)
    ∙ ap all_filled (cut-split 47 c.args.piece.now)
