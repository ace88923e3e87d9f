use Rattle.std.proofs.Common.{◌∙◌, rules, tests}
use Rattle.std.proofs.lemmas.Iterator.{YieldsList-from_slice}
use Rattle.std.proofs.lemmas.Iterator.Consumers.{count_from_yields_List}
use Rattle.std.proofs.lemmas.Iterator.Search.{YieldsList-from_take_while}
use Rattle.std.proofs.lemmas.List.Folds.{length-prefix_len}
use Rattle.std.specs.Str.{bytes_eq}
use lib.Chars.{codes}
use Rattle.wesl_tree_base.proofs.Pieces.{prefix-map}
use Rattle.wesl_tree_base.proofs.reading.leading_supers.Goals as goal

pub returns-clause-counted : goal.returns-clause-counted
returns-clause-counted c =
    count_from_yields_List c.take_while.result c.count.result c.count.ensures.ran (YieldsList-from_take_while _ (λ p. bytes_eq p.now (codes "super")) (YieldsList-from_slice c.args.pieces.now cc) c.take_while.ensures.closure c.take_while.ensures.done (λ x b q k. search (rules, tests)))
    ∙ length-prefix_len (λ p. bytes_eq p.now (codes "super")) c.args.pieces.now
    ∙ prefix-map (λ t. bytes_eq t (codes "super")) (λ p. p.now) c.args.pieces.now
