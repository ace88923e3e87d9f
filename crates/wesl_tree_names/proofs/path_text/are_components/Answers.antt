use Rattle.std.proofs.Common.{◌∙◌, rules, tests}
use Rattle.std.proofs.lemmas.Iterator.{YieldsList-from_slice}
use Rattle.std.proofs.lemmas.Iterator.Search.{all_from_yields_List}
use Rattle.wesl_tree_names.specs.PathText.{is_component}
use Rattle.wesl_tree_names.proofs.Texts.{all-components}
use Rattle.wesl_tree_names.proofs.path_text.are_components.Goals as goal

pub returns : goal.returns
returns c =
    all_from_yields_List (λ p. is_component p.now) _ _ _ c.all.ensures.ran (YieldsList-from_slice c.args.pieces.now cc) (λ x b q k. search (rules, tests))
    ∙ all-components (λ p. p.now) c.args.pieces.now
