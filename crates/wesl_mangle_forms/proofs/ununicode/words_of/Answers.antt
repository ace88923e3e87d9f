use Rattle.std.proofs.Common.{ap}
use Rattle.std.proofs.lemmas.Iterator.Consumers.{map_from_collect}
use denote.Ref.{Bor}
use Rattle.wesl_tree_names.specs.Path.{Text}
use Rattle.wesl_mangle_forms.proofs.Separators.{YieldsList-from_text_split}
use Rattle.wesl_mangle_forms.proofs.ununicode.words_of.Goals as goal

pub returns : goal.returns
returns c =
    map_from_collect _ c.collect.ensures.ran
    (YieldsList-from_text_split c.args.text.now c.split.ensures.text c.split.ensures.has_more (ap (λ (p : Bor Text). p.now) c.split.ensures.pattern))
