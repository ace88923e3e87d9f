use Rattle.wesl_tree_syntax.specs.Tree.{attributes, end}
use Rattle.wesl_tree_syntax.specs.View.{attributes_tree}
use Rattle.wesl_text_tokens.specs.declared.symbol.Symbol.TheVariants as is
use Rattle.wesl_text_form.specs.Productions.{an_attribute, nothing, says, sym as sign}
use Rattle.wesl_text_read_simple.proofs.Parted.{part_ends, part_run, part_says, part_sign}
use Rattle.wesl_text_read_simple.proofs.plain.one_word.Goals as goal

pub returns : goal.returns
returns c =
    part_run (says c.args.word.now (sign is.Semicolon nothing)) attributes an_attribute (attributes_tree c.attributes-attributes.result) end c.attributes-attributes.ensures
    (part_says (sign is.Semicolon nothing) c.args.word.now end c.skip_word.ensures
    (part_sign nothing is.Semicolon end c.skip_sign.ensures part_ends))
