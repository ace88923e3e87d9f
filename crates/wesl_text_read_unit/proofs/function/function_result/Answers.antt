use Rattle.std.proofs.Common.{◌≡◌, [], ◌∷◌, true, rules}
use Rattle.wesl_tree_syntax.specs.Tree.{attributes, before, branch, end, present}
use Rattle.wesl_tree_syntax.specs.View.{attributes_tree, type_view}
use Rattle.wesl_text_tokens.specs.declared.symbol.Symbol.TheVariants as is
use Rattle.wesl_text_form.specs.Productions.{a_type, an_attribute, inside, nothing, own}
use Rattle.wesl_text_reading.specs.FirstTokens.{begins_sign}
use Rattle.wesl_text_read.specs.Leads.{ahead}
use Rattle.wesl_text_read_imports.proofs.Parts.{reads_end, reads_own, reads_run}
use Rattle.wesl_text_read_unit.proofs.Functions.{reads_inside, result_read}
use Rattle.wesl_text_read_unit.proofs.function.function_result.Goals as goal

pub returns : goal.returns
returns c =
    let arrow : begins_sign is.Arrow (ahead c.args.reader.now) ≡ true = search rules in
    let ty = type_view c.type_expression-ty.result in
    let row = inside present (own a_type nothing) nothing in
    result_read (attributes_tree c.attributes-attributes.result) (branch present (ty ∷ [])) arrow c.step.ensures.skips
    (reads_run attributes an_attribute row (attributes_tree c.attributes-attributes.result) (before (branch present (ty ∷ [])) end) c.attributes-attributes.ensures
    (reads_inside present (own a_type nothing) nothing (before ty end) end (reads_own a_type nothing ty end c.type_expression-ty.ensures reads_end) reads_end))
