use Rattle.std.proofs.Common.{sym, ◌∙◌}
use Rattle.wesl_text_tokens.proofs.Steps.{char_from}
use Rattle.wesl_text_tokens.proofs.character.wide_char_at.Goals as goal

pub returns : goal.returns
returns c = char_from c.args.text.now c.args.at c.in-Some.character _ c.utf8.text c.requires.boundary (sym c.range_from.ensures.value ∙ sym c.chars.ensures.rest ∙ c.in-Some.ensures.steps.0)
