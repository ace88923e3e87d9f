-- What a bundle's texts hand out, as they are held, and what they refuse.
use Rattle.std.specs.Prelude.{option_copied}
use Rattle.wesl_tree_names.specs.Path.{Path, Text}
use Rattle.wesl_tree_names.specs.declared.errors.ResolveError.{ResolveError}
use Rattle.wesl_tree_syntax.specs.Unit.{UnitOf}
use Rattle.wesl_program.specs.Hands.{found_in}
use Rattle.wesl_text_program.specs.Texts.{hands_in, refuses_in, said_in, unsaid_in}
use Rattle.wesl_text_program.specs.declared.sources.TextSources.{TextSources}

-- the unit that the text at a path says
abbrev pub said_of : TextSources → Path → UnitOf Text → Type 0
said_of s = said_in (found_in s.sources.now)

-- how a path is refused that has no text which says a unit
abbrev pub unsaid_of : TextSources → Path → ResolveError → Type 0
unsaid_of s = unsaid_in (found_in s.sources.now)

-- the unit, as the features leave it
abbrev pub hands_of : TextSources → Path → UnitOf Text → Type 0
hands_of s = hands_in (found_in s.sources.now) (option_copied s.features)

-- how a path is refused that has none, or a fault of a condition in it
abbrev pub refuses_of : TextSources → Path → ResolveError → Type 0
refuses_of s = refuses_in (found_in s.sources.now) (option_copied s.features)
