-- Tokens that are looked at and not read yet.
use Rattle.std.specs.Prelude.{List, Some, map}
use Rattle.wesl_text_tokens.specs.declared.token.PlacedToken.{PlacedToken}
use Rattle.wesl_text_tokens.specs.Tokens.{Token}
use Rattle.wesl_text_tokens.specs.Views.{token_of}
use Rattle.wesl_text_reading.specs.Leaves.{after}
use Rattle.wesl_text_reading.specs.Reading.{attributes_first}
use Rattle.wesl_text_read.specs.declared.reader.Reader.{Reader}
use Rattle.wesl_text_read.specs.Leads.{Leads, ahead}
use Rattle.wesl_text_read.specs.Levels.{inner}

-- what placed tokens say
abbrev pub tokens_of : List PlacedToken → List Token
tokens_of ps = map (λ p. token_of p.token) ps

-- what stands behind the attributes that come first is told, and all is still to be read; unless they are no attributes
abbrev pub LooksBehind : List Token → Reader → Reader → Type 0
LooksBehind behind old new =
    Leads {A = List Token × List Token}
    (λ _. after (attributes_first (inner old.levels) (ahead old)) (λ f us. Some (us, ahead old)))
    (λ _. Some (behind, ahead new)) old new
