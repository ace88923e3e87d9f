-- When two sets of choices are equal.
use Rattle.std.specs.Prelude.{◌≡◌, ◌↔◌, Bool, true}
use Rattle.wesl_cond_choices.specs.Choices.{Choices}
use Rattle.wesl_cond_choices.specs.contracts.choices.ChoicesPartialEq.TheImpl as equality

-- what `==` of two sets answers, by which sets are found in a map
abbrev pub choices_eq : Choices → Choices → Bool
choices_eq = (equality.ghosts).eq

-- it tells whether both are one set
abbrev pub Equality : Type 0
Equality = (a b : Choices) → (choices_eq a b ≡ true) ↔ (a ≡ b)
