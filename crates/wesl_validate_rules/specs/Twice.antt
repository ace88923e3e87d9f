-- Texts that stand twice in a list.
use Rattle.std.specs.Prelude.{◌≡◌, ◌≢◌, ◌<◌, ℕ, List, [], length, get_or}
use Rattle.wesl_tree_names.specs.Path.{Text}

-- no two are one
abbrev pub AreApart : List Text → Type 0
AreApart xs = (i j : ℕ) → i < j → j < length xs → get_or xs i [] ≢ get_or xs j []

-- the text n stands at two places of the list
pub record StandsTwice (xs : List Text) (n : Text) : Type 0 where
  pub first : ℕ
  pub second : ℕ
  pub before : first < second
  pub inside : second < length xs
  pub named : get_or xs first [] ≡ n
  pub again : get_or xs second [] ≡ n
