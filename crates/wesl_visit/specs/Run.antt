-- Runs: a step for each item of a list, in the list's order.
use Rattle.std.specs.Prelude.{◌≡◌, List, [], ◌∷◌, ◌++◌}

-- From the first state to the second by one step for each item.
pub data Run {S X : Type 0} (Steps : S → X → S → Type 0) : List X → S → S → Type 0 where
  still : {a : S} → Run Steps [] a a
  next : {x : X} {xs : List X} {a b c : S} → Steps a x b → Run Steps xs b c → Run Steps (x ∷ xs) a c

-- A run over a beginning of the items, after which nothing changed that counts.
pub record Begun {S X : Type 0} (Steps : S → X → S → Type 0) (Unchanged : S → S → Type 0) (xs : List X) (a b : S) : Type 0 where
  pub done : List X
  pub left : List X
  pub whole : xs ≡ done ++ left
  pub last : S
  pub run : Run Steps done a last
  pub unchanged : Unchanged last b
