-- The flags of a module, and choices of them.
use Rattle.std.specs.Prelude.{◌≡◌, ℕ, Bool, ◌<◌, ◌^◌, ◌/◌, ◌%◌, nat_eq, not, false, if◌then◌else◌, List, [], ◌∷◌, ◌++◌, length, bytes_eq}
use Rattle.std.specs.List.{filter, list_any}
use Rattle.wesl_cond_choices.specs.Choices.{Choices, below, has}
use Rattle.wesl_tree_names.specs.Path.{Text}
use Rattle.wesl_cond_chains.specs.Flags.{flags_of}
use Rattle.wesl_cond_chains.specs.Picked.{Choice}
use Rattle.wesl_tree_syntax.specs.Unit.{UnitOf, name_in}

-- each text once, where it stands first
abbrev pub once : List Text → List Text
once [] = []
once (x ∷ xs) = x ∷ filter (λ y. not (bytes_eq x y)) (once xs)

-- whether a text is one of these
abbrev pub among : Text → List Text → Bool
among y xs = list_any (λ x. bytes_eq x y) xs

-- a text more, unless it is one of them
abbrev pub with_text : Text → List Text → List Text
with_text y xs = if among y xs then xs else xs ++ y ∷ []

-- the different flags of a module, in document order
abbrev pub flags : UnitOf Text → List Text
flags u = once (flags_of u)

-- the choice of a number: bit i is the value of the i-th flag
abbrev pub choice_of : List Text → ℕ → Choice Text
choice_of [] k = λ flag. false
choice_of (f ∷ fs) k = λ flag. if bytes_eq f flag then nat_eq (k % 2) 1 else choice_of fs (k / 2) flag

-- the numbers of all choices of a module's flags
abbrev pub choice_numbers : UnitOf Text → List ℕ
choice_numbers u = below (2 ^ length (flags u))

-- the same choice of flags that are numbers of a table, each by its name there
abbrev pub choice_by : List Text → List Text → ℕ → Choice ℕ
choice_by names fs k = λ number. choice_of fs k (name_in names number)

-- a set has those choices of n flags of which this is true
abbrev pub IsSetOf : ℕ → (ℕ → Bool) → Choices → Type 0
IsSetOf n test c = (k : ℕ) → k < 2 ^ n → has c k ≡ test k
