-- Which places of a module each choice keeps, where each place has the number of the set of the choices that keep it.
use Rattle.std.specs.Prelude.{◌≡◌, ℕ, suc, ◌^◌, ◌<◌, Bool, true, false, if◌then◌else◌, List, [], ◌∷◌, ◌++◌, map, slice_get, Option, Some, None, Contains}
use Rattle.wesl_cond_choices.specs.declared.place.Place.{Place}
use Rattle.wesl_cond_choices.specs.declared.place.Place.TheVariants.{Always, Import, Declaration, Name}
use Rattle.wesl_cond_choices.specs.Choices.{Choices, has, below}
use Rattle.wesl_cond_choices.specs.Places.{keeps}

-- sets of choices of so many flags, and of each import statement, global declaration and identifier the number of its set
pub record PlaceSets : Type 0 where
  pub flags : ℕ
  pub sets : List Choices
  pub imports : List ℕ
  pub declarations : List ℕ
  pub names : List ℕ

-- these sets and numbers, as one record
abbrev pub place_sets : ℕ → List Choices → List ℕ → List ℕ → List ℕ → PlaceSets
place_sets flags sets imports declarations names =
    record { flags = flags; sets = sets; imports = imports; declarations = declarations; names = names }

-- all sets are over these flags
abbrev pub AreOver : ℕ → List Choices → Type 0
AreOver flags sets = (c : Choices) → Contains sets c → c.flags ≡ flags

-- whether there is a set, and it has the choice
abbrev pub set_has : ℕ → Option Choices → Bool
set_has k None = false
set_has k (Some c) = has c k

-- whether there is a number, and a set with it that has the choice
abbrev pub has_at : List Choices → ℕ → Option ℕ → Bool
has_at sets k None = false
has_at sets k (Some n) = set_has k (slice_get sets n)

-- of the places counted from j on, whose sets have these numbers, those that the choice keeps
abbrev pub kept_from : List Choices → ℕ → (ℕ → Place) → ℕ → List ℕ → List Place
kept_from sets k place j [] = []
kept_from sets k place j (n ∷ ns) =
    if has_at sets k (Some n) then place j ∷ kept_from sets k place (suc j) ns else kept_from sets k place (suc j) ns

-- the places that a choice keeps: imports, then declarations, then names
abbrev pub kept_by : PlaceSets → ℕ → List Place
kept_by s k = kept_from s.sets k Import 0 s.imports ++ kept_from s.sets k Declaration 0 s.declarations ++ kept_from s.sets k Name 0 s.names

-- of each choice the places that it keeps
abbrev pub kept_lists : PlaceSets → List (List Place)
kept_lists s = map (kept_by s) (below (2 ^ s.flags))

-- the number of a place's set; the module itself, at `Always`, has none
abbrev pub number_of : PlaceSets → Place → Option ℕ
number_of s Always = None
number_of s (Import j) = slice_get s.imports j
number_of s (Declaration k) = slice_get s.declarations k
number_of s (Name i) = slice_get s.names i

-- some choice is in the sets with both numbers
abbrev pub ShareChoice : PlaceSets → Option ℕ → Option ℕ → Type 0
ShareChoice s a b = (k : ℕ) × (k < 2 ^ s.flags) × (has_at s.sets k a ≡ true) × (has_at s.sets k b ≡ true)

-- where nothing is said of places, no choice is
abbrev pub lists_of : Option PlaceSets → List (List Place)
lists_of None = []
lists_of (Some s) = kept_lists s

-- the choices that keep a place are those of the set; where there is none, no choice does
abbrev pub AreChoicesOf : List (List Place) → Place → Option Choices → Type 0
AreChoicesOf alive place set = (k : ℕ) (kept : List Place) → slice_get alive k ≡ Some kept → keeps kept place ≡ set_has k set
