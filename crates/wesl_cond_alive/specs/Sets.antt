-- The sets of choices that a walk numbers: that of all choices, the empty one, and those of the branches of chains, in order.
use Rattle.std.specs.Prelude.{◌≡◌, ℕ, suc, ◌^◌, ◌<◌, Bool, true, false, not, ◌&&◌, cond, Option, Some, None, List, [], ◌∷◌, length, map}
use Rattle.wesl_cond_chains.specs.Formulas.{Form, value_under}
use Rattle.wesl_cond_chains.specs.Lists.{elements}
use Rattle.wesl_cond_chains.specs.Picked.{Choice}
use Rattle.wesl_cond_choices.specs.Alive.{AreOver, has_at}
use Rattle.wesl_cond_choices.specs.Choices as choices
use Rattle.wesl_cond_sets.specs.SetNumbers.{HasSets}
use Rattle.wesl_cond_sets.specs.declared.sets.SetNumbers.{SetNumbers}
use Rattle.wesl_tree_syntax.specs.Tree.{before, end}
use Rattle.wesl_tree_syntax.specs.Unit.{UnitOf}
use Rattle.wesl_cond_alive.specs.Sound.{outline_of}
use Rattle.wesl_cond_alive.specs.Walk.{Branch, Here, State, all_choices, in_set, no_choices, places_in, plain, walk}

module _ {I : Type 0} where
  -- each branch is held in a set before its own, from number `next` on
  abbrev pub AreNested : ℕ → List (Branch I) → Type 0
  AreNested next [] = Unit {0}
  AreNested next (b ∷ bs) = (b.holder < next) × AreNested (suc next) bs

  module _ (choice : Choice I) where
    -- an @else counts as true
    abbrev pub value : Option (Form I) → Bool
    value None = true
    value (Some f) = value_under choice f

    -- Whether the choice is in the sets of branches, from number `next` on, where `has n` says so of set n: what holds the
    -- list has it, no branch before in its chain is true, and its own formula is. `free` where no branch before in the first
    -- one's chain is true.
    abbrev pub AreSet : (ℕ → Bool) → ℕ → Bool → List (Branch I) → Type 0
    AreSet has next free [] = Unit {0}
    AreSet has next free (b ∷ bs) =
        (has next ≡ (has b.holder && (cond b.begins true free && value b.formula))) × AreSet has (suc next) (cond b.begins true free && not (value b.formula)) bs

-- a set has the choices that three others all have
pub record IsNarrowed (holder left own set : choices.Choices) : Type 0 where
  pub over : set.flags ≡ holder.flags
  pub is : (k : ℕ) → choices.has set k ≡ (choices.has holder k && (choices.has left k && choices.has own k))

-- whether a choice is in the set of a number
abbrev pub has_choice : List choices.Choices → ℕ → ℕ → Bool
has_choice sets k n = has_at sets k (Some n)

-- sets of choices of so many flags are those of branches
pub record AreSetsOf (flags : ℕ) (choice : ℕ → Choice ℕ) (sets : List choices.Choices) (branches : List (Branch ℕ)) : Type 0 where
  pub over : AreOver flags sets
  pub all : (k : ℕ) → k < 2 ^ flags → has_choice sets k all_choices ≡ true
  pub none : (k : ℕ) → has_choice sets k no_choices ≡ false
  pub told : (k : ℕ) → k < 2 ^ flags → AreSet (choice k) (has_choice sets k) 2 true branches

-- the sets of choices of so many flags that branches have are kept
abbrev pub HasSetsOf : ℕ → (ℕ → Choice ℕ) → SetNumbers → List (Branch ℕ) → Type 0
HasSetsOf flags choice s branches = (sets : List choices.Choices) × HasSets s sets × AreSetsOf flags choice sets branches

-- that of all choices and the empty one are kept, whatever is chosen
abbrev pub HasFirst : ℕ → SetNumbers → Type 0
HasFirst flags s = (sets : List choices.Choices) × HasSets s sets × (length sets ≡ 2) × ((choice : ℕ → Choice ℕ) → AreSetsOf flags choice sets [])

-- what a walk over a module has found before its declarations
abbrev pub before_declarations : {I : Type 0} → State I → UnitOf I → State I
before_declarations s u = walk (plain (in_set all_choices)) s (before u.imports (before u.directives end))

-- where the imports of a unit stand, after what has been found before it
abbrev pub import_places : State ℕ → UnitOf ℕ → List Here
import_places s u = places_in all_choices (map outline_of (elements false u.imports.children)) s

-- where the global declarations of a unit stand, after that and what is found in its imports and directives
abbrev pub declaration_places : State ℕ → UnitOf ℕ → List Here
declaration_places s u = places_in all_choices (map outline_of (elements false u.declarations.children)) (before_declarations s u)
