-- Rows.
use Rattle.std.specs.Prelude.{◌≡◌, true, false, [], ◌∷◌}
use Rattle.wesl_cond_choices.specs.declared.place.Place.TheVariants.{Always, Import, Declaration, Name}
use Rattle.wesl_cond_choices.specs.Places.{together}
use Rattle.wesl_cond_choices.specs.Choices.{Choices, has}
use Rattle.wesl_cond_choices.specs.Alive.{PlaceSets, kept_lists}

-- all choices of the flags X and Y; those with X; those with Y and without X
abbrev pub all : Choices
all = record { flags = 2; words = 15 ∷ [] }

abbrev pub with_x : Choices
with_x = record { flags = 2; words = 10 ∷ [] }

abbrev pub with_y_alone : Choices
with_y_alone = record { flags = 2; words = 4 ∷ [] }

-- @if(X) import ..; @elif(Y) import ..; @if(Y && !X) a declaration; a use that always stands, and one whose number no set has
abbrev pub places : PlaceSets
places = record { flags = 2; sets = all ∷ with_x ∷ with_y_alone ∷ []; imports = 1 ∷ 2 ∷ []; declarations = 2 ∷ []; names = 0 ∷ 7 ∷ [] }

-- which choices the sets have, what each choice keeps of these places, and which of them some choice keeps together
pub record PlaceRows : Type 0 where
  pub x : has with_x 3 ≡ true
  pub not_x : has with_x 2 ≡ false
  pub past : has all 4 ≡ false
  pub lists : kept_lists places ≡
      (Name 0 ∷ []) ∷ (Import 0 ∷ Name 0 ∷ []) ∷ (Import 1 ∷ Declaration 0 ∷ Name 0 ∷ []) ∷ (Import 0 ∷ Name 0 ∷ []) ∷ []
  pub apart : together (kept_lists places) (Import 0) (Import 1) ≡ false
  pub under : together (kept_lists places) (Import 1) (Declaration 0) ≡ true
  pub itself : together (kept_lists places) (Import 0) (Import 0) ≡ true
  pub from_outside : together (kept_lists places) Always (Import 1) ≡ true
  pub dead : together (kept_lists places) Always (Name 1) ≡ false
  pub not_there : together (kept_lists places) (Name 0) (Import 2) ≡ false
