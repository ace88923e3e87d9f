-- Places that a choice of flags keeps.
use Rattle.std.specs.Prelude.{nat_eq, Bool, true, false, ◌&&◌, ◌||◌, List}
use Rattle.std.specs.List.{list_any}
use Rattle.wesl_cond_choices.specs.declared.place.Place.{Place}
use Rattle.wesl_cond_choices.specs.declared.place.Place.TheVariants.{Always, Import, Declaration, Name}

-- whether it is the module itself, which every choice keeps
abbrev pub is_always : Place → Bool
is_always Always = true
is_always _ = false

-- whether both are one place: the module itself, or of one kind and with one number
abbrev pub same_place : Place → Place → Bool
same_place Always Always = true
same_place (Import j) (Import k) = nat_eq j k
same_place (Declaration j) (Declaration k) = nat_eq j k
same_place (Name j) (Name k) = nat_eq j k
same_place _ _ = false

-- whether a choice that keeps these places keeps this one; the module itself, at `Always`, is always kept
abbrev pub keeps : List Place → Place → Bool
keeps kept place = is_always place || list_any (λ p. same_place p place) kept

-- whether some choice keeps both
abbrev pub together : List (List Place) → Place → Place → Bool
together alive a b = list_any (λ kept. keeps kept a && keeps kept b) alive
