-- What clashes, by what the code finds of binders.
use Rattle.std.specs.Prelude.{ℕ, Bool, Option, Some, None, List, [], ◌∷◌, if◌then◌else◌}
use Rattle.std.specs.List.{cons_option}
use Rattle.std.specs.Option.{option_map}
use Rattle.wesl_tree_names.specs.Path.{Text}
use Rattle.wesl_tree_syntax.specs.Unit.{name_in}
use Rattle.wesl_scope_occurrences.specs.Occurrences.{is_unqualified}
use Rattle.wesl_scope_occurrences.specs.Walk.{Found}
use Rattle.wesl_scope_clashes.specs.Clashes.{ClashOf}
use Rattle.wesl_scope_clashes.specs.Sightings.{in_module}
use Rattle.wesl_scope_clashes.specs.declared.clash.Binder.{Binder}
use Rattle.wesl_scope_clashes.specs.declared.clash.Reading.{Reading}
use Rattle.wesl_scope_clashes.specs.declared.clash.Reading.TheVariants.{Captured, Unbound, Duplicate}

-- of a meaning, the first binder that is there at a place and has no excepted number
abbrev pub Look : Type 0
Look = ℕ → ℕ → Option ℕ → Option Binder

-- how a reference is misread, by the first binder that it picks, the first of another number, and whether one has its own
abbrev pub read_by : Option Binder → Option Binder → Bool → Option Reading
read_by None other is_bound = if is_bound then Some Unbound else None
read_by (Some b) other is_bound = option_map Captured other

-- how a reference of the meaning k and the number m at place p is misread
abbrev pub read_at : Look → (ℕ → Bool) → ℕ → ℕ → ℕ → Option Reading
read_at visible is_bound k p m = read_by (visible k p None) (visible k p (Some m)) (is_bound m)

-- where `visible` looks among all binders, and `earlier` among those of the module's block
module _ (visible earlier : Look) (is_bound : ℕ → Bool) where
  -- how an identifier of the meaning k is misread
  abbrev pub reading_by : ℕ → Found → Option Reading
  reading_by k o =
      if is_unqualified o.role then read_at visible is_bound k o.place o.name
      else (if in_module o then option_map Duplicate (earlier k o.place (Some o.name)) else None)

  -- what is told of an identifier of the meaning k, if it is misread
  abbrev pub clash_by : List Text → ℕ → Found → Option ClashOf
  clash_by names k o = option_map (λ r. record { place = o.place; name = name_in names o.name; number = o.name; reading = r }) (reading_by k o)

  -- of all identifiers, each with its meaning
  abbrev pub clashes_by : List Text → List ℕ → List Found → List ClashOf
  clashes_by names (k ∷ ks) (o ∷ os) = cons_option (clash_by names k o) (clashes_by names ks os)
  clashes_by names _ _ = []
