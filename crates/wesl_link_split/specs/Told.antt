-- What an import finds of its target, as the code tells it: by where sight changes along the binders of that, in place of which
-- of them are seen.
use Rattle.std.specs.Prelude.{◌==◌, ℕ, Bool, true, false, ◌&&◌, if◌then◌else◌, nat_eq, Option, Some, None, List, [], ◌∷◌}
use Rattle.std.specs.Cmp.Lexicographic.{pointwise}
use Rattle.std.specs.Global.{Vec}
use Rattle.std.specs.Option.{option_map}
use Rattle.wesl_cond_choices.specs.declared.place.Place.{Place}
use Rattle.wesl_cond_covers.specs.Sight.{changes_from}
use Rattle.wesl_link_symbols.specs.declared.ids.PathId.{PathId}
use Rattle.wesl_tree_base.specs.declared.ids.NameId.{NameId}
use Rattle.wesl_link_split.specs.Grouped.{ids, places_of}
use Rattle.wesl_link_split.specs.Split as split
use Rattle.wesl_link_split.specs.Split.{Binder}
use Rattle.wesl_link_split.specs.declared.askers.Finding.{Finding}
use Rattle.wesl_link_split.specs.declared.askers.Finding.TheVariants as findings

-- nothing, two targets, or one; of this where sight changes, where it leads on to a name of the module with several targets
pub data Told : Type 0 where
  nothing : Told
  several : Told
  one : PathId → NameId → Option (List ℕ) → Told

-- what the code holds
abbrev pub told_view : Finding → Told
told_view findings.Nothing = nothing
told_view findings.Several = several
told_view (findings.One p n changes) = one p n (option_map (λ (v : Vec ℕ). v.items) changes)

-- which imports are asked first, as `order_of` has it
abbrev pub order_told : Told → ℕ
order_told nothing = 0
order_told several = 1
order_told (one p n changes) = 2

-- whether sight changes at the same indices, or counts for neither
abbrev pub same_changes : Option (List ℕ) → Option (List ℕ) → Bool
same_changes None None = true
same_changes (Some xs) (Some ys) = pointwise nat_eq xs ys
same_changes _ _ = false

-- whether both are told alike
abbrev pub same_told : Told → Told → Bool
same_told nothing nothing = true
same_told several several = true
same_told (one p n x) (one q m y) = p.0 == q.0 && n.0 == m.0 && same_changes x y
same_told _ _ = false

module _ (s : split.Scope PathId NameId) where
  -- where along the binders of a name sight changes for a place
  abbrev pub changes_in : NameId → Place → List ℕ
  changes_in n from = changes_from s.alive from false 0 (places_of (split.of_name ids n s.binders))

  -- what an import finds by the binders of its target that it sees
  abbrev pub told_of : Binder PathId NameId → List (Binder PathId NameId) → Told
  told_of b [] = nothing
  told_of b (c ∷ cs) =
      if split.has_two_targets ids (c ∷ cs) then several
      else one c.path c.item (if split.leads_on ids s c then Some (changes_in b.item b.stands) else None)

  -- what an import finds of its target
  abbrev pub told : Binder PathId NameId → Told
  told b = if split.is_own_split ids s b.path b.item then told_of b (split.seen ids s b.item b.stands) else one b.path b.item None
