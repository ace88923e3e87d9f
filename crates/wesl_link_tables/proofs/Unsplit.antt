-- The imports of a module in which each name has one target.
use Rattle.std.proofs.Common.{◌≡◌, Bool, true, false, List, [], ◌∷◌, refl, ap, ◌∙◌}
use Rattle.std.specs.Prelude.{◌&&◌, ◌==◌, if◌then◌else◌}
use Rattle.std.specs.List.{list_any}
use Rattle.wesl_cond_choices.specs.declared.place.Place.TheVariants.{Always}
use Rattle.wesl_tree_base.specs.declared.ids.NameId.{NameId}
use Rattle.wesl_link_symbols.specs.declared.ids.PathId.{PathId}
use Rattle.wesl_link_symbols.specs.declared.symbols.Import.{Import}
use Rattle.wesl_link_split.specs.Grouped.{ids, same_id}
use Rattle.wesl_link_split.specs.Split as split
use Rattle.wesl_link_split.specs.Split.{Scope}
use Rattle.wesl_link_split.specs.declared.binders.Binder.{Binder}
use Rattle.wesl_link_split.proofs.Grouping.{id_is}
use mathlib.Core.Bool.{and-false}
use Rattle.wesl_tree_base.proofs.Truth.{or_right, or_left}

-- there is a binder of the name, or there is none
named : (n : NameId) (bs : List (Binder PathId NameId)) (p : NameId → Bool) → list_any (λ b. p b.bound) bs ≡ false → (split.of_name ids n bs ≡ [] → p n ≡ false) → p n ≡ false
named n [] p none empty = empty refl
named n (b ∷ bs) p none empty = by (same_id n b.bound) refl (λ f. named n bs p (or_right (p b.bound) (list_any (λ c. p c.bound) bs) none) f)
  where
    by : (a : Bool) → same_id n b.bound ≡ a → ((split.of_name ids n bs ≡ [] → p n ≡ false) → p n ≡ false) → p n ≡ false
    by true e rest = ap p (id_is n b.bound e) ∙ or_left (p b.bound) (list_any (λ c. p c.bound) bs) none
    by false e rest = rest (λ f. empty (ap (λ a. if a then b ∷ split.of_name ids n bs else split.of_name ids n bs) e ∙ f))

module _ (s : Scope PathId NameId) (h : split.has_split ids s.binders ≡ false) where
  unsplit : (n : NameId) → split.is_split ids s.binders n ≡ false
  unsplit n = named n s.binders (split.is_split ids s.binders) h (λ e. ap (split.has_two_targets ids) e)

  own_unsplit : (p : PathId) (n : NameId) → split.is_own_split ids s p n ≡ false
  own_unsplit p n = ap (λ b. (p.0 == s.own.0) && b) (unsplit n) ∙ and-false (p.0 == s.own.0)

  -- it is seen from everywhere, and asks from outside
  pub settled_plain : (i : Import PathId NameId) → record { bound = i.bound; path = i.path; item = i.item; published = i.published; place = Always; from = Always; order = 2 } ≡ split.settled ids s i
  settled_plain i = by (split.is_split ids s.binders i.bound) (split.is_own_split ids s i.path i.item) (unsplit i.bound) (own_unsplit i.path i.item)
    where
      by : (a b : Bool) → a ≡ false → b ≡ false
          → record { bound = i.bound; path = i.path; item = i.item; published = i.published; place = Always; from = Always; order = 2 }
          ≡ record i {
            place = if a then i.place else Always;
            from = if b then (split.asker_of ids s (split.binder_of i)).stands else Always;
            order = split.order_of ids (if b then split.found_of ids s (split.binder_of i) (split.seen ids s i.item i.place) else split.one i.path i.item []);
          }
      by false false e f = refl
      by true b e f = absurd (let z : ⊥ = cc in z)
      by false true e f = absurd (let z : ⊥ = cc in z)
