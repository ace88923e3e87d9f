-- Names with several targets in one module, and what its names ask for (WESL, "Imports" and "ConditionalTranslation"), for any
-- type of paths and any type of names.
use Rattle.std.specs.Prelude.{ℕ, nat_lt, Bool, true, false, not, ◌&&◌, ◌||◌, if◌then◌else◌, Option, Some, None, List, [], ◌∷◌, map, take}
use Rattle.std.specs.List.{filter, list_any}
use Rattle.wesl_cond_choices.specs.declared.place.Place.{Place}
use Rattle.wesl_cond_choices.specs.declared.place.Place.TheVariants.{Always}
use Rattle.wesl_cond_choices.specs.Places.{is_always, same_place, together}
pub use Rattle.wesl_link_split.specs.declared.binders.Binder.{Binder}
use Rattle.wesl_link_symbols.specs.declared.symbols.Import.{Import}
use Rattle.wesl_link_symbols.specs.declared.symbols.Reference.{Reference}

-- a module: its declarations in order, then its imports in order, and of each choice of flags the places that it keeps
pub record Scope (P N : Type 0) : Type 0 where
  pub own : P
  pub binders : List (Binder P N)
  pub alive : List (List Place)

-- tests that say whether two paths are one, and two names
pub record Equality (P N : Type 0) : Type 0 where
  pub path : P → P → Bool
  pub name : N → N → Bool

-- How an import finds what it aims at, where that is a split name of its own module: not at all, with two targets, or with one.
-- Of one target counts which binders of the name are seen, where these lead on to a split name of the module again.
pub data Finding (P N : Type 0) : Type 0 where
  nothing : Finding P N
  several : Finding P N
  one : P → N → List Bool → Finding P N

-- whether of as many binders, in their order, both say alike which are seen
abbrev pub same_sight : List Bool → List Bool → Bool
same_sight [] [] = true
same_sight (x ∷ xs) (y ∷ ys) = (if x then y else not y) && same_sight xs ys
same_sight _ _ = false

-- an import as a binder
abbrev pub binder_of : {P N : Type 0} → Import P N → Binder P N
binder_of i = record { bound = i.bound; path = i.path; item = i.item; declares = false; stands = i.place }

module _ {P N : Type 0} (same : Equality P N) where
  -- whether two binders aim at the same item of the same module
  abbrev pub same_target : Binder P N → Binder P N → Bool
  same_target b c = same.path b.path c.path && same.name b.item c.item

  -- the binders of the name, in their order
  abbrev pub of_name : N → List (Binder P N) → List (Binder P N)
  of_name n bs = filter (λ b. same.name n b.bound) bs

  -- two of these binders have different targets
  abbrev pub has_two_targets : List (Binder P N) → Bool
  has_two_targets bs = list_any (λ b. list_any (λ c. not (same_target b c)) bs) bs

  -- a name whose binders have two targets, dead ones counted
  abbrev pub is_split : List (Binder P N) → N → Bool
  is_split bs n = has_two_targets (of_name n bs)

  -- whether a name of these binders is split
  abbrev pub has_split : List (Binder P N) → Bool
  has_split bs = list_any (λ b. is_split bs b.bound) bs

  -- which imports are asked first: those that find nothing, then those that find two targets
  abbrev pub order_of : Finding P N → ℕ
  order_of nothing = 0
  order_of several = 1
  order_of (one p n sight) = 2

  -- whether two imports find alike: nothing, two targets, or the same one, by the same binders where these lead on
  abbrev pub same_finding : Finding P N → Finding P N → Bool
  same_finding nothing nothing = true
  same_finding several several = true
  same_finding (one p n x) (one q m y) = same.path p q && same.name n m && same_sight x y
  same_finding _ _ = false

  -- whether both ask the same module for the same name, from the same place
  abbrev pub same_reference : Reference P N → Reference P N → Bool
  same_reference a b = same.path a.path b.path && same.name a.name b.name && same_place a.from b.from

  module _ (s : Scope P N) where
    -- a binder of a split name is seen from where some choice of flags keeps it, and any other from everywhere
    abbrev pub place_at : N → Place → Place
    place_at n stands = if is_split s.binders n then stands else Always

    -- the same of a declaration by the name that it binds; one that binds none is seen from everywhere
    abbrev pub place_of : Option N → Place → Place
    place_of None stands = Always
    place_of (Some n) stands = place_at n stands

    -- whether what is placed at `p` is seen from the place `from`: `p` is `Always`, or some choice of flags keeps both
    abbrev pub sees : Place → Place → Bool
    sees from p = is_always p || together s.alive from p

    -- the binders of a name that are seen from a place
    abbrev pub seen : N → Place → List (Binder P N)
    seen n from = filter (λ b. sees from (place_at n b.stands)) (of_name n s.binders)

    -- of each binder of a name, in their order, whether it is seen from a place
    abbrev pub sight : N → Place → List Bool
    sight n from = map (λ b. sees from (place_at n b.stands)) (of_name n s.binders)

    -- whether the path is that of this module, and the name one of its split names
    abbrev pub is_own_split : P → N → Bool
    is_own_split p n = same.path p s.own && is_split s.binders n

    -- where a name is asked for from that is used at `here`, in the module at a path
    abbrev pub asked_at : P → N → Place → Place
    asked_at p n here = if is_own_split p n then here else Always

    -- ---- what an import of the module finds

    -- an import leads on from there to a split name of the module
    abbrev pub leads_on : Binder P N → Bool
    leads_on c = not c.declares && is_own_split c.path c.item

    -- what an import finds of its target, a split name of the module, by the binders of that which it sees from where it stands
    abbrev pub found_of : Binder P N → List (Binder P N) → Finding P N
    found_of b [] = nothing
    found_of b (c ∷ cs) =
        if has_two_targets (c ∷ cs) then several else one c.path c.item (if leads_on c then sight b.item b.stands else [])

    -- what an import finds of its target
    abbrev pub finding : Binder P N → Finding P N
    finding b = if is_own_split b.path b.item then found_of b (seen b.item b.stands) else one b.path b.item []

    -- the first of these binders, and where there are none the one that is given
    abbrev pub first_or : Binder P N → List (Binder P N) → Binder P N
    first_or b [] = b
    first_or b (c ∷ cs) = c

    -- the first import of the name with that target that finds it alike: itself at the latest
    abbrev pub asker_of : Binder P N → Binder P N
    asker_of b = first_or b (filter (λ c. not c.declares && (same_target b c && same_finding (finding b) (finding c))) (of_name b.bound s.binders))

    -- where an import asks from: of those that find alike the first asks for all, since a look-up from there is answered as
    -- from the place of each
    abbrev pub from_of : Binder P N → Place
    from_of b = if is_own_split b.path b.item then (asker_of b).stands else Always

    -- of binders those of the lowest order: where some find nothing, or two targets, these are asked
    abbrev pub lowest : List (Binder P N) → List (Binder P N)
    lowest bs = filter (λ b. not (list_any (λ c. nat_lt (order_of (finding c)) (order_of (finding b))) bs)) bs

    -- what an import asks for
    abbrev pub aim_of : Binder P N → Reference P N
    aim_of b = record { path = b.path; name = b.item; from = from_of b }

    -- ---- what a name asks for that is used at `here`

    -- the name in the module at a path
    abbrev pub under : N → Place → P → Reference P N
    under n here p = record { path = p; name = n; from = asked_at p n here }

    -- what a name without a path leads to: to the module's own declaration, else to what its imports aim at, of all that is
    -- seen
    abbrev pub aimed_of : N → Place → List (Binder P N) → List (Binder P N) → List (Reference P N)
    aimed_of n here (d ∷ ds) bs = under n here s.own ∷ []
    aimed_of n here [] bs = map aim_of (lowest bs)

    -- the same by the binders of the name that are seen from `here`
    abbrev pub aimed_plain : N → Place → List (Reference P N)
    aimed_plain n here = aimed_of n here (filter (λ b. b.declares) (seen n here)) (seen n here)

    -- it stands for two things
    abbrev pub is_unclear_plain : N → Place → Bool
    is_unclear_plain n here = has_two_targets (seen n here) || list_any (λ a. list_any (λ b. not (same_reference a b)) (aimed_plain n here)) (aimed_plain n here)

    -- what it asks for where it stands for one thing: for this once, however many imports aim at it
    abbrev pub asked_plain : N → Place → List (Reference P N)
    asked_plain n here = take 1 (aimed_plain n here)

    -- the imports of a name that are seen, with which a path may begin
    abbrev pub seen_imports : N → Place → List (Binder P N)
    seen_imports x here = filter (λ b. not b.declares) (seen x here)

    -- ---- the imports of the module's table

    -- the import with what is settled by all binders of the module: where it is seen from, where it asks from, and its order
    abbrev pub settled : Import P N → Import P N
    settled i = record i { place = place_at i.bound i.place; from = from_of (binder_of i); order = order_of (finding (binder_of i)) }
