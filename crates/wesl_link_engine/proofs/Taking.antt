-- Units are taken one at a time: what is taken, and what is left.
use Rattle.std.proofs.Common.{◌≡◌, ℕ, zero, suc, ◌<◌, ◌+◌, Some, List, [], ◌∷◌, ◌++◌, length, take, drop, get_or, Contains, sym, subst, ap, ◌∙◌, arith}
use Rattle.std.specs.Prelude.{slice_get}
use Rattle.wesl_link_symbols.specs.declared.ids.PathId.{PathId}
use Rattle.wesl_tree_base.specs.declared.ids.NameId.{NameId}
use Rattle.wesl_link_symbols.specs.Tables.{Table}
use Rattle.wesl_link_reach.specs.Linking.{paths}
use Rattle.wesl_link_reach.specs.Faults.{AreDistinct}
use Rattle.wesl_link_reach.specs.Faults.AreDistinct.{one_more as one_distinct}
use Rattle.wesl_link_symbols.proofs.Lists.{at_contains, contains_first, contains_later, contains_nil}
use Rattle.wesl_link_reach.proofs.Lists.{map_contains}
use Rattle.wesl_link_tables.specs.Numbering.{Numbering, AreRelated}
use Rattle.wesl_link_tables.proofs.Lists.{related_append, take_next}
use Rattle.wesl_link_engine.specs.Taking.{unit_at, AreKept, IsTaken}
use Rattle.wesl_link_engine.specs.declared.loaded.Held.{Held}
use Rattle.wesl_link_engine.specs.declared.loaded.LoadedModule.{LoadedModule}

pub drop_has : {X : Type 0} (xs : List X) (i : ℕ) (x : X) → slice_get xs i ≡ Some x → Contains (drop i xs) x
drop_has [] i x e = absurd (cc)
drop_has (y ∷ xs) zero x e = let f : y ≡ x = cc in subst (λ z. Contains (y ∷ xs) z) f (contains_first y xs)
drop_has (y ∷ xs) (suc i) x e = drop_has xs i x e

pub drop_less : {X : Type 0} (xs : List X) (i : ℕ) (x : X) → Contains (drop (suc i) xs) x → Contains (drop i xs) x
drop_less [] i x h = absurd (contains_nil x h)
drop_less (y ∷ xs) zero x h = contains_later y x xs h
drop_less (y ∷ xs) (suc i) x h = drop_less xs i x h

-- of tables with different paths, none after it has this one's
apart : (ts : List (Table PathId NameId)) (i : ℕ) (t u : Table PathId NameId) → AreDistinct (paths ts) → slice_get ts i ≡ Some t → Contains (drop (suc i) ts) u → u.path ≡ t.path → ⊥
apart [] i t u d e h same = absurd (cc)
apart (x ∷ ts) zero t u (one_distinct _ _ fresh d) e h same =
    let f : x ≡ t = cc in
    fresh (subst (λ p. Contains (paths ts) p) (same ∙ sym (ap (λ (y : Table PathId NameId). y.path) f)) (map_contains (λ (y : Table PathId NameId). y.path) ts u h))
apart (x ∷ ts) (suc i) t u (one_distinct _ _ fresh d) e h same = apart ts i t u d e h same

-- the units of the tables that are left stay as they were
pub left_more : (before units after : List (PathId × Held)) (ts : List (Table PathId NameId)) (i : ℕ) (t : Table PathId NameId) → AreDistinct (paths ts) → slice_get ts i ≡ Some t
    → ((u : Table PathId NameId) → Contains (drop i ts) u → unit_at units u.path ≡ unit_at before u.path) → ((p : PathId) → (p ≡ t.path → ⊥) → unit_at after p ≡ unit_at units p)
    → (u : Table PathId NameId) → Contains (drop (i + 1) ts) u → unit_at after u.path ≡ unit_at before u.path
left_more before units after ts i t d at left others u held =
    let n : i + 1 ≡ suc i = omega arith in
    let later : Contains (drop (suc i) ts) u = subst (λ (k : ℕ). Contains (drop k ts) u) n held in
    others u.path (apart ts i t u d at later) ∙ left u (drop_less ts i u later)

pub taken_more : (numbering : Numbering) (units : List (PathId × Held)) (ts : List (Table PathId NameId)) (i : ℕ) (t : Table PathId NameId) (ms new : List LoadedModule) (m : LoadedModule) → i < length ts → t ≡ get_or ts i t
    → AreRelated (IsTaken numbering units ts) (take i ts) ms → IsTaken numbering units ts t m → new ≡ ms ++ m ∷ [] → AreRelated (IsTaken numbering units ts) (take (i + 1) ts) new
taken_more numbering units ts i t ms new m below at all here e =
    rw (e, take_next ts i t below at) (related_append (IsTaken numbering units ts) (IsTaken numbering units ts) (λ x y h. h) (take i ts) (t ∷ []) ms (m ∷ []) all (here, tt))

-- the unit of a table that is left is still there
pub unit_left : (numbering : Numbering) (before units : List (PathId × Held)) (ts : List (Table PathId NameId)) (i : ℕ) (t : Table PathId NameId) → AreKept numbering before ts → slice_get ts i ≡ Some t
    → ((u : Table PathId NameId) → Contains (drop i ts) u → unit_at units u.path ≡ unit_at before u.path) → (u : Held) × (unit_at units t.path ≡ Some u)
unit_left numbering before units ts i t kept at left = let (u, e) = (kept t (at_contains ts i t at)).1 in (u, left t (drop_has ts i t at) ∙ e)
