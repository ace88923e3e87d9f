-- What a collector shows of what is collected: each identifier without its path, and where those stand that have one.
use Rattle.std.specs.Prelude.{◌≡◌, ℕ, refl, false, List, [], ◌∷◌, ◌++◌, length, map}
use Rattle.std.proofs.Common.{sym, subst}
use Rattle.wesl_scope_occurrences.specs.Occurrences.{Standing, local}
use Rattle.wesl_scope_occurrences.specs.Walk.{ended_at}
use Rattle.wesl_scope_occurrences.specs.Events.{Event}
use Rattle.wesl_scope_occurrences.specs.Bare.{bare, path_place, path_places}
use Rattle.wesl_scope_occurrences.specs.Collected.{Collected, collecting, collected}
use Rattle.wesl_scope_occurrences.specs.Views.{occurrence_view}
use Rattle.wesl_scope_occurrences.specs.declared.collector.Collector.{Collector}

-- the place, if what stands so is a local name
abbrev pub name_place : ℕ → Standing → List ℕ
name_place p (local e) = p ∷ []
name_place p _ = []

-- these places, the last one first
abbrev pub backwards : List ℕ → List ℕ
backwards [] = []
backwards (p ∷ ps) = backwards ps ++ p ∷ []

-- the collector has what is collected: the identifiers without their paths, and the places of those that have one
pub record Shows (k : Collector) (c : Collected) : Type 0 where
  pub found : map occurrence_view k.found.items ≡ map bare c.found
  pub qualified : k.qualified.items ≡ path_places 0 c.found
  pub naming : k.naming.items ≡ backwards c.naming
  pub starts : k.starts.items ≡ c.starts

-- what the events make of what was collected, unless memory was wanting
pub record Collects (es : List Event) (old new : Collector) : Type 0 where
  pub noted : new.is_refused ≡ false → old.is_refused ≡ false
  pub shown : new.is_refused ≡ false → (c : Collected) → Shows old c → Shows new (collected c es)

-- the place was noted, if what stands so has a path, and nothing else changed
pub record NotesPlace (old new : Collector) (p : ℕ) (r : Standing) : Type 0 where
  pub noted : new.is_refused ≡ false → old.is_refused ≡ false
  pub qualified : new.is_refused ≡ false → new.qualified.items ≡ old.qualified.items ++ path_place p r
  pub found : new.found ≡ old.found
  pub naming : new.naming ≡ old.naming
  pub starts : new.starts ≡ old.starts

-- the same of a local name
pub record NotesName (old new : Collector) (p : ℕ) (r : Standing) : Type 0 where
  pub noted : new.is_refused ≡ false → old.is_refused ≡ false
  pub naming : new.is_refused ≡ false → new.naming.items ≡ old.naming.items ++ name_place p r
  pub found : new.found ≡ old.found
  pub qualified : new.qualified ≡ old.qualified
  pub starts : new.starts ≡ old.starts

-- the declaration of the name at this place has ended, and nothing else changed
pub record Ends (old new : Collector) (p : ℕ) : Type 0 where
  pub found : map occurrence_view new.found.items ≡ ended_at (length old.found.items) p (map occurrence_view old.found.items)
  pub is_refused : new.is_refused ≡ old.is_refused
  pub qualified : new.qualified ≡ old.qualified
  pub naming : new.naming ≡ old.naming
  pub starts : new.starts ≡ old.starts

-- ---- laws of what a collector shows

collected_both : (c : Collected) (es fs : List Event) → collected c (es ++ fs) ≡ collected (collected c es) fs
collected_both c [] fs = refl
collected_both c (e ∷ es) fs = collected_both (collecting c e) es fs

-- without events nothing changes
pub collects_none : (k : Collector) → Collects [] k k
collects_none k = record { noted = λ h. h; shown = λ h c s. s }

-- where some events make b of a, and others d of b, all of them, one after the other, make d of a
pub collects_more : (es fs : List Event) (a b d : Collector) → Collects es a b → Collects fs b d → Collects (es ++ fs) a d
collects_more es fs a b d x y = record {
  noted = λ h. x.noted (y.noted h);
  shown = λ h c s. subst (Shows d) (sym (collected_both c es fs)) (y.shown h (collected c es) (x.shown (y.noted h) c s));
}
