-- What a walk has collected after some events.
use Rattle.std.specs.Prelude.{ℕ, List, [], ◌∷◌, ◌++◌, length}
use Rattle.wesl_scope_occurrences.specs.Occurrences.{Standing, local}
use Rattle.wesl_scope_occurrences.specs.Walk.{Found, ended_at}
use Rattle.wesl_scope_occurrences.specs.Events.{Event, begins, meets, opens, closes, ends}

-- what is collected after some events
pub record Collected : Type 0 where
  pub found : List Found
  -- the places of local names whose declarations have not ended, the last one first
  pub naming : List ℕ
  -- of each global declaration how many identifiers come before it
  pub starts : List ℕ

-- what is collected before the first event
abbrev pub nothing : Collected
nothing = record { found = []; naming = []; starts = [] }

-- the places of the names whose declarations have not ended, with place p before them if what stands so is a local name
abbrev pub naming_with : Standing → ℕ → List ℕ → List ℕ
naming_with (local e) p ps = p ∷ ps
naming_with _ p ps = ps

-- the declaration of the last of these names has ended
abbrev pub last_ended : List ℕ → Collected → Collected
last_ended [] c = c
last_ended (p ∷ ps) c = record c { found = ended_at (length c.found) p c.found; naming = ps }

-- what is collected after one event: an identifier goes last, and its place is the number of those before it
abbrev pub collecting : Collected → Event → Collected
collecting c begins = record c { starts = c.starts ++ length c.found ∷ [] }
collecting c (meets here r x) = record c {
  found = c.found ++ record { role = r; name = x; place = length c.found; block = here.block; declaration = here.declaration; excused = here.excused } ∷ [];
  naming = naming_with r (length c.found) c.naming;
}
collecting c opens = c
collecting c closes = c
collecting c (ends here x) = last_ended c.naming c

-- what is collected after these events, one after the other
abbrev pub collected : Collected → List Event → Collected
collected c [] = c
collected c (e ∷ es) = collected (collecting c e) es
