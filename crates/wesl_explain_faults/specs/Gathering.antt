-- Faults with all that ask for each.
use Rattle.std.specs.Prelude.{◌≡◌, ◌↔◌, length, List, Contains, map}
use Rattle.wesl_link_symbols.specs.declared.ids.PathId.{PathId}
use Rattle.wesl_tree_base.specs.declared.ids.NameId.{NameId}
use Rattle.wesl_link_symbols.specs.Index.{Chains}
use Rattle.wesl_link_reach.specs.Faults.{AreDistinct}
use Rattle.wesl_link_flaws.specs.declared.asker.Asker.{Asker}
use Rattle.wesl_link_faults.specs.declared.open.Finding.{Finding}
use Rattle.wesl_link_faults.specs.Opening.{flaw_of}
use Rattle.wesl_explain_faults.specs.declared.faults.FaultAt.{FaultAt}
use Rattle.wesl_explain_faults.specs.declared.faults.Ties.{Ties}
use Rattle.wesl_explain_faults.specs.declared.faults.Wrong.{Wrong}

-- what is wrong in a finding, and where
abbrev pub wrong_in : Finding → Wrong
wrong_in f = record { flaw = flaw_of f.fault; at = f.at }

-- what is wrong, and where
abbrev pub wrong_at : FaultAt → Wrong
wrong_at g = g.wrong

-- that is wrong in one of the findings
abbrev pub IsFoundIn : List Finding → Wrong → Type 0
IsFoundIn told w = (f : Finding) × Contains told f × (wrong_in f ≡ w)

-- all that is wrong in the findings, each once
pub record AreWrongs (told : List Finding) (ws : List Wrong) : Type 0 where
  pub once : AreDistinct ws
  pub found : (w : Wrong) → Contains ws w ↔ IsFoundIn told w

-- just those ask in the findings of the fault
pub record AreAskers (told : List Finding) (w : Wrong) (askers : List (Asker PathId NameId)) : Type 0 where
  pub all : (f : Finding) → Contains told f → wrong_in f ≡ w → Contains askers f.asker
  pub only : (a : Asker PathId NameId) → Contains askers a → (f : Finding) × Contains told f × (wrong_in f ≡ w) × (f.asker ≡ a)

-- each of the faults has just those that ask for it
abbrev pub HaveAskers : List Finding → List FaultAt → Type 0
HaveAskers told gs = (g : FaultAt) → Contains gs g → AreAskers told g.wrong g.askers.items

-- the faults of the findings, each once, with just those that ask for it
pub record AreGathered (told : List Finding) (gs : List FaultAt) : Type 0 where
  pub wrongs : AreWrongs told (map wrong_at gs)
  pub askers : HaveAskers told gs

-- ---- on the way

-- of each fault its last finding is known, and of each finding the one of its fault before it
abbrev pub AreTies : Ties → Type 0
AreTies t = Chains wrong_in t.told.now (length t.told.now) t.latest.entries t.earlier.items
