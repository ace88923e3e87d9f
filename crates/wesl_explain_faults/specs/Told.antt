-- What is told of the faults of a link.
use Rattle.std.specs.Prelude.{◌≡◌, List, map}
use Rattle.wesl_link_symbols.specs.declared.ids.PathId.{PathId}
use Rattle.wesl_tree_base.specs.declared.ids.NameId.{NameId}
use Rattle.wesl_link_flaws.specs.declared.asker.Asker.{Asker}
use Rattle.wesl_link_faults.specs.declared.open.Finding.{Finding}
use Rattle.wesl_explain_faults.specs.Gathering.{AreGathered}
use Rattle.wesl_explain_faults.specs.declared.faults.FaultAt.{FaultAt}
use Rattle.wesl_explain_faults.specs.declared.faults.Wrong.{Wrong}
use Rattle.wesl_explain_faults.specs.declared.refused.LinkFault.{LinkFault}
use Rattle.wesl_explain_faults.specs.declared.uses.Use.{Use}

-- a fault, and those that ask for it
pub record Asked : Type 0 where
  pub wrong : Wrong
  pub askers : List (Asker PathId NameId)

abbrev pub fault_view : FaultAt → Asked
fault_view g = record { wrong = g.wrong; askers = g.askers.items }

abbrev pub asker_in : Use → Asker PathId NameId
asker_in u = u.asker

abbrev pub link_view : LinkFault → Asked
link_view l = record { wrong = l.wrong; askers = map asker_in l.uses.items }

-- just the faults of the findings are told, each once, with just those that ask for it
abbrev pub AreTold : List Finding → List LinkFault → Type 0
AreTold told ls = (gs : List FaultAt) × AreGathered told gs × (map link_view ls ≡ map fault_view gs)
