-- Faults of modules.
use Rattle.std.specs.Prelude.{◌≡◌, ◌⊎◌}
use Rattle.wesl_program_bundle.specs.Bundle.{Bundle}
use Rattle.wesl_tree_names.specs.declared.errors.Error as error
use Rattle.wesl_program.specs.Fault.{fault_of}
use Rattle.wesl_program.specs.Line.{memory, IsOfModules, TellsOfLink}

-- memory was refused, or a fault stands in a link of the bundle's modules or in the linked unit, and it is none of the bundle
-- itself
abbrev pub IsLinkFault : Bundle → error.Error → Type 0
IsLinkFault b e = (fault_of e ≡ memory) ⊎ (IsOfModules (fault_of e) × TellsOfLink b (fault_of e))
