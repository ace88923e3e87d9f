-- What an error of a link says.
use Rattle.std.specs.Prelude.{ℕ}
use Rattle.wesl_link_symbols.specs.declared.ids.PathId.{PathId}
use Rattle.wesl_tree_base.specs.declared.ids.NameId.{NameId}
use Rattle.wesl_link_reach.specs.declared.error.LinkError.{LinkError}
use Rattle.wesl_link_reach.specs.declared.error.LinkError.TheVariants.{DuplicateSymbol, Refused, MissingDecl, Private, ModuleLimit, AmbiguousSymbol, TooManyFlags, Memory}
use Rattle.wesl_link_symbols.specs.Tables.{Table}
use Rattle.wesl_link_reach.specs.World.{Task}
use Rattle.wesl_link_reach.specs.Faults.{duplicate, refused, missing, private, too_many, ambiguous, too_many_flags, Explained}

-- the fault stands in a world of modules that were handed out, or memory was short
abbrev pub IsExplained : {E : Type 0} → (PathId → Table PathId NameId → Type 0) → (PathId → E → Type 0) → Table PathId NameId → Task PathId NameId → ℕ → LinkError E → Type 0
IsExplained hands refuses root task limit (DuplicateSymbol p n) = Explained hands refuses root task limit (duplicate p n)
IsExplained hands refuses root task limit (Refused e) = Explained hands refuses root task limit (refused e)
IsExplained hands refuses root task limit (MissingDecl p n) = Explained hands refuses root task limit (missing p n)
IsExplained hands refuses root task limit (Private n p) = Explained hands refuses root task limit (private n p)
IsExplained hands refuses root task limit (ModuleLimit k) = Explained hands refuses root task limit (too_many k)
IsExplained hands refuses root task limit (AmbiguousSymbol n) = Explained hands refuses root task limit (ambiguous n)
IsExplained hands refuses root task limit (TooManyFlags p) = Explained hands refuses root task limit (too_many_flags p)
IsExplained hands refuses root task limit Memory = Unit {0}
