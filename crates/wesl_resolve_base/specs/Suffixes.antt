-- Paths without their first components.
use Rattle.std.specs.Prelude.{ℕ, drop}
use Rattle.wesl_tree_names.specs.Path.{Path, absolute}

-- the path of the components after the first n, from the root
abbrev pub suffix : ℕ → Path → Path
suffix n p = record { origin = absolute; components = drop n p.components }
