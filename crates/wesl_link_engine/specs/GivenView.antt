-- The names that a value of the code holds.
use Rattle.std.specs.Prelude.{Bool, ◌&&◌, nat_eq, option_map, string_bytes}
use Rattle.std.specs.Map.{lookup}
use Rattle.wesl_link_symbols.specs.declared.ids.PathId.{PathId}
use Rattle.wesl_tree_base.specs.declared.ids.NameId.{NameId}
use Rattle.wesl_link_symbols.specs.declared.symbols.Symbol.{Symbol}
use Rattle.wesl_link_engine.specs.Given.{Given}
use Rattle.wesl_link_engine.specs.declared.given.GivenNames.{GivenNames}

-- whether both are the same name of the same module
abbrev pub same_symbol : Symbol PathId NameId → Symbol PathId NameId → Bool
same_symbol s t = nat_eq s.path.0 t.path.0 && nat_eq s.name.0 t.name.0

-- the name that was given to a symbol
abbrev pub given : GivenNames → Given
given g s = option_map string_bytes (lookup (same_symbol s) g.names.entries)
