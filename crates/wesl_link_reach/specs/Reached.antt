-- The symbols that are reached, in the order in which they were found.
use Rattle.std.specs.Prelude.{List}
use Rattle.wesl_link_symbols.specs.declared.symbols.Symbol.{Symbol}

-- symbols in the order in which they were found
pub record SymbolKeys (P N : Type 0) : Type 0 where
  pub keys : List (Symbol P N)
