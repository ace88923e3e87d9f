-- What identifiers stand for in a linked unit (WESL, "Imports").
use Rattle.wesl_tree_names.specs.Path.{Text}

-- for paths `P`, names `N` of symbols, and blocks `B`
pub data DenotationOf (P N B : Type 0) : Type 0 where
  -- a name that the module at a path declares
  symbol : P → N → DenotationOf P N B
  -- a name of a block of the module at a path
  local : P → B → Text → DenotationOf P N B
  -- a name that nothing declares
  free_name : Text → DenotationOf P N B

-- a symbol under the name that it is given, anything else under its own
abbrev pub printed_as : {P N B : Type 0} → (P → N → Text) → DenotationOf P N B → Text
printed_as names (symbol p n) = names p n
printed_as names (local p b n) = n
printed_as names (free_name n) = n
