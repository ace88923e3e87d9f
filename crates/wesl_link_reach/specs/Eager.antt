-- What a module declares, as its declarations are gone over.
use Rattle.std.specs.Prelude.{◌≡◌, Option, Some, None, List, [], ◌∷◌, ◌++◌, Contains}
use Rattle.wesl_link_symbols.specs.declared.symbols.Symbol.{Symbol}
use Rattle.wesl_link_symbols.specs.Tables.{Declaration, Table}

-- the symbol is that of one of the declarations
abbrev pub IsDeclaredAmong : {P N : Type 0} → Table P N → List (Declaration P N) → Symbol P N → Type 0
IsDeclaredAmong {P} {N} t ds s = (d : Declaration P N) × Contains ds d × (d.name ≡ Some s.name) × (s.path ≡ t.path)

-- symbols, and after them that of the name at the path, where there is a name
abbrev pub with_named : {P N : Type 0} → P → Option N → List (Symbol P N) → List (Symbol P N)
with_named p None ss = ss
with_named p (Some n) ss = ss ++ record { path = p; name = n } ∷ []
