-- Which names the module declares, by what the walk has noted.
use Rattle.std.specs.Prelude.{ℕ, Bool, false, get_or}
use Rattle.wesl_scope_meanings.specs.declared.reader.Reader.{Reader}

-- whether an import or a global declaration declares the name of the identifier with this number
abbrev pub is_known : Reader → ℕ → Bool
is_known r i = get_or r.declared.items (get_or r.alike.items i 0) false
