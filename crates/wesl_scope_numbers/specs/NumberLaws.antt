-- Laws of the definitions, as functions of the crate cite them.
use Rattle.std.specs.Prelude.{◌≡◌, ℕ, List}
use Rattle.wesl_tree_syntax.specs.Numbers.{AreNumbers}
use Rattle.wesl_scope_meanings.specs.Scopes.{Key}
use Rattle.wesl_scope_numbers.specs.Canonical.{canonical}

-- each list of keys has canonical numbers: those that `canonical` gives
abbrev pub HasNumbers : Type 0
HasNumbers = (ks : List Key) → AreNumbers ks (canonical ks)

-- two lists of canonical numbers of the same keys are one list
abbrev pub HasOneList : Type 0
HasOneList = (ks : List Key) (ms ns : List ℕ) → AreNumbers ks ms → AreNumbers ks ns → ms ≡ ns
