-- The keys that have numbers.
use Rattle.std.specs.Prelude.{List, [], ◌∷◌}
use Rattle.wesl_scope_meanings.specs.Scopes.{Key}
use Rattle.wesl_scope_numbers.specs.Canonical.{with_key}

-- the different keys, by first occurrence, where those of `seen` come first
abbrev pub distinct_from : List Key → List Key → List Key
distinct_from seen [] = seen
distinct_from seen (k ∷ ks) = distinct_from (with_key seen k) ks

-- the different keys, by first occurrence
abbrev pub distinct : List Key → List Key
distinct = distinct_from []
