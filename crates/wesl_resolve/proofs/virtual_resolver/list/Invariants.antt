use Rattle.std.proofs.Common.{◌≡◌, map}
use Rattle.std.specs.Map.Iter.{deref_pair}
use Rattle.wesl_resolve.specs.Texts.{texts_of}
use Rattle.wesl_resolve.proofs.TextsLemmas.{shown}
use Rattle.wesl_resolve.proofs.virtual_resolver.list.Given as goal

-- the list has the entries so far
abbrev pub invariant-loop-path : goal.invariant-loop-path
invariant-loop-path l = map shown l.listed.items ≡ texts_of (map deref_pair l.yielded)
