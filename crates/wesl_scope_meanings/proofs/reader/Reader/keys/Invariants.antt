use Rattle.std.proofs.Common.{◌≡◌, map, take}
use Rattle.wesl_tree_names.specs.Path.{path_view}
use Rattle.wesl_scope_meanings.specs.Keys.{flat}
use Rattle.wesl_scope_meanings.specs.Senses.{sense_view, key_in}
use Rattle.wesl_scope_meanings.specs.Known.{is_known}
use Rattle.wesl_scope_meanings.proofs.reader.Reader.keys.Given as goal

abbrev pub invariant-loop-sense : goal.invariant-loop-sense
invariant-loop-sense l = map flat l.keys.items ≡ map (λ s. key_in (is_known l.self) l.names (map (λ p. path_view p.now) l.paths) (sense_view s)) (take l.sense-index l.self.senses.items)
