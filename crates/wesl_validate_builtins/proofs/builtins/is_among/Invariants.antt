use Rattle.std.proofs.Common.{◌≡◌, map, string_bytes, drop, bytes_eq}
use Rattle.std.specs.List.{list_any}
use Rattle.wesl_validate_builtins.proofs.builtins.is_among.Given as goal

abbrev pub invariant-loop-stored : goal.invariant-loop-stored
invariant-loop-stored l = list_any (λ m. bytes_eq m l.name) (map string_bytes l.names.items) ≡ list_any (λ m. bytes_eq m l.name) (map string_bytes (drop l.stored-index l.names.items))
