use Rattle.std.proofs.Common.{◌≡◌, map, string_bytes, drop, bytes_eq}
use Rattle.std.specs.List.{find}
use Rattle.wesl_validate_builtins.proofs.builtins.Builtins.builtin_ident.Given as goal

abbrev pub invariant-loop-stored : goal.invariant-loop-stored
invariant-loop-stored l = find (λ m. bytes_eq m l.name) (map string_bytes l.self.names.items) ≡ find (λ m. bytes_eq m l.name) (map string_bytes (drop l.stored-index l.self.names.items))
