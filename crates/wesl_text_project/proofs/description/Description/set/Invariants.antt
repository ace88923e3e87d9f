use Rattle.std.proofs.Common.{◌≡◌, string_bytes, drop, bytes_eq}
use Rattle.std.specs.List.{find}
use Rattle.wesl_text_project.proofs.description.Description.set.Given as goal

abbrev pub invariant-loop-set : goal.invariant-loop-set
invariant-loop-set l = find (λ s. bytes_eq (string_bytes s.name) l.name) l.self.sets.items ≡ find (λ s. bytes_eq (string_bytes s.name) l.name) (drop l.set-index l.self.sets.items)
