use Rattle.std.proofs.Common.{◌≡◌, string_bytes, drop, bytes_eq}
use Rattle.std.specs.List.{find}
use Rattle.wesl_text_project.proofs.layout.Layout.package_folder.Given as goal

abbrev pub invariant-loop-package : goal.invariant-loop-package
invariant-loop-package l = find (λ p. bytes_eq (string_bytes p.name) l.name) l.self.packages.items ≡ find (λ p. bytes_eq (string_bytes p.name) l.name) (drop l.package-index l.self.packages.items)
