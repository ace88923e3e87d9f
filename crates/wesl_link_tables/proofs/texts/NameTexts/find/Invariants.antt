use Rattle.std.specs.Prelude.{string_bytes}
use Rattle.wesl_link_tables.proofs.Looked.{NoneBefore}
use Rattle.wesl_link_tables.proofs.texts.NameTexts.find.Given as goal

abbrev pub invariant-loop-place : goal.invariant-loop-place
invariant-loop-place l = NoneBefore string_bytes l.self.texts.items l.name l.place
