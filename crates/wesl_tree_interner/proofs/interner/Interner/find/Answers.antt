use Rattle.std.proofs.Common.{sym}
use Rattle.std.specs.Prelude.{string_bytes}
use Rattle.std.proofs.lemmas.Slice.Eq.{bytes_eq-Decides}
use Rattle.wesl_tree_interner.proofs.Interning.{position_held, none_held}
use Rattle.wesl_tree_interner.proofs.interner.Interner.find.Goals as goal

pub returns-in-Some-clause-found : goal.returns-in-Some-clause-found
returns-in-Some-clause-found c = position_held string_bytes _ c.args.name.now (λ k e. sym ((bytes_eq-Decides c.args.name.now (string_bytes k)).0 e)) c.args.self.now.names.keys c.in-Some.index (sym c.in-Some.ensures.index)

pub returns-in-None-clause-none : goal.returns-in-None-clause-none
returns-in-None-clause-none c = none_held string_bytes _ c.args.name.now (λ k e. (bytes_eq-Decides c.args.name.now (string_bytes k)).1 (sym e)) c.args.self.now.names.keys (sym c.in-None.ensures.found)
