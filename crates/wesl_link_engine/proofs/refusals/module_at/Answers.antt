use Rattle.std.proofs.Common.{Option, IfOk, sym, subst}
use Rattle.wesl_link_symbols.specs.declared.ids.PathId.{PathId}
use Rattle.wesl_link_engine.specs.Refusal.{IsModuleAt}
use Rattle.wesl_link_tables.specs.NumbersView.{numbering}
use Rattle.wesl_link_engine.proofs.Told.{module_told}
use Rattle.wesl_link_engine.proofs.refusals.module_at.Goals as goal

pub returns-in-Some : goal.returns-in-Some
returns-in-Some c = subst (λ (o : Option PathId). IfOk c.path.result (IsModuleAt (numbering c.args.numbers.now) o)) (sym c.in-Some.is) (module_told (numbering c.args.numbers.now) c.in-Some.id c.path.result c.path.ensures.found c.path.ensures.none)
