use Rattle.std.proofs.Common.{String, string_bytes}
use Rattle.std.specs.declared.alloc.Global.{Global}
use Rattle.wesl_tree_syntax.specs.Unit.{spelled}
use Rattle.wesl_tree.specs.Translation.{unit_view}
use Rattle.wesl_resolve_base.proofs.ResultLemmas.{IfSome-of, OnOk-both}
use Rattle.wesl_resolve.proofs.virtual_resolver.VirtualResolver.add_translation_unit.Goals as goal

pub add_module-requires : goal.add_module-requires
add_module-requires g c = c.requires

pub returns-in-Some-clause-added : goal.returns-in-Some-clause-added
returns-in-Some-clause-added g c =
    let Printed : String Global → Type 0 = λ text. g.P.UnitText.prints c.args.self.now.text (spelled (unit_view c.args.unit)) (string_bytes text) in
    let printed = IfSome-of Printed c.print.result c.in-Some.source c.in-Some.ensures.value c.print.ensures.printed in
    OnOk-both _ _ _ (λ added last. (string_bytes c.in-Some.source, printed, (added, last))) c.add_module.result c.add_module.ensures.added c.add_module.ensures.last

pub returns-in-Some-clause-kept : goal.returns-in-Some-clause-kept
returns-in-Some-clause-kept g c = c.add_module.ensures.kept

pub returns-in-Some-clause-text : goal.returns-in-Some-clause-text
returns-in-Some-clause-text g c = c.add_module.ensures.text

pub returns-in-Some-clause-refused : goal.returns-in-Some-clause-refused
returns-in-Some-clause-refused g c = c.add_module.ensures.refused
