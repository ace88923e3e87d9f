use Rattle.std.proofs.Common.{sym, subst}
use Rattle.wesl_tree.specs.Translation.{unit_view}
use Rattle.wesl_validate_builtins.specs.Builtins.{builtins_view}
use Rattle.wesl_validate_calls.specs.Ends.{AreEnds, IsJudged}
use Rattle.wesl_validate_calls.specs.Made.{call_told}
use Rattle.wesl_validate_calls.specs.Views.{ends_view, tables_view}
use Rattle.wesl_validate_calls.proofs.Judging.{verdict}
use Rattle.wesl_validate_calls.proofs.whole.verdict.Goals as goal

pub returns : goal.returns
returns c =
    let u = unit_view c.args.unit.now in
    let t = tables_view c.args.tables.now in
    let b = builtins_view c.args.callables.now.builtins.now in
    verdict u t c.requires.tables b (call_told c.args.call) c.judged.result
    (subst (λ ns. IsJudged t ns b (call_told c.args.call) c.judged.result) c.names.ensures.names c.judged.ensures)

pub judged-requires-clause-ends : goal.judged-requires-clause-ends
judged-requires-clause-ends c = subst (λ ns. AreEnds (tables_view c.args.tables.now) ns (builtins_view c.args.callables.now.builtins.now) (ends_view c.args.ends.now)) (sym c.names.ensures.names) c.requires.ends
