use Rattle.std.proofs.Common.{◌∙◌, sym, subst, inl}
use Rattle.wesl_validate_builtins.specs.Builtins.{builtins_view}
use Rattle.wesl_validate_calls.specs.Ends.{IsJudged, IsLeastEnd, counts_at}
use Rattle.wesl_validate_calls.specs.Made.{call_told}
use Rattle.wesl_validate_calls.specs.Views.{ends_view, tables_view}
use Rattle.wesl_validate_calls.proofs.Ending.{told_count, told_end, misfit_first}
use Rattle.wesl_validate_calls.proofs.judge.judged.Goals as goal

pub returns-then-fits : goal.returns-then-fits
returns-then-fits c = inl (c.fits.ensures.0 c.if-fits.true)

pub returns-in-None : goal.returns-in-None
returns-in-None c =
    let t = tables_view c.args.tables.now in
    let names = c.args.names.now in
    let b = builtins_view c.args.callables.now.builtins.now in
    let ends = ends_view c.args.ends.now in
    let call = call_told c.args.call in
    let unfit = misfit_first t names b call c.fits.result c.fits.ensures c.if-fits.false in
    let least = subst (IsLeastEnd t.aliases (counts_at t) call.callee) (sym c.value_of.ensures ∙ c.in-None.is) (c.requires.ends.counted call.callee) in
    subst (IsJudged t names b call) (sym c.not_callable.ensures) (told_end t names b c.requires.closed ends c.requires.ends call unfit least c.end_of.result c.end_of.ensures)

pub returns-in-Some : goal.returns-in-Some
returns-in-Some c =
    let t = tables_view c.args.tables.now in
    let names = c.args.names.now in
    let b = builtins_view c.args.callables.now.builtins.now in
    let ends = ends_view c.args.ends.now in
    let call = call_told c.args.call in
    let unfit = misfit_first t names b call c.fits.result c.fits.ensures c.if-fits.false in
    let least = subst (IsLeastEnd t.aliases (counts_at t) call.callee) (sym c.value_of.ensures ∙ c.in-Some.is) (c.requires.ends.counted call.callee) in
    subst (IsJudged t names b call) (sym c.miscounted.ensures) (told_count t names b c.requires.closed ends c.requires.ends call unfit c.in-Some.number least)
