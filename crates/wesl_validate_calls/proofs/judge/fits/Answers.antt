use Rattle.std.proofs.Common.{◌∙◌, sym}
use Rattle.wesl_validate_builtins.specs.Builtins.{builtins_view}
use Rattle.wesl_validate_calls.specs.Made.{call_told}
use Rattle.wesl_validate_calls.specs.Views.{ends_view, tables_view}
use Rattle.wesl_validate_calls.proofs.Ending.{found_fits, fits_found}
use Rattle.wesl_validate_calls.proofs.judge.fits.Goals as goal

pub returns : goal.returns
returns c =
    let t = tables_view c.args.tables.now in
    let names = c.args.names.now in
    let b = builtins_view c.args.callables.now.builtins.now in
    let ends = ends_view c.args.ends.now in
    let call = call_told c.args.call in
    (λ e. found_fits t names b c.requires.closed ends c.requires.ends call (sym c.is_found.ensures ∙ e), λ f. c.is_found.ensures ∙ fits_found t names b c.requires.closed ends c.requires.ends call f)
