use Rattle.wesl_text_print.proofs.Adding.{lawful, one, then, told}
use Rattle.wesl_text_print_unit.proofs.Imports.{package_printed}
use Rattle.wesl_text_print_unit.proofs.import.print_import_package.Goals as goal

pub returns : goal.returns
returns g c =
    let l = lawful g.met.S.TokenSink.none g.met.S.TokenSink.more in
    told (package_printed c.args.name.now)
    (then l (one l c.package.ensures) (one l c.symbol.ensures))
