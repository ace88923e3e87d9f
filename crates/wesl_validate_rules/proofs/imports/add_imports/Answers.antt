use Rattle.std.proofs.Common.{◌≡◌, ◌∙◌, ◌++◌, ap, arith}
use Rattle.std.specs.Prelude.{flat_map}
use Rattle.std.proofs.lemmas.Grind.{common_steps}
use Rattle.wesl_validate_rules.proofs.Gathering.{added_next, imported_by, all_imported}
use Rattle.wesl_validate_rules.proofs.imports.add_imports.Goals as goal

pub returns : goal.returns
returns c =
    let old = c.args.numbers.now.items in
    let all = c.args.imports.now.items in
    let e : c.loop-import.numbers.items ≡ old ++ flat_map imported_by all = grind (arith, common_steps, c.loop-import.invariant) in
    e ∙ ap (λ ns. old ++ ns) (all_imported all)

pub loop-import-preserved : goal.loop-import-preserved
loop-import-preserved c =
    added_next imported_by c.deref-import-items.result.now c.loop-import.import-index c.import-item.result c.args.numbers.now.items c.loop-import.numbers.items c.add_import.new.numbers.items c.loop-import-test.true c.import-item.is c.in_ok-add_import.ensures c.loop-import.invariant
