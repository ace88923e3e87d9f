use Rattle.std.proofs.Common.{◌≡◌, ◌-◌, ◌<◌, ◌∙◌, length, set, arith}
use Rattle.std.proofs.lemmas.List.{length-set}
use Rattle.wesl_link_symbols.proofs.Runs.{ends_start, ends_next, ends_more}
use Rattle.wesl_link_symbols.proofs.row.fill_ends.Goals as goal

pub imports-init : goal.imports-init
imports-init c = record { long = c.requires; within = omega arith; runs = ends_start c.args.likeness c.args.imports.now _ c.requires }

pub run_end-requires-clause-behind : goal.run_end-requires-clause-behind
run_end-requires-clause-behind c = ends_next c.args.likeness c.args.imports.now c.imports.ends c.imports.i c.imports-test.true c.imports.invariant.runs

pub imports-preserved : goal.imports-preserved
imports-preserved c = record {
  long = length-set c.imports.ends (c.imports.i - 1) c.run_end.result ∙ c.imports.invariant.long;
  within = omega (arith, c.imports.invariant.within);
  runs =
      let inside : c.imports.i - 1 < length c.args.imports.now = omega (arith, c.imports.invariant.within, c.imports-test.true) in
      ends_more c.args.likeness c.args.imports.now c.imports.ends (c.imports.i - 1) c.run_end.result inside
      (ends_next c.args.likeness c.args.imports.now c.imports.ends c.imports.i c.imports-test.true c.imports.invariant.runs) c.run_end.ensures;
}
