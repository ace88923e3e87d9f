use Rattle.std.proofs.Common.{arith, refl}
use Rattle.wesl_link_symbols.specs.Searching.{IsPassedOf}
use Rattle.wesl_link_symbols.proofs.Lists.{at_contains}
use Rattle.wesl_link_symbols.proofs.Seeking.{passes_one, unseen_run, step_on, all_passed}
use Rattle.wesl_link_symbols.proofs.table.Table.find_in.Goals as goal

pub imports-init : goal.imports-init
imports-init c = unseen_run c.args.self.now c.args.look_up c.args.sought c.args.row.now.imports.items c.extent-extent.result.start c.next_in-i.result c.requires.sight c.next_in-i.ensures.unseen

pub returns-then-is_found-clause-found : goal.returns-then-is_found-clause-found
returns-then-is_found-clause-found c =
    let yes = c.if-is_found.ensures.yes refl in (at_contains c.args.row.now.imports.items c.imports.i c.import_at-import.result c.import_at-import.ensures, yes.0, yes.1)

pub behind-behind-requires-clause-passed : goal.behind-behind-requires-clause-passed
behind-behind-requires-clause-passed c =
    passes_one (IsPassedOf c.args.self.now c.args.look_up c.args.sought) c.args.row.now.imports.items c.imports.i c.import_at-import.result c.import_at-import.ensures (c.if-is_found.ensures.no refl)

pub imports-preserved : goal.imports-preserved
imports-preserved c =
    step_on c.args.self.now c.args.look_up c.args.sought c.args.row.now.imports.items c.extent-extent.result.start c.imports.i c.behind-behind.result c.next_in-i-in-imports.result c.requires.sight c.imports.invariant c.behind-behind.ensures.passed
    c.next_in-i-in-imports.ensures.unseen

pub returns-clause-none : goal.returns-clause-none
returns-clause-none c =
    all_passed c.args.self.now c.args.look_up c.args.sought c.args.row.now.imports.items c.extent-extent.result c.imports.i c.extent-extent.ensures.all (omega (arith, c.imports-test.false)) c.imports.invariant
