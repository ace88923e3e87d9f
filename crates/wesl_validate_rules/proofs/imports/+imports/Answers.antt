use Rattle.wesl_validate_rules.proofs.Gathering.{entry_next, entries_all}
use Rattle.wesl_validate_rules.proofs.imports.+imports.Goals as goal

pub loop-entry-preserved : goal.loop-entry-preserved
loop-entry-preserved t c =
    entry_next c.args.numbers.now.items c.loop-entry.numbers.items c.add_content.new.numbers.items c.deref-entry-items.result.now c.loop-entry.entry-index c.entry-item.result c.loop-entry-test.true c.entry-item.is c.in_ok-add_content-in-Collection.ensures c.loop-entry.invariant

pub returns-after-loop-entry : goal.returns-after-loop-entry
returns-after-loop-entry t c =
    entries_all c.args.numbers.now.items c.loop-entry.numbers.items c.args.content.now c.in-Collection.entries c.deref-entry-items.result.now c.loop-entry.entry-index c.in-Collection.is c.deref-entry-items.ensures.value c.loop-entry-test.false c.loop-entry.invariant
