use Rattle.std.proofs.lemmas.List.{take_all}
use Rattle.wesl_link_reach.proofs.Growing.{element_of}
use Rattle.wesl_link_flaws.proofs.Keeping.{telling_start, telling_next, telling_all}
use Rattle.wesl_link_flaws.proofs.clash.tell_clashes.Goals as goal

pub loop-import-init : goal.loop-import-init
loop-import-init c = record { keys = c.requires.keys; telling = telling_start c.args.table.now _ }

pub tell_clash-requires-clause-there : goal.tell_clash-requires-clause-there
tell_clash-requires-clause-there c = element_of _ _ _ _ c.imports-import-items.ensures c.loop-import-test.true

pub loop-import-preserved : goal.loop-import-preserved
loop-import-preserved c = record {
  keys = c.in_ok-tell_clash.ensures.keys;
  telling = telling_next c.args.table.now _ _ _ _ _ _ c.loop-import-test.true c.loop-import.invariant.telling c.in_ok-tell_clash.ensures.kept c.in_ok-tell_clash.ensures.only c.in_ok-tell_clash.ensures.seen;
}

pub returns-clause-tells : goal.returns-clause-tells
returns-clause-tells c =
    telling_all c.args.table.now _ _ _ c.loop-import.invariant.telling (λ i h. rw (take_all _ _ c.loop-import-test.false) (rw c.imports-import-items.ensures h))
