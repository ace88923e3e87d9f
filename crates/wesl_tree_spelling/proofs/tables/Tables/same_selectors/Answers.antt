use Rattle.std.proofs.Common.{arith, refl}
use Rattle.wesl_tree_syntax.specs.View.{selector_view}
use Rattle.wesl_tree_spelling.proofs.Pairs.{all_agree, other_lengths, pair_agrees, pair_differs}
use Rattle.wesl_tree_spelling.proofs.tables.Tables.same_selectors.Goals as goal

pub returns-then-len : goal.returns-then-len
returns-then-len c = other_lengths selector_view c.args.self.now c.args.left.now c.args.right.now c.len.ensures c.len-2.ensures c.if-len.true

pub loop-i-init : goal.loop-i-init
loop-i-init c = record { rest = refl }

pub index-requires : goal.index-requires
index-requires c = omega (arith, c.loop-i-test.true, c.len-i-end.ensures)

pub index-requires-in-loop-i : goal.index-requires-in-loop-i
index-requires-in-loop-i c = omega (arith, c.loop-i-test.true, c.len-i-end.ensures, c.len.ensures, c.len-2.ensures, c.if-len.false)

pub loop-i-preserved : goal.loop-i-preserved
loop-i-preserved c =
    pair_agrees selector_view c.args.self.now c.index.result.now c.index-in-loop-i.result.now c.len.ensures c.len-2.ensures c.if-len.false c.len-i-end.ensures c.loop-i-test.true c.index.ensures c.index-in-loop-i.ensures
    c.same_selector.ensures c.if-not-same_selector.false c.loop-i.invariant

pub returns-then-not-same_selector : goal.returns-then-not-same_selector
returns-then-not-same_selector c =
    pair_differs selector_view c.args.self.now c.index.result.now c.index-in-loop-i.result.now c.len.ensures c.len-2.ensures c.if-len.false c.len-i-end.ensures c.loop-i-test.true c.index.ensures c.index-in-loop-i.ensures
    c.same_selector.ensures c.if-not-same_selector.true c.loop-i.invariant

pub returns : goal.returns
returns c = all_agree selector_view c.args.self.now c.len.ensures c.len-2.ensures c.if-len.false c.len-i-end.ensures c.loop-i-test.false c.loop-i.invariant
