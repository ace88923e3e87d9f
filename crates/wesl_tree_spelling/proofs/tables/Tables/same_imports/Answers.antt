use Rattle.std.proofs.Common.{arith, refl}
use Rattle.wesl_tree_syntax.specs.Tree.{import_node}
use Rattle.wesl_tree_syntax.specs.View.{import_view, placed}
use Rattle.wesl_tree_spelling.proofs.Pairs.{all_agree, other_lengths, pair_agrees, pair_differs}
use Rattle.wesl_tree_spelling.proofs.tables.Tables.same_imports.Goals as goal

pub returns-then-len : goal.returns-then-len
returns-then-len c = other_lengths (placed import_view import_node) c.args.self.now c.args.left.now c.args.right.now c.len.ensures c.len-2.ensures c.if-len.true

pub loop-i-init : goal.loop-i-init
loop-i-init c = record { rest = refl }

pub index-requires : goal.index-requires
index-requires c = omega (arith, c.loop-i-test.true, c.len-i-end.ensures)

pub index-requires-in-loop-i : goal.index-requires-in-loop-i
index-requires-in-loop-i c = omega (arith, c.loop-i-test.true, c.len-i-end.ensures, c.len.ensures, c.len-2.ensures, c.if-len.false)

pub loop-i-preserved : goal.loop-i-preserved
loop-i-preserved c =
    pair_agrees (placed import_view import_node) c.args.self.now c.index.result.now c.index-in-loop-i.result.now c.len.ensures c.len-2.ensures c.if-len.false c.len-i-end.ensures c.loop-i-test.true c.index.ensures c.index-in-loop-i.ensures
    c.same_import_node.ensures c.if-not-same_import_node.false c.loop-i.invariant

pub returns-then-not-same_import_node : goal.returns-then-not-same_import_node
returns-then-not-same_import_node c =
    pair_differs (placed import_view import_node) c.args.self.now c.index.result.now c.index-in-loop-i.result.now c.len.ensures c.len-2.ensures c.if-len.false c.len-i-end.ensures c.loop-i-test.true c.index.ensures c.index-in-loop-i.ensures
    c.same_import_node.ensures c.if-not-same_import_node.true c.loop-i.invariant

pub returns : goal.returns
returns c = all_agree (placed import_view import_node) c.args.self.now c.len.ensures c.len-2.ensures c.if-len.false c.len-i-end.ensures c.loop-i-test.false c.loop-i.invariant
