use Rattle.std.proofs.Common.{map, arith, false, subst}
use Rattle.wesl_cond_chains.specs.Lists.{alone}
use Rattle.wesl_cond_chains.specs.Nodes.{replies}
use Rattle.wesl_tree_syntax.specs.Tree.{Tree, declaration_node, forest_of}
use Rattle.wesl_tree_syntax.specs.View.{global_view, placed}
use Rattle.wesl_tree_syntax.specs.declared.declaration.GlobalDeclaration.{GlobalDeclaration}
use Rattle.wesl_tree_syntax.specs.declared.span.Spanned.{Spanned}
use Rattle.wesl_cond_faults.proofs.Listing.{stay}
use Rattle.wesl_cond_faults.proofs.Views.{global_told}
use Rattle.wesl_cond_faults.proofs.Walking.{left_at_start, left_in, left_none, left_past}
use Rattle.wesl_cond_faults.specs.Telling.{AddsAll}
use Rattle.wesl_cond_faults.proofs.declarations.tell_in_declarations.Goals as goal
use Rattle.wesl_cond_faults.proofs.declarations.tell_in_declarations.Goals.{then-stays, else-stays}

abbrev view : Spanned GlobalDeclaration → Tree
view = placed global_view declaration_node

pub loop-node-init : goal.loop-node-init
loop-node-init c =
    let names = c.args.names.now in
    left_at_start names (replies names c.args.features.now) view c.deref-node-items.result.now c.args.told.now _ _ c.new-chain.ensures.kept c.new-chain.ensures.decided

pub loop-node-preserved : goal.loop-node-preserved
loop-node-preserved c =
    let names = c.args.names.now in
    let reply = replies names c.args.features.now in
    let l = c.loop-node in
    let x = c.node-item.result in
    let xs = c.deref-node-items.result.now in
    let k = c.stays.new.chain.kept in
    let d = c.stays.new.chain.decided in
    elim c.if-stays.branch [
      | then-stays w ↦ rw w.told-is (left_in names reply view xs c.args.told.now l.node-index l.chain.kept l.chain.decided k d c.stays.result x l.told w.tell_global.new.told (omega arith) c.node-item.is w.if-stays.true (c.stays.ensures false) (global_told names reply l.told w.tell_global.new.told x w.tell_global.ensures) l.invariant)
      | else-stays w ↦ rw w.told-is (left_past names reply view xs c.args.told.now l.node-index l.chain.kept l.chain.decided k d c.stays.result x l.told (omega arith) c.node-item.is w.if-stays.false (c.stays.ensures false) l.invariant)
    ]

pub returns : goal.returns
returns c =
    let names = c.args.names.now in
    let reply = replies names c.args.features.now in
    let l = c.loop-node in
    subst (λ xs. AddsAll names reply (alone (stay reply) (forest_of (map view xs))) c.args.told.now l.told) c.deref-node-items.ensures.value
    (left_none names reply view c.deref-node-items.result.now c.args.told.now l.node-index l.chain.kept l.chain.decided l.told (omega arith) l.invariant)
