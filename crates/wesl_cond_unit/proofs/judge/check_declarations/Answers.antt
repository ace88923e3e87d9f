use Rattle.std.proofs.Common.{map, Ok, Err, false, arith, refl, subst}
use Rattle.wesl_cond_chains.specs.Judging.{IsClear, RefusesIn}
use Rattle.wesl_cond_chains.specs.Lists.{alone}
use Rattle.wesl_cond_chains.specs.Nodes.{replies}
use Rattle.wesl_tree_syntax.specs.Tree.{Tree, kind, declarations, declaration_node, forest_of}
use Rattle.wesl_tree_syntax.specs.View.{global_view, placed}
use Rattle.wesl_tree_syntax.specs.declared.declaration.GlobalDeclaration.{GlobalDeclaration}
use Rattle.wesl_tree_syntax.specs.declared.span.Spanned.{Spanned}
use Rattle.wesl_cond_unit.proofs.Declared.{declarations_checked, global_checked}
use Rattle.wesl_cond_unit.proofs.Standing.{list_refused, stay}
use Rattle.wesl_cond_unit.proofs.Walked.{walks_in, walks_past, left_at_start, left_next, left_refused, left_clear}
use Rattle.wesl_cond_unit.proofs.judge.check_declarations.Goals as goal
use Rattle.wesl_cond_unit.proofs.judge.check_declarations.Goals.{then-stays+in-Ok-check_global, else-stays}

abbrev view : Spanned GlobalDeclaration → Tree
view = placed global_view declaration_node

pub loop-node-init : goal.loop-node-init
loop-node-init c = left_at_start (replies c.args.names.now c.args.features.now) view c.deref-node-items.result.now _ _ c.new-chain.ensures.kept c.new-chain.ensures.decided

pub loop-node-preserved : goal.loop-node-preserved
loop-node-preserved c =
    let names = c.args.names.now in
    let reply = replies names c.args.features.now in
    let l = c.loop-node in
    let x = c.node-item.result in
    let xs = c.deref-node-items.result.now in
    let k = c.stays.new.chain.kept in
    let d = c.stays.new.chain.decided in
    elim c.if-stays.branch [
      | then-stays+in-Ok-check_global w ↦ (left_next reply view names xs l.node-index l.chain.kept l.chain.decided k d x (tt {0}) (omega arith) c.node-item.is l.invariant (walks_in reply names l.chain.kept l.chain.decided k d c.stays.result (view x) (Ok (tt {0})) w.if-stays.true (c.stays.ensures false) (global_checked reply names (Ok (tt {0})) x w.in-Ok-check_global.ensures)))
      | else-stays w ↦ (left_next reply view names xs l.node-index l.chain.kept l.chain.decided k d x (tt {0}) (omega arith) c.node-item.is l.invariant (walks_past reply names l.chain.kept l.chain.decided k d c.stays.result (view x) (tt {0}) w.if-stays.false (c.stays.ensures false)))
    ]

pub returns-in-Err-check_global : goal.returns-in-Err-check_global
returns-in-Err-check_global c =
    let names = c.args.names.now in
    let reply = replies names c.args.features.now in
    let l = c.loop-node in
    let x = c.node-item.result in
    let xs = c.deref-node-items.result.now in
    let k = c.stays.new.chain.kept in
    let d = c.stays.new.chain.decided in
    let e = c.in-Err-check_global.fault in
    declarations_checked reply names {R = Unit {0}} (Err e) c.args.declarations.now.items c.in-Ok.ensures
    (subst (λ ys. RefusesIn names reply (alone (stay reply) (forest_of (map view ys))) e) c.deref-node-items.ensures.value
    (left_refused reply view (Unit {0}) names xs l.node-index l.chain.kept l.chain.decided k d x e (omega arith) c.node-item.is l.invariant (walks_in reply {A = Unit {0}} names l.chain.kept l.chain.decided k d c.stays.result (view x) (Err e) c.if-stays.true (c.stays.ensures false) (global_checked reply names {R = Unit {0}} (Err e) x c.in-Err-check_global.ensures))))

pub returns : goal.returns
returns c =
    let names = c.args.names.now in
    let reply = replies names c.args.features.now in
    let l = c.loop-node in
    declarations_checked reply names {R = Unit {0}} (Ok (tt {0})) c.args.declarations.now.items c.in-Ok.ensures
    (subst (λ ys. IsClear reply (alone (stay reply) (forest_of (map view ys)))) c.deref-node-items.ensures.value (left_clear reply view c.deref-node-items.result.now l.node-index l.chain.kept l.chain.decided (omega arith) l.invariant))

pub returns-in-Err : goal.returns-in-Err
returns-in-Err c = list_refused (replies c.args.names.now c.args.features.now) c.args.names.now (kind declarations) (forest_of (map view c.args.declarations.now.items)) c.in-Err.fault refl c.in-Err.ensures
