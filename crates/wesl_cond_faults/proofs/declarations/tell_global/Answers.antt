use Rattle.std.proofs.Common.{sym, subst}
use Rattle.wesl_cond_chains.specs.Nodes.{replies}
use Rattle.wesl_tree_syntax.specs.Tree.{before, end}
use Rattle.wesl_tree_syntax.specs.View.{global_view}
use Rattle.wesl_cond_faults.proofs.Views.{function_told, no_list, none_told, struct_told}
use Rattle.wesl_cond_faults.specs.Telling.{AddsAll}
use Rattle.wesl_cond_faults.proofs.declarations.tell_global.Goals as goal

pub returns-in-Struct : goal.returns-in-Struct
returns-in-Struct c =
    let names = c.args.names.now in
    let reply = replies names c.args.features.now in
    subst (λ d. AddsAll names reply (before (global_view d) end) c.args.told.now c.tell_list.new.told) (sym c.in-Struct.is) (struct_told names reply c.args.told.now c.tell_list.new.told c.in-Struct.structure c.tell_list.ensures)

pub returns-in-Function : goal.returns-in-Function
returns-in-Function c =
    let names = c.args.names.now in
    let reply = replies names c.args.features.now in
    subst (λ d. AddsAll names reply (before (global_view d) end) c.args.told.now c.tell_body.new.told) (sym c.in-Function.is) (function_told names reply c.args.told.now c.tell_list-in-Function.new.told c.tell_body.new.told c.in-Function.function c.tell_list-in-Function.ensures c.tell_body.ensures)

pub returns-in_default : goal.returns-in_default
returns-in_default c =
    let d = c.args.declaration.now in
    let n = c.in_default in
    none_told c.args.names.now (replies c.args.names.now c.args.features.now) c.args.told.now (global_view d) (no_list d n.not-Struct n.not-Function)
