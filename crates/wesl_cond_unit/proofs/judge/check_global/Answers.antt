use Rattle.std.proofs.Common.{sym, subst}
use Rattle.wesl_cond_chains.specs.Judging.{Checks, RefusesIn}
use Rattle.wesl_cond_chains.specs.Nodes.{replies}
use Rattle.wesl_tree_syntax.specs.Tree.{before, end}
use Rattle.wesl_tree_syntax.specs.View.{global_view}
use Rattle.wesl_cond_unit.proofs.Declared.{function_checked, function_refused, struct_judged}
use Rattle.wesl_cond_unit.proofs.judge.check_global.Goals as goal

pub returns-in-Struct : goal.returns-in-Struct
returns-in-Struct c =
    let names = c.args.names.now in
    let reply = replies names c.args.features.now in
    subst (λ d. Checks names reply (before (global_view d) end) c.check_list.result) (sym c.in-Struct.is) (struct_judged reply names c.check_list.result c.in-Struct.structure c.check_list.ensures)

pub returns-in-Ok : goal.returns-in-Ok
returns-in-Ok c =
    let names = c.args.names.now in
    let reply = replies names c.args.features.now in
    subst (λ d. Checks names reply (before (global_view d) end) c.check_body.result) (sym c.in-Function.is) (function_checked reply names c.in-Function.function c.check_body.result c.in-Ok.ensures c.check_body.ensures)

pub returns-in-Err : goal.returns-in-Err
returns-in-Err c =
    let names = c.args.names.now in
    let reply = replies names c.args.features.now in
    subst (λ d. RefusesIn names reply (before (global_view d) end) c.in-Err.fault) (sym c.in-Function.is) (function_refused reply names c.in-Function.function c.in-Err.fault c.in-Err.ensures)
