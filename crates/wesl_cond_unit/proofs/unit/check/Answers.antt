use Rattle.std.proofs.Common.{Err, Ok, refl}
use Rattle.wesl_cond_chains.specs.Nodes.{replies}
use Rattle.wesl_tree_syntax.specs.View.{declarations_tree, directives_tree, imports_tree}
use Rattle.wesl_tree.specs.Translation.{unit_view}
use Rattle.wesl_cond_unit.proofs.Checked.{three_last, three_second, three_first}
use Rattle.wesl_cond_unit.proofs.Declared.{directives_judged, imports_judged}
use Rattle.wesl_cond_unit.proofs.Judged.{unit_checked}
use Rattle.wesl_cond_unit.proofs.unit.check.Goals as goal

pub returns-in-Ok-check_list : goal.returns-in-Ok-check_list
returns-in-Ok-check_list c =
    let n = c.names-names.result.now in
    let reply = replies n c.args.features.now in
    let i = imports_tree c.imports.result.now in
    let d = directives_tree c.global_directives.result.now in
    let g = declarations_tree c.global_declarations.result.now in
    unit_checked c.check_declarations.result c.args.features.now (unit_view c.args.unit.now) n i d g c.names-names.ensures.names c.imports.ensures.imports c.global_directives.ensures.directives c.global_declarations.ensures.declarations
    (three_last reply n i d g c.check_declarations.result (imports_judged reply n {R = Unit {0}} (Ok (tt {0})) c.imports.result.now.items c.in-Ok.ensures) (directives_judged reply n {R = Unit {0}} (Ok (tt {0})) c.global_directives.result.now.items c.in-Ok-check_list.ensures) c.check_declarations.ensures)

pub returns-in-Err-check_list : goal.returns-in-Err-check_list
returns-in-Err-check_list c =
    let n = c.names-names.result.now in
    let reply = replies n c.args.features.now in
    let u = unit_view c.args.unit.now in
    let i = imports_tree c.imports.result.now in
    let d = directives_tree c.global_directives.result.now in
    let e = c.in-Err-check_list.fault in
    unit_checked {R = Unit {0}} (Err e) c.args.features.now u n i d u.declarations c.names-names.ensures.names c.imports.ensures.imports c.global_directives.ensures.directives refl
    (three_second reply n i d u.declarations e (imports_judged reply n {R = Unit {0}} (Ok (tt {0})) c.imports.result.now.items c.in-Ok.ensures) (directives_judged reply n {R = Unit {0}} (Err e) c.global_directives.result.now.items c.in-Err-check_list.ensures))

pub returns-in-Err : goal.returns-in-Err
returns-in-Err c =
    let n = c.names-names.result.now in
    let reply = replies n c.args.features.now in
    let u = unit_view c.args.unit.now in
    let i = imports_tree c.imports.result.now in
    let e = c.in-Err.fault in
    unit_checked {R = Unit {0}} (Err e) c.args.features.now u n i u.directives u.declarations c.names-names.ensures.names c.imports.ensures.imports refl refl
    (three_first reply n i u.directives u.declarations e (imports_judged reply n {R = Unit {0}} (Err e) c.imports.result.now.items c.in-Err.ensures))
