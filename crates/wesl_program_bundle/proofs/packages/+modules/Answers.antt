use Rattle.std.proofs.Common.{◌≡◌, ◌<◌, Some, map, sym, ap, ◌∙◌, inl, inr, arith, rules}
use Rattle.std.proofs.lemmas.Result.{IfErr-weaker, IfOk-weaker}
use Rattle.serde_json.specs.Data.{depth}
use Rattle.serde_json.specs.Find.{get}
use Rattle.wesl_json_form.specs.View.{borrowed_view}
use Rattle.wesl_program_bundle.specs.Broken.{Locates}
use Rattle.wesl_program_bundle.specs.Forms.{a_package_module}
use Rattle.wesl_program_bundle.specs.PackageViews.{package_module_view}
use Rattle.wesl_program_bundle.specs.Packages.{package_module_in, package_module_keys}
use Rattle.wesl_program_bundle.specs.Parts.{IsModuleMemberBroken, LocatesModuleMember}
use Rattle.wesl_json_form.specs.Keys.{has_only}
use Rattle.wesl_program_bundle.specs.declared.packages.PackageModule.{PackageModule}
use Rattle.wesl_program_bundle.specs.declared.packages.PackageModule.TheOpen.{PackageModule-F}
use Rattle.wesl_program_bundle.proofs.Together.{IfOk-keyed, either, of-both, of-only, part}
use Rattle.wesl_program_bundle.proofs.Listed.{module-made, module-whole, module_with-read, modules-of-list}
use Rattle.wesl_program_bundle.proofs.Lists.{AreItems, all-read, item-deep, items-there, list-fault, no-list, none-read, one-read}
use Rattle.wesl_program_bundle.proofs.Places.{IfPlace-more, Locates-here, module-fault}
use Rattle.wesl_program_bundle.proofs.packages.+modules.Goals as goal

pub modules_member-loop-index-init : goal.modules_member-loop-index-init
modules_member-loop-index-init t c = none-read package_module_view package_module_in a_package_module c.args.key.now (borrowed_view c.args.value.now) c.in-Some-as_array.items.now c.new-2.result (search rules)

pub modules_member-loop-index-preserved : goal.modules_member-loop-index-preserved
modules_member-loop-index-preserved t c =
    let vs = c.in-Some-as_array.items.now in
    let are : AreItems (get c.args.key.now (borrowed_view c.args.value.now)) c.in-Some-as_array.items.now = items-there _ (borrowed_view c.in-Some.list.now) c.in-Some-as_array.items.now (sym c.in-Some.ensures) (sym c.in-Some-as_array.ensures) in
    one-read package_module_view package_module_in a_package_module c.args.key.now (borrowed_view c.args.value.now) vs are c.loop-index.index c.loop-index.modules c.loop-index.invariant c.index-items-index.result c.loop-index-test.true c.index-items-index.is c.module_of-module.result c.module_of-module.ensures.ok c.module_of-module.ensures.place c.with_item-modules.result c.with_item-modules.ensures.ok c.with_item-modules.ensures.place

pub modules_member-returns-clause-ok : goal.modules_member-returns-clause-ok
modules_member-returns-clause-ok t c =
    let vs = c.in-Some-as_array.items.now in
    let are : AreItems (get c.args.key.now (borrowed_view c.args.value.now)) c.in-Some-as_array.items.now = items-there _ (borrowed_view c.in-Some.list.now) c.in-Some-as_array.items.now (sym c.in-Some.ensures) (sym c.in-Some-as_array.ensures) in
    IfOk-weaker c.inside.result _ _ (λ xs h. modules-of-list (get c.args.key.now (borrowed_view c.args.value.now)) (map package_module_view xs.items) h) (all-read package_module_view package_module_in a_package_module c.args.key.now (borrowed_view c.args.value.now) vs are c.loop-index.index c.loop-index.modules c.loop-index.invariant c.loop-index-test.false c.inside.result c.inside.ensures.ok)

pub modules_member-returns-clause-place : goal.modules_member-returns-clause-place
modules_member-returns-clause-place t c =
    let vs = c.in-Some-as_array.items.now in
    let are : AreItems (get c.args.key.now (borrowed_view c.args.value.now)) c.in-Some-as_array.items.now = items-there _ (borrowed_view c.in-Some.list.now) c.in-Some-as_array.items.now (sym c.in-Some.ensures) (sym c.in-Some-as_array.ensures) in
    list-fault package_module_view package_module_in a_package_module c.args.key.now (borrowed_view c.args.value.now) vs are c.loop-index.index c.loop-index.modules c.loop-index.invariant c.inside.result c.inside.ensures.place

pub modules_member-returns-in_default-as_array-clause-place : goal.modules_member-returns-in_default-as_array-clause-place
modules_member-returns-in_default-as_array-clause-place t c = no-list a_package_module c.args.key.now (borrowed_view c.args.value.now) (borrowed_view c.in-Some.list.now) c.wrong.result c.under.result (sym c.in-Some.ensures) (sym c.in_default-as_array.ensures) c.wrong.ensures c.under.ensures

pub modules_member-module_of-module-requires : goal.modules_member-module_of-module-requires
modules_member-module_of-module-requires t c =
    let are : AreItems (get c.args.key.now (borrowed_view c.args.value.now)) c.in-Some-as_array.items.now = items-there _ (borrowed_view c.in-Some.list.now) c.in-Some-as_array.items.now (sym c.in-Some.ensures) (sym c.in-Some-as_array.ensures) in
    let low : depth (borrowed_view c.index-items-index.result) < depth (borrowed_view c.args.value.now) =
    item-deep c.args.key.now (borrowed_view c.args.value.now) c.in-Some-as_array.items.now c.loop-index.index c.index-items-index.result are c.loop-index-test.true c.index-items-index.is in
    (omega arith, tt)

pub module_of-returns-clause-ok : goal.module_of-returns-clause-ok
module_of-returns-clause-ok t c =
    let d = borrowed_view c.args.value.now in
    IfOk-keyed (λ m. package_module_in d ≡ Some (package_module_view m)) (has_only package_module_keys d) c.only.result c.module_members-members.result c.only.ensures.keys c.only.ensures.ok
    (IfOk-weaker c.module_members-members.result _ _ (λ m h known. module-whole d (package_module_view m) known h) c.module_members-members.ensures.ok)

pub module_of-returns-clause-place : goal.module_of-returns-clause-place
module_of-returns-clause-place t c =
    let d = borrowed_view c.args.value.now in
    IfErr-weaker c.only.result _ (Locates a_package_module d)
    (λ e told. of-only (Locates a_package_module d) (has_only package_module_keys d) c.module_members-members.result e told
    (λ unknown is. Locates-here a_package_module d e is (inl unknown))
    (IfErr-weaker c.module_members-members.result (LocatesModuleMember d) (Locates a_package_module d) (λ x h. module-fault d x h) c.module_members-members.ensures.place))
    c.only.ensures.place

pub module_members-returns-in-Ok-clause-ok : goal.module_members-returns-in-Ok-clause-ok
module_members-returns-in-Ok-clause-ok t c =
    let all = c.in-Ok.ensures.ok in
    let others = part _ c.both.result all.1 c.both.ensures.ok in
    let x : PackageModule-F PackageModule = record { name = c.in-Ok.name; unit = c.in-Ok.content.0; modules = c.in-Ok.content.1 } in
    module_with-read (borrowed_view c.args.value.now) _ _ _ (part _ c.name_member-name.result all.0 c.name_member-name.ensures.ok) (part _ c.unit_member-unit.result others.0 c.unit_member-unit.ensures.ok) (part _ c.modules_member-modules.result others.1 c.modules_member-modules.ensures.ok)
    ∙ ap Some (sym (module-made x))

pub module_members-returns-in-Err-clause-place : goal.module_members-returns-in-Err-clause-place
module_members-returns-in-Err-clause-place t c =
    let d = borrowed_view c.args.value.now in
    either (LocatesModuleMember d) c.name_member-name.result c.both.result c.in-Err.error c.in-Err.ensures.place
    (IfErr-weaker c.name_member-name.result _ (LocatesModuleMember d) (λ e h. IfPlace-more _ (IsModuleMemberBroken d) e (λ p broken. inl broken) h) c.name_member-name.ensures.place)
    (of-both (LocatesModuleMember d) c.both.result c.unit_member-unit.result c.modules_member-modules.result c.both.ensures.place
    (IfErr-weaker c.unit_member-unit.result _ (LocatesModuleMember d) (λ e h. IfPlace-more _ (IsModuleMemberBroken d) e (λ p broken. inr (inl broken)) h) c.unit_member-unit.ensures.place)
    (IfErr-weaker c.modules_member-modules.result _ (LocatesModuleMember d) (λ e h. IfPlace-more _ (IsModuleMemberBroken d) e (λ p broken. inr (inr broken)) h) c.modules_member-modules.ensures.place))
