use Rattle.std.proofs.Common.{◌<◌, Some, map, codes, refl, sym, ap, ◌∙◌, inl, arith, rules}
use Rattle.std.proofs.lemmas.Result.{IfErr-weaker, IfOk-weaker}
use Rattle.serde_json.specs.Data.{depth}
use Rattle.serde_json.specs.Find.{get}
use Rattle.wesl_json_form.specs.View.{borrowed_view}
use Rattle.wesl_program_bundle.specs.Broken.{Locates}
use Rattle.wesl_program_bundle.specs.Forms.{a_list_of, a_package, optional}
use Rattle.wesl_program_bundle.specs.PackageViews.{package_view}
use Rattle.wesl_program_bundle.specs.Packages.{package_in, package_keys}
use Rattle.wesl_program_bundle.specs.Parts.{LocatesModuleMember}
use Rattle.wesl_json_form.specs.Keys.{has_only}
use Rattle.wesl_program_bundle.specs.declared.packages.Package.{Package}
use Rattle.wesl_program_bundle.specs.declared.packages.Package.TheOpen.{Package-F}
use Rattle.wesl_program_bundle.proofs.Together.{of-both, of-field, of-only, part}
use Rattle.wesl_program_bundle.proofs.Listed.{package-made, package-whole, packages-of-list}
use Rattle.wesl_program_bundle.proofs.Lists.{AreItems, all-read, item-deep, items-there, list-fault, no-list, none-read, one-read}
use Rattle.wesl_program_bundle.proofs.Places.{Locates-here, package-fault}
use Rattle.wesl_program_bundle.proofs.packages.+packages.Goals as goal

pub packages_member-loop-index-init : goal.packages_member-loop-index-init
packages_member-loop-index-init t c = none-read package_view package_in a_package c.args.key.now (borrowed_view c.args.value.now) c.in-Some-as_array.items.now c.new-2.result (search rules)

pub packages_member-loop-index-preserved : goal.packages_member-loop-index-preserved
packages_member-loop-index-preserved t c =
    let vs = c.in-Some-as_array.items.now in
    let are : AreItems (get c.args.key.now (borrowed_view c.args.value.now)) c.in-Some-as_array.items.now = items-there _ (borrowed_view c.in-Some.list.now) c.in-Some-as_array.items.now (sym c.in-Some.ensures) (sym c.in-Some-as_array.ensures) in
    one-read package_view package_in a_package c.args.key.now (borrowed_view c.args.value.now) vs are c.loop-index.index c.loop-index.packages c.loop-index.invariant c.index-items-index.result c.loop-index-test.true c.index-items-index.is c.package_of-package.result c.package_of-package.ensures.ok c.package_of-package.ensures.place c.with_item-packages.result c.with_item-packages.ensures.ok c.with_item-packages.ensures.place

pub packages_member-returns-clause-ok : goal.packages_member-returns-clause-ok
packages_member-returns-clause-ok t c =
    let vs = c.in-Some-as_array.items.now in
    let are : AreItems (get c.args.key.now (borrowed_view c.args.value.now)) c.in-Some-as_array.items.now = items-there _ (borrowed_view c.in-Some.list.now) c.in-Some-as_array.items.now (sym c.in-Some.ensures) (sym c.in-Some-as_array.ensures) in
    IfOk-weaker c.inside.result _ _ (λ xs h. packages-of-list (get c.args.key.now (borrowed_view c.args.value.now)) (map package_view xs.items) h) (all-read package_view package_in a_package c.args.key.now (borrowed_view c.args.value.now) vs are c.loop-index.index c.loop-index.packages c.loop-index.invariant c.loop-index-test.false c.inside.result c.inside.ensures.ok)

pub packages_member-returns-clause-place : goal.packages_member-returns-clause-place
packages_member-returns-clause-place t c =
    let vs = c.in-Some-as_array.items.now in
    let are : AreItems (get c.args.key.now (borrowed_view c.args.value.now)) c.in-Some-as_array.items.now = items-there _ (borrowed_view c.in-Some.list.now) c.in-Some-as_array.items.now (sym c.in-Some.ensures) (sym c.in-Some-as_array.ensures) in
    list-fault package_view package_in a_package c.args.key.now (borrowed_view c.args.value.now) vs are c.loop-index.index c.loop-index.packages c.loop-index.invariant c.inside.result c.inside.ensures.place

pub packages_member-returns-in_default-as_array-clause-place : goal.packages_member-returns-in_default-as_array-clause-place
packages_member-returns-in_default-as_array-clause-place t c = no-list a_package c.args.key.now (borrowed_view c.args.value.now) (borrowed_view c.in-Some.list.now) c.wrong.result c.under.result (sym c.in-Some.ensures) (sym c.in_default-as_array.ensures) c.wrong.ensures c.under.ensures

pub packages_member-package_of-package-requires : goal.packages_member-package_of-package-requires
packages_member-package_of-package-requires t c =
    let are : AreItems (get c.args.key.now (borrowed_view c.args.value.now)) c.in-Some-as_array.items.now = items-there _ (borrowed_view c.in-Some.list.now) c.in-Some-as_array.items.now (sym c.in-Some.ensures) (sym c.in-Some-as_array.ensures) in
    let low : depth (borrowed_view c.index-items-index.result) < depth (borrowed_view c.args.value.now) =
    item-deep c.args.key.now (borrowed_view c.args.value.now) c.in-Some-as_array.items.now c.loop-index.index c.index-items-index.result are c.loop-index-test.true c.index-items-index.is in
    (omega arith, tt)

pub package_of-returns-in-Ok-clause-ok : goal.package_of-returns-in-Ok-clause-ok
package_of-returns-in-Ok-clause-ok t c =
    let d = borrowed_view c.args.value.now in
    let parts = part _ c.both.result c.in-Ok.ensures.ok c.both.ensures.ok in
    let x : Package-F Package = record { root = c.in-Ok.root; dependencies = c.in-Ok.dependencies } in
    package-whole d _ _ c.in-Ok.ensures.keys (part _ c.module_members-root.result parts.0 c.module_members-root.ensures.ok) (part _ c.packages_member-dependencies.result parts.1 c.packages_member-dependencies.ensures.ok)
    ∙ ap Some (sym (package-made x))

pub package_of-returns-in-Err-clause-place : goal.package_of-returns-in-Err-clause-place
package_of-returns-in-Err-clause-place t c =
    let d = borrowed_view c.args.value.now in
    of-only (Locates a_package d) (has_only package_keys d) c.both.result c.in-Err.error c.in-Err.ensures.place
    (λ unknown is. Locates-here a_package d c.in-Err.error is (inl unknown))
    (of-both (Locates a_package d) c.both.result c.module_members-root.result c.packages_member-dependencies.result c.both.ensures.place
    (IfErr-weaker c.module_members-root.result (LocatesModuleMember d) (Locates a_package d) (λ x h. package-fault d x h) c.module_members-root.ensures.place)
    (of-field a_package (optional (codes "dependencies") (a_list_of a_package)) d c.packages_member-dependencies.result (λ w. w) refl c.packages_member-dependencies.ensures.place))
