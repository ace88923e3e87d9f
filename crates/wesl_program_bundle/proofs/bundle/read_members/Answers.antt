use Rattle.std.proofs.Common.{◌≡◌, false, inl, refl, codes}
use Rattle.wesl_json_form.specs.View.{borrowed_view}
use Rattle.wesl_tree_names.specs.Path.{is_relative, path_view}
use Rattle.wesl_program_bundle.specs.Broken.{Locates}
use Rattle.wesl_program_bundle.specs.Bundle.{bundle_keys}
use Rattle.wesl_program_bundle.specs.Forms.{a_bundle, a_list_of, a_module, a_name, a_package, a_path, optional, required, some_builtins, some_features}
use Rattle.wesl_json_form.specs.Keys.{has_only}
use Rattle.wesl_program_bundle.proofs.Together.{of-both, of-field, of-only, part}
use Rattle.wesl_program_bundle.proofs.Places.{Locates-here}
use Rattle.wesl_program_bundle.proofs.Readings.{bundle-read}
use Rattle.wesl_program_bundle.proofs.bundle.read_members.Goals as goal

pub returns-in-Ok-clause-ok : goal.returns-in-Ok-clause-ok
returns-in-Ok-clause-ok c =
    let all = part _ c.both-4.result c.in-Ok.ensures.ok c.both-4.ensures.ok in
    let sources = part _ c.both-sources.result all.0 c.both-sources.ensures.ok in
    let named = part _ c.both.result sources.0 c.both.ensures.ok in
    let listed = part _ c.both-2.result sources.1 c.both-2.ensures.ok in
    let settings = part _ c.both-settings.result all.1 c.both-settings.ensures.ok in
    let others = part _ c.both-3.result settings.1 c.both-3.ensures.ok in
    bundle-read (borrowed_view c.args.value.now) _ _ _ _ _ _ _ c.in-Ok.ensures.keys
    (part _ c.path_member-root.result named.0 c.path_member-root.ensures.ok)
    (part _ c.texts_member-keep.result named.1 c.texts_member-keep.ensures.ok)
    (part _ c.modules_member-modules.result listed.0 c.modules_member-modules.ensures.ok)
    (part _ c.packages_member-packages.result listed.1 c.packages_member-packages.ensures.ok)
    (part _ c.features_member-features.result settings.0 c.features_member-features.ensures.ok)
    (part _ c.read_options-options.result others.0 c.read_options-options.ensures.ok)
    (part _ c.builtins_member-builtins.result others.1 c.builtins_member-builtins.ensures.ok)

pub returns-in-Ok-clause-fixed : goal.returns-in-Ok-clause-fixed
returns-in-Ok-clause-fixed c =
    let all = part _ c.both-4.result c.in-Ok.ensures.ok c.both-4.ensures.ok in
    let sources = part _ c.both-sources.result all.0 c.both-sources.ensures.ok in
    let named = part _ c.both.result sources.0 c.both.ensures.ok in
    part (λ p. is_relative (path_view p) ≡ false) c.path_member-root.result named.0 c.path_member-root.ensures.fixed

pub returns-in-Err-clause-place : goal.returns-in-Err-clause-place
returns-in-Err-clause-place c =
    let d = borrowed_view c.args.value.now in
    of-only (Locates a_bundle d) (has_only bundle_keys d) c.both-4.result c.in-Err.error c.in-Err.ensures.place
    (λ unknown is. Locates-here a_bundle d c.in-Err.error is (inl unknown))
    (of-both (Locates a_bundle d) c.both-4.result c.both-sources.result c.both-settings.result c.both-4.ensures.place
    (of-both (Locates a_bundle d) c.both-sources.result c.both.result c.both-2.result c.both-sources.ensures.place
    (of-both (Locates a_bundle d) c.both.result c.path_member-root.result c.texts_member-keep.result c.both.ensures.place
    (of-field a_bundle (required (codes "root") a_path) d c.path_member-root.result (λ w. w) refl c.path_member-root.ensures.place)
    (of-field a_bundle (optional (codes "keep") (a_list_of a_name)) d c.texts_member-keep.result (λ w. w) refl c.texts_member-keep.ensures.place))
    (of-both (Locates a_bundle d) c.both-2.result c.modules_member-modules.result c.packages_member-packages.result c.both-2.ensures.place
    (of-field a_bundle (optional (codes "modules") (a_list_of a_module)) d c.modules_member-modules.result (λ w. w) refl c.modules_member-modules.ensures.place)
    (of-field a_bundle (optional (codes "packages") (a_list_of a_package)) d c.packages_member-packages.result (λ w. w) refl c.packages_member-packages.ensures.place)))
    (of-both (Locates a_bundle d) c.both-settings.result c.features_member-features.result c.both-3.result c.both-settings.ensures.place
    (of-field a_bundle (optional (codes "features") some_features) d c.features_member-features.result (λ w. w) refl c.features_member-features.ensures.place)
    (of-both (Locates a_bundle d) c.both-3.result c.read_options-options.result c.builtins_member-builtins.result c.both-3.ensures.place
    c.read_options-options.ensures.place
    (of-field a_bundle (optional (codes "builtins") some_builtins) d c.builtins_member-builtins.result (λ w. w) refl c.builtins_member-builtins.ensures.place))))
