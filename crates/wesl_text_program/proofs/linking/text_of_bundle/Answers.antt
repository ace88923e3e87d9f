use Rattle.std.proofs.Common.{ap, map, option_map, refl, string_bytes}
use Rattle.std.proofs.lemmas.Result.{IfOk-weaker, IfErr-weaker}
use Rattle.wesl_program_bundle.specs.Views.{bundle_view, features_view}
use Rattle.wesl_text_program.proofs.Bundles.{memory-refused}
use Rattle.wesl_text_program.proofs.linking.text_of_bundle.Goals as goal

pub returns-clause-linked : goal.returns-clause-linked
returns-clause-linked c =
    IfOk-weaker c.text_of_sources.result _ _
    (λ t h. h (bundle_view c.args.bundle) (record { held = c.in-Ok.ensures.held; answers = ap (option_map features_view) c.as_ref.ensures.value; root_is = refl; kept = ap (map string_bytes) c.deref.ensures.value; asked = refl; listed = refl }))
    c.text_of_sources.ensures.linked

pub returns-clause-refused : goal.returns-clause-refused
returns-clause-refused c =
    IfErr-weaker c.text_of_sources.result _ _
    (λ e h. h (bundle_view c.args.bundle) (record { held = c.in-Ok.ensures.held; answers = ap (option_map features_view) c.as_ref.ensures.value; root_is = refl; kept = ap (map string_bytes) c.deref.ensures.value; asked = refl; listed = refl }))
    c.text_of_sources.ensures.refused

pub returns-in_default-clause-refused : goal.returns-in_default-clause-refused
returns-in_default-clause-refused c = memory-refused (bundle_view c.args.bundle) c.args.bundle.features refl c.memory_wanted.result c.memory_wanted.ensures
