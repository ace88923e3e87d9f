use Rattle.std.proofs.Common.{Some, option_map, inl, refl, ap, codes}
use Rattle.wesl_json_form.specs.View.{borrowed_view}
use Rattle.wesl_program_bundle.specs.Broken.{Locates}
use Rattle.wesl_program_bundle.specs.Builtins.{builtins_keys}
use Rattle.wesl_program_bundle.specs.Forms.{a_list_of, a_text, optional, some_builtins}
use Rattle.wesl_json_form.specs.Keys.{has_only}
use Rattle.wesl_program_bundle.proofs.Together.{of-both, of-field, of-only, part}
use Rattle.wesl_program_bundle.proofs.Places.{Locates-here}
use Rattle.wesl_program_bundle.proofs.Readings.{builtins-read}
use Rattle.wesl_program_bundle.proofs.builtins.builtins_of.Goals as goal

pub returns-in-Ok-clause-ok : goal.returns-in-Ok-clause-ok
returns-in-Ok-clause-ok c =
    let all = part _ c.both-2.result c.in-Ok.ensures.ok c.both-2.ensures.ok in
    let others = part _ c.both.result all.1 c.both.ensures.ok in
    ap (option_map Some) (builtins-read (borrowed_view c.args.value.now) _ _ _ c.in-Ok.ensures.keys (part _ c.texts_member-names.result all.0 c.texts_member-names.ensures.ok) (part _ c.texts_member-functions.result others.0 c.texts_member-functions.ensures.ok) (part _ c.texts_member-constructors.result others.1 c.texts_member-constructors.ensures.ok))

pub returns-in-Err-clause-place : goal.returns-in-Err-clause-place
returns-in-Err-clause-place c =
    let d = borrowed_view c.args.value.now in
    of-only (Locates some_builtins d) (has_only builtins_keys d) c.both-2.result c.in-Err.error c.in-Err.ensures.place
    (λ unknown is. Locates-here some_builtins d c.in-Err.error is (inl unknown))
    (of-both (Locates some_builtins d) c.both-2.result c.texts_member-names.result c.both.result c.both-2.ensures.place
    (of-field some_builtins (optional (codes "names") (a_list_of a_text)) d c.texts_member-names.result (λ w. w) refl c.texts_member-names.ensures.place)
    (of-both (Locates some_builtins d) c.both.result c.texts_member-functions.result c.texts_member-constructors.result c.both.ensures.place
    (of-field some_builtins (optional (codes "functions") (a_list_of a_text)) d c.texts_member-functions.result (λ w. w) refl c.texts_member-functions.ensures.place)
    (of-field some_builtins (optional (codes "constructors") (a_list_of a_text)) d c.texts_member-constructors.result (λ w. w) refl c.texts_member-constructors.ensures.place)))
