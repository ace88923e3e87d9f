use Rattle.std.proofs.Common.{◌+◌, ◌++◌, ◌∷◌, [], ◌∙◌, ap, List, length, drop, map, option_map, string_bytes, arith, length-drop}
use Rattle.std.proofs.lemmas.List.{length-map, map-append}
use Rattle.wesl_tree_names.specs.Path.{Text}
use Rattle.wesl_mangle_forms.specs.Escape.{read_all_names}
use Rattle.wesl_tree_base.specs.Borrowed.{texts}
use Rattle.wesl_tree_syntax.specs.View.{texts_of}
use Rattle.wesl_mangle_forms.proofs.Names.{read_name-shorter}
use Rattle.wesl_mangle_forms.proofs.Places.{none-at, some-at, within-at, all-none, all-more}
use Rattle.wesl_mangle_forms.proofs.unescape.read_all_names.Goals as goal

pub returns-in_default : goal.returns-in_default
returns-in_default c =
    let l = c.args.pieces.now in
    let n = c.loop-place.place in
    let m = length-map l (λ x. x.now) in
    let d = length-drop n (texts l) in
    all-none (texts_of c.loop-place.names) (drop n (texts l)) _ (omega (arith, m, d, c.loop-place-test.true))
    (none-at n l c.in_ok-name.field-0 c.in_ok-name.ensures.read c.in_default.is) c.loop-place.invariant.read

pub loop-place-smaller : goal.loop-place-smaller
loop-place-smaller c =
    let l = c.args.pieces.now in
    let n = c.loop-place.place in
    let m = length-map l (λ x. x.now) in
    let d = length-drop n (texts l) in
    let k = length-drop (n + c.in-Some.taken) (texts l) in
    let s = read_name-shorter (drop n (texts l)) _ _ (omega (arith, m, d, c.loop-place-test.true)) (some-at n l c.in_ok-name.field-0 c.in-Some.name c.in-Some.taken c.in_ok-name.ensures.read c.in-Some.is) in
    omega (arith, m, d, k, s, c.loop-place-test.true)

pub loop-place-preserved : goal.loop-place-preserved
loop-place-preserved c =
    let l = c.args.pieces.now in
    let n = c.loop-place.place in
    let m = length-map l (λ x. x.now) in
    let d = length-drop n (texts l) in
    let rest = drop (n + c.in-Some.taken) (texts l) in
    let v = ap (map string_bytes) c.in_ok-push.ensures.items ∙ map-append string_bytes c.loop-place.names.items (c.in-Some.name ∷ []) in
    record {
      within = within-at n l c.in_ok-name.field-0 c.in-Some.name c.in-Some.taken c.loop-place.invariant.within c.in-Some.is c.in_ok-name.ensures.within;
      read = ap (λ (ns : List Text). option_map (λ more. ns ++ more) (read_all_names (length rest) rest)) v
          ∙ all-more (texts_of c.loop-place.names) (drop n (texts l)) (string_bytes c.in-Some.name) rest _ (omega (arith, m, d, c.loop-place-test.true))
          (some-at n l c.in_ok-name.field-0 c.in-Some.name c.in-Some.taken c.in_ok-name.ensures.read c.in-Some.is) c.loop-place.invariant.read;
    }
