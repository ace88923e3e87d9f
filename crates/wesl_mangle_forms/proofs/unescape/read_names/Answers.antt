use Rattle.std.proofs.Common.{◌+◌, ◌-◌, ◌∷◌, [], ◌∙◌, ap, List, drop, map, option_map, string_bytes, arith}
use Rattle.std.proofs.lemmas.List.{map-append}
use Rattle.wesl_tree_names.specs.Path.{Text}
use Rattle.wesl_mangle_forms.specs.Escape.{read_names}
use Rattle.wesl_tree_base.specs.Borrowed.{texts}
use Rattle.wesl_tree_syntax.specs.View.{texts_of}
use Rattle.wesl_mangle_forms.proofs.Places.{none-at, some-at, within-at, some-none, some-more, onto_names}
use Rattle.wesl_mangle_forms.proofs.unescape.read_names.Goals as goal

pub returns-in_default-clause-read : goal.returns-in_default-clause-read
returns-in_default-clause-read c =
    let l = c.args.pieces.now in
    let n = c.loop-done.place in
    some-none (texts_of c.loop-done.names) (drop n (texts l)) (c.args.many - c.loop-done._done) _ (omega (arith, c.loop-done-test.true))
    (none-at n l c.in_ok-name.field-0 c.in_ok-name.ensures.read c.in_default.is) c.loop-done.invariant.read

pub loop-done-preserved : goal.loop-done-preserved
loop-done-preserved c =
    let l = c.args.pieces.now in
    let n = c.loop-done.place in
    let rest = drop (n + c.in-Some.taken) (texts l) in
    let j = c.args.many - (c.loop-done._done + 1) in
    let v = ap (map string_bytes) c.in_ok-push.ensures.items ∙ map-append string_bytes c.loop-done.names.items (c.in-Some.name ∷ []) in
    record {
      within = within-at n l c.in_ok-name.field-0 c.in-Some.name c.in-Some.taken c.loop-done.invariant.within c.in-Some.is c.in_ok-name.ensures.within;
      read = ap (λ (ns : List Text). option_map (onto_names ns) (read_names j rest)) v
          ∙ some-more (texts_of c.loop-done.names) (drop n (texts l)) (c.args.many - c.loop-done._done) j (string_bytes c.in-Some.name) rest _ (omega (arith, c.loop-done-test.true))
          (some-at n l c.in_ok-name.field-0 c.in-Some.name c.in-Some.taken c.in_ok-name.ensures.read c.in-Some.is) c.loop-done.invariant.read;
    }
