use Rattle.std.proofs.Common.{◌≡◌, ◌∙◌, sym, ap, List, length, drop, Some, option_map}
use Rattle.std.specs.Prelude.{option_and_then}
use Rattle.wesl_tree_names.specs.Path.{Text, origin_view}
use Rattle.wesl_mangle_forms.specs.Escape.{read_origin, read_all_names, item_below}
use Rattle.wesl_tree_base.specs.Borrowed.{texts}
use Rattle.wesl_mangle_forms.specs.Views.{origin_before}
use Rattle.wesl_mangle_forms.proofs.Places.{from_place-texts, whole}
use Rattle.wesl_mangle_forms.proofs.Writing.{IfOk-to}
use Rattle.wesl_mangle_forms.proofs.unescape.unescaped.Goals as goal

pub returns-in-Some : goal.returns-in-Some
returns-in-Some c =
    let l = c.args.pieces.now in
    let ps : List Text = texts l in
    let rest = drop c.in-Some.taken ps in
    let o = origin_view c.in-Some.origin in
    let r : read_origin ps ≡ Some (o, rest) = sym c.in_ok-origin.ensures.read ∙ ap (option_map (origin_before ps)) c.in-Some.is in
    let e = ap (λ (xs : List Text). option_and_then (item_below o) (read_all_names (length xs) xs)) (from_place-texts c.in-Some.taken l) in
    IfOk-to _ _ (λ _ h. h ∙ e ∙ sym (whole ps o rest r)) c.item_of.result (c.item_of.ensures _ c.read_all_names.ensures)
