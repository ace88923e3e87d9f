use Rattle.std.proofs.Common.{◌≡◌, ◌∙◌, sym, ap, List, drop, Some, option_map}
use Rattle.wesl_tree_names.specs.Path.{Text, origin_view}
use Rattle.wesl_mangle_forms.specs.Escape.{item_below}
use Rattle.wesl_mangle_forms.specs.Unicode.{read_origin_words}
use Rattle.wesl_tree_base.specs.Borrowed.{texts}
use Rattle.wesl_mangle_forms.specs.Views.{origin_before}
use Rattle.wesl_mangle_forms.proofs.Places.{from_place-texts}
use Rattle.wesl_mangle_forms.proofs.Words.{words-step}
use Rattle.wesl_mangle_forms.proofs.Writing.{IfOk-to}
use Rattle.wesl_mangle_forms.proofs.ununicode.item_of_words.Goals as goal

pub returns-in-Some : goal.returns-in-Some
returns-in-Some c =
    let l = c.args.words.now in
    let ws : List Text = texts l in
    let rest = drop c.in-Some.taken ws in
    let o = origin_view c.in-Some.origin in
    let r : read_origin_words ws ≡ Some (o, rest) = sym c.in_ok-origin.ensures.read ∙ ap (option_map (origin_before ws)) c.in-Some.is in
    let e = ap (item_below o) (from_place-texts c.in-Some.taken l) in
    IfOk-to _ _ (λ _ h. h ∙ e ∙ sym (words-step (read_origin_words ws) o rest r)) c.item_of.result (c.item_of.ensures _ c.copied.ensures)
