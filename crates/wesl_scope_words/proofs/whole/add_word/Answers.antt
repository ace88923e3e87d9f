use Rattle.std.proofs.Common.{◌++◌, ◌∷◌, [], ◌∙◌, map, ap}
use Rattle.std.specs.Option.{option_map, option_to_list}
use Rattle.std.proofs.lemmas.List.{map_push}
use Rattle.wesl_scope_words.specs.Captured.{clash_view}
use Rattle.wesl_scope_words.specs.Finding.{look, seen, told}
use Rattle.wesl_scope_words.proofs.whole.add_word.Goals as goal

pub returns-in_ok-push-in-Some : goal.returns-in_ok-push-in-Some
returns-in_ok-push-in-Some c =
    let old = c.args.clashes.now.items in
    let f = look c.args.rivals.now in
    let v = seen c.args.outer.now c.args.variable.now in
    ap (map clash_view) c.in_ok-push-in-Some.ensures.items
    ∙ (map_push clash_view old c.clash.result
    ∙ (ap (λ x. map clash_view old ++ x ∷ []) (c.clash.ensures c.args.outer.now f)
    ∙ ap (λ o. map clash_view old ++ option_to_list (option_map (told c.args.names.now f v c.args.word.now) o)) c.in-Some.ensures))
