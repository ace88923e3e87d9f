use Rattle.std.proofs.Common.{◌++◌, map, ap, sym, ◌∙◌}
use Rattle.std.specs.Option.{option_map, option_to_list}
use Rattle.std.proofs.lemmas.List.{append-nil, map_push}
use Rattle.wesl_scope_clashes.specs.Clashes.{clash_view}
use Rattle.wesl_scope_clashes.proofs.whole.keep.Goals as goal

pub returns-in_ok-push-in-Some : goal.returns-in_ok-push-in-Some
returns-in_ok-push-in-Some c =
    let old = c.args.clashes.now.items in
    ap (map clash_view) c.in_ok-push-in-Some.ensures.items ∙ (map_push clash_view old c.in-Some.found ∙ sym (ap (λ o. map clash_view old ++ option_to_list (option_map clash_view o)) c.in-Some.is))

pub returns-in-None : goal.returns-in-None
returns-in-None c =
    let old = c.args.clashes.now.items in
    sym (ap (λ o. map clash_view old ++ option_to_list (option_map clash_view o)) c.in-None.is ∙ append-nil (map clash_view old))
