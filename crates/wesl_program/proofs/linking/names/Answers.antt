use Rattle.std.proofs.Common.{◌≡◌, ◌<◌, List, map, ◌∷◌, [], ◌++◌, take, length, get_or, sym, ap, ◌∙◌, string_bytes, rules}
use Rattle.std.proofs.lemmas.List.{take_more, map-append}
use Rattle.wesl_tree_base.specs.Borrowed.{texts}
use Rattle.wesl_tree_names.specs.Path.{Text}
use Rattle.wesl_program.proofs.linking.names.Goals as goal

pub loop-name-preserved : goal.loop-name-preserved
loop-name-preserved c =
    let i = c.loop-name.name-index in
    let ks = c.args.keep.now in
    let name = c.name-item.result in
    let low : i < length ks = search rules in
    let here : name ≡ get_or ks i name = search rules in
    let value : c.as_str.result.now ≡ string_bytes name = c.as_str.ensures.value in
    ap texts c.in_ok-push.ensures.items
    ∙ map-append (λ x. x.now) c.loop-name.names.items (c.as_str.result ∷ [])
    ∙ ap (λ (xs : List Text). xs ++ c.as_str.result.now ∷ []) c.loop-name.invariant
    ∙ ap (λ (t : Text). map string_bytes (take i ks) ++ t ∷ []) value
    ∙ sym (map-append string_bytes (take i ks) (name ∷ []))
    ∙ sym (ap (map string_bytes) (take_more ks i name low ∙ ap (λ x. take i ks ++ x ∷ []) (sym here)))
