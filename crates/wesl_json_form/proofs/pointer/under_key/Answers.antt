use Rattle.std.proofs.Common.{◌≡◌, ◌∷◌, ◌++◌, flat_map, map, ap, sym, ◌∙◌, refl, List, ℕ, []}
use Rattle.std.specs.Str.{chars}
use Rattle.std.proofs.lemmas.Iterator.{YieldsList-from_chars}
use Rattle.std.proofs.lemmas.Iterator.Consumers.{YieldsList-end}
use Rattle.wesl_json_form.specs.Pointer.{escaped, escaped_char}
use Rattle.wesl_json_form.proofs.pointer.under_key.Goals as goal

same : (xs : List ℕ) → map (λ c. c) xs ≡ xs
same [] = refl
same (x ∷ xs) = ap (λ r. x ∷ r) (same xs)

pub returns : goal.returns
unfolding escaped
returns c =
    let all = YieldsList-end (YieldsList-from_chars c.args.key.now c.utf8.key cc) c.loop-c.yielded _ c.loop-c.yielded_by _ _ c.in-None.is c.next.ensures.steps in
    let yielded : c.loop-c.yielded ≡ chars c.args.key.now = sym (same c.loop-c.yielded) ∙ all.0 in
    c.in_ok-push_str.ensures.bytes ∙ ap (λ t. t ++ c.args.place.now) (c.loop-c.invariant ∙ ap (λ cs. 47 ∷ flat_map escaped_char cs) yielded)
