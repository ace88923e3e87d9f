use Rattle.std.proofs.Common.{◌≡◌, ◌∷◌, [], length, string_bytes, ap, sym, arith, ◌∙◌}
use Rattle.std.specs.List.{join_by}
use Rattle.wesl_link_paths.proofs.Joined.{named_package, some_names}
use Rattle.wesl_link_paths.proofs.numbers.PathNumbers.origin.Goals as goal

pub returns : goal.returns
returns c =
    let names = c.in_ok-names.names in
    let count : names.len ≡ length names.items = omega (arith, names.ok.0) in
    let filled = sym c.is_empty.ensures ∙ c.if-is_empty.false in
    named_package (λ x. x.now) names.items _ (string_bytes c.in_ok-join.field-0) c.in_ok-names.ensures (some_names names.len names.items count filled)
    (c.in_ok-join.ensures.ok ∙ ap (join_by (λ x. x.now) (47 ∷ [])) c.as_slice.ensures.value)
