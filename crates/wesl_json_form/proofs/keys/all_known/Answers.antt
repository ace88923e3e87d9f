use Rattle.std.proofs.Common.{◌≡◌, ◌+◌, true, false, ◌&&◌, drop, map, drop_of_length-le, sym, ap, ◌∙◌, rules}
use Rattle.wesl_json_form.specs.Keys.{keys_beside}
use Rattle.wesl_json_form.specs.View.{key_text}
use Rattle.wesl_json_form.proofs.Known.{is_known, keys_known, known-members, known-next}
use Rattle.wesl_json_form.proofs.keys.all_known.Goals as goal

pub returns-then-not-is_among : goal.returns-then-not-is_among
returns-then-not-is_among c =
    let known = keys_beside c.args.beside c.args.extra.now (map (λ k. k.now) c.args.known.now) in
    let items = c.args.members.now in
    let left = drop (c.loop-member.member-index + 1) items in
    let unknown : is_known known (key_text c.member-item.result.0) ≡ false = search rules in
    let next = known-next known items c.loop-member.member-index c.member-item.result c.loop-member-test.true c.member-item.is in
    let none : keys_known known items ≡ false = c.loop-member.invariant ∙ next ∙ ap (λ b. b && keys_known known left) unknown in
    sym none ∙ known-members known items

pub loop-member-preserved : goal.loop-member-preserved
loop-member-preserved c =
    let known = keys_beside c.args.beside c.args.extra.now (map (λ k. k.now) c.args.known.now) in
    let items = c.args.members.now in
    let left = drop (c.loop-member.member-index + 1) items in
    let is : is_known known (key_text c.member-item.result.0) ≡ true = search rules in
    let next = known-next known items c.loop-member.member-index c.member-item.result c.loop-member-test.true c.member-item.is in
    c.loop-member.invariant ∙ next ∙ ap (λ b. b && keys_known known left) is

pub returns : goal.returns
returns c =
    let known = keys_beside c.args.beside c.args.extra.now (map (λ k. k.now) c.args.known.now) in
    let items = c.args.members.now in
    let all : keys_known known items ≡ true = c.loop-member.invariant ∙ ap (keys_known known) (drop_of_length-le items c.loop-member-test.false) in
    sym all ∙ known-members known items
