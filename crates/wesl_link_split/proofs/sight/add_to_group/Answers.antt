use Rattle.std.proofs.Common.{◌≡◌, ◌∙◌, ◌++◌, ◌∷◌, [], ap, arith, subst, sym}
use Rattle.std.specs.Prelude.{if◌then◌else◌}
use Rattle.wesl_link_split.specs.Grouped.{AreGrouped}
use Rattle.wesl_link_split.proofs.Grouping.{held_at, get_below, name_at, grouped_there, grouped_first}
use Rattle.wesl_link_split.proofs.sight.add_to_group.Goals as goal

pub index_mut-requires : goal.index_mut-requires
index_mut-requires c =
    let ns = c.args.names.now.keys in
    let at = name_at c.args.binder.now.bound ns c.in-Some.index (sym c.in-Some.ensures.index) in
    omega (arith, get_below ns c.in-Some.index c.args.binder.now.bound at, c.requires, c.args.groups.now.ok.0)

pub returns-in-Some : goal.returns-in-Some
returns-in-Some c = λ bs h.
    let ns = c.args.names.now.keys in
    let gs = c.args.groups.now.items in
    let b = c.args.binder.now in
    let k = c.in-Some.index in
    let at = name_at b.bound ns k (sym c.in-Some.ensures.index) in
    let below = get_below ns k b.bound at in
    grouped_there bs ns gs b h k c.index_mut.result.now c.push.new.self at (held_at gs k c.index_mut.result.now (omega (arith, below, h.long)) c.index_mut.ensures.value) c.in_ok-push.ensures.items

pub returns : goal.returns
returns c = λ bs h.
    let ns = c.args.names.now.keys in
    let gs = c.args.groups.now.items in
    let b = c.args.binder.now in
    let none = sym c.in_default.ensures.found in
    let names : c.insert.new.self.keys ≡ ns ++ b.bound ∷ [] = c.in_ok-insert.ensures.keys ∙ ap (λ x. if x then ns else ns ++ b.bound ∷ []) none in
    let group : c.push-2.new.self.items ≡ b ∷ [] = c.in_ok-push-2.ensures.items ∙ ap (λ l. l ++ b ∷ []) c.new-group.ensures.items in
    subst (λ ms. AreGrouped (bs ++ b ∷ []) ms c.push-3.new.self.items) (sym names)
    (subst (λ hs. AreGrouped (bs ++ b ∷ []) (ns ++ b.bound ∷ []) hs) (sym c.in_ok-push-3.ensures.items) (grouped_first bs ns gs b h c.push-2.new.self none group))
