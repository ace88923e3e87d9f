use Rattle.std.proofs.Common.{◌≡◌, List, length, subst, sym, rules}
use Rattle.wesl_link_reach.specs.Trodden.{AreNoted}
use Rattle.wesl_link_reach.proofs.Noting.{first_noted, step_noted, place_noted, step_here}
use Rattle.wesl_link_reach.proofs.trodden.Trodden.push.Goals as goal

pub invariant_of-self : goal.invariant_of-self
invariant_of-self c =
    let n : c.len-place.result ≡ length c.self.inside.steps.items = search rules in
    first_noted _ _ _ n c.self.invariant c.note_first.ensures.kept

pub invariant_of-self-in_err-push : goal.invariant_of-self-in_err-push
invariant_of-self-in_err-push c =
    let n : c.len-place.result ≡ length c.self.inside.steps.items = search rules in
    subst (λ (ys : List _). AreNoted ys c.self.inside.places.entries c.note_first.new.firsts.entries) (sym c.in_err-push.ensures.items)
    (first_noted _ _ _ n c.self.invariant c.note_first.ensures.kept)

pub invariant_of-self-in_err-note : goal.invariant_of-self-in_err-note
invariant_of-self-in_err-note c =
    let n : c.len-place.result ≡ length c.self.inside.steps.items = search rules in
    subst (λ (ps : List _). AreNoted c.push.new.self.items ps c.note_first.new.firsts.entries) (sym c.in_err-note.ensures.stays)
    (step_noted c.args.look_up c.args.symbol _ c.in_ok-push.ensures.items (first_noted _ _ _ n c.self.invariant c.note_first.ensures.kept) (rw c.question.ensures at c.in_ok-note_first.ensures.noted))

pub invariant_of-self-2 : goal.invariant_of-self-2
invariant_of-self-2 c =
    let n : c.len-place.result ≡ length c.self.inside.steps.items = search rules in
    place_noted c.args.look_up c.args.symbol c.len-place.result _ (step_here _ _ c.args.look_up c.args.symbol c.len-place.result n c.in_ok-push.ensures.items)
    (step_noted c.args.look_up c.args.symbol _ c.in_ok-push.ensures.items (first_noted _ _ _ n c.self.invariant c.note_first.ensures.kept) (rw c.question.ensures at c.in_ok-note_first.ensures.noted)) c.in_ok-note.ensures.puts
