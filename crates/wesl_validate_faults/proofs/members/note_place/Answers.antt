use Rattle.std.proofs.Common.{◌≡◌, ◌∙◌, ◌++◌, ◌∷◌, [], ap, subst}
use Rattle.wesl_scope_values.specs.Walks.{SetsFirst}
use Rattle.wesl_validate_faults.proofs.Ringed.{set_one}
use Rattle.wesl_validate_faults.proofs.members.note_place.Goals as goal

pub returns : goal.returns
returns c = λ m.
    let is = c.in_ok-push.ensures.items ∙ ap (λ ns. ns ++ c.args.number ∷ []) c.new-nodes.ensures.items in
    set_one c.args.number c.args.place m c.args.firsts.now.items c.set_all_first.new.values.items (subst (λ ns. SetsFirst ns c.args.place c.args.firsts.now.items c.set_all_first.new.values.items) is c.in_ok-set_all_first.ensures)
