use Rattle.std.proofs.Common.{◌≡◌, false, arith, rules}
use Rattle.std.proofs.lemmas.Grind.{common_steps}
use Rattle.serde_json.specs.Written.{has_float}
use Rattle.wesl_json_form.specs.View.{borrowed_view}
use Rattle.wesl_program_bundle.proofs.Wholes.{whole-member, whole-turn}
use Rattle.wesl_program_bundle.proofs.floats.+whole.Goals as goal

pub are_whole-loop-item-preserved : goal.are_whole-loop-item-preserved
are_whole-loop-item-preserved t c =
    let whole : has_float (borrowed_view c.item-item.result) ≡ false = grind (arith, common_steps) in
    whole-turn c.args.items.now c.loop-item.item-index c.item-item.result (search rules) (search rules) c.loop-item.invariant whole

pub have_whole-loop-member-preserved : goal.have_whole-loop-member-preserved
have_whole-loop-member-preserved t c =
    let whole : has_float (borrowed_view c.member-item.result.1) ≡ false = grind (arith, common_steps) in
    whole-member c.args.members.now c.loop-member.member-index c.member-item.result (search rules) (search rules) c.loop-member.invariant whole
