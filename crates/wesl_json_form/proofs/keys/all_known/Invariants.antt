use Rattle.std.proofs.Common.{◌≡◌, drop, map}
use Rattle.wesl_json_form.specs.Keys.{keys_beside}
use Rattle.wesl_json_form.proofs.Known.{keys_known}
use Rattle.wesl_json_form.proofs.keys.all_known.Given as goal

abbrev pub invariant-loop-member : goal.invariant-loop-member
invariant-loop-member l =
    keys_known (keys_beside l.beside l.extra (map (λ k. k.now) l.known)) l.members ≡ keys_known (keys_beside l.beside l.extra (map (λ k. k.now) l.known)) (drop l.member-index l.members)
