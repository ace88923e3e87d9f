use Rattle.std.proofs.Common.{◌≡◌, drop, map}
use Rattle.wesl_cond_alive.specs.Sound.{is_rest_sound}
use Rattle.wesl_cond_alive.specs.Views.{outline_view}
use Rattle.wesl_cond_alive.proofs.outline.is_rest_sound.Given as goal

abbrev pub invariant-loop-node : goal.invariant-loop-node
invariant-loop-node l = is_rest_sound l.fn.opened (map outline_view l.nodes) ≡ is_rest_sound l.opened (map outline_view (drop l.node-index l.nodes))
