use Rattle.std.proofs.Common.{◌≡◌, ◌++◌, [], drop}
use Rattle.wesl_tree_syntax.specs.Unit.{UnitView, numbers}
use Rattle.wesl_validate_faults.specs.Gathered.{firsts_view, repeated_view}
use Rattle.wesl_validate_faults.specs.Repeated.{again_after, names_at}
use Rattle.wesl_validate_faults.proofs.twice.add_all_repeated.Given as goal

abbrev pub invariant-loop-place : goal.invariant-loop-place
invariant-loop-place l =
    (u : UnitView) → l.names ≡ u.names → l.given.items ≡ numbers u
    → repeated_view l.repeated.items ++ again_after (firsts_view l.firsts.entries) (names_at u (drop l.place-index l.places.items))
    ≡ repeated_view l.initial.repeated.items ++ again_after [] (names_at u l.places.items)
