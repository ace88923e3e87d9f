use Rattle.std.proofs.Common.{◌≡◌, map, drop}
use Rattle.wesl_tree_base.specs.Borrowed.{texts}
use Rattle.wesl_scope_occurrences.specs.Views.{occurrence_view}
use Rattle.wesl_validate_free.specs.Free.{each_once}
use Rattle.wesl_validate_free.specs.Gathered.{unknown_names}
use Rattle.wesl_validate_free.proofs.Once.{more}
use Rattle.wesl_validate_free.proofs.gather.unknown_names.Given as goal

abbrev pub invariant-loop-occurrence : goal.invariant-loop-occurrence
invariant-loop-occurrence l = more (texts l.free.keys) (unknown_names l.known.items l.names (map occurrence_view (drop l.occurrence-index l.found.all.items))) ≡ each_once (unknown_names l.known.items l.names (map occurrence_view l.found.all.items))
