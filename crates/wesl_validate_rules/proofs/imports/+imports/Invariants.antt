use Rattle.std.proofs.Common.{◌≡◌, drop, map}
use Rattle.wesl_tree_syntax.specs.Tree.{forest_of}
use Rattle.wesl_tree_syntax.specs.View.{entry_view}
use Rattle.wesl_validate_rules.specs.Gathered.{gathered}
use Rattle.wesl_validate_rules.proofs.imports.+imports.Given as goal

abbrev pub invariant-loop-entry : goal.invariant-loop-entry
invariant-loop-entry l = gathered l.initial.numbers.items (forest_of (map entry_view l.entry-items)) ≡ gathered l.numbers.items (forest_of (map entry_view (drop l.entry-index l.entry-items)))
