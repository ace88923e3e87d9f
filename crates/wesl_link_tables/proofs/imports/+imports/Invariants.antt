use Rattle.std.proofs.Common.{◌≡◌, drop, map}
use Rattle.wesl_tree_syntax.specs.Tree.{forest_of}
use Rattle.wesl_tree_syntax.specs.View.{entry_view}
use Rattle.wesl_link_tables.specs.Base.{IsKnownBase, base_view}
use Rattle.wesl_link_tables.specs.Numbering.{IsLonger}
use Rattle.wesl_link_tables.specs.NumbersView.{paths_of}
use Rattle.wesl_link_tables.specs.Walks.{HavePaths, import_view, imported}
use Rattle.wesl_link_tables.proofs.imports.+imports.Given as goal

abbrev pub invariant-add_entries-loop-entry : goal.invariant-add_entries-loop-entry
invariant-add_entries-loop-entry l = record {
  found : imported l.stands l.published (base_view (paths_of l.initial.paths) l.base) (map (import_view (paths_of l.initial.paths)) l.initial.found.items) (forest_of (map entry_view l.entry-items))
      ≡ imported l.stands l.published (base_view (paths_of l.initial.paths) l.base) (map (import_view (paths_of l.paths)) l.found.items) (forest_of (map entry_view (drop l.entry-index l.entry-items)));
  base : IsKnownBase (paths_of l.paths) l.base;
  known : HavePaths (paths_of l.paths) l.found.items;
  grows : IsLonger (paths_of l.initial.paths) (paths_of l.paths);
}
