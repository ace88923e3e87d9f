use Rattle.std.proofs.Common.{◌≡◌, take}
use Rattle.wesl_tree_names.specs.Path.{Text, Path, path_view}
use Rattle.wesl_link_tables.specs.TextsView.{numbering_of_texts as numbering}
use Rattle.wesl_link_engine.specs.Given.{SameVariants}
use Rattle.wesl_link_engine.specs.GivenView.{given}
use Rattle.wesl_link_engine.specs.Recorded.{HasNone, all_written, writes_of, firsts, declared_texts}
use Rattle.wesl_link_engine.proofs.Giving.{Names}
use Rattle.wesl_link_engine.proofs.given.GivenNames.add_table.Given as goal

abbrev pub invariant-loop-declaration : goal.invariant-loop-declaration
invariant-loop-declaration g l = record {
  names : Names (numbering l.numbers) (g.M.Mangler.name_of l.initial.mangler (path_view l.path)) l.table.path (take l.declaration-index l.declaration-items) (given l.initial.self) (given l.self);
  recorded : HasNone l.table.path (given l.initial.self) → (x : Text) → g.M.Mangler.recorded l.mangler x
      ≡ all_written (g.M.Mangler.writes l.initial.mangler) (writes_of (g.M.Mangler.name_of l.initial.mangler) (path_view l.path) (firsts (declared_texts (numbering l.numbers) (take l.declaration-index l.declaration-items)))) (g.M.Mangler.recorded l.initial.mangler) x;
  same : (p : Path) (i : Text) → g.M.Mangler.name_of l.mangler p i ≡ g.M.Mangler.name_of l.initial.mangler p i;
  same_variants : SameVariants (g.M.Mangler.variant_of l.initial.mangler) (g.M.Mangler.variant_of l.mangler);
  same_writing : g.M.Mangler.writes l.mangler ≡ g.M.Mangler.writes l.initial.mangler;
}
