use Rattle.std.proofs.Common.{◌≡◌}
use Rattle.wesl_tree_names.specs.Path.{path_view}
use Rattle.wesl_tree_syntax.specs.Unit.{spelled}
use Rattle.wesl_tree.specs.Translation.{unit_view}
use Rattle.wesl_link_engine.proofs.Entries.{puts}
use Rattle.wesl_link_tables.specs.Marks.{AreMarked}
use Rattle.wesl_link_tables.specs.Tables.{table_at, uses}
use Rattle.wesl_link_tables.specs.Numbering.{IsNumbered}
use Rattle.wesl_link_tables.specs.NumbersView.{numbering}
use Rattle.wesl_link_tables.specs.declared.table.Tabled.{Tabled}
use Rattle.wesl_link_engine.specs.Taking.{path_eq}
use Rattle.wesl_link_engine.specs.declared.loaded.Held.{Held}
use Rattle.wesl_link_engine.proofs.Kept.{path_same, path_own}
use Rattle.wesl_link_engine.proofs.Told.{ok_told, ok_on}
use Rattle.wesl_link_engine.proofs.modules.keep.Goals as goal

pub returns-in-Some-ok-clause-kept : goal.returns-in-Some-ok-clause-kept
returns-in-Some-ok-clause-kept c =
    let q = path_view c.args.path.now in
    let u = spelled (unit_view c.args.unit) in
    let nb = numbering c.table_of.new.numbers in
    let t = c.in-Some.field-0 in
    let held : Held = record { unit = c.args.unit; marks = t.marks } in
    record {
      marks = t.marks;
      path = ok_told (λ (x : Tabled). x.table.path ≡ c.args.id) c.table_of.result t c.in-Some.ensures.value c.table_of.ensures.path;
      numbered = ok_told (λ (x : Tabled). IsNumbered nb x.table (table_at q u)) c.table_of.result t c.in-Some.ensures.value c.table_of.ensures.numbered;
      marked = ok_told (λ (x : Tabled). AreMarked nb x.marks.items (uses q u)) c.table_of.result t c.in-Some.ensures.value c.table_of.ensures.marked;
      puts = puts path_eq path_same c.args.id held path_own c.args.units.now.entries c.insert.new.self.entries (ok_on c.insert.result c.in-Some-ok.field-0 c.in-Some-ok.ensures.value c.insert.ensures.entries) c.insert.ensures.unique;
    }
