use Rattle.std.proofs.Common.{◌≡◌, sym, subst, ap}
use Rattle.std.specs.Prelude.{Vec}
use Rattle.std.specs.declared.alloc.Global.{Global}
use Rattle.wesl_tree_names.specs.Path.{Path, path_view}
use Rattle.wesl_tree_names.specs.declared.path.ModulePath.{ModulePath}
use Rattle.wesl_tree_syntax.specs.Unit.{spelled}
use Rattle.wesl_tree.specs.Translation.{unit_view}
use Rattle.wesl_link_tables.specs.Marks.{AreMarked}
use Rattle.wesl_link_tables.specs.Tables.{table_at, uses}
use Rattle.wesl_tree_base.specs.declared.ids.NameId.{NameId}
use Rattle.wesl_link_tables.specs.Numbering.{AreRelated, NameAt, IsNumbered}
use Rattle.wesl_link_tables.specs.declared.table.Tabled.{Tabled}
use Rattle.wesl_link_tables.specs.NumbersView.{numbering}
use Rattle.wesl_link_tables.proofs.Lists.{related_more}
use Rattle.wesl_link_tables.proofs.Related.{name_later}
use Rattle.wesl_link_engine.specs.Asking.{request_view, kept_of}
use Rattle.wesl_link_engine.specs.Worlds.{Module}
use Rattle.wesl_link_engine.proofs.Told.{ok_told}
use Rattle.wesl_link_engine.proofs.resolve.root_of.Goals as goal

pub returns-clause-root : goal.returns-clause-root
returns-clause-root c =
    let nb = numbering c.table_of.new.numbers in
    let same = ok_told (λ (p : ModulePath). path_view p ≡ path_view c.args.request.now.root.now) c.try_clone.result c.in-Some-ok.own c.in-Some-ok.ensures.value c.try_clone.ensures.equal in
    let numbered = ok_told (λ (t : Tabled). IsNumbered nb t.table (table_at (path_view c.args.request.now.root.now) (spelled (unit_view c.args.unit)))) c.table_of.result c.in-Some-ok-4.field-0 c.in-Some-ok-4.ensures.value c.table_of.ensures.numbered in
    subst (λ (p : Path). IsNumbered nb c.in-Some-ok-4.field-0.table (table_at p (spelled (unit_view c.args.unit)))) (sym same) numbered

pub returns-clause-marked : goal.returns-clause-marked
returns-clause-marked c =
    let nb = numbering c.table_of.new.numbers in
    let same = ok_told (λ (p : ModulePath). path_view p ≡ path_view c.args.request.now.root.now) c.try_clone.result c.in-Some-ok.own c.in-Some-ok.ensures.value c.try_clone.ensures.equal in
    let marked = ok_told (λ (t : Tabled). AreMarked nb t.marks.items (uses (path_view c.args.request.now.root.now) (spelled (unit_view c.args.unit)))) c.table_of.result c.in-Some-ok-4.field-0 c.in-Some-ok-4.ensures.value c.table_of.ensures.marked in
    subst (λ (p : Path). AreMarked nb c.in-Some-ok-4.field-0.marks.items (uses p (spelled (unit_view c.args.unit)))) (sym same) marked

pub returns-clause-kept : goal.returns-clause-kept
returns-clause-kept c =
    let a = numbering c.kept_numbers.new.numbers in
    let b = numbering c.table_of.new.numbers in
    let keep = kept_of (request_view c.args.request.now) in
    let numbered = ok_told (λ (ids : Vec NameId Global). AreRelated (NameAt a) ids.items keep) c.kept_numbers.result c.in-Some-ok-2.kept c.in-Some-ok-2.ensures.value c.kept_numbers.ensures.numbered in
    related_more (NameAt a) (NameAt b) (name_later a b c.table_of.ensures.grows) c.in-Some-ok-2.kept.items keep numbered

pub returns-clause-module : goal.returns-clause-module
returns-clause-module c =
    let same = ok_told (λ (p : ModulePath). path_view p ≡ path_view c.args.request.now.root.now) c.try_clone.result c.in-Some-ok.own c.in-Some-ok.ensures.value c.try_clone.ensures.equal in
    let at : Path → Module = λ p. record { path = p; unit = spelled (unit_view c.args.unit) } in
    ap at same
