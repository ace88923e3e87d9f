use Rattle.std.proofs.Common.{◌≡◌, List, drop, subst, sym, ap, ◌∙◌}
use Rattle.wesl_tree_names.specs.Path.{path_view}
use Rattle.wesl_tree_names.specs.Errors.{IsBare}
use Rattle.wesl_tree_syntax.specs.Unit.{spelled}
use Rattle.wesl_tree.specs.Translation.{unit_view}
use Rattle.wesl_tree_base.specs.declared.ids.NameId.{NameId}
use Rattle.wesl_link_symbols.specs.Tables.{Table}
use Rattle.wesl_link_tables.specs.Tables.{table_at}
use Rattle.wesl_link_tables.specs.Numbering.{Numbering, Grows, AreRelated}
use Rattle.wesl_link_tables.specs.NumbersView.{numbering}
use Rattle.wesl_link_tables.specs.TextsView.{numbering_of_texts}
use Rattle.wesl_link_tables.specs.declared.numbers.Numbers.{Numbers}
use Rattle.wesl_link_symbols.specs.declared.ids.PathId.{PathId}
use Rattle.wesl_link_reach.specs.Linking.{IsLinked, task_of}
use Rattle.wesl_link_reach.specs.Refusal.{IsExplained}
use Rattle.wesl_link_engine.specs.Handing.{Keeps, StaysOne, IsHandedTable, IsRefusedPath}
use Rattle.wesl_link_engine.specs.Resolved.{module_at}
use Rattle.wesl_link_engine.specs.Keeping.{resolved, IsLinkOf, task_in}
use Rattle.wesl_link_engine.specs.declared.link.Link.{Link}
use Rattle.wesl_link_engine.specs.Taking.{IsTaken}
use Rattle.wesl_link_engine.specs.Worlds as worlds
use Rattle.wesl_link_engine.specs.Worlds.{IsRefused}
use Rattle.wesl_link_engine.proofs.Found.{kept_left, once_left, some_left}
use Rattle.wesl_link_engine.proofs.Sound as sound
use Rattle.wesl_link_engine.proofs.Reaching.{reach_numbers, reach_refused}
use Rattle.wesl_link_engine.proofs.Holding.{IsFoundBy, found_by, sound_by}
use Rattle.wesl_link_engine.proofs.Refusing.{told_by, memory_told}
use Rattle.wesl_link_engine.proofs.Readying.{keeps_nothing, ready_table}
use Rattle.wesl_link_engine.proofs.resolve.reach_modules.Goals as goal

pub link_table-requires : goal.link_table-requires
link_table-requires g c =
    let first = numbering c.args.modules.now.numbers.now in
    let start : Keeps (g.R.Resolver.hands c.args.modules.now.resolver.now) (g.R.Resolver.refuses c.args.modules.now.resolver.now) g.S.Source.hands g.S.Source.refuses g.S.Source.first first c.args.modules.now.units.now.entries =
    keeps_nothing (g.R.Resolver.hands c.args.modules.now.resolver.now) g.S.Source.hands (g.R.Resolver.refuses c.args.modules.now.resolver.now) g.S.Source.refuses g.S.Source.first first c.args.modules.now.units.now.entries c.requires.follows c.requires.first c.requires.nothing in
    ready_table ((g.R.Resolver.ready c.args.modules.now.resolver.now × StaysOne g.R.Resolver.hands g.R.Resolver.refuses g.R.Resolver.source g.R.Resolver.lacks g.R.Resolver.shown g.S.Source.these g.S.Source.loan c.args.modules.now.resolver.now c.args.modules.now.resolver.ghost_name) × Keeps (g.R.Resolver.hands c.args.modules.now.resolver.now) (g.R.Resolver.refuses c.args.modules.now.resolver.now) g.S.Source.hands g.S.Source.refuses g.S.Source.first first c.args.modules.now.units.now.entries) ((c.requires.ready, c.requires.stays), start) first c.args.tabled.table
    (table_at (path_view c.args.tabled.root.path) (spelled (unit_view c.args.tabled.root.unit))) c.requires.root

pub found_of-requires-clause-some : goal.found_of-requires-clause-some
found_of-requires-clause-some g c =
    let first = numbering c.args.modules.now.numbers.now in
    let start : Keeps (g.R.Resolver.hands c.args.modules.now.resolver.now) (g.R.Resolver.refuses c.args.modules.now.resolver.now) g.S.Source.hands g.S.Source.refuses g.S.Source.first first c.args.modules.now.units.now.entries =
    keeps_nothing (g.R.Resolver.hands c.args.modules.now.resolver.now) g.S.Source.hands (g.R.Resolver.refuses c.args.modules.now.resolver.now) g.S.Source.refuses g.S.Source.first first c.args.modules.now.units.now.entries c.requires.follows c.requires.first c.requires.nothing in
    let end = c.link_table.new.loader in
    let there = (c.link_table.ensures.adds.ready c.args.tabled.table.path ((path_view c.args.tabled.root.path, c.requires.root.path), ((c.requires.ready, c.requires.stays), start))).1 in
    let numbers = c.replace-numbers.result in
    let moved : end.numbers.now ≡ numbers = sym c.replace-numbers.ensures.value in
    let nb = numbering numbers in
    let kept : Keeps (g.R.Resolver.hands end.resolver.now) (g.R.Resolver.refuses end.resolver.now) g.S.Source.hands g.S.Source.refuses g.S.Source.first nb end.units.now.entries =
    subst (λ (n : Numbers). Keeps (g.R.Resolver.hands end.resolver.now) (g.R.Resolver.refuses end.resolver.now) g.S.Source.hands g.S.Source.refuses g.S.Source.first (numbering n) end.units.now.entries) moved there.1 in
    let grown : Grows first nb = subst (λ (x : Numbering). Grows x nb) c.requires.first kept.grows in
    let rm = module_at c.args.tabled.root.path c.args.tabled.root.unit in
    let named = subst (λ (ks : List NameId). IsLinked (IsHandedTable g.S.Source.hands (numbering end.numbers.now) end.units.now.entries) (IsRefusedPath g.S.Source.refuses (numbering end.numbers.now)) c.args.tabled.table (task_of c.args.tabled.table ks c.args.tabled.root.is_eager) c.args.max_modules c.in-Ok.linked) c.requires.again c.in-Ok.ensures.linked in
    let linked = subst (λ (n : Numbers). IsLinked (IsHandedTable g.S.Source.hands (numbering n) end.units.now.entries) (IsRefusedPath g.S.Source.refuses (numbering n)) c.args.tabled.table (task_of c.args.tabled.table c.args.tabled.root.kept.items c.args.tabled.root.is_eager) c.args.max_modules c.in-Ok.linked) moved named in
    let ts = linked.root_first.0 in
    let is = linked.root_first.1 in
    some_left first nb grown g.S.Source.hands g.S.Source.refuses end.units.now.entries kept.one_unit c.args.tabled.table rm c.requires.root numbers.paths.different numbers.names.different numbers.paths.asked c.args.tabled.root.kept.items c.requires.kept.0 c.requires.kept.1 c.args.tabled.root.is_eager c.args.max_modules c.in-Ok.linked linked ts is

pub found_of-requires-clause-left : goal.found_of-requires-clause-left
found_of-requires-clause-left g c =
    let first = numbering c.args.modules.now.numbers.now in
    let start : Keeps (g.R.Resolver.hands c.args.modules.now.resolver.now) (g.R.Resolver.refuses c.args.modules.now.resolver.now) g.S.Source.hands g.S.Source.refuses g.S.Source.first first c.args.modules.now.units.now.entries =
    keeps_nothing (g.R.Resolver.hands c.args.modules.now.resolver.now) g.S.Source.hands (g.R.Resolver.refuses c.args.modules.now.resolver.now) g.S.Source.refuses g.S.Source.first first c.args.modules.now.units.now.entries c.requires.follows c.requires.first c.requires.nothing in
    let end = c.link_table.new.loader in
    let there = (c.link_table.ensures.adds.ready c.args.tabled.table.path ((path_view c.args.tabled.root.path, c.requires.root.path), ((c.requires.ready, c.requires.stays), start))).1 in
    let numbers = c.replace-numbers.result in
    let moved : end.numbers.now ≡ numbers = sym c.replace-numbers.ensures.value in
    let nb = numbering numbers in
    let kept : Keeps (g.R.Resolver.hands end.resolver.now) (g.R.Resolver.refuses end.resolver.now) g.S.Source.hands g.S.Source.refuses g.S.Source.first nb end.units.now.entries =
    subst (λ (n : Numbers). Keeps (g.R.Resolver.hands end.resolver.now) (g.R.Resolver.refuses end.resolver.now) g.S.Source.hands g.S.Source.refuses g.S.Source.first (numbering n) end.units.now.entries) moved there.1 in
    let grown : Grows first nb = subst (λ (x : Numbering). Grows x nb) c.requires.first kept.grows in
    let rm = module_at c.args.tabled.root.path c.args.tabled.root.unit in
    let named = subst (λ (ks : List NameId). IsLinked (IsHandedTable g.S.Source.hands (numbering end.numbers.now) end.units.now.entries) (IsRefusedPath g.S.Source.refuses (numbering end.numbers.now)) c.args.tabled.table (task_of c.args.tabled.table ks c.args.tabled.root.is_eager) c.args.max_modules c.in-Ok.linked) c.requires.again c.in-Ok.ensures.linked in
    let linked = subst (λ (n : Numbers). IsLinked (IsHandedTable g.S.Source.hands (numbering n) end.units.now.entries) (IsRefusedPath g.S.Source.refuses (numbering n)) c.args.tabled.table (task_of c.args.tabled.table c.args.tabled.root.kept.items c.args.tabled.root.is_eager) c.args.max_modules c.in-Ok.linked) moved named in
    let ts = linked.root_first.0 in
    let is = linked.root_first.1 in
    kept_left first nb grown g.S.Source.hands g.S.Source.refuses end.units.now.entries kept.one_unit c.args.tabled.table rm c.requires.root numbers.paths.different numbers.names.different numbers.paths.asked c.args.tabled.root.kept.items c.requires.kept.0 c.requires.kept.1 c.args.tabled.root.is_eager c.args.max_modules c.in-Ok.linked linked ts is

pub found_of-requires-clause-once : goal.found_of-requires-clause-once
found_of-requires-clause-once g c =
    let first = numbering c.args.modules.now.numbers.now in
    let start : Keeps (g.R.Resolver.hands c.args.modules.now.resolver.now) (g.R.Resolver.refuses c.args.modules.now.resolver.now) g.S.Source.hands g.S.Source.refuses g.S.Source.first first c.args.modules.now.units.now.entries =
    keeps_nothing (g.R.Resolver.hands c.args.modules.now.resolver.now) g.S.Source.hands (g.R.Resolver.refuses c.args.modules.now.resolver.now) g.S.Source.refuses g.S.Source.first first c.args.modules.now.units.now.entries c.requires.follows c.requires.first c.requires.nothing in
    let end = c.link_table.new.loader in
    let there = (c.link_table.ensures.adds.ready c.args.tabled.table.path ((path_view c.args.tabled.root.path, c.requires.root.path), ((c.requires.ready, c.requires.stays), start))).1 in
    let numbers = c.replace-numbers.result in
    let moved : end.numbers.now ≡ numbers = sym c.replace-numbers.ensures.value in
    let nb = numbering numbers in
    let kept : Keeps (g.R.Resolver.hands end.resolver.now) (g.R.Resolver.refuses end.resolver.now) g.S.Source.hands g.S.Source.refuses g.S.Source.first nb end.units.now.entries =
    subst (λ (n : Numbers). Keeps (g.R.Resolver.hands end.resolver.now) (g.R.Resolver.refuses end.resolver.now) g.S.Source.hands g.S.Source.refuses g.S.Source.first (numbering n) end.units.now.entries) moved there.1 in
    let grown : Grows first nb = subst (λ (x : Numbering). Grows x nb) c.requires.first kept.grows in
    let rm = module_at c.args.tabled.root.path c.args.tabled.root.unit in
    let named = subst (λ (ks : List NameId). IsLinked (IsHandedTable g.S.Source.hands (numbering end.numbers.now) end.units.now.entries) (IsRefusedPath g.S.Source.refuses (numbering end.numbers.now)) c.args.tabled.table (task_of c.args.tabled.table ks c.args.tabled.root.is_eager) c.args.max_modules c.in-Ok.linked) c.requires.again c.in-Ok.ensures.linked in
    let linked = subst (λ (n : Numbers). IsLinked (IsHandedTable g.S.Source.hands (numbering n) end.units.now.entries) (IsRefusedPath g.S.Source.refuses (numbering n)) c.args.tabled.table (task_of c.args.tabled.table c.args.tabled.root.kept.items c.args.tabled.root.is_eager) c.args.max_modules c.in-Ok.linked) moved named in
    let ts = linked.root_first.0 in
    let is = linked.root_first.1 in
    once_left first nb grown g.S.Source.hands g.S.Source.refuses end.units.now.entries kept.one_unit c.args.tabled.table rm c.requires.root numbers.paths.different numbers.names.different numbers.paths.asked c.args.tabled.root.kept.items c.requires.kept.0 c.requires.kept.1 c.args.tabled.root.is_eager c.args.max_modules c.in-Ok.linked linked ts is

pub diagnostic_of-requires : goal.diagnostic_of-requires
diagnostic_of-requires g c =
    let first = numbering c.args.modules.now.numbers.now in
    let start : Keeps (g.R.Resolver.hands c.args.modules.now.resolver.now) (g.R.Resolver.refuses c.args.modules.now.resolver.now) g.S.Source.hands g.S.Source.refuses g.S.Source.first first c.args.modules.now.units.now.entries =
    keeps_nothing (g.R.Resolver.hands c.args.modules.now.resolver.now) g.S.Source.hands (g.R.Resolver.refuses c.args.modules.now.resolver.now) g.S.Source.refuses g.S.Source.first first c.args.modules.now.units.now.entries c.requires.follows c.requires.first c.requires.nothing in
    let end = c.link_table.new.loader in
    let there = (c.link_table.ensures.adds.ready c.args.tabled.table.path ((path_view c.args.tabled.root.path, c.requires.root.path), ((c.requires.ready, c.requires.stays), start))).1 in
    let nb = numbering end.numbers.now in
    let kept : Keeps (g.R.Resolver.hands end.resolver.now) (g.R.Resolver.refuses end.resolver.now) g.S.Source.hands g.S.Source.refuses g.S.Source.first nb end.units.now.entries = there.1 in
    let grown : Grows first nb = subst (λ (x : Numbering). Grows x nb) c.requires.first kept.grows in
    let rm = module_at c.args.tabled.root.path c.args.tabled.root.unit in
    let explained = subst (λ (ks : List NameId). IsExplained (IsHandedTable g.S.Source.hands nb end.units.now.entries) (IsRefusedPath g.S.Source.refuses nb) c.args.tabled.table (task_of c.args.tabled.table ks c.args.tabled.root.is_eager) c.args.max_modules c.in-Err.fault) c.requires.again c.in-Err.ensures.refused in
    reach_numbers first nb grown g.S.Source.hands g.S.Source.refuses end.units.now.entries kept.one_unit c.args.tabled.table rm c.requires.root end.numbers.now.paths.different end.numbers.now.names.different end.numbers.now.paths.asked c.args.tabled.root.kept.items c.requires.kept.0 c.requires.kept.1 c.args.tabled.root.is_eager c.args.max_modules c.in-Err.fault explained

pub returns-in-Ok-found_of-clause-reached : goal.returns-in-Ok-found_of-clause-reached
returns-in-Ok-found_of-clause-reached g c =
    let r = c.in-Ok-found_of.found in
    let h = c.in-Ok-found_of.ensures.found in
    let first = numbering c.args.modules.now.numbers.now in
    let start : Keeps (g.R.Resolver.hands c.args.modules.now.resolver.now) (g.R.Resolver.refuses c.args.modules.now.resolver.now) g.S.Source.hands g.S.Source.refuses g.S.Source.first first c.args.modules.now.units.now.entries =
    keeps_nothing (g.R.Resolver.hands c.args.modules.now.resolver.now) g.S.Source.hands (g.R.Resolver.refuses c.args.modules.now.resolver.now) g.S.Source.refuses g.S.Source.first first c.args.modules.now.units.now.entries c.requires.follows c.requires.first c.requires.nothing in
    let end = c.link_table.new.loader in
    let there = (c.link_table.ensures.adds.ready c.args.tabled.table.path ((path_view c.args.tabled.root.path, c.requires.root.path), ((c.requires.ready, c.requires.stays), start))).1 in
    let l = h.link in
    let numbers = l.numbers in
    let told : numbering c.replace-numbers.result ≡ numbering_of_texts numbers = sym h.texts in
    let moved : numbering end.numbers.now ≡ numbering_of_texts numbers = sym (ap numbering c.replace-numbers.ensures.value) ∙ told in
    let nb = numbering_of_texts numbers in
    let kept : Keeps (g.R.Resolver.hands end.resolver.now) (g.R.Resolver.refuses end.resolver.now) g.S.Source.hands g.S.Source.refuses g.S.Source.first nb end.units.now.entries =
    subst (λ (n : Numbering). Keeps (g.R.Resolver.hands end.resolver.now) (g.R.Resolver.refuses end.resolver.now) g.S.Source.hands g.S.Source.refuses g.S.Source.first n end.units.now.entries) moved there.1 in
    let grown : Grows first nb = subst (λ (x : Numbering). Grows x nb) c.requires.first kept.grows in
    let named = subst (λ (ks : List NameId). IsLinked (IsHandedTable g.S.Source.hands (numbering end.numbers.now) end.units.now.entries) (IsRefusedPath g.S.Source.refuses (numbering end.numbers.now)) c.args.tabled.table (task_of c.args.tabled.table ks c.args.tabled.root.is_eager) c.args.max_modules c.in-Ok.linked) c.requires.again c.in-Ok.ensures.linked in
    let linked = subst (λ (n : Numbering). IsLinked (IsHandedTable g.S.Source.hands n end.units.now.entries) (IsRefusedPath g.S.Source.refuses n) c.args.tabled.table (task_of c.args.tabled.table c.args.tabled.root.kept.items c.args.tabled.root.is_eager) c.args.max_modules c.in-Ok.linked) moved named in
    let ts = linked.root_first.0 in
    let is = linked.root_first.1 in
    let (ms, rel, same, sorted) = h.others in
    let taken : AreRelated (IsTaken nb end.units.now.entries ts) ts ms = subst (λ (xs : List (Table PathId NameId)). AreRelated (IsTaken nb end.units.now.entries (drop 1 xs)) (drop 1 xs) ms) is (subst (λ (n : Numbering). AreRelated (IsTaken n end.units.now.entries (drop 1 c.in-Ok.linked.tables)) (drop 1 c.in-Ok.linked.tables) ms) told rel) in
    let by_link = found_by r l h.holds h.none_given in
    let found = subst (λ (x : Link). IsFoundBy x (resolved r)) h.rest by_link in
    record {
      linked = λ keep kept_so. sound.linked_told numbers first grown g.S.Source.hands g.S.Source.refuses end.units.now.entries kept.one_unit kept.handed_out c.args.tabled.table c.args.tabled.root.path c.args.tabled.root.unit c.args.tabled.root.marks c.requires.root c.requires.marked c.args.tabled.root.kept keep kept_so c.args.tabled.root.is_eager c.args.max_modules c.in-Ok.linked linked ts is ms l.others taken same (resolved r) found;
      order = sound.order_told numbers first grown g.S.Source.hands g.S.Source.refuses end.units.now.entries kept.one_unit kept.handed_out c.args.tabled.table c.args.tabled.root.path c.args.tabled.root.unit c.args.tabled.root.marks c.requires.root c.requires.marked c.args.tabled.root.kept c.requires.kept.0 c.requires.kept.1 c.args.tabled.root.is_eager c.args.max_modules c.in-Ok.linked linked ts is ms l.others taken same (resolved r) found sorted;
      kept = λ keep kept_so. sound.kept_told numbers first grown g.S.Source.hands g.S.Source.refuses end.units.now.entries kept.one_unit kept.handed_out c.args.tabled.table c.args.tabled.root.path c.args.tabled.root.unit c.args.tabled.root.marks c.requires.root c.requires.marked c.args.tabled.root.kept keep kept_so c.args.tabled.root.is_eager c.args.max_modules c.in-Ok.linked linked ts is ms l.others taken same (resolved r) found;
      eager = by_link.eager ∙ ap (λ (x : Link). x.is_eager) h.rest;
      sound = sound_by r l h.holds (subst (λ (x : Link). IsLinkOf (task_in x) x) (sym h.rest) (sound.sound numbers first grown g.S.Source.hands g.S.Source.refuses end.units.now.entries kept.one_unit kept.handed_out c.args.tabled.table c.args.tabled.root.path c.args.tabled.root.unit c.args.tabled.root.marks c.requires.root c.requires.marked c.args.tabled.root.kept c.requires.kept.0 c.requires.kept.1 c.args.tabled.root.is_eager c.args.max_modules c.in-Ok.linked linked ts is ms l.others taken same));
      names = by_link.names;
    }

pub returns-in-Err-found_of-clause-refused : goal.returns-in-Err-found_of-clause-refused
returns-in-Err-found_of-clause-refused g c = λ keep same. memory_told (IsRefused g.S.Source.hands g.S.Source.refuses (module_at c.args.tabled.root.path c.args.tabled.root.unit) (worlds.task_of (module_at c.args.tabled.root.path c.args.tabled.root.unit) keep c.args.tabled.root.is_eager) c.args.max_modules) c.of.result (subst (λ e. IsBare e c.of.result) c.in-Err-found_of.ensures.refused c.of.ensures)

pub returns-in-Err-clause-refused : goal.returns-in-Err-clause-refused
returns-in-Err-clause-refused g c =
    let first = numbering c.args.modules.now.numbers.now in
    let start : Keeps (g.R.Resolver.hands c.args.modules.now.resolver.now) (g.R.Resolver.refuses c.args.modules.now.resolver.now) g.S.Source.hands g.S.Source.refuses g.S.Source.first first c.args.modules.now.units.now.entries =
    keeps_nothing (g.R.Resolver.hands c.args.modules.now.resolver.now) g.S.Source.hands (g.R.Resolver.refuses c.args.modules.now.resolver.now) g.S.Source.refuses g.S.Source.first first c.args.modules.now.units.now.entries c.requires.follows c.requires.first c.requires.nothing in
    let end = c.link_table.new.loader in
    let there = (c.link_table.ensures.adds.ready c.args.tabled.table.path ((path_view c.args.tabled.root.path, c.requires.root.path), ((c.requires.ready, c.requires.stays), start))).1 in
    let nb = numbering end.numbers.now in
    let kept : Keeps (g.R.Resolver.hands end.resolver.now) (g.R.Resolver.refuses end.resolver.now) g.S.Source.hands g.S.Source.refuses g.S.Source.first nb end.units.now.entries = there.1 in
    let grown : Grows first nb = subst (λ (x : Numbering). Grows x nb) c.requires.first kept.grows in
    let rm = module_at c.args.tabled.root.path c.args.tabled.root.unit in
    let explained = subst (λ (ks : List NameId). IsExplained (IsHandedTable g.S.Source.hands nb end.units.now.entries) (IsRefusedPath g.S.Source.refuses nb) c.args.tabled.table (task_of c.args.tabled.table ks c.args.tabled.root.is_eager) c.args.max_modules c.in-Err.fault) c.requires.again c.in-Err.ensures.refused in
    λ keep same. told_by (IsRefused g.S.Source.hands g.S.Source.refuses rm (worlds.task_of rm keep c.args.tabled.root.is_eager) c.args.max_modules) nb c.in-Err.fault c.diagnostic_of.result c.diagnostic_of.ensures (reach_refused first nb grown g.S.Source.hands g.S.Source.refuses end.units.now.entries kept.one_unit c.args.tabled.table rm c.requires.root end.numbers.now.paths.different end.numbers.now.names.different end.numbers.now.paths.asked c.args.tabled.root.kept.items keep same c.args.tabled.root.is_eager c.args.max_modules c.in-Err.fault explained)

pub returns-in-Ok-found_of-clause-these : goal.returns-in-Ok-found_of-clause-these
returns-in-Ok-found_of-clause-these g c =
    let first = numbering c.args.modules.now.numbers.now in
    let start : Keeps (g.R.Resolver.hands c.args.modules.now.resolver.now) (g.R.Resolver.refuses c.args.modules.now.resolver.now) g.S.Source.hands g.S.Source.refuses g.S.Source.first first c.args.modules.now.units.now.entries =
    keeps_nothing (g.R.Resolver.hands c.args.modules.now.resolver.now) g.S.Source.hands (g.R.Resolver.refuses c.args.modules.now.resolver.now) g.S.Source.refuses g.S.Source.first first c.args.modules.now.units.now.entries c.requires.follows c.requires.first c.requires.nothing in
    let end = c.link_table.new.loader in
    let there = (c.link_table.ensures.adds.ready c.args.tabled.table.path ((path_view c.args.tabled.root.path, c.requires.root.path), ((c.requires.ready, c.requires.stays), start))).1 in
    there.0.1.here

pub returns-in-Err-found_of-clause-these : goal.returns-in-Err-found_of-clause-these
returns-in-Err-found_of-clause-these g c =
    let first = numbering c.args.modules.now.numbers.now in
    let start : Keeps (g.R.Resolver.hands c.args.modules.now.resolver.now) (g.R.Resolver.refuses c.args.modules.now.resolver.now) g.S.Source.hands g.S.Source.refuses g.S.Source.first first c.args.modules.now.units.now.entries =
    keeps_nothing (g.R.Resolver.hands c.args.modules.now.resolver.now) g.S.Source.hands (g.R.Resolver.refuses c.args.modules.now.resolver.now) g.S.Source.refuses g.S.Source.first first c.args.modules.now.units.now.entries c.requires.follows c.requires.first c.requires.nothing in
    let end = c.link_table.new.loader in
    let there = (c.link_table.ensures.adds.ready c.args.tabled.table.path ((path_view c.args.tabled.root.path, c.requires.root.path), ((c.requires.ready, c.requires.stays), start))).1 in
    there.0.1.here

pub returns-in-Ok-found_of-clause-stays_ready : goal.returns-in-Ok-found_of-clause-stays_ready
returns-in-Ok-found_of-clause-stays_ready g c =
    let first = numbering c.args.modules.now.numbers.now in
    let start : Keeps (g.R.Resolver.hands c.args.modules.now.resolver.now) (g.R.Resolver.refuses c.args.modules.now.resolver.now) g.S.Source.hands g.S.Source.refuses g.S.Source.first first c.args.modules.now.units.now.entries =
    keeps_nothing (g.R.Resolver.hands c.args.modules.now.resolver.now) g.S.Source.hands (g.R.Resolver.refuses c.args.modules.now.resolver.now) g.S.Source.refuses g.S.Source.first first c.args.modules.now.units.now.entries c.requires.follows c.requires.first c.requires.nothing in
    let end = c.link_table.new.loader in
    let there = (c.link_table.ensures.adds.ready c.args.tabled.table.path ((path_view c.args.tabled.root.path, c.requires.root.path), ((c.requires.ready, c.requires.stays), start))).1 in
    there.0.0

pub returns-in-Err-found_of-clause-stays_ready : goal.returns-in-Err-found_of-clause-stays_ready
returns-in-Err-found_of-clause-stays_ready g c =
    let first = numbering c.args.modules.now.numbers.now in
    let start : Keeps (g.R.Resolver.hands c.args.modules.now.resolver.now) (g.R.Resolver.refuses c.args.modules.now.resolver.now) g.S.Source.hands g.S.Source.refuses g.S.Source.first first c.args.modules.now.units.now.entries =
    keeps_nothing (g.R.Resolver.hands c.args.modules.now.resolver.now) g.S.Source.hands (g.R.Resolver.refuses c.args.modules.now.resolver.now) g.S.Source.refuses g.S.Source.first first c.args.modules.now.units.now.entries c.requires.follows c.requires.first c.requires.nothing in
    let end = c.link_table.new.loader in
    let there = (c.link_table.ensures.adds.ready c.args.tabled.table.path ((path_view c.args.tabled.root.path, c.requires.root.path), ((c.requires.ready, c.requires.stays), start))).1 in
    there.0.0

pub returns-in-Ok-found_of-clause-loan : goal.returns-in-Ok-found_of-clause-loan
returns-in-Ok-found_of-clause-loan g c =
    let first = numbering c.args.modules.now.numbers.now in
    let start : Keeps (g.R.Resolver.hands c.args.modules.now.resolver.now) (g.R.Resolver.refuses c.args.modules.now.resolver.now) g.S.Source.hands g.S.Source.refuses g.S.Source.first first c.args.modules.now.units.now.entries =
    keeps_nothing (g.R.Resolver.hands c.args.modules.now.resolver.now) g.S.Source.hands (g.R.Resolver.refuses c.args.modules.now.resolver.now) g.S.Source.refuses g.S.Source.first first c.args.modules.now.units.now.entries c.requires.follows c.requires.first c.requires.nothing in
    let end = c.link_table.new.loader in
    let there = (c.link_table.ensures.adds.ready c.args.tabled.table.path ((path_view c.args.tabled.root.path, c.requires.root.path), ((c.requires.ready, c.requires.stays), start))).1 in
    there.0.1.held ∙ sym c.requires.stays.held

pub returns-in-Err-found_of-clause-loan : goal.returns-in-Err-found_of-clause-loan
returns-in-Err-found_of-clause-loan g c =
    let first = numbering c.args.modules.now.numbers.now in
    let start : Keeps (g.R.Resolver.hands c.args.modules.now.resolver.now) (g.R.Resolver.refuses c.args.modules.now.resolver.now) g.S.Source.hands g.S.Source.refuses g.S.Source.first first c.args.modules.now.units.now.entries =
    keeps_nothing (g.R.Resolver.hands c.args.modules.now.resolver.now) g.S.Source.hands (g.R.Resolver.refuses c.args.modules.now.resolver.now) g.S.Source.refuses g.S.Source.first first c.args.modules.now.units.now.entries c.requires.follows c.requires.first c.requires.nothing in
    let end = c.link_table.new.loader in
    let there = (c.link_table.ensures.adds.ready c.args.tabled.table.path ((path_view c.args.tabled.root.path, c.requires.root.path), ((c.requires.ready, c.requires.stays), start))).1 in
    there.0.1.held ∙ sym c.requires.stays.held

pub returns-in-Err-clause-these : goal.returns-in-Err-clause-these
returns-in-Err-clause-these g c =
    let first = numbering c.args.modules.now.numbers.now in
    let start : Keeps (g.R.Resolver.hands c.args.modules.now.resolver.now) (g.R.Resolver.refuses c.args.modules.now.resolver.now) g.S.Source.hands g.S.Source.refuses g.S.Source.first first c.args.modules.now.units.now.entries =
    keeps_nothing (g.R.Resolver.hands c.args.modules.now.resolver.now) g.S.Source.hands (g.R.Resolver.refuses c.args.modules.now.resolver.now) g.S.Source.refuses g.S.Source.first first c.args.modules.now.units.now.entries c.requires.follows c.requires.first c.requires.nothing in
    let end = c.link_table.new.loader in
    let there = (c.link_table.ensures.adds.ready c.args.tabled.table.path ((path_view c.args.tabled.root.path, c.requires.root.path), ((c.requires.ready, c.requires.stays), start))).1 in
    there.0.1.here

pub returns-in-Err-clause-stays_ready : goal.returns-in-Err-clause-stays_ready
returns-in-Err-clause-stays_ready g c =
    let first = numbering c.args.modules.now.numbers.now in
    let start : Keeps (g.R.Resolver.hands c.args.modules.now.resolver.now) (g.R.Resolver.refuses c.args.modules.now.resolver.now) g.S.Source.hands g.S.Source.refuses g.S.Source.first first c.args.modules.now.units.now.entries =
    keeps_nothing (g.R.Resolver.hands c.args.modules.now.resolver.now) g.S.Source.hands (g.R.Resolver.refuses c.args.modules.now.resolver.now) g.S.Source.refuses g.S.Source.first first c.args.modules.now.units.now.entries c.requires.follows c.requires.first c.requires.nothing in
    let end = c.link_table.new.loader in
    let there = (c.link_table.ensures.adds.ready c.args.tabled.table.path ((path_view c.args.tabled.root.path, c.requires.root.path), ((c.requires.ready, c.requires.stays), start))).1 in
    there.0.0

pub returns-in-Err-clause-loan : goal.returns-in-Err-clause-loan
returns-in-Err-clause-loan g c =
    let first = numbering c.args.modules.now.numbers.now in
    let start : Keeps (g.R.Resolver.hands c.args.modules.now.resolver.now) (g.R.Resolver.refuses c.args.modules.now.resolver.now) g.S.Source.hands g.S.Source.refuses g.S.Source.first first c.args.modules.now.units.now.entries =
    keeps_nothing (g.R.Resolver.hands c.args.modules.now.resolver.now) g.S.Source.hands (g.R.Resolver.refuses c.args.modules.now.resolver.now) g.S.Source.refuses g.S.Source.first first c.args.modules.now.units.now.entries c.requires.follows c.requires.first c.requires.nothing in
    let end = c.link_table.new.loader in
    let there = (c.link_table.ensures.adds.ready c.args.tabled.table.path ((path_view c.args.tabled.root.path, c.requires.root.path), ((c.requires.ready, c.requires.stays), start))).1 in
    there.0.1.held ∙ sym c.requires.stays.held
