use Rattle.std.proofs.Common.{refl}
use Rattle.wesl_tree_names.specs.Path.{Text, Path, path_view}
use Rattle.wesl_tree_syntax.specs.Unit.{spelled}
use Rattle.wesl_tree.specs.Translation.{unit_view}
use Rattle.wesl_link_symbols.specs.declared.ids.PathId.{PathId}
use Rattle.wesl_tree_base.specs.declared.ids.NameId.{NameId}
use Rattle.wesl_link_symbols.specs.Tables.{Table}
use Rattle.wesl_link_reach.specs.Loader.{IsReady}
use Rattle.wesl_link_tables.specs.Tables.{table_at}
use Rattle.wesl_link_tables.specs.Numbering.{PathAt, IsNumbered}
use Rattle.wesl_link_tables.specs.NumbersView.{numbering}
use Rattle.wesl_link_tables.specs.declared.table.Tabled.{Tabled}
use Rattle.wesl_link_engine.specs.Handing.{Keeps, StaysOne, IsReadyPath}
use Rattle.wesl_tree_names.specs.declared.path.ModulePath.{ModulePath}
use Rattle.wesl_link_engine.proofs.Told.{ok_told}
use Rattle.wesl_link_engine.proofs.Built.{path_asked}
use Rattle.wesl_link_engine.proofs.Readying.{keeps_on, stays_on, adds_more, ready_table, handed_again, in_ok, itself}
use Rattle.wesl_link_engine.proofs.modules.ModuleLoaderLoaderResolveError.load.Goals as goal

pub returns-in-Some-ok-clause-handed : goal.returns-in-Some-ok-clause-handed
returns-in-Some-ok-clause-handed g c =
    let a = numbering c.args.self.now.numbers.now in
    let b = numbering c.table_of.new.numbers in
    let q = path_view c.in-Some.module in
    let at : PathAt a c.args.path q = (ok_told (λ (p : ModulePath). PathAt (numbering c.args.self.now.numbers.now) c.args.path (path_view p)) c.path_of.result c.in-Some.module c.in-Some.ensures.value c.path_of.ensures) in
    let numbered = ok_told (λ (x : Tabled). IsNumbered b x.table (table_at q (spelled (unit_view c.in-Some-unit_of.held.now.unit)))) c.table_of.result c.in-Some-ok.tabled c.in-Some-ok.ensures.value c.table_of.ensures.numbered in
    handed_again g.S.Source.hands a b c.args.self.now.units.now.entries c.args.path c.in-Some-unit_of.held.now q c.in-Some-ok.tabled.table c.table_of.ensures.grows c.requires.1.1.handed_out c.in-Some-unit_of.ensures.found at numbered

pub returns-in-Some-ok-clause-ready_paths : goal.returns-in-Some-ok-clause-ready_paths
returns-in-Some-ok-clause-ready_paths g c =
    let b = numbering c.table_of.new.numbers in
    let q = path_view c.in-Some.module in
    let hands = g.R.Resolver.hands c.args.self.now.resolver.now in
    let refuses = g.R.Resolver.refuses c.args.self.now.resolver.now in
    let units = c.args.self.now.units.now.entries in
    let keeps : Keeps hands refuses g.S.Source.hands g.S.Source.refuses g.S.Source.first b units =
    keeps_on hands hands g.S.Source.hands refuses refuses g.S.Source.refuses g.S.Source.first (numbering c.args.self.now.numbers.now) b units units c.requires.1.1 (itself hands) (itself refuses) c.table_of.ensures.grows refl in
    let u : Table Path Text = table_at q (spelled (unit_view c.in-Some-unit_of.held.now.unit)) in
    let K = (g.R.Resolver.ready c.args.self.now.resolver.now × StaysOne g.R.Resolver.hands g.R.Resolver.refuses g.R.Resolver.source g.R.Resolver.lacks g.R.Resolver.shown g.S.Source.these g.S.Source.loan c.args.self.now.resolver.now c.args.self.now.resolver.ghost_name) × Keeps hands refuses g.S.Source.hands g.S.Source.refuses g.S.Source.first b units in
    let numbered = ok_told (λ (x : Tabled). IsNumbered b x.table u) c.table_of.result c.in-Some-ok.tabled c.in-Some-ok.ensures.value c.table_of.ensures.numbered in
    ready_table K (c.requires.1.0, keeps) b c.in-Some-ok.tabled.table u numbered

pub returns-in-Some-ok-clause-adds : goal.returns-in-Some-ok-clause-adds
returns-in-Some-ok-clause-adds g c =
    let a = numbering c.args.self.now.numbers.now in
    let b = numbering c.table_of.new.numbers in
    let ready = g.R.Resolver.ready c.args.self.now.resolver.now × StaysOne g.R.Resolver.hands g.R.Resolver.refuses g.R.Resolver.source g.R.Resolver.lacks g.R.Resolver.shown g.S.Source.these g.S.Source.loan c.args.self.now.resolver.now c.args.self.now.resolver.ghost_name in
    let hands = g.R.Resolver.hands c.args.self.now.resolver.now in
    let refuses = g.R.Resolver.refuses c.args.self.now.resolver.now in
    let units = c.args.self.now.units.now.entries in
    adds_more (ready × Keeps hands refuses g.S.Source.hands g.S.Source.refuses g.S.Source.first a units) (ready × Keeps hands refuses g.S.Source.hands g.S.Source.refuses g.S.Source.first b units)
    (λ (r, k). (r, keeps_on hands hands g.S.Source.hands refuses refuses g.S.Source.refuses g.S.Source.first a b units units k (itself hands) (itself refuses) c.table_of.ensures.grows refl)) g.S.Source.hands g.S.Source.refuses a b units units c.table_of.ensures.grows
    (λ p u h. h)

pub returns-in-Some-unit_of-clause-adds : goal.returns-in-Some-unit_of-clause-adds
returns-in-Some-unit_of-clause-adds g c =
    let a = numbering c.args.self.now.numbers.now in
    let b = numbering c.table_of.new.numbers in
    let ready = g.R.Resolver.ready c.args.self.now.resolver.now × StaysOne g.R.Resolver.hands g.R.Resolver.refuses g.R.Resolver.source g.R.Resolver.lacks g.R.Resolver.shown g.S.Source.these g.S.Source.loan c.args.self.now.resolver.now c.args.self.now.resolver.ghost_name in
    let hands = g.R.Resolver.hands c.args.self.now.resolver.now in
    let refuses = g.R.Resolver.refuses c.args.self.now.resolver.now in
    let units = c.args.self.now.units.now.entries in
    adds_more (ready × Keeps hands refuses g.S.Source.hands g.S.Source.refuses g.S.Source.first a units) (ready × Keeps hands refuses g.S.Source.hands g.S.Source.refuses g.S.Source.first b units)
    (λ (r, k). (r, keeps_on hands hands g.S.Source.hands refuses refuses g.S.Source.refuses g.S.Source.first a b units units k (itself hands) (itself refuses) c.table_of.ensures.grows refl)) g.S.Source.hands g.S.Source.refuses a b units units c.table_of.ensures.grows
    (λ p u h. h)

pub table_of-requires-clause-asked : goal.table_of-requires-clause-asked
table_of-requires-clause-asked g c = path_asked (numbering c.args.self.now.numbers.now) c.args.self.now.numbers.now.paths.asked c.args.path (path_view c.in-Some.module) (ok_told (λ (p : ModulePath). PathAt (numbering c.args.self.now.numbers.now) c.args.path (path_view p)) c.path_of.result c.in-Some.module c.in-Some.ensures.value c.path_of.ensures)

pub fetch-requires-clause-asked : goal.fetch-requires-clause-asked
fetch-requires-clause-asked g c = path_asked (numbering c.args.self.now.numbers.now) c.args.self.now.numbers.now.paths.asked c.args.path (path_view c.in-Some.module) (ok_told (λ (p : ModulePath). PathAt (numbering c.args.self.now.numbers.now) c.args.path (path_view p)) c.path_of.result c.in-Some.module c.in-Some.ensures.value c.path_of.ensures)

pub returns-clause-ready_paths : goal.returns-clause-ready_paths
returns-clause-ready_paths g c =
    let b = numbering c.fetch.new.self.numbers.now in
    let hands = g.R.Resolver.hands c.fetch.new.self.resolver.now in
    let refuses = g.R.Resolver.refuses c.fetch.new.self.resolver.now in
    let units = c.fetch.new.self.units.now.entries in
    let stays = stays_on g.R.Resolver.hands g.R.Resolver.refuses g.R.Resolver.source g.R.Resolver.lacks g.R.Resolver.shown g.S.Source.these g.S.Source.loan c.args.self.now.resolver.now c.fetch.new.self.resolver.now c.args.self.now.resolver.ghost_name c.fetch.new.self.resolver.ghost_name c.requires.1.0.1 c.fetch.ensures.same c.fetch.ensures.loan in
    let K = (g.R.Resolver.ready c.fetch.new.self.resolver.now × StaysOne g.R.Resolver.hands g.R.Resolver.refuses g.R.Resolver.source g.R.Resolver.lacks g.R.Resolver.shown g.S.Source.these g.S.Source.loan c.fetch.new.self.resolver.now c.fetch.new.self.resolver.ghost_name) × Keeps hands refuses g.S.Source.hands g.S.Source.refuses g.S.Source.first b units in
    in_ok (λ (t : Table PathId NameId). (u : Table Path Text) × IsNumbered b t u) (IsReady (λ p. IsReadyPath b p × K)) c.fetch.result (λ t (u, h). ready_table K ((c.fetch.ensures.stays_ready, stays), c.fetch.ensures.keeps) b t u h) c.fetch.ensures.numbered

pub returns-clause-adds : goal.returns-clause-adds
returns-clause-adds g c =
    let a = numbering c.args.self.now.numbers.now in
    let b = numbering c.fetch.new.self.numbers.now in
    let stays = stays_on g.R.Resolver.hands g.R.Resolver.refuses g.R.Resolver.source g.R.Resolver.lacks g.R.Resolver.shown g.S.Source.these g.S.Source.loan c.args.self.now.resolver.now c.fetch.new.self.resolver.now c.args.self.now.resolver.ghost_name c.fetch.new.self.resolver.ghost_name c.requires.1.0.1 c.fetch.ensures.same c.fetch.ensures.loan in
    adds_more ((g.R.Resolver.ready c.args.self.now.resolver.now × StaysOne g.R.Resolver.hands g.R.Resolver.refuses g.R.Resolver.source g.R.Resolver.lacks g.R.Resolver.shown g.S.Source.these g.S.Source.loan c.args.self.now.resolver.now c.args.self.now.resolver.ghost_name) × Keeps (g.R.Resolver.hands c.args.self.now.resolver.now) (g.R.Resolver.refuses c.args.self.now.resolver.now) g.S.Source.hands g.S.Source.refuses g.S.Source.first a c.args.self.now.units.now.entries)
    ((g.R.Resolver.ready c.fetch.new.self.resolver.now × StaysOne g.R.Resolver.hands g.R.Resolver.refuses g.R.Resolver.source g.R.Resolver.lacks g.R.Resolver.shown g.S.Source.these g.S.Source.loan c.fetch.new.self.resolver.now c.fetch.new.self.resolver.ghost_name) × Keeps (g.R.Resolver.hands c.fetch.new.self.resolver.now) (g.R.Resolver.refuses c.fetch.new.self.resolver.now) g.S.Source.hands g.S.Source.refuses g.S.Source.first b c.fetch.new.self.units.now.entries)
    (λ k. ((c.fetch.ensures.stays_ready, stays), c.fetch.ensures.keeps)) g.S.Source.hands
    g.S.Source.refuses a b c.args.self.now.units.now.entries c.fetch.new.self.units.now.entries c.fetch.ensures.grows c.fetch.ensures.units
