use Rattle.std.proofs.Common.{◌≡◌}
use Rattle.wesl_tree_names.specs.Path.{Text, Path, path_view}
use Rattle.wesl_tree_syntax.specs.Unit.{spelled}
use Rattle.wesl_tree.specs.Translation.{unit_view}
use Rattle.wesl_link_symbols.specs.declared.ids.PathId.{PathId}
use Rattle.wesl_tree_base.specs.declared.ids.NameId.{NameId}
use Rattle.wesl_link_symbols.specs.Tables.{Table}
use Rattle.wesl_link_tables.specs.Numbering.{IsNumbered}
use Rattle.wesl_link_tables.specs.NumbersView.{numbering}
use Rattle.wesl_link_tables.proofs.Related.{path_later}
use Rattle.wesl_link_engine.specs.Handing.{IsHandedTable, KeepsUnit}
use Rattle.wesl_link_engine.proofs.Readying.{in_ok, keeps_kept, kept_keeps, kept_handed}
use Rattle.wesl_link_engine.proofs.modules.ModuleLoader.fetch.Goals as goal

pub returns-in-Ok-clause-handed : goal.returns-in-Ok-clause-handed
returns-in-Ok-clause-handed g c =
    let b = numbering c.keep.new.numbers in
    let q = path_view c.args.path.now in
    let units = c.args.self.now.units.now.entries in
    let more = c.keep.new.units.entries in
    in_ok (λ (t : Table PathId NameId). KeepsUnit b units c.args.id q c.in-Ok.unit t more) (IsHandedTable g.S.Source.hands b more c.args.id) c.keep.result
    (λ t h. kept_handed g.S.Source.hands b units more c.args.id q c.in-Ok.unit t
    (path_later (numbering c.args.self.now.numbers.now) b c.keep.ensures.grows c.args.id q c.requires.held)
    (c.requires.keeps.follows.hands q (spelled (unit_view c.in-Ok.unit)) c.in-Ok.ensures.handed) h) c.keep.ensures.kept

pub returns-in-Ok-clause-units : goal.returns-in-Ok-clause-units
returns-in-Ok-clause-units g c = kept_keeps (numbering c.keep.new.numbers) c.args.self.now.units.now.entries c.keep.new.units.entries c.args.id (path_view c.args.path.now) c.in-Ok.unit c.requires.absent c.keep.result c.keep.ensures.kept c.keep.ensures.unchanged

pub returns-in-Ok-clause-keeps : goal.returns-in-Ok-clause-keeps
returns-in-Ok-clause-keeps g c =
    keeps_kept (g.R.Resolver.hands c.args.self.now.resolver.now) (g.R.Resolver.hands c.resolve_module.new.self) g.S.Source.hands (g.R.Resolver.refuses c.args.self.now.resolver.now) (g.R.Resolver.refuses c.resolve_module.new.self) g.S.Source.refuses g.S.Source.first
    (numbering c.args.self.now.numbers.now) (numbering c.keep.new.numbers) c.args.self.now.units.now.entries c.keep.new.units.entries c.args.id c.in-Ok.unit (path_view c.args.path.now) c.requires.keeps c.resolve_module.ensures.same.units
    c.resolve_module.ensures.same.faults c.keep.ensures.grows c.requires.held c.in-Ok.ensures.handed c.keep.result c.keep.ensures.kept c.keep.ensures.unchanged

pub returns-in-Ok-clause-path : goal.returns-in-Ok-clause-path
returns-in-Ok-clause-path g c =
    in_ok (λ (t : Table PathId NameId). KeepsUnit (numbering c.keep.new.numbers) c.args.self.now.units.now.entries c.args.id (path_view c.args.path.now) c.in-Ok.unit t c.keep.new.units.entries) (λ t. t.path ≡ c.args.id) c.keep.result (λ t h. h.path) c.keep.ensures.kept

pub returns-in-Ok-clause-numbered : goal.returns-in-Ok-clause-numbered
returns-in-Ok-clause-numbered g c =
    in_ok (λ (t : Table PathId NameId). KeepsUnit (numbering c.keep.new.numbers) c.args.self.now.units.now.entries c.args.id (path_view c.args.path.now) c.in-Ok.unit t c.keep.new.units.entries)
    (λ t. (u : Table Path Text) × IsNumbered (numbering c.keep.new.numbers) t u) c.keep.result (λ t h. (_, h.numbered)) c.keep.ensures.kept

pub keep-requires-clause-held : goal.keep-requires-clause-held
keep-requires-clause-held g c = c.requires.held

pub keep-requires-clause-asked : goal.keep-requires-clause-asked
keep-requires-clause-asked g c = c.requires.asked
