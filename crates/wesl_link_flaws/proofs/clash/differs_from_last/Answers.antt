use Rattle.std.proofs.Common.{refl}
use Rattle.wesl_link_symbols.specs.Index.{Binds}
use Rattle.wesl_link_symbols.proofs.Indexing.{over_start, over_all}
use Rattle.wesl_link_flaws.proofs.clash.differs_from_last.Goals as goal

pub returns-in-None-clause-no : goal.returns-in-None-clause-no
returns-in-None-clause-no c =
    let start = over_start (Binds c.args.import.now.bound) (λ j. ⊥) c.args.table.now.imports c.latest_import_of.result c.latest_import_of.ensures in
    λ no. absurd (over_all (Binds c.args.import.now.bound) (λ j. ⊥) c.args.table.now.imports c.latest_import_of.result c.in-None.is start c.args.import.now c.requires refl)
