use Rattle.wesl_link_symbols.specs.Index.{IsNamed}
use Rattle.wesl_link_symbols.proofs.Indexing.{steps}
use Rattle.wesl_link_flaws.specs.Searching.{Grows, IsDeclarationDone, IsSound}
use Rattle.wesl_link_flaws.proofs.Over.{IsOver}
use Rattle.wesl_link_flaws.proofs.search.Search.take_named.Given as goal

abbrev pub invariant-declarations : goal.invariant-declarations
invariant-declarations l = record {
  sound : IsSound l.given l.self;
  grows : Grows l.fn.self l.self;
  over : IsOver (IsNamed l.name) (λ i d. IsDeclarationDone l.given l.self l.table i d) l.table.declarations l.at;
}

abbrev pub decreases-declarations : goal.decreases-declarations
decreases-declarations l = steps l.at
