use Rattle.std.proofs.Common.{◌≡◌, ℕ, ◌<◌, slice_get, Some}
use Rattle.wesl_link_symbols.specs.declared.ids.PathId.{PathId}
use Rattle.wesl_tree_base.specs.declared.ids.NameId.{NameId}
use Rattle.wesl_link_symbols.specs.declared.symbols.Reference.{Reference}
use Rattle.wesl_link_symbols.specs.Names.{asked_for}
use Rattle.wesl_link_flaws.specs.declared.asker.Asker.TheVariants.{Named}
use Rattle.wesl_link_flaws.specs.Searching.{Grows, IsFollowed, IsSound}
use Rattle.wesl_link_flaws.proofs.search.Search.follow_references.Given as goal

abbrev pub invariant-loop-number : goal.invariant-loop-number
invariant-loop-number l = record {
  sound : IsSound l.given l.self;
  grows : Grows l.fn.self l.self;
  followed : (k : ℕ) (r : Reference PathId NameId) → k < l.number → slice_get l.reference-items k ≡ Some r
      → IsFollowed l.given l.self (Named l.table.path l.index k) (asked_for l.table r);
}
