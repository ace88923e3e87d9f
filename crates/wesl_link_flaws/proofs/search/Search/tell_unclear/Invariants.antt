use Rattle.std.proofs.Common.{◌≡◌, ℕ, ◌<◌, slice_get, Some}
use Rattle.wesl_tree_base.specs.declared.ids.NameId.{NameId}
use Rattle.wesl_link_flaws.specs.declared.asker.Asker.TheVariants.{Unclear}
use Rattle.wesl_link_flaws.specs.declared.told.Flaw.TheVariants.{Unsure}
use Rattle.wesl_link_flaws.specs.Searching.{Grows, HasTold, IsSound}
use Rattle.wesl_link_flaws.proofs.search.Search.tell_unclear.Given as goal

abbrev pub invariant-loop-number : goal.invariant-loop-number
invariant-loop-number l = record {
  sound : IsSound l.given l.self;
  grows : Grows l.fn.self l.self;
  told : (k : ℕ) (n : NameId) → k < l.number → slice_get l.name-items k ≡ Some n → HasTold l.self (Unsure n) (Unclear l.table.path l.index k) l.table.path;
}
