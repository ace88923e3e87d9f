use Rattle.std.proofs.Common.{take, Contains}
use Rattle.wesl_tree_base.specs.declared.ids.NameId.{NameId}
use Rattle.wesl_link_reach.specs.Loading.{kept_look_up}
use Rattle.wesl_link_flaws.specs.declared.asker.Asker.TheVariants.{Kept}
use Rattle.wesl_link_flaws.specs.Searching.{Grows, IsFollowed, IsSound}
use Rattle.wesl_link_flaws.proofs.search.Search.follow_kept.Given as goal

abbrev pub invariant-loop-name : goal.invariant-loop-name
invariant-loop-name l = record {
  sound : IsSound l.given l.self;
  grows : Grows l.fn.self l.self;
  followed : (n : NameId) → Contains (take l.name-index l.name-items) n → IsFollowed l.given l.self (Kept n) (kept_look_up l.given.root n);
}
