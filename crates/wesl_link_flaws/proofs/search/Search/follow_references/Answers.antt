use Rattle.std.proofs.Common.{◌≡◌, ℕ, List, Some, slice_get, subst, sym}
use Rattle.wesl_link_symbols.specs.declared.ids.PathId.{PathId}
use Rattle.wesl_tree_base.specs.declared.ids.NameId.{NameId}
use Rattle.wesl_link_symbols.specs.declared.symbols.Reference.{Reference}
use Rattle.wesl_link_symbols.specs.Tables.{Declaration}
use Rattle.wesl_link_symbols.specs.Names.{asked_for}
use Rattle.wesl_link_symbols.proofs.Lists.{read_at, one_at}
use Rattle.wesl_link_flaws.specs.declared.asker.Asker.TheVariants.{Named}
use Rattle.wesl_link_flaws.specs.Searching.{IsFollowed}
use Rattle.wesl_link_flaws.proofs.Over.{up_next, up_all}
use Rattle.wesl_link_flaws.proofs.Searching.{grows_trans, followed_on}
use Rattle.wesl_link_flaws.proofs.search.Search.follow_references.Goals as goal

pub loop-number-preserved : goal.loop-number-preserved
loop-number-preserved c = record {
  sound = c.in_ok-follow.ensures.sound;
  grows = grows_trans _ _ _ c.loop-number.invariant.grows c.in_ok-follow.ensures.grows;
  followed = up_next (λ (k : ℕ) (r : Reference PathId NameId). IsFollowed c.args.given.now c.follow.new.self (Named c.args.table.now.path c.args.index k) (asked_for c.args.table.now r)) _ _ _ c.loop-number-test.true
      (λ k r b at. followed_on c.args.given.now _ _ _ _ c.in_ok-follow.ensures.grows (c.loop-number.invariant.followed k r b at))
      (rw c.ask.ensures at (rw c.path.ensures at c.in_ok-follow.ensures.followed));
}

pub returns-clause-followed : goal.returns-clause-followed
returns-clause-followed c = λ d at k r at_k.
    let here : slice_get c.args.table.now.declarations c.args.index ≡ Some c.index-declarations-index.result =
    read_at _ c.args.table.now.declarations c.args.index c.index-declarations-index.result c.declarations.ensures c.requires.taken.within c.index-declarations-index.is in
    let same = one_at c.args.table.now.declarations c.args.index c.index-declarations-index.result d here at in
    let there : slice_get c.references-reference-items.result.now k ≡ Some r =
    subst (λ (rs : List (Reference PathId NameId)). slice_get rs k ≡ Some r) (sym c.references-reference-items.ensures)
    (subst (λ (x : Declaration PathId NameId). slice_get x.references k ≡ Some r) (sym same) at_k) in
    up_all (λ (k : ℕ) (r : Reference PathId NameId). IsFollowed c.args.given.now c.loop-number.self (Named c.args.table.now.path c.args.index k) (asked_for c.args.table.now r)) c.references-reference-items.result.now
    c.loop-number.number c.loop-number-test.false c.loop-number.invariant.followed k r there
