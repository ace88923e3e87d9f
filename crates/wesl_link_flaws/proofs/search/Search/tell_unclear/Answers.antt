use Rattle.std.proofs.Common.{◌≡◌, ℕ, List, Some, slice_get, subst, sym}
use Rattle.wesl_link_symbols.specs.declared.ids.PathId.{PathId}
use Rattle.wesl_tree_base.specs.declared.ids.NameId.{NameId}
use Rattle.wesl_link_symbols.specs.Tables.{Declaration}
use Rattle.wesl_link_symbols.proofs.Lists.{read_at, one_at}
use Rattle.wesl_link_reach.proofs.Following.{puts_has}
use Rattle.wesl_link_flaws.specs.declared.asker.Asker.TheVariants.{Unclear}
use Rattle.wesl_link_flaws.specs.declared.told.Flaw.TheVariants.{Unsure}
use Rattle.wesl_link_flaws.specs.Searching.{HasTold}
use Rattle.wesl_link_flaws.proofs.Over.{up_next, up_all}
use Rattle.wesl_link_flaws.proofs.Searching.{grows_trans, puts_keep, sound_tell, tell_grows}
use Rattle.wesl_link_flaws.proofs.Taking.{unclear_flaw}
use Rattle.wesl_link_flaws.proofs.search.Search.tell_unclear.Goals as goal

pub loop-number-preserved : goal.loop-number-preserved
loop-number-preserved c =
    let at : slice_get c.args.table.now.declarations c.args.index ≡ Some c.index-declarations-index.result =
    read_at _ c.args.table.now.declarations c.args.index c.index-declarations-index.result c.declarations.ensures c.requires.taken.within c.index-declarations-index.is in
    let put = rw c.path-path.ensures at c.in_ok-put.ensures.puts in
    record {
      sound = sound_tell c.args.given.now c.loop-number.self c.put.new.keys _ _ _ c.loop-number.invariant.sound c.in_ok-put.ensures.keys put
          (unclear_flaw c.args.given.now c.args.table.now c.args.index c.index-declarations-index.result c.unclear-name-items.result.now c.loop-number.number _ c.requires.taken at c.unclear-name-items.ensures
          c.loop-number-test.true);
      grows = grows_trans _ _ _ c.loop-number.invariant.grows (tell_grows c.args.given.now c.loop-number.self c.put.new.keys _ put);
      told = up_next (λ (k : ℕ) (n : NameId). HasTold (record c.loop-number.self { told = c.put.new.keys }) (Unsure n) (Unclear c.args.table.now.path c.args.index k) c.args.table.now.path) _ _ _ c.loop-number-test.true
          (λ k n b here. puts_keep _ _ _ _ put (c.loop-number.invariant.told k n b here)) (puts_has _ _ _ put);
    }

pub returns-clause-told : goal.returns-clause-told
returns-clause-told c = λ d at k n at_k.
    let here : slice_get c.args.table.now.declarations c.args.index ≡ Some c.index-declarations-index.result =
    read_at _ c.args.table.now.declarations c.args.index c.index-declarations-index.result c.declarations.ensures c.requires.taken.within c.index-declarations-index.is in
    let same = one_at c.args.table.now.declarations c.args.index c.index-declarations-index.result d here at in
    let there : slice_get c.unclear-name-items.result.now k ≡ Some n =
    subst (λ (ns : List NameId). slice_get ns k ≡ Some n) (sym c.unclear-name-items.ensures) (subst (λ (x : Declaration PathId NameId). slice_get x.unclear k ≡ Some n) (sym same) at_k) in
    up_all (λ (k : ℕ) (n : NameId). HasTold c.loop-number.self (Unsure n) (Unclear c.args.table.now.path c.args.index k) c.args.table.now.path) c.unclear-name-items.result.now c.loop-number.number c.loop-number-test.false
    c.loop-number.invariant.told k n there
