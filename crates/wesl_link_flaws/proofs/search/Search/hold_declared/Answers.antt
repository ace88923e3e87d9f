use Rattle.std.proofs.Common.{◌≡◌, Some, slice_get, refl, ◌∙◌}
use Rattle.std.proofs.lemmas.List.{take_all}
use Rattle.std.proofs.lemmas.Option.{slice_get_read}
use Rattle.wesl_link_symbols.specs.declared.ids.PathId.{PathId}
use Rattle.wesl_tree_base.specs.declared.ids.NameId.{NameId}
use Rattle.wesl_link_symbols.specs.Tables.{Declaration}
use Rattle.wesl_link_reach.proofs.Growing.{turn_at, goes_on_itself}
use Rattle.wesl_link_flaws.specs.Searching.{HasReached}
use Rattle.wesl_link_flaws.proofs.Searching.{grows_trans, on_has}
use Rattle.wesl_link_flaws.proofs.search.Search.hold_declared.Goals as goal

pub loop-declaration-preserved : goal.loop-declaration-preserved
loop-declaration-preserved c =
    let at : slice_get c.declarations-declaration-items.result.now c.loop-declaration.declaration-index ≡ Some c.declaration-item.result =
    slice_get_read c.declarations-declaration-items.result.now _ c.loop-declaration.declaration-index c.declaration-item.result refl c.loop-declaration-test.true c.declaration-item.is in
    record {
      sound = c.in_ok-hold_named.ensures.sound;
      grows = grows_trans _ _ _ c.loop-declaration.invariant.grows c.in_ok-hold_named.ensures.grows;
      held = turn_at (λ (d : Declaration PathId NameId). (n : NameId) → d.name ≡ Some n → HasReached c.hold_named.new.self (record { path = c.args.table.now.path; name = n })) _ _ _ c.declaration-item.result at (goes_on_itself _)
          (λ d h n e. on_has _ _ _ c.in_ok-hold_named.ensures.grows.symbols (c.loop-declaration.invariant.held d h n e)) (λ n e. c.in_ok-hold_named.ensures.held n (c.name.ensures ∙ e));
    }

pub returns-clause-held : goal.returns-clause-held
returns-clause-held c = λ n (d, in_t, e).
    c.loop-declaration.invariant.held d (rw (take_all _ _ c.loop-declaration-test.false) (rw c.declarations-declaration-items.ensures in_t)) n e
