use Rattle.std.proofs.Common.{Contains, refl}
use Rattle.std.proofs.lemmas.List.{take_all}
use Rattle.wesl_link_symbols.specs.declared.ids.PathId.{PathId}
use Rattle.wesl_tree_base.specs.declared.ids.NameId.{NameId}
use Rattle.wesl_link_symbols.specs.declared.symbols.Symbol.{Symbol}
use Rattle.wesl_link_reach.proofs.Growth.{reached_more, at_more}
use Rattle.wesl_link_reach.proofs.Growing.{first_more, element_of, within_on, goes_on_itself}
use Rattle.wesl_link_reach.proofs.Steps.{sound_symbol}
use Rattle.wesl_link_reach.proofs.Following.{world_on, grows_trans, puts_has, puts_on}
use Rattle.wesl_link_reach.proofs.eager.hold_all.Goals as goal

pub loop-symbol-preserved : goal.loop-symbol-preserved
loop-symbol-preserved g c = record {
  sound = sound_symbol _ _ c.loop-symbol.invariant.sound
      (reached_more (world_on c.args.request.now _ _ c.loop-symbol.invariant.grows) _ (c.requires.reached _ (element_of _ _ _ _ refl c.loop-symbol-test.true)))
      (let (t, at) = c.requires.placed _ (element_of _ _ _ _ refl c.loop-symbol-test.true) in (t, at_more (world_on c.args.request.now _ _ c.loop-symbol.invariant.grows) _ t at))
      c.in_ok-put.ensures;
  grows = grows_trans _ _ _ c.loop-symbol.invariant.grows record { modules = goes_on_itself _; symbols = puts_on _ _ _ c.in_ok-put.ensures; answers = λ l h. h; steps = goes_on_itself _ };
  held = first_more (λ (s : Symbol PathId NameId). Contains c.put.new.self.keys s) _ _ _ c.loop-symbol-test.true
      (λ s h. (within_on _ _ (puts_on _ _ _ c.in_ok-put.ensures)).held s (c.loop-symbol.invariant.held s h)) (puts_has _ _ _ c.in_ok-put.ensures);
}

pub returns-clause-held : goal.returns-clause-held
returns-clause-held g c = λ s h. c.loop-symbol.invariant.held s (rw (take_all _ _ c.loop-symbol-test.false) h)
