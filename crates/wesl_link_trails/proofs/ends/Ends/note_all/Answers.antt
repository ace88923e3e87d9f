use Rattle.std.proofs.Common.{Contains, ◌∙◌}
use Rattle.std.proofs.lemmas.List.{take_all}
use Rattle.wesl_link_symbols.specs.declared.ids.PathId.{PathId}
use Rattle.wesl_tree_base.specs.declared.ids.NameId.{NameId}
use Rattle.wesl_link_symbols.specs.declared.symbols.LookUp.{LookUp}
use Rattle.wesl_link_reach.specs.Trodden.{symbol_of}
use Rattle.wesl_link_reach.proofs.Following.{puts_has, puts_on}
use Rattle.wesl_link_reach.proofs.Growing.{first_more, goes_on_itself, goes_on_trans, within_on}
use Rattle.wesl_link_trails.proofs.ends.Ends.note_all.Goals as goal

pub loop-look_up-preserved : goal.loop-look_up-preserved
loop-look_up-preserved g c = record {
  numbered = c.in_ok-note.ensures.numbered;
  on = goes_on_trans _ _ _ c.loop-look_up.invariant.on (puts_on _ _ _ c.in_ok-note.ensures.asked);
  asked = first_more (λ (l : LookUp PathId NameId). Contains c.note.new.self.asked.items (symbol_of l)) _ _ _ c.loop-look_up-test.true
      (λ l h. (within_on _ _ (puts_on _ _ _ c.in_ok-note.ensures.asked)).held (symbol_of l) (c.loop-look_up.invariant.asked l h)) (rw c.question.ensures at (puts_has _ _ _ c.in_ok-note.ensures.asked));
  kept = c.note.ensures.kept ∙ c.loop-look_up.invariant.kept;
}

pub returns-clause-asked : goal.returns-clause-asked
returns-clause-asked g c = λ l h. c.loop-look_up.invariant.asked l (rw (take_all _ _ c.loop-look_up-test.false) h)
