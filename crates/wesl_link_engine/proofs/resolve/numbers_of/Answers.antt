use Rattle.std.proofs.Common.{◌++◌, ◌∷◌, [], sym, subst, take}
use Rattle.wesl_tree_base.specs.Borrowed.{texts}
use Rattle.wesl_link_tables.specs.Numbering.{AreRelated, NameAt}
use Rattle.wesl_link_tables.specs.NumbersView.{numbering}
use Rattle.wesl_link_tables.proofs.Lists.{related_append}
use Rattle.wesl_link_tables.proofs.Related.{grows_trans, name_later}
use Rattle.wesl_link_engine.proofs.Keeping.{texts_next}
use Rattle.wesl_link_engine.proofs.resolve.numbers_of.Goals as goal

pub loop-name-preserved : goal.loop-name-preserved
loop-name-preserved c = record {
  numbered = rw c.in_ok-push.ensures.items
      (subst (λ xs. AreRelated (NameAt (numbering c.name.new.self)) (c.loop-name.kept.items ++ c.in_ok-name.field-0 ∷ []) xs) (sym (texts_next c.args.keep.now c.loop-name.name-index _ c.loop-name-test.true))
      (related_append (NameAt (numbering c.loop-name.numbers)) (NameAt (numbering c.name.new.self)) (name_later (numbering c.loop-name.numbers) (numbering c.name.new.self) c.name.ensures.grows) c.loop-name.kept.items (c.in_ok-name.field-0 ∷ [])
      (texts (take c.loop-name.name-index c.args.keep.now)) (_ ∷ []) c.loop-name.invariant.numbered (c.in_ok-name.ensures.numbered, tt)));
  grows = grows_trans (numbering c.args.numbers.now) (numbering c.loop-name.numbers) (numbering c.name.new.self) c.loop-name.invariant.grows c.name.ensures.grows;
}

pub returns-in_err-name-clause-grows : goal.returns-in_err-name-clause-grows
returns-in_err-name-clause-grows c = grows_trans (numbering c.args.numbers.now) (numbering c.loop-name.numbers) _ c.loop-name.invariant.grows c.name.ensures.grows

pub returns-in_err-push-clause-grows : goal.returns-in_err-push-clause-grows
returns-in_err-push-clause-grows c = grows_trans (numbering c.args.numbers.now) (numbering c.loop-name.numbers) _ c.loop-name.invariant.grows c.name.ensures.grows
