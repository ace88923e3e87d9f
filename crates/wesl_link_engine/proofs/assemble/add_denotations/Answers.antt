use Rattle.std.proofs.Common.{List, [], get_or, refl, sym, subst, ◌∙◌, append-nil}
use Rattle.std.proofs.lemmas.List.{take_all}
use Rattle.wesl_link_tables.specs.TextsView.{numbering_of_texts as numbering}
use Rattle.wesl_link_tables.specs.declared.marks.Mark.{Mark}
use Rattle.wesl_link_tables.specs.declared.marks.Mark.TheVariants as marks
use Rattle.wesl_link_engine.proofs.Adding.{AllMeant, meant_more}
use Rattle.wesl_link_engine.proofs.assemble.add_denotations.Goals as goal
use Rattle.wesl_link_tables.proofs.Known.{below_held}
use Rattle.wesl_link_symbols.proofs.Lists.{at_contains}

pub denotation-requires-clause-held : goal.denotation-requires-clause-held
denotation-requires-clause-held c =
    let i = c.loop-mark.mark-index in
    let none : Mark = marks.Declares (record { 0 = 0 }) in
    let m : Mark = get_or c.args.marks.now i none in
    c.requires.held m (at_contains c.args.marks.now i m (below_held c.args.marks.now i none c.loop-mark-test.true))

pub loop-mark-init : goal.loop-mark-init
loop-mark-init c = (λ e. ([], sym (append-nil _), tt), refl, λ e. e)

pub loop-mark-preserved : goal.loop-mark-preserved
loop-mark-preserved c =
    let i = c.loop-mark.mark-index in
    let none : Mark = marks.Declares (record { 0 = 0 }) in
    let m : Mark = get_or c.args.marks.now i none in
    let (all, same, noted) = c.loop-mark.invariant in (
      λ e. meant_more (numbering c.args.numbers.now) c.args.linked.now c.args.table.now c.args.marks.now i m c.args.parts.now.denotations.items c.loop-mark.parts.denotations.items c.tell.new.self.denotations.items c.denotation.result
          (below_held c.args.marks.now i none c.loop-mark-test.true) (all (c.tell.ensures.noted e)) (c.tell.ensures.told e) c.denotation.ensures,
      c.tell.ensures.same ∙ same,
      λ e. noted (c.tell.ensures.noted e),
    )

pub returns-clause-told : goal.returns-clause-told
returns-clause-told c = λ e.
    let ms = c.args.marks.now in
    subst (λ (ns : List Mark). AllMeant (numbering c.args.numbers.now) c.args.linked.now c.args.table.now c.args.parts.now.denotations.items ns c.loop-mark.parts.denotations.items)
    (take_all c.loop-mark.mark-index ms c.loop-mark-test.false) (c.loop-mark.invariant.0 e)

pub returns-clause-same : goal.returns-clause-same
returns-clause-same c = c.loop-mark.invariant.1

pub returns-clause-noted : goal.returns-clause-noted
returns-clause-noted c = c.loop-mark.invariant.2
