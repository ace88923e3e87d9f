use Rattle.std.proofs.Common.{Option, IfSome, IfNone, Global, map, sym, subst}
use Rattle.std.specs.Prelude.{Vec}
use Rattle.wesl_link_symbols.specs.declared.ids.PathId.{PathId}
use Rattle.wesl_tree_base.specs.declared.ids.NameId.{NameId}
use Rattle.wesl_link_reach.specs.Faults.{AreDistinct}
use Rattle.wesl_link_reasons.specs.declared.node.Node.{Node}
use Rattle.wesl_link_reasons.specs.Found.{Explains, Denies}
use Rattle.wesl_link_reasons.specs.Reasons.{task_from}
use Rattle.wesl_link_tables.specs.TextsView.{numbering_of_texts as numbering}
use Rattle.wesl_link_engine.specs.Reasons.{IsReasonOf, told_node}
use Rattle.wesl_link_engine.proofs.Homes.{chain_tellable}
use Rattle.wesl_link_engine.proofs.Reasoned.{chain_told, chain_once, denied}
use Rattle.wesl_link_engine.proofs.reasons.steps_to.Goals as goal

abbrev Answer : Type 0
Answer = Option (Vec (Node PathId NameId) Global)

pub steps_of-requires-clause-tellable : goal.steps_of-requires-clause-tellable
steps_of-requires-clause-tellable c =
    let l = c.args.link.now in
    let (root, at, are) = c.in_ok-reasons.ensures in
    let told : Explains c.in_ok-reasons.reasons c.args.node c.in-Some.chain.items = subst (λ (o : Answer). IfSome o (λ v. Explains c.in_ok-reasons.reasons c.args.node v.items)) c.in-Some.is c.in_ok-chain.ensures.told in
    rw c.deref.ensures.value (chain_tellable l c.requires.sound root at c.args.node c.in-Some.chain.items (told l.linked.tables (task_from root l.kept.items l.is_eager) are))

pub returns-in-Some-clause-told : goal.returns-in-Some-clause-told
returns-in-Some-clause-told c =
    let l = c.args.link.now in
    let nb = numbering l.numbers in
    let (root, at, are) = c.in_ok-reasons.ensures in
    let told : Explains c.in_ok-reasons.reasons c.args.node c.in-Some.chain.items = subst (λ (o : Answer). IfSome o (λ v. Explains c.in_ok-reasons.reasons c.args.node v.items)) c.in-Some.is c.in_ok-chain.ensures.told in
    subst (λ xs. IsReasonOf l (told_node nb c.args.node) xs) (sym c.in_ok-steps_of-in-Some.ensures)
    (subst (λ ns. IsReasonOf l (told_node nb c.args.node) (map (told_node nb) ns)) (sym c.deref.ensures.value)
    (chain_told l c.requires.sound root at c.args.node c.in-Some.chain.items (told l.linked.tables (task_from root l.kept.items l.is_eager) are)))

pub returns-in-Some-clause-once : goal.returns-in-Some-clause-once
returns-in-Some-clause-once c =
    let l = c.args.link.now in
    let nb = numbering l.numbers in
    let (root, at, are) = c.in_ok-reasons.ensures in
    let told : Explains c.in_ok-reasons.reasons c.args.node c.in-Some.chain.items = subst (λ (o : Answer). IfSome o (λ v. Explains c.in_ok-reasons.reasons c.args.node v.items)) c.in-Some.is c.in_ok-chain.ensures.told in
    let once : AreDistinct c.in-Some.chain.items = subst (λ (o : Answer). IfSome o (λ v. AreDistinct v.items)) c.in-Some.is c.in_ok-chain.ensures.once in
    subst (λ xs. AreDistinct xs) (sym c.in_ok-steps_of-in-Some.ensures)
    (subst (λ ns. AreDistinct (map (told_node nb) ns)) (sym c.deref.ensures.value)
    (chain_once l c.requires.sound root at c.args.node c.in-Some.chain.items (told l.linked.tables (task_from root l.kept.items l.is_eager) are) once))

pub returns-clause-none : goal.returns-clause-none
returns-clause-none c =
    let l = c.args.link.now in
    let (root, at, are) = c.in_ok-reasons.ensures in
    let none : Denies c.in_ok-reasons.reasons c.args.node = subst (λ (o : Answer). IfNone o (Denies c.in_ok-reasons.reasons c.args.node)) c.in-None.is c.in_ok-chain.ensures.none in
    denied l c.requires.sound root at c.args.node c.requires.named (none l.linked.tables (task_from root l.kept.items l.is_eager) are)
