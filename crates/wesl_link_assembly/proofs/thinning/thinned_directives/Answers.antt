use Rattle.std.proofs.Common.{List, refl, subst, take}
use Rattle.std.proofs.lemmas.List.{take_all}
use denote.Ref.{Bor}
use Rattle.wesl_tree_names.specs.Path.{Text}
use Rattle.wesl_tree_syntax.specs.Tree.{TreeOf}
use Rattle.wesl_tree.specs.declared.unit.TranslationUnit.{TranslationUnit}
use Rattle.wesl_link_assembly.specs.Thinning.{IsThinning}
use Rattle.wesl_link_assembly.proofs.OneMore.{next_unit, units_view}
use Rattle.wesl_link_assembly.proofs.thinning.thinned_directives.Goals as goal

pub loop-unit-init : goal.loop-unit-init
loop-unit-init c = record { thinned = c.new.ensures; last_met = refl }

pub loop-unit-preserved : goal.loop-unit-preserved
loop-unit-preserved c =
    let us = c.args.units.now in
    let i = c.loop-unit.unit-index in
    subst (λ (ts : List (TreeOf Text)). IsThinning ts c.add_all.new.self) (next_unit us i c.unit-item.result c.loop-unit-test.true c.unit-item.is) (c.in_ok-add_all.ensures.thinned (units_view (take i us)) c.loop-unit.invariant)

pub returns-clause-thinned : goal.returns-clause-thinned
returns-clause-thinned c =
    let whole = subst (λ (us : List (Bor TranslationUnit)). IsThinning (units_view us) c.loop-unit.thinning) (take_all c.loop-unit.unit-index c.args.units.now c.loop-unit-test.false) c.loop-unit.invariant in
    whole.thinned
