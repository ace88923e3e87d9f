use Rattle.std.proofs.Common.{◌≡◌, ◌+◌, ◌++◌, ◌∷◌, [], List, Option, length, length-append, arith, ap, sym, subst, ◌∙◌}
use Rattle.wesl_cond_choices.specs.Choices.{Choices}
use Rattle.wesl_cond_covers.specs.Unseen.{AreUnions}
use Rattle.wesl_cond_covers.proofs.Passes.{one_more, unions_more}
use Rattle.wesl_cond_covers.proofs.unions.add_unions.Goals as goal

pub loop-start-preserved : goal.loop-start-preserved
loop-start-preserved c =
    let old : List (Option Choices) = c.loop-start.unions.items in
    let u : Option Choices = c.in_ok-union.union in
    let items : c.push.new.self.items ≡ old ++ u ∷ [] = c.in_ok-push.ensures.items in
    let long : length c.push.new.self.items ≡ length old + 1 = ap length items ∙ length-append old (u ∷ []) in
    record {
      begins = one_more (length old) (length c.push.new.self.items) c.loop-start.start c.args.span long c.loop-start.invariant.begins;
      within = omega arith;
      unions = subst (λ (us : List (Option Choices)). AreUnions c.args.alive.now c.args.places.now c.args.span us) (sym items)
          (unions_more c.args.alive.now c.args.places.now c.args.span old c.loop-start.start u c.loop-start.invariant.begins c.in_ok-union.ensures c.loop-start.invariant.unions);
    }
