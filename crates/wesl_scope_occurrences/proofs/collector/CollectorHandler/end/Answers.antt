use Rattle.std.proofs.Common.{arith, refl, ap, ◌∙◌, ◌++◌, ◌≡◌, ◌+◌}
use Rattle.std.specs.Prelude.{option_to_list}
use Rattle.wesl_scope_occurrences.proofs.Showing.{emptied, end_collects, end_none, none_popped}
use Rattle.wesl_scope_occurrences.proofs.collector.CollectorHandler.end.Goals as goal

pub returns-in-None : goal.returns-in-None
returns-in-None c =
    let old = c.args.self.now.naming in
    let new = c.pop.new.self in
    let z = none_popped ((old.len ≡ 0) × (new.len ≡ 0)) (new.len + 1 ≡ old.len) c.pop.result c.in-None.is c.pop.ensures.cases in
    end_none c.args.self.now _ _ _ refl refl refl refl (emptied c.args.self.now.naming.items (omega (arith, z.0, c.args.self.now.naming.ok.0))) (emptied c.pop.new.self.items (omega (arith, z.1, c.pop.new.self.ok.0)))

pub returns-in-Some : goal.returns-in-Some
returns-in-Some c =
    end_collects c.args.self.now _ _ _ _ c.in-Some.place refl refl refl refl (c.pop.ensures.items ∙ ap (λ r. c.pop.new.self.items ++ option_to_list r) c.in-Some.is) c.end_at.ensures
