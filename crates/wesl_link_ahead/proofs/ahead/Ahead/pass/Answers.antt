use Rattle.std.proofs.Common.{inl, inr, subst}
use Rattle.std.proofs.lemmas.List.Elements.{Contains-push_cases}
use Rattle.wesl_link_symbols.specs.declared.ids.PathId.{PathId}
use Rattle.wesl_tree_base.specs.declared.ids.NameId.{NameId}
use Rattle.wesl_link_symbols.specs.declared.symbols.LookUp.{LookUp}
use Rattle.wesl_link_symbols.specs.declared.symbols.Symbol.{Symbol}
use Rattle.wesl_link_reach.specs.World.{Reached}
use Rattle.wesl_link_ahead.specs.Ahead.{IsAskedIn, task_in, world_in}
use Rattle.wesl_link_ahead.proofs.Going.{asked_next, asked_reached, puts_all}
use Rattle.wesl_link_ahead.proofs.ahead.Ahead.pass.Goals as goal

pub returns-in-Some-Next-clause-way : goal.returns-in-Some-Next-clause-way
returns-in-Some-Next-clause-way c =
    let (t, at, answers) = c.in-Some-Next.ensures in
    asked_next c.args.self.now.asked c.args.look_up c.in-Some-Next.next c.requires.asked t at (rw c.in-Some-Next.field-0-is at answers)

pub returns-in_ok-put-in-Some-Declared-clause-ahead : goal.returns-in_ok-put-in-Some-Declared-clause-ahead
returns-in_ok-put-in-Some-Declared-clause-ahead c =
    let (t, at, answers) = c.in-Some-Declared.ensures in
    record {
      placed = c.requires.ahead.placed;
      entered = c.requires.ahead.entered;
      reached = puts_all (λ (x : Symbol PathId NameId). Reached (world_in c.args.linking.now) (task_in c.args.linking.now) x) _ _ _ (rw c.question.ensures at c.in_ok-put-in-Some-Declared.ensures) c.requires.ahead.reached
          (asked_reached c.args.self.now.asked c.args.look_up c.requires.asked t at (rw c.in-Some-Declared.field-0-is at answers));
      waiting = c.requires.ahead.waiting;
    }

pub returns-in_ok-push-in-None-clause-ahead : goal.returns-in_ok-push-in-None-clause-ahead
returns-in_ok-push-in-None-clause-ahead c = record {
  placed = c.requires.ahead.placed;
  entered = c.requires.ahead.entered;
  reached = c.requires.ahead.reached;
  waiting = λ l h. elim (Contains-push_cases c.args.self.now.waiting.items c.args.look_up l (rw c.in_ok-push-in-None.ensures.items at h)) [
    | inl old ↦ c.requires.ahead.waiting l old
    | inr e ↦ subst (λ (x : LookUp PathId NameId). IsAskedIn c.args.linking.now c.args.self.now x) e c.requires.asked
  ];
}
