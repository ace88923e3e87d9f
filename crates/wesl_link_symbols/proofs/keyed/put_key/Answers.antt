use Rattle.std.proofs.Common.{◌↔◌, List, Contains, subst, sym, ◌∙◌}
use Rattle.wesl_link_symbols.proofs.Entries.{key_there, key_absent, same_more, popped}
use Rattle.wesl_link_symbols.proofs.keyed.put_key.Goals as goal

pub returns-then-contains-clause-puts : goal.returns-then-contains-clause-puts
returns-then-contains-clause-puts g c = key_there g.K.PartialEq.eq g.met.K.Identity.same g.met.K.Eq.laws c.args.keys.now.items c.args.held.now.keys c.args.key c.requires.same (sym c.contains.ensures ∙ c.if-contains.true)

pub returns-in_err-push-clause-stays : goal.returns-in_err-push-clause-stays
returns-in_err-push-clause-stays g c = λ k. subst (λ (xs : List _). Contains xs k ↔ Contains c.args.held.now.keys k) (sym c.in_err-push.ensures.items) (c.requires.same k)

pub returns-in-Ok-clause-puts : goal.returns-in-Ok-clause-puts
returns-in-Ok-clause-puts g c =
    key_absent g.K.PartialEq.eq g.met.K.Identity.same g.met.K.Eq.laws c.args.keys.now.items c.args.held.now.keys c.push.new.self.items c.args.key c.requires.same (sym c.contains.ensures ∙ c.if-contains.false) c.in_ok-push.ensures.items

pub returns-in-Ok-clause-stays : goal.returns-in-Ok-clause-stays
returns-in-Ok-clause-stays g c =
    same_more g.K.PartialEq.eq g.met.K.Identity.same g.met.K.Eq.laws c.args.keys.now.items c.args.held.now.keys c.push.new.self.items c.insert.new.self.keys c.args.key c.requires.same c.in_ok-push.ensures.items c.in-Ok.ensures.updates.0

pub returns-in-Err-clause-keys_stay : goal.returns-in-Err-clause-keys_stay
returns-in-Err-clause-keys_stay g c = popped c.args.keys.now.items c.push.new.self.items c.pop.new.self.items c.args.key _ c.push.new.self.ok.0 c.in_ok-push.ensures.items c.pop.ensures.rest

pub returns-in-Err-clause-stays : goal.returns-in-Err-clause-stays
returns-in-Err-clause-stays g c =
    let back = popped c.args.keys.now.items c.push.new.self.items c.pop.new.self.items c.args.key _ c.push.new.self.ok.0 c.in_ok-push.ensures.items c.pop.ensures.rest in
    λ k. subst (λ (xs : List _). Contains xs k ↔ Contains c.insert.new.self.keys k) (sym back) (subst (λ (ks : List _). Contains c.args.keys.now.items k ↔ Contains ks k) (sym c.in-Err.ensures.err) (c.requires.same k))
