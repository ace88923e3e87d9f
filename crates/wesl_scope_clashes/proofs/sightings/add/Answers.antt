use Rattle.std.proofs.Common.{◌≡◌, ◌++◌, ◌∷◌, [], ap, sym, subst}
use Rattle.wesl_scope_clashes.specs.Sightings.{first_of}
use Rattle.wesl_scope_clashes.proofs.sightings.add.Goals as goal

pub returns-then-not-is_needed : goal.returns-then-not-is_needed
returns-then-not-is_needed c = λ p x. subst (λ ss. first_of p x ss ≡ first_of p x (ss ++ c.args.next ∷ [])) c.deref.ensures.value (sym (c.is_needed.ensures c.if-not-is_needed.true p x))

pub returns : goal.returns
returns c = λ p x. ap (first_of p x) c.in_ok-push.ensures.items
