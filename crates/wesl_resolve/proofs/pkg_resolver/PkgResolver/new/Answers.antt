use Rattle.std.proofs.Common.{sym, subst}
use Rattle.wesl_resolve.specs.Places.{AreNoted, HaveNames}
use Rattle.wesl_resolve.proofs.pkg_resolver.PkgResolver.new.Goals as goal

pub invariant_of-result : goal.invariant_of-result
invariant_of-result g c =
    record {
      named = subst (λ ks. HaveNames ks c.new-2.result.names) (sym c.new.ensures.items) c.new-2.ensures.named;
      noted = subst (λ ks. AreNoted ks c.new-2.result.places) (sym c.new.ensures.items) c.new-2.ensures.noted;
    }
