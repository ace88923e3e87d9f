use Rattle.std.proofs.Common.{inl, inr}
use Rattle.wesl_rows_faults.proofs.resolvers.routed_by.OwnLists.{own-1}
use Rattle.wesl_rows_faults.proofs.resolvers.routed_by.Goals as goal

-- whatever was boxed is always ready
always : (i : (own-1).I) (y : ((own-1).entry i).0.Denot) → ((own-1).entry i).1.ready y
always (inl i) y = tt
always (inr j) y = absurd j

pub source-requires : goal.source-requires
source-requires c =
    c.mount_fallback_resolver.ensures.ready
    (c.mount_resolver.ensures.ready c.new-router.ensures.ready (always c.into_dyn_box.result.vtable c.into_dyn_box.result.value))
    (always c.into_dyn_box-2.result.vtable c.into_dyn_box-2.result.value)
