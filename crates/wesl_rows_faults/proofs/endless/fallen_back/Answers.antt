use Rattle.std.proofs.Common.{inl, inr}
use Rattle.wesl_rows_faults.proofs.endless.fallen_back.OwnLists.{own-1}
use Rattle.wesl_rows_faults.proofs.endless.fallen_back.Goals as goal

-- whatever was boxed is always ready
always : (i : (own-1).I) (y : ((own-1).entry i).0.Denot) → ((own-1).entry i).1.ready y
always (inl i) y = tt
always (inr j) y = absurd j

pub linked-requires : goal.linked-requires
linked-requires c =
    c.mount_fallback_resolver.ensures.ready c.new-router.ensures.ready (always c.into_dyn_box.result.vtable c.into_dyn_box.result.value)
