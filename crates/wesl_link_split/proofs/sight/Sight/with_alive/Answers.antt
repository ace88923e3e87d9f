use Rattle.std.proofs.Common.{List, subst}
use Rattle.std.specs.Global.{Vec}
use Rattle.wesl_tree_base.specs.declared.ids.NameId.{NameId}
use Rattle.wesl_link_symbols.specs.declared.ids.PathId.{PathId}
use Rattle.wesl_link_split.specs.Grouped.{AreCovered}
use Rattle.wesl_link_split.specs.Split.{Binder}
use Rattle.wesl_link_split.proofs.Leads.{sorted_some}
use Rattle.wesl_link_split.proofs.sight.Sight.with_alive.Goals as goal

pub with_covers-requires-2-clause-targets : goal.with_covers-requires-2-clause-targets
with_covers-requires-2-clause-targets c = sorted_some c.args.alive _ _ c.in_ok-targets.ensures

pub with_covers-requires-2-clause-covers : goal.with_covers-requires-2-clause-covers
with_covers-requires-2-clause-covers c =
    subst (λ (gs : List (Vec (Binder PathId NameId))). AreCovered c.args.alive gs c.add_covers.new.covers.items) c.deref.ensures.value c.in_ok-add_covers.ensures
