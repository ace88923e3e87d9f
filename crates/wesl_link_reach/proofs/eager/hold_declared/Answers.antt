use Rattle.std.proofs.Common.{Contains, subst, sym}
use Rattle.wesl_link_symbols.specs.declared.ids.PathId.{PathId}
use Rattle.wesl_tree_base.specs.declared.ids.NameId.{NameId}
use Rattle.wesl_link_symbols.specs.Tables.{Table}
use Rattle.wesl_link_symbols.specs.Names.{Declares}
use Rattle.wesl_link_reach.specs.Loading.{world_of}
use Rattle.wesl_link_symbols.proofs.Lists.{at_contains, one_at}
use Rattle.wesl_link_reach.proofs.Declaring.{symbol_reached, symbol_placed, symbol_gained}
use Rattle.wesl_link_reach.proofs.eager.hold_declared.Goals as goal

pub hold_all-requires-clause-reached : goal.hold_all-requires-clause-reached
hold_all-requires-clause-reached g c = λ s h.
    symbol_reached c.table_at.result.now c.requires.sound c.requires.eager (at_contains (world_of c.args.request.now c.args.loaded.now) c.args.place _ c.table_at.ensures) _ c.in_ok-symbols.ensures s (rw c.deref.ensures.value at h)

pub hold_all-requires-clause-placed : goal.hold_all-requires-clause-placed
hold_all-requires-clause-placed g c = λ s h.
    symbol_placed c.table_at.result.now _ _ (at_contains (world_of c.args.request.now c.args.loaded.now) c.args.place _ c.table_at.ensures) _ c.in_ok-symbols.ensures s (rw c.deref.ensures.value at h)

pub returns-clause-held : goal.returns-clause-held
returns-clause-held g c = λ u at n d.
    let same = one_at (world_of c.args.request.now c.args.loaded.now) c.args.place u c.table_at.result.now at c.table_at.ensures in
    subst (λ (x : Table PathId NameId). Contains c.hold_all.new.loaded.symbols.keys (record { path = x.path; name = n })) (sym same)
    (c.in_ok-hold_all.ensures.held (record { path = c.table_at.result.now.path; name = n }) (rw c.deref.ensures.value (symbol_gained c.table_at.result.now _ c.in_ok-symbols.ensures n
    (subst (λ (x : Table PathId NameId). Declares x n) same d))))
