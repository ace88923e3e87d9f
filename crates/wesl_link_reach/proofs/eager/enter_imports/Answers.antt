use Rattle.std.proofs.Common.{Contains, subst}
use Rattle.wesl_link_symbols.specs.declared.ids.PathId.{PathId}
use Rattle.wesl_tree_base.specs.declared.ids.NameId.{NameId}
use Rattle.wesl_link_symbols.specs.Tables.{Table}
use Rattle.wesl_link_reach.specs.Loading.{world_of}
use Rattle.wesl_link_symbols.proofs.Lists.{at_contains, one_at}
use Rattle.wesl_link_reach.proofs.Declaring.{import_entered, import_can, import_path}
use Rattle.wesl_link_reach.proofs.eager.enter_imports.Goals as goal

pub enter_all-requires-clause-entered : goal.enter_all-requires-clause-entered
enter_all-requires-clause-entered g c = λ p h.
    import_entered c.table_at.result.now c.requires.sound c.requires.eager (at_contains (world_of c.args.request.now c.args.loaded.now) c.args.place _ c.table_at.ensures) _ c.in_ok-paths.ensures p (rw c.deref.ensures.value at h)

pub enter_all-requires-clause-can : goal.enter_all-requires-clause-can
enter_all-requires-clause-can g c = λ p h.
    import_can c.table_at.result.now c.requires.sound (at_contains (world_of c.args.request.now c.args.loaded.now) c.args.place _ c.table_at.ensures) _ c.in_ok-paths.ensures p (rw c.deref.ensures.value at h)

pub returns-clause-there : goal.returns-clause-there
returns-clause-there g c = λ u at i held.
    c.in_ok-enter_all.ensures.there i.path (rw c.deref.ensures.value (import_path c.table_at.result.now _ c.in_ok-paths.ensures i
    (subst (λ (x : Table PathId NameId). Contains x.imports i) (one_at (world_of c.args.request.now c.args.loaded.now) c.args.place u c.table_at.result.now at c.table_at.ensures) held)))
