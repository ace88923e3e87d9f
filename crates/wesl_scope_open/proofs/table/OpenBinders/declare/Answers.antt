use Rattle.std.proofs.Common.{refl}
use Rattle.wesl_scope_open.proofs.Tables.{declare_kept, first_kept, pushed}
use Rattle.wesl_scope_open.proofs.table.OpenBinders.declare.Goals as goal

pub returns : goal.returns
returns g c = record {
  noted = λ k. first_kept _ _ k;
  reads = refl;
  outer = λ k.
      declare_kept c.args.self.now.changes.items c.push.new.self.items _ _ c.args.name c.args.read c.index-before.result.now c.requires c.index-before.ensures
      (pushed c.push.result c.args.self.now.is_refused c.is_err.result _ _ _ c.is_err.ensures.value c.push.ensures.items k) refl;
}
