use Rattle.std.proofs.Common.{refl}
use Rattle.wesl_tree_syntax.specs.View.{struct_view}
use Rattle.wesl_visit_rewrite.proofs.Roots.{root}
use Rattle.wesl_visit_rewrite.proofs.holders.StructHolder.replace.Goals as goal

pub returns-clause-replaced : goal.returns-clause-replaced
returns-clause-replaced g c =
    root _ _ (struct_view c.args.self.now) (struct_view c.in_struct.new.structure) refl c.in_struct.ensures
