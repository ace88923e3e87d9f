use Rattle.std.proofs.Common.{refl}
use Rattle.wesl_tree_syntax.specs.View.{declaration_view}
use Rattle.wesl_visit_rewrite.proofs.Roots.{root}
use Rattle.wesl_visit_rewrite.proofs.holders.DeclarationHolder.replace.Goals as goal

pub returns-clause-replaced : goal.returns-clause-replaced
returns-clause-replaced g c =
    root _ _ (declaration_view c.args.self.now) (declaration_view c.in_declaration.new.declaration) refl c.in_declaration.ensures
