use Rattle.wesl_tree_syntax.specs.View.{global_view}
use Rattle.wesl_visit_rewrite.proofs.Roots.{root}
use Rattle.wesl_visit_rewrite.proofs.holders.GlobalDeclarationHolder.replace.Goals as goal

pub returns-clause-replaced : goal.returns-clause-replaced
returns-clause-replaced g c =
    root _ _ (global_view c.args.self.now) (global_view c.in_global.new.declaration) (c.law_of_variants.ensures.declarations g.T.Kind.sought c.args.self.now) c.in_global.ensures
