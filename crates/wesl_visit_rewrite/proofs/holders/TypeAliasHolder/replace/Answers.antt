use Rattle.std.proofs.Common.{refl}
use Rattle.wesl_tree_syntax.specs.View.{alias_view}
use Rattle.wesl_visit_rewrite.proofs.Roots.{root}
use Rattle.wesl_visit_rewrite.proofs.holders.TypeAliasHolder.replace.Goals as goal

pub returns-clause-replaced : goal.returns-clause-replaced
returns-clause-replaced g c =
    root _ _ (alias_view c.args.self.now) (alias_view c.in_alias.new.alias) refl c.in_alias.ensures
