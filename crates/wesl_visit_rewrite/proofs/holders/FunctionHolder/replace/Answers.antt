use Rattle.std.proofs.Common.{refl}
use Rattle.wesl_tree_syntax.specs.View.{function_view}
use Rattle.wesl_visit_rewrite.proofs.Roots.{root}
use Rattle.wesl_visit_rewrite.proofs.holders.FunctionHolder.replace.Goals as goal

pub returns-clause-replaced : goal.returns-clause-replaced
returns-clause-replaced g c =
    root _ _ (function_view c.args.self.now) (function_view c.in_function.new.function) refl c.in_function.ensures
