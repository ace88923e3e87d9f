use Rattle.std.proofs.Common.{refl}
use Rattle.wesl_tree_syntax.specs.View.{assert_view}
use Rattle.wesl_visit_rewrite.proofs.Roots.{root}
use Rattle.wesl_visit_rewrite.proofs.holders.ConstAssertHolder.replace.Goals as goal

pub returns-clause-replaced : goal.returns-clause-replaced
returns-clause-replaced g c =
    root _ _ (assert_view c.args.self.now) (assert_view c.in_assert.new.assertion) refl c.in_assert.ensures
