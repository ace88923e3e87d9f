use Rattle.std.proofs.Common.{sym, ◌∙◌}
use Rattle.std.proofs.lemmas.Result.{on_ok_weaker}
use Rattle.wesl_tree.specs.Translation.{unit_view}
use Rattle.wesl_tree_syntax.specs.Unit.{spelled}
use Rattle.wesl_text_guarded.proofs.Steps.{after_all}
use Rattle.wesl_text_guarded.proofs.guarding.guard_unwritable.Goals as goal

pub returns-else-branch-clause-guarded : goal.returns-else-branch-clause-guarded
returns-else-branch-clause-guarded c =
    on_ok_weaker c.put_parentheses-else-branch.result
    (after_all (spelled (unit_view c.args.unit.now)) (spelled (unit_view c.put_parentheses.new.unit)) (spelled (unit_view c.put_parentheses-else-branch.new.unit)) c.requires.unwritable c.in_ok-put_parentheses.ensures.put (sym c.if-branch.false ∙ c.in_ok-is_writable.ensures.told))
    c.put_parentheses-else-branch.ensures.put
