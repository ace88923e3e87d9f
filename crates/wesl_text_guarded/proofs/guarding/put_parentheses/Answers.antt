use Rattle.wesl_tree.specs.Translation.{unit_view}
use Rattle.wesl_text_guarded.proofs.Steps.{spelled_with}
use Rattle.wesl_text_guarded.proofs.guarding.put_parentheses.Goals as goal

pub returns-in-Ok-clause-put : goal.returns-in-Ok-clause-put
returns-in-Ok-clause-put c = spelled_with c.args.comparisons (unit_view c.args.unit.now) (unit_view c.put_parentheses.new.unit) c.in-Ok.ensures.named c.in-Ok.ensures.put
