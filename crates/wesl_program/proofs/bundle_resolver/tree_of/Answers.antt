use Rattle.std.proofs.lemmas.Result.{IfOk-weaker}
use Rattle.wesl_json_form.specs.View.{borrowed_view}
use Rattle.wesl_tree.specs.Translation.{unit_view}
use Rattle.wesl_json.proofs.Again.{spelled-read}
use Rattle.wesl_json.proofs.UnitTextLemmas.{both-err}
use Rattle.wesl_program.proofs.TreeFaults.{tree-fault}
use Rattle.wesl_program.proofs.bundle_resolver.tree_of.Goals as goal

pub returns-clause-read : goal.returns-clause-read
returns-clause-read c = IfOk-weaker c.unit_of_borrowed.result _ _ (λ u h. spelled-read (borrowed_view c.args.value.now) (unit_view u) h) c.unit_of_borrowed.ensures.unit

pub returns-clause-refused : goal.returns-clause-refused
returns-clause-refused c = both-err c.unit_of_borrowed.result c.unit_of_borrowed.ensures.place c.unit_of_borrowed.ensures.unread (λ e p q. tree-fault (borrowed_view c.args.value.now) e p q)
