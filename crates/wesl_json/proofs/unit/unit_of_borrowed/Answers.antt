use Rattle.std.proofs.lemmas.Result.{IfOk-weaker, IfErr-weaker}
use Rattle.wesl_json_form.specs.View.{borrowed_view}
use Rattle.wesl_tree_syntax.specs.Shown.{placed}
use Rattle.wesl_tree.specs.Translation.{unit_view}
use Rattle.wesl_json_form.specs.Units.{IsNoUnit}
use Rattle.wesl_json.proofs.Again.{read-written, readable-read, is-memory}
use Rattle.wesl_json.proofs.unit.unit_of_borrowed.Goals as goal

pub returns-clause-unit : goal.returns-clause-unit
returns-clause-unit c = c.unit_of_value.ensures.unit

pub returns-clause-place : goal.returns-clause-place
returns-clause-place c = c.unit_of_value.ensures.place

pub returns-clause-unread : goal.returns-clause-unread
returns-clause-unread c = c.unit_of_value.ensures.unread

pub returns-clause-reads_back : goal.returns-clause-reads_back
returns-clause-reads_back c =
    let d = borrowed_view c.args.value.now in
    IfOk-weaker c.unit_of_value.result _ _ (λ r h spans u w paths. (read-written c.law_of_units.ensures spans u d w paths (placed (unit_view r)) h.read).1) c.unit_of_value.ensures.unit

pub returns-clause-only_readable : goal.returns-clause-only_readable
returns-clause-only_readable c =
    let d = borrowed_view c.args.value.now in
    IfOk-weaker c.unit_of_value.result _ _ (λ r h spans u w paths. (read-written c.law_of_units.ensures spans u d w paths (placed (unit_view r)) h.read).0) c.unit_of_value.ensures.unit

pub returns-clause-is_read : goal.returns-clause-is_read
returns-clause-is_read c =
    let d = borrowed_view c.args.value.now in
    IfErr-weaker c.unit_of_value.result _ _ (λ e h spans u w paths readable. is-memory e (IsNoUnit d) h (λ none. readable-read c.law_of_units.ensures spans u d w paths none readable)) c.unit_of_value.ensures.unread
