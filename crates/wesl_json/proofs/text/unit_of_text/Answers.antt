use Rattle.std.proofs.Common.{◌≡◌}
use Rattle.std.proofs.lemmas.Result.{IfOk-weaker, IfErr-weaker}
use Rattle.wesl_json_form.specs.View.{borrowed_view}
use Rattle.wesl_json_light.specs.Readable.{IsReadable}
use Rattle.wesl_tree_names.specs.declared.errors.Error as error
use Rattle.wesl_tree_syntax.specs.Shown.{placed}
use Rattle.wesl_tree.specs.Translation.{unit_view}
use Rattle.wesl_json.specs.ReadAgain.{OfWritten}
use Rattle.wesl_json.proofs.Again.{spelled-read}
use Rattle.wesl_json.proofs.UnitTextLemmas.{both-err, unreadable, no-json, of-value, no-value}
use Rattle.wesl_json.proofs.text.unit_of_text.Goals as goal

pub returns-in-Ok-clause-unit : goal.returns-in-Ok-clause-unit
returns-in-Ok-clause-unit c = IfOk-weaker c.unit_of_borrowed.result _ _ (λ u h. (borrowed_view c.in-Ok.value, c.in-Ok.ensures.value, h)) c.unit_of_borrowed.ensures.unit

pub returns-in-Ok-clause-read : goal.returns-in-Ok-clause-read
returns-in-Ok-clause-read c = IfOk-weaker c.unit_of_borrowed.result _ _ (λ u h. (borrowed_view c.in-Ok.value, c.in-Ok.ensures.value, spelled-read (borrowed_view c.in-Ok.value) (unit_view u) h)) c.unit_of_borrowed.ensures.unit

pub returns-in-Ok-clause-refused : goal.returns-in-Ok-clause-refused
returns-in-Ok-clause-refused c =
    let value = c.in-Ok in
    both-err c.unit_of_borrowed.result c.unit_of_borrowed.ensures.place c.unit_of_borrowed.ensures.unread (λ e p q. unreadable c.args.text.now (borrowed_view value.value) e value.ensures.value p q)

pub returns-in-Ok-clause-reads_back : goal.returns-in-Ok-clause-reads_back
returns-in-Ok-clause-reads_back c =
    IfOk-weaker c.unit_of_borrowed.result _ _ (λ r h. of-value c.args.text.now (borrowed_view c.in-Ok.value) (λ d. OfWritten d (λ u. placed (unit_view r) ≡ u)) c.in-Ok.ensures.value h) c.unit_of_borrowed.ensures.reads_back

pub returns-in-Ok-clause-only_readable : goal.returns-in-Ok-clause-only_readable
returns-in-Ok-clause-only_readable c =
    IfOk-weaker c.unit_of_borrowed.result _ _ (λ r h. of-value c.args.text.now (borrowed_view c.in-Ok.value) (λ d. OfWritten d IsReadable) c.in-Ok.ensures.value h) c.unit_of_borrowed.ensures.only_readable

pub returns-in-Ok-clause-is_read : goal.returns-in-Ok-clause-is_read
returns-in-Ok-clause-is_read c =
    IfErr-weaker c.unit_of_borrowed.result _ _ (λ e h. of-value c.args.text.now (borrowed_view c.in-Ok.value) (λ d. OfWritten d (λ u. IsReadable u → e ≡ error.Memory)) c.in-Ok.ensures.value h) c.unit_of_borrowed.ensures.is_read

pub returns-clause-refused : goal.returns-clause-refused
returns-clause-refused c = no-json c.args.text.now c.in-Err.fault c.in-Err.ensures.refused

pub returns-clause-is_read : goal.returns-clause-is_read
returns-clause-is_read c = no-value c.args.text.now c.in-Err.fault c.in-Err.ensures.refused
