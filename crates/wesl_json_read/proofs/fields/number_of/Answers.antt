use Rattle.std.proofs.Common.{◌≡◌, [], List, ℕ, Some, None}
use Rattle.std.proofs.lemmas.Result.{IfOk-weaker, IfErr-weaker}
use Rattle.wesl_json_form.specs.View.{borrowed_view}
use Rattle.wesl_json_form.specs.Reading.{name_in}
use Rattle.wesl_json_read.specs.Faults.{LocatesHere}
use Rattle.wesl_json_read.specs.Numbers.{IsNumbered}
use Rattle.wesl_json_read.proofs.Places.{memory}
use Rattle.wesl_json_read.proofs.fields.number_of.Goals as goal

pub returns-in-Ok-clause-ok : goal.returns-in-Ok-clause-ok
returns-in-Ok-clause-ok c =
    let d = borrowed_view c.args.value.now in
    IfOk-weaker c.number.result _ (λ i. (s : List ℕ) × (name_in d ≡ Some s) × IsNumbered c.args.numbering.now s i.0 c.number.new.self) (λ i h. (c.in-Ok.name.now, c.in-Ok.ensures.ok, h)) c.number.ensures.number

pub returns-in-Ok-clause-place : goal.returns-in-Ok-clause-place
returns-in-Ok-clause-place c =
    let d = borrowed_view c.args.value.now in
    IfErr-weaker c.number.result _ (LocatesHere (name_in d)) (λ e is. memory (λ place. (place ≡ []) × (name_in d ≡ None)) e is) c.number.ensures.refused
