use Rattle.wesl_json_form.specs.View.{borrowed_view}
use Rattle.wesl_json_form.specs.Schema.{node}
use Rattle.std.proofs.lemmas.Result.{IfErr-weaker}
use Rattle.wesl_json_form.specs.Schema.{a_unit}
use Rattle.wesl_json_form.specs.Units.{IsBrokenUnit, IsNoUnit, says_form}
use Rattle.wesl_json_form.proofs.Broken.{whole_form_refuses}
use Rattle.wesl_json_read.proofs.Places.{IfPlace-more}
use Rattle.wesl_json_read_unit.proofs.unit.unit_of_value.Goals as goal

pub returns-clause-unread : goal.returns-clause-unread
returns-clause-unread c =
    let d = borrowed_view c.args.value.now in
    IfErr-weaker c.read_unit.result _ _ (λ e h. IfPlace-more (IsBrokenUnit d) (λ _. IsNoUnit d) e (λ place w. whole_form_refuses (says_form d) w.0 (node a_unit) d w.2) h) c.read_unit.ensures.place
