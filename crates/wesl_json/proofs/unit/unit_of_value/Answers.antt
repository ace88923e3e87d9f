use Rattle.std.proofs.Common.{subst, IfErr}
use Rattle.serde_json.specs.Data.{Data}
use Rattle.wesl_json_form.specs.Units.{IsBrokenUnit, IsNoUnit}
use Rattle.wesl_json_read.specs.Faults.{IfPlace}
use Rattle.wesl_json.proofs.unit.unit_of_value.Goals as goal

pub returns-clause-place : goal.returns-clause-place
returns-clause-place c = subst (λ (d : Data). IfErr c.unit_of_borrowed.result (λ e. IfPlace e (IsBrokenUnit d))) c.in_ok-light.ensures c.unit_of_borrowed.ensures.place

pub returns-clause-unread : goal.returns-clause-unread
returns-clause-unread c = subst (λ (d : Data). IfErr c.unit_of_borrowed.result (λ e. IfPlace e (λ _. IsNoUnit d))) c.in_ok-light.ensures c.unit_of_borrowed.ensures.unread
