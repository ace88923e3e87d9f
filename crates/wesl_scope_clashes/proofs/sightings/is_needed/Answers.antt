use Rattle.std.proofs.Common.{◌∙◌, sym, ap, not, inl, inr}
use Rattle.std.specs.Prelude.{Some}
use Rattle.wesl_scope_clashes.specs.Sightings.{first_of}
use Rattle.wesl_scope_clashes.proofs.Steps.{never_first, found_some}
use Rattle.wesl_scope_clashes.proofs.sightings.is_needed.Goals as goal

pub returns-in-Some : goal.returns-in-Some
returns-in-Some c = λ e. never_first c.args.before.now c.args.next.now c.in-Some.binder (sym c.in-Some.ensures) (inl c.if-binder-next.true)

pub returns-in-Some-2 : goal.returns-in-Some-2
returns-in-Some-2 c = λ e.
    never_first c.args.before.now c.args.next.now c.in-Some.binder (sym c.in-Some.ensures)
    (inr (found_some c.first-in-Some-2.result (first_of c.args.next.now.from (Some c.in-Some.binder.ident.0) c.args.before.now) (c.is_none.ensures ∙ ap not e) c.first-in-Some-2.ensures))
