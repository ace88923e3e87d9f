use Rattle.std.proofs.Common.{◌≡◌, Option, Some, None, option_map, Bor, refl, sym, ap, ◌∙◌}
use Rattle.wesl_json_form.specs.View.{borrowed_view}
use Rattle.wesl_json_form.specs.declared.value.BorrowedValue.{BorrowedValue}
use Rattle.wesl_program.proofs.Units.{value_at-lookup}
use Rattle.wesl_program.proofs.modules.BundleUnits.unit_at.Goals as goal

lent : (r : Option (Bor BorrowedValue)) → option_map (λ v. borrowed_view v.now) r ≡ option_map borrowed_view (option_map (λ v. v.now) r)
lent None = refl
lent (Some v) = refl

pub returns : goal.returns
returns c = lent c.get.result ∙ ap (option_map borrowed_view) c.get.ensures.value ∙ sym (value_at-lookup c.args.path.now c.args.self.now.units.entries)
