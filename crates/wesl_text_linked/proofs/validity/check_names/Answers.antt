use Rattle.std.proofs.Common.{◌≡◌, ◌∙◌, List, None, Some, slice_get, option_copied, sym as turned, ap, subst}
use Rattle.std.specs.Borrow.{Bor}
use Rattle.wesl_tree_names.specs.Path.{Text}
use Rattle.wesl_tree.specs.Translation.{unit_view}
use Rattle.wesl_tree_names.specs.Errors.{IsBare}
use Rattle.wesl_tree_names.specs.declared.errors.Error as error
use Rattle.wesl_validate_builtins.specs.Builtins.{builtins_view}
use Rattle.wesl_text_linked.proofs.Undefined.{first_told, no_first}
use Rattle.wesl_text_linked.proofs.validity.check_names.Goals as goal

pub returns-in-Some-clause-refused : goal.returns-in-Some-clause-refused
returns-in-Some-clause-refused c =
    let first : slice_get c.in-Ok.free.items 0 ≡ Some c.in-Some.name.now =
    ap (λ (xs : List (Bor Text)). slice_get xs 0) (turned c.deref.ensures.value) ∙ (turned c.first.ensures.value ∙ ap option_copied c.in-Some.is) in
    first_told (unit_view c.args.unit.now) (builtins_view c.args.builtins.now) c.in-Ok.free.items c.in-Some.name.now c.in-Ok.ensures.told first
    c.undefined.result c.of-in-Some.result c.undefined.ensures c.of-in-Some.ensures

pub returns-clause-defined : goal.returns-clause-defined
returns-clause-defined c =
    let none : slice_get c.in-Ok.free.items 0 ≡ None =
    ap (λ (xs : List (Bor Text)). slice_get xs 0) (turned c.deref.ensures.value) ∙ (turned c.first.ensures.value ∙ ap option_copied c.in-None.is) in
    c.in-Ok.ensures.none.0 (no_first c.in-Ok.free.items none)

pub returns-in-Err-clause-refused : goal.returns-in-Err-clause-refused
returns-in-Err-clause-refused c = (error.Memory, tt, subst (λ e. IsBare e c.of.result) c.in-Err.ensures.refused c.of.ensures)
