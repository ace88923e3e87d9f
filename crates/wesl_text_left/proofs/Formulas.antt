-- What answers leave of a formula that can be printed can be printed.
use Rattle.std.proofs.Common.{◌≡◌, true, Some, None, option_and_then, is_some, refl, ap, ◌∙◌}
use Rattle.wesl_tree_names.specs.Path.{Text}
use Rattle.wesl_text_form.specs.Productions.{a_bare_expression}
use Rattle.wesl_text_form.specs.Spelling.{Slots, slots_as}
use Rattle.wesl_text_form.specs.Says.{as_meant}
use Rattle.wesl_text_reading.proofs.Filled.{no_true}
use Rattle.wesl_text_respell.proofs.Writable.{writable_of_meant}
use Rattle.wesl_cond_features.specs.Features.{known}
use Rattle.wesl_cond_chains.specs.Formulas.{Form, form}
use Rattle.wesl_cond_chains.specs.FormulaResidual.{residual}
use Rattle.wesl_text_left.specs.Laws.{LeftFormulas}
use Rattle.wesl_text_left.proofs.Plain.{plain_meant}
use Rattle.wesl_text_left.proofs.Fine.{expression, IsPlain, fine_plain, left_fine}
use Rattle.wesl_text_left.proofs.Read.{read_fine}

slots_there : (a : Slots) → is_some (option_and_then as_meant a) ≡ true → is_some a ≡ true
slots_there None h = absurd (no_true h)
slots_there (Some ss) h = refl

pub left_formulas : LeftFormulas
left_formulas reply t h e =
    let f : Form Text = residual (known reply) (form t) in
    let x : IsPlain (expression f) = fine_plain f (left_fine (known reply) (form t) (read_fine reply t.label t.children (slots_there (slots_as a_bare_expression t) h) e)).0 in
    ap (λ z. is_some (option_and_then as_meant z)) x.1 ∙ writable_of_meant x.0 (plain_meant x.0 x.2)
