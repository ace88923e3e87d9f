use Rattle.std.proofs.Common.{◌∙◌, ap}
use Rattle.wesl_mangle_forms.specs.Escape.{unescaped}
use Rattle.wesl_tree_base.specs.Borrowed.{texts}
use Rattle.wesl_mangle_forms.proofs.Writing.{IfOk-to, through}
use Rattle.wesl_mangle_forms.proofs.unescape.read_escape.Goals as goal

pub returns-in-Ok-clause-read : goal.returns-in-Ok-clause-read
returns-in-Ok-clause-read c =
    let q = ap texts c.as_slice.ensures.value ∙ c.in-Ok.ensures in
    through _ c.told.result c.unescaped.result c.told.ensures.made (IfOk-to _ _ (λ _ h. h ∙ ap unescaped q) c.unescaped.result c.unescaped.ensures)
