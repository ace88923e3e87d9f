use Rattle.std.proofs.Common.{◌∙◌, ap}
use Rattle.wesl_mangle_forms.specs.Unicode.{item_of_words}
use Rattle.wesl_tree_base.specs.Borrowed.{texts}
use Rattle.wesl_mangle_forms.proofs.Writing.{IfOk-to, through}
use Rattle.wesl_mangle_forms.proofs.ununicode.read_unicode.Goals as goal

pub returns-in-Ok-clause-read : goal.returns-in-Ok-clause-read
returns-in-Ok-clause-read c =
    let q = ap texts c.as_slice.ensures.value ∙ c.in-Ok.ensures in
    through _ c.told.result c.item_of_words.result c.told.ensures.made (IfOk-to _ _ (λ _ h. h ∙ ap item_of_words q) c.item_of_words.result c.item_of_words.ensures)
