use Rattle.std.proofs.Common.{ℕ, ◌<◌, ◌↔◌, length, sym, ◌∙◌, subst}
use Rattle.std.specs.List.{Contains}
use Rattle.wesl_tree_syntax.specs.Unit.{numbers}
use Rattle.wesl_tree.specs.Translation.{unit_view}
use Rattle.wesl_scope.proofs.syntax_util.TranslationUnitSyntaxUtil.retarget_idents.Goals as goal

pub returns-clause-table : goal.returns-clause-table
returns-clause-table c =
    subst (λ xs. (m : ℕ) → (m < length xs) ↔ Contains (numbers (unit_view c.renumber.new.unit)) m) (sym c.renumber.ensures.names)
    (subst (λ ns. (m : ℕ) → (m < length c.in_ok-given.names) ↔ Contains ns m) (sym (c.renumber.ensures.numbers ∙ c.deref.ensures.value)) c.in_ok-given.ensures.table)
