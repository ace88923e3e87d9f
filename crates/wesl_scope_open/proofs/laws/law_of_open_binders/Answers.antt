use Rattle.std.proofs.Common.{subst}
use Rattle.wesl_tree_syntax.specs.Numbers.{AreNumbers}
use Rattle.wesl_tree_syntax.specs.Unit.{spelled}
use Rattle.wesl_tree.specs.Translation.{unit_view}
use Rattle.wesl_scope_occurrences.specs.Occurrences.{occurrences}
use Rattle.wesl_scope_open.proofs.Told.{numbers_told}
use Rattle.wesl_scope_open.proofs.Whole.{reads_as_scoping}
use Rattle.wesl_scope_open.proofs.laws.law_of_open_binders.Goals as goal

pub returns : goal.returns
returns c = record {
  meanings = λ t. reads_as_scoping t.names t.imports t.directives t.declarations;
  numbers = λ t w ns told are. numbers_told w (occurrences (spelled (unit_view t))) told ns (subst (λ ks. AreNumbers ks ns) (reads_as_scoping t.names t.imports t.directives t.declarations) are);
}
