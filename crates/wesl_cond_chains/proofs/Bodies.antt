-- What may close a body, and a pair of a body and of that, and any other pair.
use Rattle.std.proofs.Common.{◌≡◌, true, false, ◌&&◌, refl}
use Rattle.wesl_cond_chains.specs.Lists.{is_compound, is_option}
use Rattle.wesl_tree_syntax.specs.Tree.{LabelOf, kind, compound, present, absent}

pub option_cases : {I : Type 0} (P : LabelOf I → Type 0) → P (kind present) → P (kind absent) → (o : LabelOf I) → is_option o ≡ true → P o
option_cases P x y (kind present) e = x
option_cases P x y (kind absent) e = y
option_cases P x y o e = cc

pub pair_cases : {I : Type 0} (P : LabelOf I → LabelOf I → Type 0) → P (kind compound) (kind present) → P (kind compound) (kind absent) → ((b o : LabelOf I) → (is_compound b && is_option o) ≡ false → P b o) → (b o : LabelOf I) → P b o
pair_cases P x y z (kind compound) (kind present) = x
pair_cases P x y z (kind compound) (kind absent) = y
pair_cases P x y z (kind compound) o = z (kind compound) o refl
pair_cases P x y z b o = z b o refl
