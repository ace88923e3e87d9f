-- Answers of two sets in one.
use Rattle.std.proofs.Common.{◌≡◌, refl}
use mathlib.Core.Path.{fun_ext}
use Rattle.wesl_cond_features.specs.declared.features.Feature.{Feature}
use Rattle.wesl_cond_features.specs.declared.features.Feature.TheVariants.{Enable, Disable, Keep, Error}
use Rattle.wesl_cond_features.specs.Answers.{in_stages, or_else}
use Rattle.wesl_cond_features.specs.Features.{says, and_then, Replies, known, HoldsNoError, then_replies}

says_then : (a b : Feature) → (a ≡ Error → ⊥) → says (and_then a b) ≡ or_else (says a) (says b)
says_then Enable b h = refl
says_then Disable b h = refl
says_then Keep b h = refl
says_then Error b h = absurd (h refl)

module _ {I : Type 0} where
  pub then_is_in_stages : (first second : Replies I) → HoldsNoError first → known (then_replies first second) ≡ in_stages (known first) (known second)
  then_is_in_stages first second h = fun_ext (λ flag. says_then (first flag) (second flag) (h flag))
