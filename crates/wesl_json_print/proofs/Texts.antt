-- Texts behind which tokens are printed.
use Rattle.std.proofs.Common.{◌≡◌, ℕ, List, [], ◌++◌, IsUtf8, sym, ap, ◌∙◌, subst}
use Rattle.std.proofs.lemmas.Str.{IsUtf8-append}
use Rattle.json.specs.Print.{print}
use Rattle.json.specs.Token.{Token}
use Rattle.json.specs.Tree.{json_tokens}
use Rattle.serde_json.specs.Data.{Data}
use Rattle.serde_json.specs.Written.{compact_text, outline}
use Rattle.serde_json.proofs.Texts.{print-outline}

pub text-printed : (old before bytes : List ℕ) (first ts : List Token) (d : Data) → before ≡ old → first ≡ [] → ts ≡ first ++ json_tokens (outline d) → bytes ≡ before ++ print ts → bytes ≡ old ++ compact_text d
text-printed old before bytes first ts d is none written h =
    h ∙ ap (λ b. b ++ print ts) is ∙ ap (λ us. old ++ print us) (written ∙ ap (λ us. us ++ json_tokens (outline d)) none) ∙ ap (λ s. old ++ s) (print-outline d)

pub text-valid : (old before bytes s : List ℕ) → before ≡ old → bytes ≡ before ++ s → IsUtf8 old → IsUtf8 s → IsUtf8 bytes
text-valid old before bytes s is h one two = subst IsUtf8 (sym (h ∙ ap (λ b. b ++ s) is)) (IsUtf8-append old s one two)
