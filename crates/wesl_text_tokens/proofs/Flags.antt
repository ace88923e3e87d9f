-- Flags that tell which places are among some.
use Rattle.std.proofs.Common.{◌≡◌, ℕ, zero, suc, ◌<◌, Bool, false, List, [], ◌∷◌, reverse, length, get_or, refl, ap, ◌∙◌, arith}
use Rattle.wesl_text_tokens.specs.Characters.{is_one_of}
use Rattle.wesl_text_tokens.specs.Joining.{FlagsOf}

any_default : (xs : List Bool) (i : ℕ) (d e : Bool) → i < length xs → get_or xs i d ≡ get_or xs i e
any_default [] i d e h = absurd (omega arith)
any_default (x ∷ xs) zero d e h = refl
any_default (x ∷ xs) (suc i) d e h = any_default xs i d e (omega arith)

-- the flag of a place
pub flag_there : (ps qs : List ℕ) (flags : List Bool) (i : ℕ) (x : Bool) → x ≡ get_or flags i x → FlagsOf ps flags → ps ≡ qs → i < length flags → x ≡ is_one_of (reverse qs) i
flag_there ps qs flags i x e f same h = e ∙ any_default flags i x false h ∙ f i h ∙ ap (λ (ys : List ℕ). is_one_of (reverse ys) i) same
