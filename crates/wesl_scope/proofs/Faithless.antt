-- No clash is that both tests pass.
use Rattle.std.proofs.Common.{◌≡◌, ◌↔◌, Bool, true, false, refl, sym, ◌∙◌, ap₂}
use Rattle.std.specs.Prelude.{not, ◌&&◌}
use Rattle.std.specs.Bool.{Decides}

turned : (t : Bool) → (not t ≡ false) ↔ (t ≡ true)
turned true = (λ e. refl, λ e. refl)
turned false = (λ e. sym e, λ e. sym e)

-- `b` says whether both tests pass, which decide P
pub no_clash : {P : Type 0} (b s t x y : Bool) → b ≡ (s && t) → s ≡ x → t ≡ y → Decides (x && y) P → (not b ≡ false) ↔ P
no_clash b s t x y e se te d =
    let both = ap₂ (λ p q. p && q) se te in
    (λ h. d.0 (sym both ∙ (sym e ∙ (turned b).0 h)), λ p. (turned b).1 (e ∙ (both ∙ d.1 p)))
