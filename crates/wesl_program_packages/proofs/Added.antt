-- A value that is added under a name, if none has it.
use Rattle.std.proofs.Common.{◌≡◌, Bool, true, false, true≢false, if◌then◌else◌, Option, Some, None, refl, subst, bytes_eq}
use Rattle.std.specs.Option.{is_some, option_or}
use Rattle.std.proofs.lemmas.Slice.Eq.{bytes_eq-Decides}
use Rattle.wesl_tree_names.specs.Path.{Text}

module _ {X : Type 0} where
  none-gives : (o p : Option X) → is_some o ≡ false → p ≡ option_or o p
  none-gives None p h = refl
  none-gives (Some y) p h = absurd (true≢false h)

  nothing-more : (o : Option X) → o ≡ option_or o None
  nothing-more None = refl
  nothing-more (Some y) = refl

  -- the name is not there: the value is there now
  pub is-added : (g : Text → Option X) (k n : Text) (x : X) → is_some (g k) ≡ false → (if bytes_eq k n then Some x else g n) ≡ option_or (g n) (if bytes_eq k n then Some x else None)
  is-added g k n x absent = by (bytes_eq k n) refl
    where
      by : (b : Bool) → bytes_eq k n ≡ b → (if b then Some x else g n) ≡ option_or (g n) (if b then Some x else None)
      by true is = none-gives (g n) (Some x) (subst (λ m. is_some (g m) ≡ false) ((bytes_eq-Decides k n).0 is) absent)
      by false is = nothing-more (g n)
