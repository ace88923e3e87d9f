-- What a map from paths to units keeps.
use Rattle.std.proofs.Common.{◌≡◌, Bool, true, false, refl, sym, ap, ◌∙◌, true≢false, rules}
use Rattle.std.specs.Cmp.{IsEquivalence}
use Rattle.wesl_link_symbols.specs.declared.ids.PathId.{PathId}
use Rattle.wesl_link_engine.specs.Taking.{path_eq}

pub path_same : (p q : PathId) → path_eq p q ≡ true → p ≡ q
path_same p q e = search rules

pub path_own : (p : PathId) → path_eq p p ≡ true
path_own p = search rules

-- equality of numbers of paths tells them apart
pub path_laws : IsEquivalence path_eq
path_laws = record {
  refl = path_own;
  symm = both;
  congr = λ p q r e. ap (λ s. path_eq s r) (path_same p q e);
}
  where
    turned : (p q : PathId) → path_eq p q ≡ true → path_eq q p ≡ true
    turned p q e = ap (λ r. path_eq q r) (path_same p q e) ∙ path_own q

    both : (p q : PathId) → path_eq p q ≡ path_eq q p
    both p q = by (path_eq p q) refl (path_eq q p) refl
      where
        by : (a : Bool) → path_eq p q ≡ a → (b : Bool) → path_eq q p ≡ b → path_eq p q ≡ path_eq q p
        by true e b f = e ∙ sym (turned p q e)
        by false e true f = absurd (true≢false (sym (turned q p f) ∙ e))
        by false e false f = e ∙ sym f
