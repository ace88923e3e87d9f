-- Entries of a map, each seen as what its key and its value say.
use Rattle.std.proofs.Common.{◌≡◌, List, [], ◌∷◌, Bool, true, false, cond, Option, Some, option_map, map, refl, sym, ◌∙◌}
use Rattle.std.specs.List.{IsDistinct, AllByRecursion}
use Rattle.std.specs.List.Sorted.{IsStrictlySortedBy}
use Rattle.std.specs.Map.{lookup, keys_of}
use Rattle.std.specs.declared.cmp.Ordering.{Ordering}
use Rattle.std.specs.declared.cmp.Ordering.TheVariants.{Less}

module _ {K L A V : Type 0} (f : K → L) (g : A → V) where
  abbrev pub seen : K × A → L × V
  seen e = (f e.0, g e.1)

  chosen : (b : Bool) (a : A) (others : Option A) (o : Option V) → o ≡ option_map g others → cond b (Some (g a)) o ≡ option_map g (cond b (Some a) others)
  chosen true a others o h = refl
  chosen false a others o h = h

  -- a look-up among the entries as they are seen
  pub lookup-seen : (test : L → Bool) (es : List (K × A)) → lookup test (map seen es) ≡ option_map g (lookup (λ k. test (f k)) es)
  lookup-seen test [] = refl
  lookup-seen test (e ∷ es) = chosen (test (f e.0)) e.1 (lookup (λ k. test (f k)) es) (lookup test (map seen es)) (lookup-seen test es)

  -- keys that differ differ as they are seen
  module _ (d : K → K → Bool) (e : L → L → Bool) (same : (x y : K) → d x y ≡ e (f x) (f y)) where
    apart : (k : K) (es : List (K × A)) → AllByRecursion (λ y. d k y ≡ false) (keys_of es) → AllByRecursion (λ y. e (f k) y ≡ false) (keys_of (map seen es))
    apart k [] h = h
    apart k (x ∷ es) h = (sym (same k x.0) ∙ h.0, apart k es h.1)

    pub distinct-seen : (es : List (K × A)) → IsDistinct d (keys_of es) → IsDistinct e (keys_of (map seen es))
    unfolding IsDistinct
    distinct-seen [] h = h
    distinct-seen (x ∷ es) h = (apart x.0 es h.0, distinct-seen es h.1)

  -- keys in order are in order as they are seen
  module _ (c : K → K → Ordering) (d : L → L → Ordering) (same : (x y : K) → c x y ≡ d (f x) (f y)) where
    below : (k : K) (es : List (K × A)) → AllByRecursion (λ y. c k y ≡ Less) (keys_of es) → AllByRecursion (λ y. d (f k) y ≡ Less) (keys_of (map seen es))
    below k [] h = h
    below k (x ∷ es) h = (sym (same k x.0) ∙ h.0, below k es h.1)

    pub sorted-seen : (es : List (K × A)) → IsStrictlySortedBy c (keys_of es) → IsStrictlySortedBy d (keys_of (map seen es))
    unfolding IsStrictlySortedBy
    sorted-seen [] h = h
    sorted-seen (x ∷ es) h = (below x.0 es h.0, sorted-seen es h.1)
