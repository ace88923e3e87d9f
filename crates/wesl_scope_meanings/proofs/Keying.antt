-- Keys by the numbers of their blocks, and by the ways of these.
use Rattle.std.proofs.Common.{◌≡◌, ℕ, zero, suc, ◌<◌, List, [], ◌∷◌, length, get_or, map, refl, sym, ◌∙◌, ap, arith}
use Rattle.std.specs.Prelude.{slice_index_or}
use Rattle.std.specs.List.{All}
use Rattle.wesl_scope_occurrences.specs.Laws.{WaysLeadOutwards}
use Rattle.wesl_scope_occurrences.specs.Ways.{AreNested, way}
use Rattle.wesl_scope_meanings.specs.Scopes.{Key, bound}
use Rattle.wesl_tree_syntax.specs.Numbers.{AreNumbers}
use Rattle.wesl_scope_meanings.specs.declared.keys.Key.{Key as FoundKey}
use Rattle.wesl_scope_meanings.specs.declared.keys.Key.TheVariants as made
use Rattle.wesl_scope_meanings.specs.Keys.{key_view, flat, IsKeyBelow, number_of}
use Rattle.wesl_scope_meanings.proofs.Scoping.{number_of_way}

-- numbers for keys by the numbers of their blocks are numbers for them by the ways
module _ (ways : WaysLeadOutwards) (outer : List ℕ) (ns : AreNested outer) where
  unflat : Key → Key
  unflat (bound b n) = bound (way outer (number_of b)) n
  unflat k = k

  flat_again : Key → Key
  flat_again (bound b n) = bound (number_of b ∷ []) n
  flat_again k = k

  one_way : (k : FoundKey) → unflat (flat k) ≡ key_view (way outer) k
  unfolding unflat
  one_way (made.Bound b n) = refl
  one_way (made.Free n) = refl
  one_way (made.Qualified p n) = refl

  back : (k : FoundKey) → IsKeyBelow (length outer) k → flat_again (key_view (way outer) k) ≡ flat k
  unfolding flat_again
  back (made.Bound b n) h = ap (λ x. bound (x ∷ []) n.now) (number_of_way ways outer b ns h)
  back (made.Free n) h = refl
  back (made.Qualified p n) h = refl

  at_place : (f : FoundKey → Key) (ks : List FoundKey) (i : ℕ) (d : Key) (k : FoundKey) → i < length ks → slice_index_or (map f ks) i d ≡ f (get_or ks i k)
  at_place f [] i d k h = absurd (omega (arith, h))
  at_place f (x ∷ xs) zero d k h = refl
  at_place f (x ∷ xs) (suc i) d k h = at_place f xs i d k (omega (arith, h))

  same_count : (f : FoundKey → Key) (ks : List FoundKey) → length (map f ks) ≡ length ks
  same_count f [] = refl
  same_count f (k ∷ ks) = ap suc (same_count f ks)

  moved : (ks : List FoundKey) (k : FoundKey) (numbers : List ℕ) → All (IsKeyBelow (length outer)) ks → AreNumbers (map flat ks) numbers → AreNumbers (map (key_view (way outer)) ks) numbers
  moved ks k numbers below a =
      let m = same_count flat ks in
      let n = same_count (key_view (way outer)) ks in
      record {
        one_each = a.one_each ∙ (m ∙ sym n);
        equal_where_keys = λ d i j hi hj.
            let li : i < length ks = omega (arith, hi, n) in
            let lj : j < length ks = omega (arith, hj, n) in
            let old = a.equal_where_keys d i j (omega (arith, li, m)) (omega (arith, lj, m)) in
            let fi = at_place flat ks i d k li in
            let fj = at_place flat ks j d k lj in
            let vi = at_place (key_view (way outer)) ks i d k li in
            let vj = at_place (key_view (way outer)) ks j d k lj in (
              λ e. vi ∙ (sym (one_way (get_or ks i k)) ∙ (ap unflat (sym fi ∙ (old.0 e ∙ fj)) ∙ (one_way (get_or ks j k) ∙ sym vj))),
              λ e. old.1 (fi ∙ (sym (back (get_or ks i k) (below i k li)) ∙ (ap flat_again (sym vi ∙ (e ∙ vj)) ∙ (back (get_or ks j k) (below j k lj) ∙ sym fj)))),
            );
        by_first = λ i j hi h. a.by_first i j (omega (arith, hi, m, n)) h;
      }

  pub numbers_moved : (ks : List FoundKey) (numbers : List ℕ) → All (IsKeyBelow (length outer)) ks → AreNumbers (map flat ks) numbers → AreNumbers (map (key_view (way outer)) ks) numbers
  numbers_moved [] numbers below a = a
  numbers_moved (k ∷ ks) numbers below a = moved (k ∷ ks) k numbers below a
