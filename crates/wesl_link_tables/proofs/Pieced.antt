-- The identifiers of each declaration, by where they begin and end.
use Rattle.std.proofs.Common.{◌≡◌, ℕ, zero, suc, ◌+◌, ◌<◌, ◌≤◌, List, [], ◌∷◌, ◌++◌, map, length, get_or, take, drop, arith, refl, sym, ap, ◌∙◌}
use Rattle.std.proofs.lemmas.List.{length-map, drop-take, drop-append-le}
use Rattle.wesl_tree_names.specs.Path.{Text}
use Rattle.wesl_tree_syntax.specs.Tree.{TreeOf, trees, before, end, respell, identifiers}
use Rattle.wesl_tree_syntax.specs.Unit.{UnitOf, UnitView, name_in, spelled, trees_of}
use Rattle.wesl_scope_occurrences.specs.Occurrences.{occurrences}
use Rattle.wesl_scope_occurrences.specs.Pieces.{size, cut, declarations_in, starts_from, starts}
use Rattle.wesl_scope_occurrences.proofs.Cutting.{total, map_drop, cut_map}
use Rattle.wesl_link_tables.specs.Reading.{span, all_uses, own_path, unit_in, scope_in}
use Rattle.wesl_link_tables.specs.Tables.{uses}
use Rattle.wesl_link_tables.specs.Uses.{use_of}
use Rattle.wesl_link_tables.specs.declared.reading.Reading.{Reading}
use Rattle.wesl_link_tables.proofs.Declared.{identifiers_respelled, trees_respelled}
use Rattle.wesl_link_split.proofs.Lists.{take_one}

-- ---- lists

drop_none : {X : Type 0} (n : ℕ) → drop {A = X} n [] ≡ []
drop_none zero = refl
drop_none (suc n) = refl

pub drop_twice : {X : Type 0} (m n : ℕ) (xs : List X) → drop n (drop m xs) ≡ drop (m + n) xs
drop_twice zero n xs = let e : zero + n ≡ n = omega arith in rw e refl
drop_twice (suc m) n [] = drop_none n ∙ sym (drop_none (suc m + n))
drop_twice (suc m) n (x ∷ xs) = let e : suc m + n ≡ suc (m + n) = omega arith in rw e (drop_twice m n xs)

taken_length : {X : Type 0} (i : ℕ) (xs : List X) → i ≤ length xs → length (take i xs) ≡ i
taken_length zero xs h = refl
taken_length (suc i) [] h = absurd (omega (arith, h))
taken_length (suc i) (x ∷ xs) h = ap suc (taken_length i xs (omega (arith, h)))

-- from one place to the next
pub span_next : {X : Type 0} (from i : ℕ) (xs : List X) (d : X) → from ≤ i → i < length xs → span from (i + 1) xs ≡ span from i xs ++ get_or xs i d ∷ []
span_next from i xs d h k =
    let some : from ≤ length (take i xs) = omega (arith, h, taken_length i xs (omega (arith, k))) in
    ap (drop from) (take_one xs i d k) ∙ drop-append-le from (take i xs) (get_or xs i d ∷ []) some

pub span_none : {X : Type 0} (from : ℕ) (xs : List X) → span from from xs ≡ []
span_none zero xs = refl
span_none (suc from) [] = refl
span_none (suc from) (x ∷ xs) = span_none from xs

-- ---- where declarations begin and end

module _ {I : Type 0} where
  pub starts_length : (n : ℕ) (ts : List (TreeOf I)) → length (starts_from n ts) ≡ length ts
  starts_length n [] = refl
  starts_length n (t ∷ ts) = ap suc (starts_length (n + size t) ts)

  first_start : (ts : List (TreeOf I)) (m n : ℕ) → n ≡ m + total ts → get_or (starts_from m ts) 0 n ≡ m
  first_start [] m n e = omega (arith, e)
  first_start (t ∷ ts) m n e = refl

  pub cut_length : {X : Type 0} (ts : List (TreeOf I)) (xs : List X) → length (cut ts xs) ≡ length ts
  cut_length [] xs = refl
  cut_length (t ∷ ts) xs = ap suc (cut_length ts (drop (size t) xs))

  pub piece_at : {X : Type 0} (ts : List (TreeOf I)) (m n k d : ℕ) (xs z : List X) → k < length ts → n ≡ m + total ts
      → get_or (cut ts (drop m xs)) k z ≡ span (get_or (starts_from m ts) k d) (get_or (starts_from m ts) (suc k) n) xs
  piece_at [] m n k d xs z h e = absurd (omega (arith, h))
  piece_at (t ∷ ts) m n zero d xs z h e =
      let next : get_or (starts_from (m + size t) ts) 0 n ≡ m + size t = first_start ts (m + size t) n (omega (arith, e)) in
      sym (drop-take m (size t) xs) ∙ ap (λ b. span m b xs) (sym next)
  piece_at (t ∷ ts) m n (suc k) d xs z h e =
      ap (λ l. get_or (cut ts l) k z) (drop_twice m (size t) xs) ∙ piece_at ts (m + size t) n k d xs z (omega (arith, h)) (omega (arith, e))

  -- a piece does not end before it begins, nor after the whole
  pub piece_inside : (ts : List (TreeOf I)) (m n k d : ℕ) → k < length ts → n ≡ m + total ts
      → (get_or (starts_from m ts) k d ≤ get_or (starts_from m ts) (suc k) n) × (get_or (starts_from m ts) (suc k) n ≤ n)
  piece_inside [] m n k d h e = absurd (omega (arith, h))
  piece_inside (t ∷ ts) m n zero d h e =
      let next : get_or (starts_from (m + size t) ts) 0 n ≡ m + size t = first_start ts (m + size t) n (omega (arith, e)) in
      (omega (arith, next), omega (arith, next, e))
  piece_inside (t ∷ ts) m n (suc k) d h e = piece_inside ts (m + size t) n k d (omega (arith, h)) (omega (arith, e))

-- ---- under other names

size_respelled : {I J : Type 0} (f : I → J) (t : TreeOf I) → size (respell f t) ≡ size t
size_respelled f t = ap length (identifiers_respelled f (before t end)) ∙ length-map (identifiers (before t end)) f

starts_respelled : {I J : Type 0} (f : I → J) (n : ℕ) (ts : List (TreeOf I)) → starts_from n (map (respell f) ts) ≡ starts_from n ts
starts_respelled f n [] = refl
starts_respelled f n (t ∷ ts) = ap (λ k. n ∷ starts_from (n + k) (map (respell f) ts)) (size_respelled f t) ∙ ap (λ ks. n ∷ ks) (starts_respelled f (n + size t) ts)

pub starts_spelled : (u : UnitView) → starts (spelled u) ≡ starts (trees_of u)
starts_spelled u =
    let f : ℕ → Text = name_in u.names in
    ap (λ k. starts_from (k + size (respell f u.directives)) (declarations_in (spelled u))) (size_respelled f u.imports)
    ∙ (ap (λ k. starts_from (size u.imports + k) (declarations_in (spelled u))) (size_respelled f u.directives)
    ∙ (ap (starts_from (size u.imports + size u.directives)) (trees_respelled f u.declarations.children)
    ∙ starts_respelled f (size u.imports + size u.directives) (trees u.declarations.children)))

-- ---- the pieces of what all identifiers are

abbrev pub first_in : Reading → ℕ
first_in r = size (unit_in r).imports + size (unit_in r).directives

pub uses_cut : (r : Reading) → uses (own_path r) (unit_in r) ≡ cut (declarations_in (unit_in r)) (drop (first_in r) (all_uses r))
uses_cut r =
    let u : UnitOf Text = unit_in r in
    let g = use_of (scope_in r) (occurrences u) in
    let i : ℕ = size u.imports in
    let d : ℕ = size u.directives in
    cut_map g (declarations_in u) (drop d (drop i (occurrences u)))
    ∙ ap (cut (declarations_in u)) (map_drop g d (drop i (occurrences u)) ∙ (ap (drop d) (map_drop g i (occurrences u)) ∙ drop_twice i d (all_uses r)))
