-- The place of an identifier is its index among all of its module.
use Rattle.std.proofs.Common.{◌≡◌, ℕ, zero, suc, ◌+◌, ◌<◌, List, [], ◌∷◌, ◌++◌, length, get_or, arith, refl, subst, ap}
use Rattle.std.specs.List.{AllPairs}
use Rattle.wesl_tree_syntax.specs.Tree.{Forest, end, tree, kind, at, ident, text, texts, truth, unary, binary, assignment, space, access, path}
use Rattle.wesl_tree_syntax.specs.Unit.{UnitOf, forest_of_unit}
use Rattle.wesl_scope_occurrences.specs.Occurrences.{Block, Node, Occurrence, count, occurrences, occurrences_from}

-- each stands at its index, from this one on
abbrev ArePlaced : ℕ → List (Occurrence ℕ) → Type 0
ArePlaced k [] = Unit {0}
ArePlaced k (o ∷ os) = (o.place ≡ k) × ArePlaced (suc k) os

-- those that are all of these trees
abbrev Are : ℕ → ℕ → List (Occurrence ℕ) → Type 0
Are k n os = ArePlaced k os × (length os ≡ n)

joined : (k n m : ℕ) (xs ys : List (Occurrence ℕ)) → Are k n xs → Are (k + n) m ys → Are k (n + m) (xs ++ ys)
joined k n m [] ys a b = let e : k + n ≡ k = omega (arith, a.1) in (subst (λ i. ArePlaced i ys) e b.0, omega (arith, a.1, b.1))
joined k zero m (x ∷ xs) ys a b = absurd (omega (arith, a.1))
joined k (suc n) m (x ∷ xs) ys a b =
    let e : k + suc n ≡ suc k + n = omega arith in
    let rest = joined (suc k) n m xs ys (a.0.1, omega (arith, a.1)) (subst (λ i. ArePlaced i ys) e b.0, b.1) in
    ((a.0.0, rest.0), omega (arith, rest.1))

placed : (f : Forest) (node : Node Block) (p q : ℕ) → Are p (count f) (occurrences_from node p q f)
placed end node p q = (tt, refl)
placed (tree (ident r x) children others) node p q = let rest = placed others _ (suc p) q in ((refl, rest.0), ap suc rest.1)
placed (tree (kind k) children others) node p q = joined p (count children) (count others) _ _ (placed children _ p _) (placed others _ (p + count children) _)
placed (tree (at k s e) children others) node p q = joined p (count children) (count others) _ _ (placed children _ p _) (placed others _ (p + count children) _)
placed (tree (text v) children others) node p q = joined p (count children) (count others) _ _ (placed children _ p _) (placed others _ (p + count children) _)
placed (tree (texts v) children others) node p q = joined p (count children) (count others) _ _ (placed children _ p _) (placed others _ (p + count children) _)
placed (tree (truth v) children others) node p q = joined p (count children) (count others) _ _ (placed children _ p _) (placed others _ (p + count children) _)
placed (tree (unary v) children others) node p q = joined p (count children) (count others) _ _ (placed children _ p _) (placed others _ (p + count children) _)
placed (tree (binary v) children others) node p q = joined p (count children) (count others) _ _ (placed children _ p _) (placed others _ (p + count children) _)
placed (tree (assignment v) children others) node p q = joined p (count children) (count others) _ _ (placed children _ p _) (placed others _ (p + count children) _)
placed (tree (space v) children others) node p q = joined p (count children) (count others) _ _ (placed children _ p _) (placed others _ (p + count children) _)
placed (tree (access v) children others) node p q = joined p (count children) (count others) _ _ (placed children _ p _) (placed others _ (p + count children) _)
placed (tree (path v) children others) node p q = joined p (count children) (count others) _ _ (placed children _ p _) (placed others _ (p + count children) _)

placed_at : (k : ℕ) (os : List (Occurrence ℕ)) (i : ℕ) (d : Occurrence ℕ) → ArePlaced k os → i < length os → (get_or os i d).place ≡ k + i
placed_at k [] i d h b = absurd (omega (arith, b))
placed_at k (o ∷ os) zero d h b = omega (arith, h.0)
placed_at k (o ∷ os) (suc i) d h b = omega (arith, placed_at (suc k) os i d h.1 (omega (arith, b)))

pub place_is : (u : UnitOf ℕ) (i : ℕ) (d : Occurrence ℕ) → i < length (occurrences u) → (get_or (occurrences u) i d).place ≡ i
place_is u i d b =
    let there : (get_or (occurrences u) i d).place ≡ 0 + i = placed_at 0 (occurrences u) i d (placed (forest_of_unit u) _ 0 1).0 b in
    omega (arith, there)

pub in_order : (u : UnitOf ℕ) → AllPairs (λ x y. x.place < y.place) (occurrences u)
in_order u i j d b l = omega (arith, place_is u i d (omega (arith, b, l)), place_is u j d l, b)
