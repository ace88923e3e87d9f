-- Trees that differ in identifiers, paths and spans alone, and where their identifiers stand.
use Rattle.std.proofs.Common.{◌≡◌, ℕ, suc, ◌+◌, Bool, true, false, ◌||◌, List, [], ◌∷◌, ◌++◌, Option, refl, sym, ap, subst, arith, ◌⊎◌}
use Rattle.wesl_tree_names.specs.Path.{Path}
use Rattle.wesl_tree_syntax.specs.Tree.{Role, LabelOf, ForestOf, end, tree, kind, at, ident, text, texts, truth, unary, binary, assignment, space, access, path}
use Rattle.wesl_scope_occurrences.specs.Occurrences.{Block, Shape, of_words, of_other, shape_of, opens, Node, node_by, here_in, after_field, path_of, count, blocks_in, blocks_at, occurrences_from}

-- ---- lists of as many elements, each related to the one at its place
abbrev pub Pairs : {X Y : Type 0} → (X → Y → Type 0) → List X → List Y → Type 0
Pairs R [] [] = Unit {0}
Pairs R (x ∷ xs) (y ∷ ys) = R x y × Pairs R xs ys
Pairs R _ _ = ⊥

pub pairs_append : {X Y : Type 0} (R : X → Y → Type 0) (xs us : List X) (ys vs : List Y) → Pairs R xs ys → Pairs R us vs → Pairs R (xs ++ us) (ys ++ vs)
pairs_append R [] us [] vs h k = k
pairs_append R (x ∷ xs) us (y ∷ ys) vs h k = (h.0, pairs_append R xs us ys vs h.1 k)
pairs_append R [] us (y ∷ ys) vs h k = absurd h
pairs_append R (x ∷ xs) us [] vs h k = absurd h

pub pairs_of : {X Y : Type 0} (R : X → Y → Type 0) (xs us : List X) (ys vs : List Y) → xs ≡ us → ys ≡ vs → Pairs R us vs → Pairs R xs ys
pairs_of R xs us ys vs e f h = subst (λ os. Pairs R os ys) (sym e) (subst (λ os. Pairs R us os) (sym f) h)

-- ---- labels
module _ {I : Type 0} where
  abbrev pub is_ident : LabelOf I → Bool
  is_ident (ident r x) = true
  is_ident _ = false

  -- what matters of a node with the label
  abbrev pub shape_in : LabelOf I → Shape
  shape_in (kind k) = shape_of k
  shape_in _ = of_other

  abbrev inner_node : LabelOf I → ForestOf I → Node Block → ℕ → Node Block
  inner_node l children node q = node_by (shape_in l) children (blocks_at q (here_in node).block) (here_in node)

  pub count_unfolds : (l : LabelOf I) (children others : ForestOf I) → is_ident l ≡ false → count (tree l children others) ≡ count children + count others
  count_unfolds (kind k) c o h = refl
  count_unfolds (at k s e) c o h = refl
  count_unfolds (text v) c o h = refl
  count_unfolds (texts v) c o h = refl
  count_unfolds (truth v) c o h = refl
  count_unfolds (unary v) c o h = refl
  count_unfolds (binary v) c o h = refl
  count_unfolds (assignment v) c o h = refl
  count_unfolds (space v) c o h = refl
  count_unfolds (access v) c o h = refl
  count_unfolds (path v) c o h = refl
  count_unfolds (ident r x) c o h = absurd (let z : ⊥ = cc in z)

  pub blocks_unfold : (l : LabelOf I) (children others : ForestOf I) → is_ident l ≡ false → blocks_in (tree l children others) ≡ opens (shape_in l) + blocks_in children + blocks_in others
  blocks_unfold (kind k) c o h = refl
  blocks_unfold (at k s e) c o h = refl
  blocks_unfold (text v) c o h = refl
  blocks_unfold (texts v) c o h = refl
  blocks_unfold (truth v) c o h = refl
  blocks_unfold (unary v) c o h = refl
  blocks_unfold (binary v) c o h = refl
  blocks_unfold (assignment v) c o h = refl
  blocks_unfold (space v) c o h = refl
  blocks_unfold (access v) c o h = refl
  blocks_unfold (path v) c o h = refl
  blocks_unfold (ident r x) c o h = absurd (let z : ⊥ = cc in z)

  pub occurrences_unfold : (l : LabelOf I) (children others : ForestOf I) (node : Node Block) (p q : ℕ) → is_ident l ≡ false
      → occurrences_from node p q (tree l children others) ≡ occurrences_from (inner_node l children node q) p (q + opens (shape_in l)) children ++ occurrences_from (after_field node) (p + count children) (q + opens (shape_in l) + blocks_in children) others
  occurrences_unfold (kind k) c o node p q h = refl
  occurrences_unfold (at k s e) c o node p q h = refl
  occurrences_unfold (text v) c o node p q h = refl
  occurrences_unfold (texts v) c o node p q h = refl
  occurrences_unfold (truth v) c o node p q h = refl
  occurrences_unfold (unary v) c o node p q h = refl
  occurrences_unfold (binary v) c o node p q h = refl
  occurrences_unfold (assignment v) c o node p q h = refl
  occurrences_unfold (space v) c o node p q h = refl
  occurrences_unfold (access v) c o node p q h = refl
  occurrences_unfold (path v) c o node p q h = refl
  occurrences_unfold (ident r x) c o node p q h = absurd (let z : ⊥ = cc in z)

abbrev pub words_in : Shape → Bool
words_in of_words = true
words_in _ = false

-- ---- trees alike
module _ {I J : Type 0} (P : Option Path → Option Path → Type 0) where
  -- in words (`w`) paths do not matter; else those of type expressions are related by `P`
  pub data Alike : Bool → ForestOf I → ForestOf J → Type 0 where
    none : {w : Bool} → Alike w end end
    identifier : {w : Bool} {r : Role} {x : I} {y : J} {c : ForestOf I} {d : ForestOf J} {f : ForestOf I} {g : ForestOf J} → Alike w f g → Alike w (tree (ident r x) c f) (tree (ident r y) d g)
    a_node : {w : Bool} {l : LabelOf I} {m : LabelOf J} {c : ForestOf I} {d : ForestOf J} {f : ForestOf I} {g : ForestOf J} → is_ident l ≡ false → is_ident m ≡ false → shape_in m ≡ shape_in l
        → (((w || words_in (shape_in l)) ≡ true) ⊎ P (path_of (shape_in l) c) (path_of (shape_in l) d))
        → Alike (w || words_in (shape_in l)) c d → Alike w f g → Alike w (tree l c f) (tree m d g)
    -- nodes in which there is no identifier and no block
    hollow : {w : Bool} {l : LabelOf I} {m : LabelOf J} {c : ForestOf I} {d : ForestOf J} {f : ForestOf I} {g : ForestOf J} → is_ident l ≡ false → is_ident m ≡ false → opens (shape_in l) ≡ 0 → opens (shape_in m) ≡ 0
        → count c ≡ 0 → count d ≡ 0 → blocks_in c ≡ 0 → blocks_in d ≡ 0
        → ((node : Node Block) (p q : ℕ) → occurrences_from node p q c ≡ []) → ((node : Node Block) (p q : ℕ) → occurrences_from node p q d ≡ [])
        → Alike w f g → Alike w (tree l c f) (tree m d g)

  pub same_count : (w : Bool) (f : ForestOf I) (g : ForestOf J) → Alike w f g → count f ≡ count g
  same_count _ _ _ none = refl
  same_count _ _ _ (identifier {f = f} {g = g} h) = ap suc (same_count _ f g h)
  same_count _ _ _ (a_node {l = l} {m = m} {c = c} {d = d} {f = f} {g = g} nl nm s p hc h) =
      let first = same_count _ c d hc in let second = same_count _ f g h in
      omega (arith, count_unfolds l c f nl, count_unfolds m d g nm, first, second)
  same_count _ _ _ (hollow {l = l} {m = m} {c = c} {d = d} {f = f} {g = g} nl nm ol om cc0 cd bc bd oc od h) =
      let second = same_count _ f g h in
      omega (arith, count_unfolds l c f nl, count_unfolds m d g nm, cc0, cd, second)

  pub same_blocks : (w : Bool) (f : ForestOf I) (g : ForestOf J) → Alike w f g → blocks_in f ≡ blocks_in g
  same_blocks _ _ _ none = refl
  same_blocks _ _ _ (identifier {f = f} {g = g} h) = same_blocks _ f g h
  same_blocks _ _ _ (a_node {l = l} {m = m} {c = c} {d = d} {f = f} {g = g} nl nm s p hc h) =
      let first = same_blocks _ c d hc in let second = same_blocks _ f g h in
      let opened = ap opens s in
      omega (arith, blocks_unfold l c f nl, blocks_unfold m d g nm, first, second, opened)
  same_blocks _ _ _ (hollow {l = l} {m = m} {c = c} {d = d} {f = f} {g = g} nl nm ol om cc0 cd bc bd oc od h) =
      let second = same_blocks _ f g h in
      omega (arith, blocks_unfold l c f nl, blocks_unfold m d g nm, ol, om, bc, bd, second)
