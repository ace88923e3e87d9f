-- Positions behind the fields of nodes.
use Rattle.std.proofs.Common.{◌≡◌, ℕ, zero, suc, ◌<◌, ◌≤◌, nat_lt, ◌&&◌, Bool, true, false, List, [], ◌∷◌, map, drop, take, length, get_or, inl, inr, refl, sym, ap, ◌∙◌, arith}
use Rattle.std.proofs.lemmas.Bool.{cases_lt, le-ltb, lt-ltb}
use Rattle.std.specs.Prelude.{Option, None}
use Rattle.wesl_cond_chains.specs.Conditions.{is_list}
use Rattle.wesl_cond_chains.specs.Faults.{closed_list}
use Rattle.wesl_cond_chains.specs.Lists.{elements, is_closed, is_compound, is_entered}
use Rattle.wesl_cond_chains.specs.Picked.{Choice}
use Rattle.wesl_cond_chains.proofs.Begun.{all_taken}
use Rattle.wesl_tree_syntax.specs.Tree.{Forest, Kind, Label, Tree, before, end, forest_of, kind, tree}
use Rattle.wesl_cond_alive.specs.Kept.{kept_indexes}
use Rattle.wesl_cond_alive.specs.Positions.{handed, has, is_plain, keeps_child, kept_at}

module _ (choice : Choice ℕ) where
  abbrev pub from_tree : List ℕ → Tree → Bool
  from_tree position t = kept_at choice None 0 position (before t end)

  -- what stands after a tree does not matter there
  pub alone : (held : Option (List ℕ)) (p : List ℕ) (t : Tree) (others : Forest) → kept_at choice held 0 p (before t others) ≡ kept_at choice held 0 p (before t end)
  alone held [] t others = refl
  alone held (i ∷ p) t others = refl

  -- below a node in which no judged list lies all is kept
  pub in_leaf : (held : Option (List ℕ)) (p : List ℕ) (t : Tree) (others : Forest) → is_entered t.label ≡ false → kept_at choice held 0 p (before t others) ≡ true
  in_leaf held [] t others e = refl
  in_leaf held (i ∷ p) t others e = rw e refl

  module _ {X : Type 0} (view : X → Tree) where
    -- an element of a list
    pub element_at : (i : ℕ) (p : List ℕ) (xs : List X) (d : X) → i < length xs → kept_at choice None i p (forest_of (map view xs)) ≡ from_tree p (view (get_or xs i d))
    element_at i p [] d h = absurd (omega arith)
    element_at zero p (x ∷ xs) d h = alone None p (view x) (forest_of (map view xs))
    element_at (suc i) p (x ∷ xs) d h = element_at i p xs d (omega arith)

    pub no_element : (held : Option (List ℕ)) (i : ℕ) (p : List ℕ) (xs : List X) → length xs ≤ i → kept_at choice held i p (forest_of (map view xs)) ≡ false
    no_element held i p [] h = refl
    no_element held zero p (x ∷ xs) h = absurd (omega arith)
    no_element held (suc i) p (x ∷ xs) h = no_element held i p xs (omega arith)

    -- the same of the element that is known to be this one
    pub this_element : (i : ℕ) (p : List ℕ) (xs : List X) (x : X) → i < length xs → x ≡ get_or xs i x → kept_at choice None i p (forest_of (map view xs)) ≡ from_tree p (view x)
    this_element i p xs x h is = element_at i p xs x h ∙ ap (λ y. from_tree p (view y)) (sym is)

    -- elements in which no judged list lies
    pub leaf_at : ((x : X) → is_entered (view x).label ≡ false) → (i : ℕ) (p : List ℕ) (xs : List X) → kept_at choice None i p (forest_of (map view xs)) ≡ nat_lt i (length xs)
    leaf_at e i p [] = sym (le-ltb i 0 (omega arith))
    leaf_at e zero p (x ∷ xs) = in_leaf None p (view x) (forest_of (map view xs)) (e x) ∙ sym (lt-ltb 0 (suc (length xs)) (omega arith))
    leaf_at e (suc i) p (x ∷ xs) =
        leaf_at e i p xs
        ∙ elim (cases_lt i (length xs)) [
          | inl h ↦ lt-ltb i (length xs) h ∙ sym (lt-ltb (suc i) (suc (length xs)) (omega arith))
          | inr h ↦ le-ltb i (length xs) h ∙ sym (le-ltb (suc i) (suc (length xs)) (omega arith))
        ]

  -- nodes that add no number
  pub through_span : (held : Option (List ℕ)) (p : List ℕ) (l : Label) (t : Tree) → is_entered l ≡ true → is_plain l ≡ true → kept_at choice held 0 p (tree l (before t end) end) ≡ from_tree p t
  through_span held [] l t e d = refl
  through_span held (i ∷ p) l t e d = rw (e, d) refl

  -- nodes that add one
  pub below : (l : Label) (i : ℕ) (p : List ℕ) (children : Forest) → is_entered l ≡ true → is_plain l ≡ false
      → kept_at choice None 0 (i ∷ p) (tree l children end) ≡ (keeps_child choice None l children i && kept_at choice (handed l (kept_indexes choice (closed_list children)) None i) i p children)
  below l i p children e d = rw (e, d) refl

  -- a list that is judged
  pub record IsJudged (k : Kind) : Type 0 where
    pub entered : is_entered {I = ℕ} (kind k) ≡ true
    pub plain : is_plain {I = ℕ} (kind k) ≡ false
    pub list : is_list {I = ℕ} (kind k) ≡ true
    pub closed : is_closed {I = ℕ} (kind k) ≡ false
    pub compound : is_compound {I = ℕ} (kind k) ≡ false

  pub judged_at : (k : Kind) → IsJudged k → (i : ℕ) (p : List ℕ) (nodes : Forest)
      → kept_at choice None 0 (i ∷ p) (tree (kind k) nodes end) ≡ (has (kept_indexes choice (elements false nodes)) i && kept_at choice None i p nodes)
  judged_at k h i p nodes = rw (h.entered, h.plain, h.list, h.closed, h.compound) refl

-- a position by its first number
pub begins_with : (p : List ℕ) (d n : ℕ) → 0 < length p → length p ≤ suc n → p ≡ get_or p 0 d ∷ take n (drop 1 p)
begins_with [] d n h le = absurd (omega arith)
begins_with (i ∷ p) d n h le = ap (λ q. i ∷ q) (sym (all_taken p n (omega arith)))

pub begins_by : (p : List ℕ) (d n i : ℕ) → 0 < length p → length p ≤ suc n → get_or p 0 d ≡ i → p ≡ i ∷ take n (drop 1 p)
begins_by p d n i h le e = begins_with p d n h le ∙ ap (λ j. j ∷ take n (drop 1 p)) e

pub begins_two : (p : List ℕ) (d e n i : ℕ) → 1 < length p → length p ≤ suc (suc n) → get_or p 0 d ≡ i → p ≡ i ∷ get_or p 1 e ∷ take n (drop 2 p)
begins_two [] d e n i h le is = absurd (omega arith)
begins_two (j ∷ []) d e n i h le is = absurd (omega arith)
begins_two (j ∷ k ∷ p) d e n i h le is = ap (λ m. m ∷ k ∷ p) is ∙ ap (λ q. i ∷ k ∷ q) (sym (all_taken p n (omega arith)))
