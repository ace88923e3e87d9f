-- The list of each branch is held in a set before its own.
use Rattle.std.proofs.Common.{◌≡◌, ℕ, zero, suc, ◌+◌, ◌<◌, ◌≤◌, Bool, true, false, ◌&&◌, cond, List, [], ◌∷◌, ◌++◌, append-nil, length, length-append, drop, refl, sym, ap, ◌∙◌, subst, arith}
use Rattle.wesl_cond_chains.specs.Conditions.{condition_at, is_list, is_statements}
use Rattle.wesl_cond_chains.specs.Lists.{is_closed, is_compound, is_entered}
use Rattle.wesl_tree_syntax.specs.Nodes.{is_attributes}
use Rattle.wesl_tree_syntax.specs.Tree.{LabelOf, ForestOf, end, tree}
use Rattle.wesl_cond_alive.specs.Sets.{AreNested}
use Rattle.wesl_cond_alive.specs.Sound.{Outline, is_conditional, is_whole}
use Rattle.wesl_cond_alive.specs.Walk.{Ahead, listed, leaf, bare, closing, body, last, past, inner, inside, beyond, Branch, Here, Node, State, after, ahead_in, ahead_inside, attributes_in_turn, branches_of, flagged, judged, next, outlines_at, places_of, set_count, standing, statement_count, statements_ahead, body_ahead, last_ahead, walk}
use Rattle.wesl_cond_alive.proofs.Grown.{at_entry, at_leave, flagged_branches, marked_branches, node_in, passed, places_at, walk_grows}

-- places in the first n sets
abbrev AreLow : ℕ → List Here → Type 0
AreLow n [] = Unit {0}
AreLow n (h ∷ hs) = (h.set < n) × AreLow n hs

abbrev IsLow : ℕ → Ahead → Type 0
IsLow n (listed hs) = AreLow n hs
IsLow n leaf = Unit {0}
IsLow n bare = Unit {0}
IsLow n (closing hs) = AreLow n hs
IsLow n (body hs) = AreLow n hs
IsLow n (last hs) = AreLow n hs
IsLow n past = Unit {0}
IsLow n (inner hs) = AreLow n hs
IsLow n (inside hs) = AreLow n hs
IsLow n beyond = Unit {0}

are_low_in : (n m : ℕ) (hs : List Here) → n ≤ m → AreLow n hs → AreLow m hs
are_low_in n m [] le low = tt
are_low_in n m (h ∷ hs) le low = (omega (arith, low.0), are_low_in n m hs le low.1)

is_low_in : (n m : ℕ) (a : Ahead) → n ≤ m → IsLow n a → IsLow m a
is_low_in n m (listed hs) le low = are_low_in n m hs le low
is_low_in n m leaf le low = tt
is_low_in n m bare le low = tt
is_low_in n m (closing hs) le low = are_low_in n m hs le low
is_low_in n m (body hs) le low = are_low_in n m hs le low
is_low_in n m (last hs) le low = are_low_in n m hs le low
is_low_in n m past le low = tt
is_low_in n m (inner hs) le low = are_low_in n m hs le low
is_low_in n m (inside hs) le low = are_low_in n m hs le low
is_low_in n m beyond le low = tt

low_dropped : (n i : ℕ) (hs : List Here) → AreLow n hs → AreLow n (drop i hs)
low_dropped n zero hs low = low
low_dropped n (suc i) [] low = tt
low_dropped n (suc i) (h ∷ hs) low = low_dropped n i hs low.1

either_low : (n : ℕ) (b : Bool) (here : Here) → here.set < n → 1 < n → (cond b (record here { set = 1 }) here).set < n
either_low n true here low two = two
either_low n false here low two = low

cond_low : (n : ℕ) (b : Bool) (a d : Ahead) → IsLow n a → IsLow n d → IsLow n (cond b a d)
cond_low n true a d x y = x
cond_low n false a d x y = y

low_statements : (n : ℕ) (a : Ahead) (places : List Here) → IsLow n a → AreLow n places → IsLow n (statements_ahead a places)
low_statements n (listed hs) places all new = new
low_statements n leaf places all new = tt
low_statements n bare places all new = tt
low_statements n (closing hs) places all new = tt
low_statements n (body hs) places all new = tt
low_statements n (last hs) places all new = tt
low_statements n past places all new = tt
low_statements n (inner hs) places all new = tt
low_statements n (inside hs) places all new = all
low_statements n beyond places all new = tt

low_body : (n : ℕ) (a : Ahead) → IsLow n a → IsLow n (body_ahead a)
low_body n (listed hs) all = tt
low_body n (body hs) all = all
low_body n leaf all = tt
low_body n bare all = tt
low_body n (closing hs) all = tt
low_body n (last hs) all = tt
low_body n past all = tt
low_body n (inner hs) all = tt
low_body n (inside hs) all = tt
low_body n beyond all = tt

low_last : (n : ℕ) (a : Ahead) → IsLow n a → IsLow n (last_ahead a)
low_last n (last hs) all = all
low_last n (listed hs) all = tt
low_last n leaf all = tt
low_last n bare all = tt
low_last n (closing hs) all = tt
low_last n (body hs) all = tt
low_last n past all = tt
low_last n (inner hs) all = tt
low_last n (inside hs) all = tt
low_last n beyond all = tt

module _ {I : Type 0} where
  nested_both : (front bs : List (Branch I)) (n : ℕ) → AreNested n front → AreNested (n + length front) bs → AreNested n (front ++ bs)
  nested_both [] bs n d e = let is : n + 0 ≡ n = omega arith in subst (λ m. AreNested m bs) is e
  nested_both (a ∷ front) bs n d e = let is : n + suc (length front) ≡ suc n + length front = omega arith in (d.0, nested_both front bs (suc n) d.1 (subst (λ m. AreNested m bs) is e))

  -- ---- a judged list

  module _ (holder : ℕ) where
    nested_at : (x : Outline I) (xs : List (Outline I)) (n : ℕ) (whole v w : Bool) → x.is_void ≡ v → is_whole whole x xs ≡ w → holder < n
        → ((m : ℕ) (b : Bool) → holder < m → AreNested m (branches_of holder b xs)) → AreNested n (branches_of holder whole (x ∷ xs))
    nested_at x xs n whole true w e d low ih = rw e (ih n whole low)
    nested_at x xs n whole false true e d low ih = rw (e, d) (ih n true low)
    nested_at x xs n whole false false e d low ih = rw (e, d) (low, ih (suc n) false (omega arith))

    list_nested : (xs : List (Outline I)) (n : ℕ) (whole : Bool) → holder < n → AreNested n (branches_of holder whole xs)
    list_nested [] n whole low = tt
    list_nested (x ∷ xs) n whole low = nested_at x xs n whole x.is_void (is_whole whole x xs) refl refl low (λ m b h. list_nested xs m b h)

    abbrev LowPlaces : ℕ → Bool → List (Outline I) → Type 0
    LowPlaces n whole xs = AreLow (n + length (branches_of holder whole xs)) (places_of holder n whole xs)

    low_at : (x : Outline I) (xs : List (Outline I)) (n : ℕ) (whole v w : Bool) → x.is_void ≡ v → is_whole whole x xs ≡ w → holder < n → 1 < n
        → ((m : ℕ) (b : Bool) → holder < m → 1 < m → LowPlaces m b xs) → LowPlaces n whole (x ∷ xs)
    low_at x xs n whole true w e d low two ih = rw e (omega arith, ih n whole low two)
    low_at x xs n whole false true e d low two ih = rw (e, d) (omega arith, ih n true low two)
    low_at x xs n whole false false e d low two ih =
        let k = length (branches_of holder false xs) in
        let is : suc n + k ≡ n + suc k = omega arith in
        rw (e, d) (omega arith, subst (λ m. AreLow m (places_of holder (suc n) false xs)) is (ih (suc n) false (omega arith) (omega arith)))

    low_places : (xs : List (Outline I)) (n : ℕ) (whole : Bool) → holder < n → 1 < n → LowPlaces n whole xs
    low_places [] n whole low two = tt
    low_places (x ∷ xs) n whole low two = low_at x xs n whole x.is_void (is_whole whole x xs) refl refl low two (λ m b h k. low_places xs m b h k)

  -- ---- where nodes stand

  low_standing : (n : ℕ) (here : Here) (a : Ahead) (c : ForestOf I) → 1 < n → here.set < n → IsLow n a → (standing here a c).set < n
  low_standing n here (listed []) c two low all = low
  low_standing n here (listed (h ∷ hs)) c two low all = all.0
  low_standing n here bare c two low all = either_low n (is_conditional (condition_at c)) here low two
  low_standing n here leaf c two low all = low
  low_standing n here (closing hs) c two low all = low
  low_standing n here (body hs) c two low all = low
  low_standing n here (last hs) c two low all = low
  low_standing n here past c two low all = low
  low_standing n here (inner hs) c two low all = low
  low_standing n here (inside hs) c two low all = low
  low_standing n here beyond c two low all = low

  low_next : (n : ℕ) (a : Ahead) (c : ForestOf I) → IsLow n a → IsLow n (next a c)
  low_next n (listed []) c all = tt
  low_next n (listed (h ∷ hs)) c all = all.1
  low_next n leaf c all = tt
  low_next n bare c all = tt
  low_next n (closing hs) c all = all
  low_next n (body hs) c all = low_dropped n (statement_count c) hs all
  low_next n (last hs) c all = tt
  low_next n past c all = tt
  low_next n (inner hs) c all = all
  low_next n (inside hs) c all = tt
  low_next n beyond c all = tt

  low_turn : (n : ℕ) (here : Here) (l : LabelOf I) → IsLow n (attributes_in_turn here l)
  low_turn n here l = cond_low n (is_attributes l && here.is_bare) bare leaf tt tt

  low_inside : (n : ℕ) (a : Ahead) (l : LabelOf I) (places : List Here) → IsLow n a → AreLow n places → IsLow n (ahead_inside a l places)
  low_inside n a l places all new =
      cond_low n (is_closed l) (closing places) _ new
      (cond_low n (is_statements l) (statements_ahead a places) _ (low_statements n a places all new)
      (cond_low n (is_list l) (listed places) _ new
      (cond_low n (is_compound l) (body_ahead a) (last_ahead a) (low_body n a all) (low_last n a all))))

  low_ahead : (n : ℕ) (a : Ahead) (here : Here) (l : LabelOf I) (places : List Here) → IsLow n a → AreLow n places → IsLow n (ahead_in a here l places)
  low_ahead n leaf here l places all new = low_turn n here l
  low_ahead n bare here l places all new = tt
  low_ahead n a here l places all new = cond_low n (is_entered l) (ahead_inside a l places) (attributes_in_turn here l) (low_inside n a l places all new) (low_turn n here l)

  -- ---- the walk

  judged_branches : (holder : ℕ) (xs : List (Outline I)) (s : State I) → (judged holder xs s).branches ≡ s.branches ++ branches_of holder true xs
  judged_branches holder [] s = sym (append-nil s.branches)
  judged_branches holder (x ∷ xs) s = refl

  abbrev own_branches : Node → LabelOf I → ForestOf I → List (Branch I)
  own_branches node l c = branches_of (standing node.here node.ahead c).set true (outlines_at node l c)

  entry_branches : (node : Node) (s : State I) (l : LabelOf I) (c : ForestOf I) → (at_entry node s l c).branches ≡ s.branches ++ own_branches node l c
  entry_branches node s l c =
      let here = standing node.here node.ahead c in
      judged_branches here.set (outlines_at node l c) (flagged l here s) ∙ ap (λ bs. bs ++ own_branches node l c) (flagged_branches l here s)

  pub walk_nested : (f : ForestOf I) (node : Node) (s : State I) → node.here.set < set_count s → IsLow (set_count s) node.ahead → AreNested 2 s.branches → AreNested 2 (walk node s f).branches
  walk_nested end node s low all d = d
  walk_nested (tree l c o) node s low all d =
      let here = standing node.here node.ahead c in
      let list = outlines_at node l c in
      let places = places_at node s l c in
      let entry = at_entry node s l c in
      let leave = at_leave node s l c in
      let next_one = passed node s l c in
      let own = own_branches node l c in
      let n = set_count s in
      let m = set_count entry in
      let stands : here.set < n = low_standing n node.here node.ahead c (omega arith) low all in
      let is : entry.branches ≡ s.branches ++ own = entry_branches node s l c in
      let sizes : length entry.branches ≡ length s.branches + length own = ap length is ∙ length-append s.branches own in
      let counted : n + length own ≡ m = omega (arith, sizes) in
      let new : AreLow m places = subst (λ k. AreLow k places) counted (low_places here.set list n true stands (omega arith)) in
      let nested : AreNested 2 entry.branches = subst (AreNested 2) (sym is) (nested_both s.branches own 2 d (list_nested here.set list n true stands)) in
      let inner = walk_nested c (node_in node s l c) entry (omega arith) (low_ahead m node.ahead here l places (is_low_in n m node.ahead (omega (arith, sizes)) all) new) nested in
      let grown = walk_grows c (node_in node s l c) entry in
      let same : next_one.branches ≡ leave.branches = marked_branches l here s leave in
      let last_size : length next_one.branches ≡ length entry.branches + length grown.0 = ap length same ∙ (ap length grown.1 ∙ length-append entry.branches grown.0) in
      let most : n ≤ set_count next_one = omega (arith, sizes, last_size) in
      walk_nested o (after node c) next_one (omega arith) (is_low_in n (set_count next_one) (next node.ahead c) most (low_next n node.ahead c all)) (subst (AreNested 2) (sym same) inner)
