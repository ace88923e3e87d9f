-- Names that a test of numbers marks, and what references pick by them.
use Rattle.std.proofs.Common.{◌≡◌, ℕ, ◌<◌, Bool, true, false, cond, Option, Some, None, List, [], ◌∷◌, map, refl, sym, ap, ap₂, ◌∙◌, arith}
use Rattle.std.specs.Prelude.{not, ◌&&◌, ◌||◌, ◌==◌, bytes_eq, if◌then◌else◌}
use Rattle.std.specs.List.{filter, list_all, list_any}
use Rattle.std.proofs.lemmas.Bool.Decides.{Decides-eqb}
use Rattle.std.proofs.lemmas.Slice.Eq.{bytes_eq-Decides}
use Rattle.wesl_tree_names.specs.Path.{Text}
use Rattle.wesl_tree_syntax.specs.Unit.{name_in}
use Rattle.wesl_scope_occurrences.specs.Occurrences.{Block, Occurrence, is_binder, is_module_name}
use Rattle.wesl_scope_occurrences.specs.Laws.{renamed}
use Rattle.wesl_scope_meanings.specs.Scopes.{is_visible, binds}
use Rattle.wesl_scope_meanings.specs.Keys.{named}
use Rattle.wesl_scope_open.specs.Open.{is_declared_by}
use Rattle.wesl_scope_open.proofs.Runs.{Every, shows, first_in, apart}
use Rattle.wesl_scope_open.proofs.Good.{Outwards, first_within}
use Rattle.wesl_scope_numbers.specs.Faithful.{binders_in, binders_of, first_filled}
use Rattle.wesl_scope_numbers.specs.Test.{is_named, has_number, agree_on}

-- ---- tests as names
abbrev pub yes : Text
yes = 1 ∷ []

-- the name of what passes the test
abbrev pub mark : (ℕ → Bool) → ℕ → Text
mark t i = if t i then 1 ∷ [] else []

marked_is : (t : ℕ → Bool) (i : ℕ) → bytes_eq (mark t i) yes ≡ t i
marked_is t i = by (t i)
  where
    by : (b : Bool) → bytes_eq (if b then 1 ∷ [] else []) (1 ∷ []) ≡ b
    by true = (bytes_eq-Decides (1 ∷ []) (1 ∷ [])).1 refl
    by false = apart [] (1 ∷ []) (λ e. let z : ⊥ = cc in z)

pub marked_test : (t : ℕ → Bool) (i : ℕ) (b c : Option ℕ) → (if bytes_eq (mark t i) yes then b else c) ≡ (if t i then b else c)
marked_test t i b c = ap (λ x. if x then b else c) (marked_is t i)

-- whether an identifier that passes the test is visible in block w at place p
abbrev pub passes : (ℕ → Bool) → Block → ℕ → Occurrence ℕ → Bool
passes t w p o = is_visible p o.role && (t o.name && bytes_eq o.block w)

pub shown_marked : (t : ℕ → Bool) (os : List (Occurrence ℕ)) (w : Block) (p : ℕ) → shows (map (renamed (mark t)) os) w yes p ≡ list_any (passes t w p) os
shown_marked t [] w p = refl
shown_marked t (o ∷ os) w p = ap₂ (λ a b. (is_visible p o.role && (a && bytes_eq o.block w)) || b) (marked_is t o.name) (shown_marked t os w p)

-- whether an import or a global declaration passes it
abbrev pub declares_so : (ℕ → Bool) → Occurrence ℕ → Bool
declares_so t o = is_module_name o.role && t o.name

pub declared_marked : (t : ℕ → Bool) (os : List (Occurrence ℕ)) → is_declared_by (map (renamed (mark t)) os) yes ≡ list_any (declares_so t) os
declared_marked t [] = refl
declared_marked t (o ∷ os) = ap₂ (λ a b. (is_module_name o.role && a) || b) (marked_is t o.name) (declared_marked t os)

pub first_as : (s t : Block → Bool) → ((w : Block) → s w ≡ t w) → (b : Block) → first_in s b ≡ first_in t b
first_as s t same [] = refl
first_as s t same (k ∷ up) = ap₂ (λ a r. if a then Some k else r) (same (k ∷ up)) (first_as s t same up)

-- ---- lists
data Filtered {X : Type 0} (some : Bool) (found : List X) : Type 0 where
  nothing : found ≡ [] → some ≡ false → Filtered some found
  something : (y : X) (ys : List X) → found ≡ y ∷ ys → some ≡ true → Filtered some found

filtered : {X : Type 0} (p : X → Bool) (xs : List X) → Filtered (list_any p xs) (filter p xs)
filtered p [] = nothing refl refl
filtered p (x ∷ xs) = by (p x) (filtered p xs)
  where
    by : (b : Bool) → Filtered (list_any p xs) (filter p xs) → Filtered (b || list_any p xs) (cond b (x ∷ filter p xs) (filter p xs))
    by true f = something x (filter p xs) refl refl
    by false f = f

all_of_filtered : {X : Type 0} (p q : X → Bool) (xs : List X) → list_all q (filter p xs) ≡ not (list_any (λ x. p x && not (q x)) xs)
all_of_filtered p q [] = refl
all_of_filtered p q (x ∷ xs) = by (p x) (q x) refl (all_of_filtered p q xs)
  where
    by : (b c : Bool) → q x ≡ c → list_all q (filter p xs) ≡ not (list_any (λ y. p y && not (q y)) xs) → list_all q (cond b (x ∷ filter p xs) (filter p xs)) ≡ not ((b && not c) || list_any (λ y. p y && not (q y)) xs)
    by true true e f = rw (e, f) refl
    by true false e f = rw e refl
    by false c e f = f

pub any_same : {X : Type 0} (p q : X → Bool) → ((x : X) → p x ≡ q x) → (xs : List X) → list_any p xs ≡ list_any q xs
any_same p q same [] = refl
any_same p q same (x ∷ xs) = ap₂ (λ a b. a || b) (same x) (any_same p q same xs)

turned : (a b : Bool) → (a && b) ≡ (b && a)
turned true true = refl
turned true false = refl
turned false true = refl
turned false false = refl

regroup : (a b c d : Bool) → ((a && (b && c)) && d) ≡ (a && ((b && d) && c))
regroup false b c d = refl
regroup true false c d = refl
regroup true true c d = turned c d

pub not_is : (a b : Bool) → not a ≡ b → a ≡ not b
not_is true b e = ap not e
not_is false b e = ap not e

-- ---- whether a reading is of this block
abbrev pub is_at : Option ℕ → ℕ → Bool
is_at None k = false
is_at (Some c) k = c == k

pub equal : (k : ℕ) → (k == k) ≡ true
equal k = (Decides-eqb k k).1 refl

pub not_equal : (c k : ℕ) → (c ≡ k → ⊥) → (c == k) ≡ false
not_equal c k d = by (c == k) refl
  where
    by : (t : Bool) → (c == k) ≡ t → (c == k) ≡ false
    by true e = absurd (d ((Decides-eqb c k).0 e))
    by false e = e

pub not_at : (r : Option ℕ) (k : ℕ) → ((c : ℕ) → r ≡ Some c → c < k) → is_at r k ≡ false
not_at None k h = refl
not_at (Some c) k h = not_equal c k (λ e. let l = h c refl in omega (arith, e, l))

-- ---- what a reference picks
-- whether a number has the name of number m, and whether it is another one
abbrev pub alike_to : List Text → ℕ → ℕ → Bool
alike_to names m i = bytes_eq (name_in names i) (name_in names m)

abbrev pub other_than : List Text → ℕ → ℕ → Bool
other_than names m i = alike_to names m i && not (i == m)

module _ (names : List Text) (all : List (Occurrence ℕ)) where
  -- the first block outwards in which what passes the test is visible
  abbrev pub first_of : (ℕ → Bool) → ℕ → Block → Option ℕ
  first_of t p b = first_in (λ w. list_any (passes t w p) all) b

  -- whether references of number m read right that read no binder in a function
  abbrev pub outside_right : ℕ → Bool
  outside_right m = if list_any (declares_so (alike_to names m)) all then not (list_any (declares_so (other_than names m)) all) else not (list_any (has_number m) all)

  abbrev pub right_by : ℕ → Option ℕ → Option ℕ → Bool
  right_by m (Some k) r = not (is_at r k)
  right_by m None r = outside_right m

  -- the binders of one block
  leaves_here : (m p : ℕ) (w : Block) → list_all (λ o. o.name == m) (binders_in names all (name_in names m) p w) ≡ not (list_any (passes (other_than names m) w p) all)
  leaves_here m p w =
      all_of_filtered (λ o. binds w (name_in names m) p (named names o)) (λ o. o.name == m) all
      ∙ ap not (any_same (λ o. binds w (name_in names m) p (named names o) && not (o.name == m)) (passes (other_than names m) w p)
      (λ o. regroup (is_visible p o.role) (alike_to names m o.name) (bytes_eq o.block w) (not (o.name == m))) all)

  none_here : (m p : ℕ) (w : Block) → binders_in names all (name_in names m) p w ≡ [] → list_any (passes (other_than names m) w p) all ≡ false
  none_here m p w e = not_is (list_any (passes (other_than names m) w p) all) true (sym (leaves_here m p w) ∙ ap (list_all (λ o. o.name == m)) e)

  some_here : (m p : ℕ) (w : Block) (y : Occurrence ℕ) (ys : List (Occurrence ℕ)) → binders_in names all (name_in names m) p w ≡ y ∷ ys → agree_on all m (y ∷ ys) ≡ not (list_any (passes (other_than names m) w p) all)
  some_here m p w y ys e = ap (list_all (λ o. o.name == m)) (sym e) ∙ leaves_here m p w

  module _ (own : (t : ℕ → Bool) (x : ℕ) → list_any (passes t [] x) all ≡ list_any (declares_so t) all) where
    pub picks_right : (m p q : ℕ) (b : Block) → Outwards 0 q b → agree_on all m (binders_of names all (name_in names m) p b) ≡ right_by m (first_of (alike_to names m) p b) (first_of (other_than names m) p b)
    picks_right m p q [] out = by (filtered (λ o. binds [] (name_in names m) p (named names o)) all)
      where
        by : Filtered (list_any (passes (alike_to names m) [] p) all) (binders_in names all (name_in names m) p []) → agree_on all m (binders_in names all (name_in names m) p []) ≡ outside_right m
        by (nothing e f) = ap (agree_on all m) e ∙ sym (ap (λ t. if t then not (list_any (declares_so (other_than names m)) all) else not (list_any (has_number m) all)) (sym (own (alike_to names m) p) ∙ f))
        by (something y ys e f) =
            ap (agree_on all m) e
            ∙ (some_here m p [] y ys e
            ∙ (ap not (own (other_than names m) p) ∙ sym (ap (λ t. if t then not (list_any (declares_so (other_than names m)) all) else not (list_any (has_number m) all)) (sym (own (alike_to names m) p) ∙ f))))
    picks_right m p q (k ∷ up) out = by (filtered (λ o. binds (k ∷ up) (name_in names m) p (named names o)) all) (picks_right m p k up out.2)
      where
        rest : Option ℕ
        rest = first_of (other_than names m) p up

        later : list_any (passes (other_than names m) (k ∷ up) p) all ≡ false → is_at (first_of (other_than names m) p (k ∷ up)) k ≡ false
        later e = ap (λ t. is_at (if t then Some k else rest) k) e ∙ not_at rest k (first_within 0 k (λ w. list_any (passes (other_than names m) w p) all) up out.2)

        here : (t : Bool) → list_any (passes (other_than names m) (k ∷ up) p) all ≡ t → not (list_any (passes (other_than names m) (k ∷ up) p) all) ≡ not (is_at (first_of (other_than names m) p (k ∷ up)) k)
        here true e = ap not e ∙ sym (ap (λ t. not (is_at (if t then Some k else rest) k)) e ∙ ap not (equal k))
        here false e = ap not e ∙ sym (ap not (later e))

        by : Filtered (list_any (passes (alike_to names m) (k ∷ up) p) all) (binders_in names all (name_in names m) p (k ∷ up))
            → agree_on all m (binders_of names all (name_in names m) p up) ≡ right_by m (first_of (alike_to names m) p up) (first_of (other_than names m) p up)
            → agree_on all m (first_filled (binders_in names all (name_in names m) p (k ∷ up)) (binders_of names all (name_in names m) p up)) ≡ right_by m (first_of (alike_to names m) p (k ∷ up)) (first_of (other_than names m) p (k ∷ up))
        by (nothing e f) ih =
            ap (λ os. agree_on all m (first_filled os (binders_of names all (name_in names m) p up))) e
            ∙ (ih
            ∙ sym (ap₂ (λ s t. right_by m (if s then Some k else first_of (alike_to names m) p up) (if t then Some k else rest)) f (none_here m p (k ∷ up) e)))
        by (something y ys e f) ih =
            ap (λ os. agree_on all m (first_filled os (binders_of names all (name_in names m) p up))) e
            ∙ (some_here m p (k ∷ up) y ys e
            ∙ (here (list_any (passes (other_than names m) (k ∷ up) p) all) refl
            ∙ sym (ap (λ s. right_by m (if s then Some k else first_of (alike_to names m) p up) (first_of (other_than names m) p (k ∷ up))) f)))

  -- ---- names of the module's block
  pub module_leaves : (m : ℕ) (os : List (Occurrence ℕ)) → Every (λ o. (is_binder o.role && bytes_eq o.block []) ≡ is_module_name o.role) os
      → list_all (λ b. if is_named names (name_in names m) b then b.name == m else true) os ≡ not (list_any (declares_so (other_than names m)) os)
  module_leaves m [] h = refl
  module_leaves m (o ∷ os) h =
      ap₂ (λ g r. (if g && alike_to names m o.name then o.name == m else true) && r) h.0 (module_leaves m os h.1) ∙ by (is_module_name o.role) (alike_to names m o.name) (o.name == m) (list_any (declares_so (other_than names m)) os)
    where
      by : (g a e r : Bool) → ((if g && a then e else true) && not r) ≡ not ((g && (a && not e)) || r)
      by true true true r = refl
      by true true false r = refl
      by true false e r = refl
      by false a e r = refl
