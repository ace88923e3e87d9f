-- Outlines of nodes, and their places.
use Rattle.std.proofs.Common.{◌≡◌, ℕ, zero, suc, ◌+◌, ◌<◌, Bool, false, true, List, [], ◌∷◌, ◌++◌, append_assoc, append-nil, length-append, not, sym, length, get_or, map, drop, refl, ap, ◌∙◌, arith}
use Rattle.std.specs.Prelude.{Some}
use Rattle.wesl_cond_chains.specs.Chains.{Condition, follows_on}
use Rattle.wesl_cond_chains.specs.Conditions.{or_next}
use Rattle.wesl_cond_chains.specs.Nodes.{as_element, condition_view}
use Rattle.wesl_cond_chains.specs.declared.conditions.Condition.{Condition as Lent}
use Rattle.wesl_cond_chains.specs.declared.conditions.Condition.TheVariants as lent
use Rattle.std.proofs.lemmas.List.{drop_more, map-append}
use Rattle.wesl_cond_chains.specs.Lists.{elements}
use Rattle.wesl_tree_syntax.specs.Tree.{Tree, before, end, forest_of}
use Rattle.wesl_cond_alive.specs.Sound.{Outline, is_whole, outline_of, whole_after}
use Rattle.wesl_cond_alive.specs.Walk.{Branch, Here, State, bare_in, branched, branches_of, formula_of, judged, listed, place_of, places_of, set_count, standing}
use Rattle.wesl_cond_alive.specs.Views.{here_view, outline_view}
use Rattle.wesl_cond_alive.specs.declared.walk.Here as code
use Rattle.wesl_cond_alive.specs.declared.outline.Outline as code_outline
use Rattle.wesl_cond_alive.proofs.Nodes.{judged_is}

-- a condition comes before all others
pub first_is : (x : Lent) (next : Condition ℕ) → or_next (condition_view (Some x)) next ≡ condition_view (Some x)
first_is (lent.If e) next = refl
first_is (lent.Elif e) next = refl
first_is lent.Else next = refl

-- the place of a node of a judged list
pub place_at : (here : Here) (places : List code.Here) (i : ℕ) (d : code.Here) → i < length places
    → record (here_view (get_or places i d)) { is_formula = here.is_formula } ≡ standing {I = ℕ} here (listed (drop i (map here_view places))) end
place_at here [] i d h = absurd (omega arith)
place_at here (p ∷ ps) zero d h = refl
place_at here (p ∷ ps) (suc i) d h = place_at here ps i d (omega arith)

-- ---- outlines of lists

module _ {X : Type 0} (view : X → Tree) where
  abbrev pub outlines_of : List X → List (Outline ℕ)
  outlines_of xs = map outline_of (elements false (forest_of (map view xs)))

  -- one more
  pub outline_more : (os new : List code_outline.Outline) (o : code_outline.Outline) (xs : List X) (i : ℕ) (x : X) (total : List (Outline ℕ)) → i < length xs → x ≡ get_or xs i x
      → ((closes : Bool) → outline_view o ≡ outline_of (as_element closes (view x))) → new ≡ os ++ o ∷ []
      → map outline_view os ++ outlines_of (drop i xs) ≡ total → map outline_view new ++ outlines_of (drop (i + 1) xs) ≡ total
  outline_more os new o xs i x total h is e d t =
      ap (λ z. map outline_view z ++ outlines_of (drop (i + 1) xs)) d
      ∙ ap (λ z. z ++ outlines_of (drop (i + 1) xs)) (map-append outline_view os (o ∷ []))
      ∙ append_assoc (map outline_view os) (outline_view o ∷ []) (outlines_of (drop (i + 1) xs))
      ∙ ap (λ z. map outline_view os ++ (z ∷ outlines_of (drop (i + 1) xs))) (e false)
      ∙ ap (λ z. map outline_view os ++ z) (sym (ap outlines_of (drop_more xs i x h) ∙ ap (λ z. outlines_of (z ∷ drop (i + 1) xs)) (sym is)))
      ∙ t

  pub outline_closing : (os new : List code_outline.Outline) (o : code_outline.Outline) (x : X) → ((closes : Bool) → outline_view o ≡ outline_of (as_element closes (view x))) → new ≡ os ++ o ∷ []
      → map outline_view new ≡ map outline_view os ++ map outline_of (elements true (before (view x) end))
  outline_closing os new o x e d = ap (map outline_view) d ∙ map-append outline_view os (o ∷ []) ∙ ap (λ z. map outline_view os ++ z ∷ []) (e true)

-- ---- judging a list

-- branches more
abbrev pub adding : List (Branch ℕ) → State ℕ → State ℕ
adding bs s = record s { branches = s.branches ++ bs }

-- a node and those after it
found_at : (holder : ℕ) (whole : Bool) (x : Outline ℕ) (xs : List (Outline ℕ)) (s : State ℕ) (v w : Bool) → x.is_void ≡ v → is_whole whole x xs ≡ w
    → adding (branches_of holder (whole_after whole x xs) xs) (branched holder (whole_after whole x xs) x s) ≡ adding (branches_of holder whole (x ∷ xs)) s
found_at holder whole x xs s true w e d = rw e refl
found_at holder whole x xs s false true e d = rw (e, d) refl
found_at holder whole x xs s false false e d = rw (e, d) (ap (λ bs. record s { branches = bs }) (append_assoc s.branches (record { holder = holder; begins = not (follows_on x.condition); formula = formula_of x.condition } ∷ []) (branches_of holder false xs)))

one_more : (s : State ℕ) (b : Branch ℕ) → 2 + length (s.branches ++ b ∷ []) ≡ suc (2 + length s.branches)
one_more s b = omega (arith, length-append s.branches (b ∷ []))

told_at : (holder : ℕ) (whole : Bool) (x : Outline ℕ) (xs : List (Outline ℕ)) (s : State ℕ) (v w : Bool) → x.is_void ≡ v → is_whole whole x xs ≡ w
    → place_of holder (set_count s) (whole_after whole x xs) x ∷ places_of holder (set_count (branched holder (whole_after whole x xs) x s)) (whole_after whole x xs) xs ≡ places_of holder (set_count s) whole (x ∷ xs)
told_at holder whole x xs s true w e d = rw e refl
told_at holder whole x xs s false true e d = rw (e, d) refl
told_at holder whole x xs s false false e d = rw (e, d) (ap (λ n. bare_in (set_count s) ∷ places_of holder n false xs) (one_more s (record { holder = holder; begins = not (follows_on x.condition); formula = formula_of x.condition })))

pub found_next : (holder : ℕ) (whole after : Bool) (xs : List code_outline.Outline) (i : ℕ) (x : code_outline.Outline) (s s' : State ℕ) (total : State ℕ) → i < length xs → x ≡ get_or xs i x
    → after ≡ whole_after whole (outline_view x) (map outline_view (drop (i + 1) xs)) → s' ≡ branched holder after (outline_view x) s
    → adding (branches_of holder whole (map outline_view (drop i xs))) s ≡ total → adding (branches_of holder after (map outline_view (drop (i + 1) xs))) s' ≡ total
found_next holder whole after xs i x s s' total h is e d t =
    rw (d, e) (found_at holder whole (outline_view x) (map outline_view (drop (i + 1) xs)) s _ _ refl refl)
    ∙ ap (λ ys. adding (branches_of holder whole (map outline_view ys)) s) (sym (drop_more xs i x h ∙ ap (λ y. y ∷ drop (i + 1) xs) (sym is)))
    ∙ t

pub told_next : (holder : ℕ) (whole after : Bool) (xs : List code_outline.Outline) (i : ℕ) (x : code_outline.Outline) (s s' : State ℕ) (place : Here) → i < length xs → x ≡ get_or xs i x
    → after ≡ whole_after whole (outline_view x) (map outline_view (drop (i + 1) xs)) → s' ≡ branched holder after (outline_view x) s → place ≡ place_of holder (set_count s) after (outline_view x)
    → place ∷ places_of holder (set_count s') after (map outline_view (drop (i + 1) xs)) ≡ places_of holder (set_count s) whole (map outline_view (drop i xs))
told_next holder whole after xs i x s s' place h is e d p =
    rw (p, d, e) (told_at holder whole (outline_view x) (map outline_view (drop (i + 1) xs)) s _ _ refl refl)
    ∙ ap (λ ys. places_of holder (set_count s) whole (map outline_view ys)) (sym (drop_more xs i x h ∙ ap (λ y. y ∷ drop (i + 1) xs) (sym is)))

-- one place more
pub place_more : (ps new : List code.Here) (h : code.Here) (rest next total : List Here) → new ≡ ps ++ h ∷ [] → here_view h ∷ next ≡ rest → map here_view ps ++ rest ≡ total → map here_view new ++ next ≡ total
place_more ps new h rest next total d e t =
    ap (λ z. map here_view z ++ next) d
    ∙ ap (λ z. z ++ next) (map-append here_view ps (h ∷ []))
    ∙ append_assoc (map here_view ps) (here_view h ∷ []) next
    ∙ ap (λ z. map here_view ps ++ z) e
    ∙ t

-- no node is left
pub found_all : (holder : ℕ) (whole : Bool) (all rest : List (Outline ℕ)) (s s0 : State ℕ) → rest ≡ [] → adding (branches_of holder whole rest) s ≡ adding (branches_of holder true all) s0 → s ≡ judged holder all s0
found_all holder whole all rest s s0 e t =
    ap (λ bs. record s { branches = bs }) (sym (append-nil s.branches)) ∙ ap (λ r. adding (branches_of holder whole r) s) (sym e) ∙ t ∙ sym (judged_is holder all s0)

pub told_all : (holder : ℕ) (whole : Bool) (next : ℕ) (rest : List (Outline ℕ)) (ps total : List Here) → rest ≡ [] → ps ++ places_of holder next whole rest ≡ total → ps ≡ total
told_all holder whole next rest ps total e t = sym (append-nil ps) ∙ ap (λ r. ps ++ places_of holder next whole r) (sym e) ∙ t
