-- The numbers of the nodes of a judged list that a choice keeps.
use Rattle.std.proofs.Common.{◌≡◌, ℕ, zero, suc, ◌+◌, ◌<◌, ◌≤◌, ◌^◌, nat_eq, ◌&&◌, ◌||◌, cond, Bool, true, false, List, [], ◌∷◌, map, drop, get_or, length, refl, sym, ap, ◌∙◌, arith}
use Rattle.std.specs.Prelude.{Result, Ok, Err, IfOk}
use Rattle.std.specs.declared.alloc.AllocError.{AllocError}
use Rattle.std.proofs.lemmas.Bool.{eq-eqb, ne_eqb}
use Rattle.std.proofs.lemmas.List.{drop_more, length-map}
use Rattle.wesl_cond_chains.specs.Chains.{follows_on}
use Rattle.wesl_cond_chains.specs.Lists.{Element}
use Rattle.wesl_cond_chains.specs.Picked.{Choice, is_true}
use Rattle.wesl_cond_choices.specs.Choices.{Choices}
use Rattle.wesl_cond_alive.specs.Choices.{IsSetOf}
use Rattle.wesl_cond_alive.specs.Kept.{kept_indexes, numbered_element, numbered_from}
use Rattle.wesl_cond_alive.specs.Positions.{has}
use Rattle.wesl_cond_alive.specs.Sound.{Outline, is_whole, outline_of, whole_after}
use Rattle.wesl_cond_alive.specs.Views.{outline_view}
use Rattle.wesl_cond_alive.specs.declared.outline.Outline as code
use Rattle.wesl_cond_alive.proofs.Turns.{IsTold, Verdict, goes, stays, picked, verdict, verdicts, all_become, kept_is}
use Rattle.wesl_cond_positions.specs.Found.{IsFound, choice_in, free_after, keeps_node}
use Rattle.wesl_cond_positions.specs.declared.lookup.Lookup.{Lookup}
use mathlib.Core.Bool.{and-false, and-true, or-false}

abbrev stands : Verdict → Bool
stands goes = false
stands stays = true
stands picked = true

-- whether a node stays, by its number
abbrev pub stays_at : List Verdict → ℕ → Bool
stays_at [] i = false
stays_at (v ∷ vs) zero = stands v
stays_at (v ∷ vs) (suc i) = stays_at vs i

stays_past : (vs : List Verdict) (i : ℕ) → length vs ≤ i → stays_at vs i ≡ false
stays_past [] i h = refl
stays_past (v ∷ vs) zero h = absurd (omega arith)
stays_past (v ∷ vs) (suc i) h = stays_past vs i (omega arith)

module _ {I : Type 0} (choice : Choice I) where
  pub told : IsTold numbered_element (λ (x : Element I × ℕ). x.0)
  told = record { voids = λ n. refl; conditions = λ n. refl }

  abbrev pub left_of : List Verdict → List (Element I × ℕ) → List (Element I × ℕ)
  left_of vs ns = all_become numbered_element (λ (x : Element I × ℕ). x.0) told choice (λ n e. refl) vs ns

  abbrev pub numbers_of : List Verdict → List (Element I × ℕ) → List ℕ
  numbers_of vs ns = map (λ x. x.1) (left_of vs ns)

  head_is : (v : Verdict) (x : Element I) (n j : ℕ) (vs : List Verdict) (ns : List (Element I × ℕ))
      → has (numbers_of (v ∷ vs) ((x, n) ∷ ns)) j ≡ ((stands v && nat_eq j n) || has (numbers_of vs ns) j)
  head_is goes x n j vs ns = refl
  head_is stays x n j vs ns = refl
  head_is picked x n j vs ns = refl

  -- numbers are counted up
  none_below : (vs : List Verdict) (xs : List (Element I)) (n j : ℕ) → j < n → has (numbers_of vs (numbered_from n xs)) j ≡ false
  none_below [] xs n j h = refl
  none_below (v ∷ vs) [] n j h = refl
  none_below (v ∷ vs) (x ∷ xs) n j h =
      head_is v x n j vs (numbered_from (suc n) xs)
      ∙ rw (ne_eqb j n (λ e. omega arith), none_below vs xs (suc n) j (omega arith)) (rw (and-false (stands v)) refl)

  numbers_are : (vs : List Verdict) (xs : List (Element I)) (n i j : ℕ) → length vs ≡ length xs → j ≡ n + i → has (numbers_of vs (numbered_from n xs)) j ≡ stays_at vs i
  numbers_are [] xs n i j e d = refl
  numbers_are (v ∷ vs) [] n i j e d = absurd (omega arith)
  numbers_are (v ∷ vs) (x ∷ xs) n zero j e d =
      head_is v x n j vs (numbered_from (suc n) xs)
      ∙ rw (eq-eqb j n (omega arith), none_below vs xs (suc n) j (omega arith)) (rw (and-true (stands v)) (or-false (stands v)))
  numbers_are (v ∷ vs) (x ∷ xs) n (suc i) j e d =
      head_is v x n j vs (numbered_from (suc n) xs)
      ∙ rw (ne_eqb j n (λ k. omega arith), numbers_are vs xs (suc n) i j (omega arith) (omega arith)) (rw (and-false (stands v)) refl)

  outlines_are : (n : ℕ) (xs : List (Element I)) → map (λ (x : Element I × ℕ). outline_of x.0) (numbered_from n xs) ≡ map outline_of xs
  outlines_are n [] = refl
  outlines_are n (x ∷ xs) = ap (λ os. outline_of x ∷ os) (outlines_are (suc n) xs)

  one_verdict : (whole free : Bool) (x : Outline I) (xs : List (Outline I)) (v w : Bool) → x.is_void ≡ v → is_whole whole x xs ≡ w
      → ((w' f : Bool) → length (verdicts choice w' f xs) ≡ length xs) → length (verdicts choice whole free (x ∷ xs)) ≡ suc (length xs)
  one_verdict whole free x xs true w e d ih = rw e (ap suc (ih whole free))
  one_verdict whole free x xs false true e d ih = rw (e, d) (ap suc (ih true free))
  one_verdict whole free x xs false false e d ih = rw (e, d) (ap suc (ih false _))

  length_verdicts : (whole free : Bool) (xs : List (Outline I)) → length (verdicts choice whole free xs) ≡ length xs
  length_verdicts whole free [] = refl
  length_verdicts whole free (x ∷ xs) = one_verdict whole free x xs x.is_void (is_whole whole x xs) refl refl (λ w f. length_verdicts w f xs)

  -- what is kept of a list, by its verdicts
  pub kept_are : (xs : List (Element I)) → kept_indexes choice xs ≡ numbers_of (verdicts choice true true (map outline_of xs)) (numbered_from 0 xs)
  kept_are xs =
      ap (map (λ (x : Element I × ℕ). x.1)) (kept_is numbered_element (λ (x : Element I × ℕ). x.0) told choice (λ n e. refl) (numbered_from 0 xs))
      ∙ ap (λ os. numbers_of (verdicts choice true true os) (numbered_from 0 xs)) (outlines_are 0 xs)

  pub kept_number : (xs : List (Element I)) (i : ℕ) → has (kept_indexes choice xs) i ≡ stays_at (verdicts choice true true (map outline_of xs)) i
  kept_number xs i =
      ap (λ ns. has ns i) (kept_are xs)
      ∙ numbers_are (verdicts choice true true (map outline_of xs)) xs 0 i i (length_verdicts true true (map outline_of xs) ∙ length-map xs outline_of) (omega arith)

-- beyond the list no node stays
pub none_past : (choice : Choice ℕ) (xs : List (Outline ℕ)) (i : ℕ) → length xs ≤ i → stays_at (verdicts choice true true xs) i ≡ false
none_past choice xs i h = stays_past (verdicts choice true true xs) i (omega (arith, length_verdicts choice true true xs))

verdict_stands : (b : Bool) → stands (verdict b) ≡ b
verdict_stands true = refl
verdict_stands false = refl

-- the first of a list, and those after it
module _ (choice : Choice ℕ) where
  first_at : (whole free : Bool) (x : Outline ℕ) (xs : List (Outline ℕ)) (v w : Bool) → x.is_void ≡ v → is_whole whole x xs ≡ w
      → stays_at (verdicts choice whole free (x ∷ xs)) 0 ≡ keeps_node choice (whole_after whole x xs) free x
  first_at whole free x xs true w e d = rw e refl
  first_at whole free x xs false true e d = rw (e, d) refl
  first_at whole free x xs false false e d = rw (e, d) (verdict_stands (cond (follows_on x.condition) free true && is_true choice x.condition))

  pub first_stays : (whole free : Bool) (x : Outline ℕ) (xs : List (Outline ℕ)) → stays_at (verdicts choice whole free (x ∷ xs)) 0 ≡ keeps_node choice (whole_after whole x xs) free x
  first_stays whole free x xs = first_at whole free x xs x.is_void (is_whole whole x xs) refl refl

  later_at : (whole free : Bool) (x : Outline ℕ) (xs : List (Outline ℕ)) (i : ℕ) (v w : Bool) → x.is_void ≡ v → is_whole whole x xs ≡ w
      → stays_at (verdicts choice whole free (x ∷ xs)) (suc i) ≡ stays_at (verdicts choice (whole_after whole x xs) (free_after choice (whole_after whole x xs) free x) xs) i
  later_at whole free x xs i true w e d = rw e refl
  later_at whole free x xs i false true e d = rw (e, d) refl
  later_at whole free x xs i false false e d = rw (e, d) refl

  pub later_stays : (whole free : Bool) (x : Outline ℕ) (xs : List (Outline ℕ)) (i : ℕ)
      → stays_at (verdicts choice whole free (x ∷ xs)) (suc i) ≡ stays_at (verdicts choice (whole_after whole x xs) (free_after choice (whole_after whole x xs) free x) xs) i
  later_stays whole free x xs i = later_at whole free x xs i x.is_void (is_whole whole x xs) refl refl

  -- a node of a list in turn
  pub next_number : (xs : List code.Outline) (i m : ℕ) (x : code.Outline) (whole after free new : Bool) → i < length xs → x ≡ get_or xs i x
      → after ≡ whole_after whole (outline_view x) (map outline_view (drop (i + 1) xs)) → new ≡ free_after choice after free (outline_view x)
      → stays_at (verdicts choice whole free (map outline_view (drop i xs))) (suc m) ≡ stays_at (verdicts choice after new (map outline_view (drop (i + 1) xs))) m
  next_number xs i m x whole after free new h is e d =
      let rest = map outline_view (drop (i + 1) xs) in
      ap (λ ys. stays_at (verdicts choice whole free (map outline_view ys)) (suc m)) (drop_more xs i x h ∙ ap (λ y. y ∷ drop (i + 1) xs) (sym is))
      ∙ later_stays whole free (outline_view x) rest m
      ∙ ap (λ w. stays_at (verdicts choice w (free_after choice w free (outline_view x)) rest) m) (sym e)
      ∙ ap (λ f. stays_at (verdicts choice after f rest) m) (sym d)

  pub this_number : (xs : List code.Outline) (i : ℕ) (x : code.Outline) (whole after free : Bool) → i < length xs → x ≡ get_or xs i x
      → after ≡ whole_after whole (outline_view x) (map outline_view (drop (i + 1) xs))
      → stays_at (verdicts choice whole free (map outline_view (drop i xs))) 0 ≡ keeps_node choice after free (outline_view x)
  this_number xs i x whole after free h is e =
      let rest = map outline_view (drop (i + 1) xs) in
      ap (λ ys. stays_at (verdicts choice whole free (map outline_view ys)) 0) (drop_more xs i x h ∙ ap (λ y. y ∷ drop (i + 1) xs) (sym is))
      ∙ first_stays whole free (outline_view x) rest
      ∙ ap (λ w. keeps_node choice w free (outline_view x)) (sym e)

-- ---- sets that are found

module _ (look : Lookup) where
  abbrev pub flag_number : ℕ
  flag_number = length look.flags.now

  -- what is true of a set that is found, where it is
  pub found_as : (r : Result Choices AllocError) (f g : Choice ℕ → Bool) → ((choice : Choice ℕ) → f choice ≡ g choice) → IfOk r (IsFound look f) → IfOk r (IsFound look g)
  found_as (Ok c) f g e h = record { over = h.over; set = λ k b. h.set k b ∙ e (choice_in look k) }
  found_as (Err x) f g e h = h

  abbrev pub FindsNumber : List code.Outline → ℕ → Result Choices AllocError → Type 0
  FindsNumber nodes number r = IfOk r (λ c. (xs : List (Element ℕ)) → map outline_view nodes ≡ map outline_of xs → IsFound look (λ choice. has (kept_indexes choice xs) number) c)

  pub found_number : (r : Result Choices AllocError) (nodes : List code.Outline) (number : ℕ) (f : ℕ → Bool) → IfOk r (λ c. c.flags ≡ flag_number) → IfOk r (IsSetOf flag_number f)
      → ((k : ℕ) → k < 2 ^ flag_number → stays_at (verdicts (choice_in look k) true true (map outline_view nodes)) number ≡ f k) → FindsNumber nodes number r
  found_number (Ok c) nodes number f h s e = λ xs is. record {
    over = h;
    set = λ k b. s k b ∙ (sym (e k b) ∙ (ap (λ os. stays_at (verdicts (choice_in look k) true true os) number) is ∙ sym (kept_number (choice_in look k) xs number)));
  }
  found_number (Err x) nodes number f h s e = h

  pub found_none : (r : Result Choices AllocError) (nodes : List code.Outline) (number : ℕ) → IfOk r (IsFound look (λ choice. false)) → length nodes ≤ number → FindsNumber nodes number r
  found_none (Ok c) nodes number h past = λ xs is. record {
    over = h.over;
    set = λ k b.
        h.set k b ∙ (sym (none_past (choice_in look k) (map outline_view nodes) number (omega (arith, length-map nodes outline_view)))
        ∙ (ap (λ os. stays_at (verdicts (choice_in look k) true true os) number) is ∙ sym (kept_number (choice_in look k) xs number)));
  }
  found_none (Err x) nodes number h past = h
