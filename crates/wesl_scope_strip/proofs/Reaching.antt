-- What marks reach in the graph of declarations and numbers.
use Rattle.std.proofs.Common.{◌≡◌, ◌↔◌, ℕ, zero, suc, ◌+◌, ◌<◌, Bool, true, false, ◌||◌, List, [], ◌∷◌, ◌++◌, length, get_or, refl, sym, ◌∙◌, ap, subst, arith, inl, inr, length-append}
use Rattle.std.specs.Prelude.{Some}
use Rattle.std.specs.List.{list_any, All, Contains}
use Rattle.std.proofs.lemmas.List.{get_or_append_left, get_or-append-add}
use Rattle.std.proofs.lemmas.List.Elements.{Contains-get_or}
use Rattle.wesl_scope_graph.specs.Graphs as graphs
use Rattle.wesl_scope_graph.specs.Graphs.{Graph, Leads}
use Rattle.wesl_scope_occurrences.specs.Occurrences.{OccurrenceIn, is_module_name, is_reference}
use Rattle.wesl_scope_strip.specs.Marks.{mark_at}
use Rattle.wesl_scope_strip.specs.Steps.{IsStep, IsStepOf}

-- an item that passes
pub record Found {A : Type 0} (p : A → Bool) (xs : List A) : Type 0 where
  pub item : A
  pub place : ℕ
  pub there : place < length xs
  pub is : (d : A) → get_or xs place d ≡ item
  pub passes : p item ≡ true

pub found : {A : Type 0} (p : A → Bool) (xs : List A) → list_any p xs ≡ true → Found p xs
found p [] h = cc
found p (x ∷ xs) h = by (p x) refl h (found p xs)
  where
    later : Found p xs → Found p (x ∷ xs)
    later f = record { item = f.item; place = suc f.place; there = omega (arith, f.there); is = λ d. f.is d; passes = f.passes }

    by : (t : Bool) → p x ≡ t → (t || list_any p xs) ≡ true → (list_any p xs ≡ true → Found p xs) → Found p (x ∷ xs)
    by true e k r = record { item = x; place = 0; there = omega arith; is = λ d. refl; passes = e }
    by false e k r = later (r k)

module _ {B : Type 0} (os : List (OccurrenceIn ℕ B)) (kept wanted : List Bool) where
  -- what the marks reach: declarations (true) and numbers (false)
  pub data Reached : Bool → ℕ → Type 0 where
    kept_first : (j : ℕ) → mark_at kept j ≡ true → Reached true j
    wanted_first : (m : ℕ) → mark_at wanted m ≡ true → Reached false m
    referred : (i m k : ℕ) (d : OccurrenceIn ℕ B) → k < length os → is_reference (get_or os k d).role ≡ true → (get_or os k d).declaration ≡ Some i → (get_or os k d).name ≡ m → Reached true i → Reached false m
    declared : (j m k : ℕ) (d : OccurrenceIn ℕ B) → k < length os → is_module_name (get_or os k d).role ≡ true → (get_or os k d).declaration ≡ Some j → (get_or os k d).name ≡ m → j < length kept → Reached false m → Reached true j

marked_within : (ms : List Bool) (j : ℕ) → mark_at ms j ≡ true → j < length ms
marked_within [] j h = cc
marked_within (m ∷ ms) zero h = omega arith
marked_within (m ∷ ms) (suc j) h = omega (arith, marked_within ms j h)

-- marks of the first list, and of the second
mark_left : (xs ys : List Bool) (j : ℕ) → j < length xs → mark_at (xs ++ ys) j ≡ mark_at xs j
mark_left xs ys j h = get_or_append_left xs ys false j h

mark_right : (xs ys : List Bool) (n m : ℕ) → length xs ≡ n → mark_at (xs ++ ys) (n + m) ≡ mark_at ys m
mark_right xs ys n m e = subst (λ k. mark_at (xs ++ ys) (k + m) ≡ mark_at ys m) e (get_or-append-add xs ys m false)

module _ {B : Type 0} (n : ℕ) (g : Graph) (os : List (OccurrenceIn ℕ B)) (kept wanted : List Bool) (sized : length kept ≡ n) (within : All (λ o. o.name < length wanted) os) (steps : (a b : ℕ) → Leads g a b ↔ IsStepOf n a b os) where
  -- a node that is a declaration, and one that is a number
  record Meant (x : ℕ) : Type 0 where
    pub declaration : x < n → Reached os kept wanted true x
    pub number : (m : ℕ) → x ≡ n + m → Reached os kept wanted false m

  meant_mark : (x : ℕ) → mark_at (kept ++ wanted) x ≡ true → Meant x
  meant_mark x h = record {
    declaration = λ l. kept_first x (sym (mark_left kept wanted x (omega (arith, l, sized))) ∙ h);
    number = λ m e. wanted_first m (sym (mark_right kept wanted n m sized) ∙ (ap (mark_at (kept ++ wanted)) (sym e) ∙ h));
  }

  meant_step : (a b : ℕ) (o : OccurrenceIn ℕ B) → Contains os o → IsStep n a b o → Meant a → Meant b
  meant_step a b o c (inl s) from =
      let q : n + o.name ≡ b = s.3 in
      let same : get_or os c.0 o ≡ o = c.2 in
      record {
        declaration = λ l. absurd (omega (arith, q, l));
        number = λ m e. referred a m c.0 o c.1 (ap (λ x. is_reference x.role) same ∙ s.0) (ap (λ x. x.declaration) same ∙ s.1) (ap (λ x. x.name) same ∙ omega (arith, q, e)) (from.declaration s.2);
      }
  meant_step a b o c (inr s) from =
      let q : n + o.name ≡ a = s.3 in
      let inside : b < n = s.2 in
      let same : get_or os c.0 o ≡ o = c.2 in
      record {
        declaration = λ l. declared b o.name c.0 o c.1 (ap (λ x. is_module_name x.role) same ∙ s.0) (ap (λ x. x.declaration) same ∙ s.1) (ap (λ x. x.name) same) (omega (arith, l, sized)) (from.number o.name (sym q));
        number = λ m e. absurd (omega (arith, e, inside));
      }

  meant : (x : ℕ) → graphs.Reached g (kept ++ wanted) x → Meant x
  meant _ (graphs.marked a h) = meant_mark a h
  meant _ (graphs.onward a b inside r l) = let s = (steps a b).0 l in meant_step a b s.0 s.1 s.2 (meant a r)

  abbrev node : Bool → ℕ → ℕ
  node true j = j
  node false m = n + m

  declaration_within : (j : ℕ) → Reached os kept wanted true j → j < n
  declaration_within _ (kept_first j h) = subst (λ k. j < k) sized (marked_within kept j h)
  declaration_within _ (declared j m k d l r e q there h) = subst (λ k. j < k) sized there

  all_sized : length (kept ++ wanted) ≡ n + length wanted
  all_sized = length-append kept wanted ∙ ap (λ k. k + length wanted) sized

  comes : (t : Bool) (x : ℕ) → Reached os kept wanted t x → graphs.Reached g (kept ++ wanted) (node t x)
  comes _ _ (kept_first j h) = graphs.marked j (mark_left kept wanted j (marked_within kept j h) ∙ h)
  comes _ _ (wanted_first m h) = graphs.marked (n + m) (mark_right kept wanted n m sized ∙ h)
  comes _ _ (referred i m k d l r e q h) =
      let o = get_or os k d in
      let low : m < length wanted = subst (λ x. x < length wanted) q (within k d l) in
      let inside : n + m < length (kept ++ wanted) = omega (arith, low, all_sized) in
      graphs.onward i (n + m) inside (comes true i h) ((steps i (n + m)).1 (o, Contains-get_or os k d l, inl (r, e, declaration_within i h, ap (λ x. n + x) q)))
  comes _ _ (declared j m k d l r e q there h) =
      let o = get_or os k d in
      let inside : j < n = subst (λ x. j < x) sized there in
      let low : j < length (kept ++ wanted) = omega (arith, inside, all_sized) in
      graphs.onward (n + m) j low (comes false m h) ((steps (n + m) j).1 (o, Contains-get_or os k d l, inr (r, e, inside, ap (λ x. n + x) q)))

  pub reached_node : (j : ℕ) → j < n → graphs.Reached g (kept ++ wanted) j ↔ Reached os kept wanted true j
  reached_node j l = (λ r. (meant j r).declaration l, λ r. comes true j r)
