-- The edges of a graph, an identifier after the other.
use Rattle.std.proofs.Common.{◌≡◌, ◌⊎◌, ◌↔◌, ℕ, ◌+◌, ◌<◌, ◌≤◌, ◌++◌, ◌==◌, Bool, true, false, List, [], ◌∷◌, length, get_or, map, take, take_all, refl, sym, ap, ◌∙◌, subst, inl, inr}
use Rattle.std.specs.Prelude.{Option, Some, None, if◌then◌else◌}
use Rattle.std.specs.List.{Contains}
use Rattle.std.proofs.lemmas.Bool.Decides.{Decides-eqb}
use Rattle.std.proofs.lemmas.List.{map_more}
use Rattle.std.proofs.lemmas.List.Elements.{Contains-append_left, Contains-append_cases, Contains-push, Contains-push_cases}
use Rattle.wesl_scope_graph.specs.Graphs.{Graph, edges_at, Leads}
use Rattle.wesl_scope_graph.proofs.Growing.{contains_none, contains_one}
use Rattle.wesl_scope_graph.proofs.Meeting.{not_both}
use Rattle.wesl_scope_occurrences.specs.Occurrences.{OccurrenceIn, Standing, module_name, parameter, local, reference, word, is_module_name, is_reference}
use Rattle.wesl_scope_strip.specs.Steps.{IsStep, IsStepOf}

-- one edge more
pub leads_added : (g h : Graph) (from to : ℕ) → ((a : ℕ) → edges_at h a ≡ edges_at g a ++ (if from == a then to ∷ [] else [])) → (a b : ℕ) → Leads h a b ↔ (Leads g a b ⊎ ((from ≡ a) × (to ≡ b)))
leads_added g h from to added a b = (λ c. there (from == a) (Decides-eqb from a) (Contains-append_cases (edges_at g a) (if from == a then to ∷ [] else []) b (subst (λ xs. Contains xs b) (added a) c)), λ s. subst (λ xs. Contains xs b) (sym (added a)) (back (from == a) (Decides-eqb from a) s))
  where
    there : (t : Bool) → ((t ≡ true → from ≡ a) × (from ≡ a → t ≡ true)) → Contains (edges_at g a) b ⊎ Contains (if t then to ∷ [] else []) b → Leads g a b ⊎ ((from ≡ a) × (to ≡ b))
    there t d (inl c) = inl c
    there true d (inr c) = inr (d.0 refl, contains_one to b c)
    there false d (inr c) = absurd (contains_none b c)

    back : (t : Bool) → ((t ≡ true → from ≡ a) × (from ≡ a → t ≡ true)) → Leads g a b ⊎ ((from ≡ a) × (to ≡ b)) → Contains (edges_at g a ++ (if t then to ∷ [] else [])) b
    back t d (inl c) = Contains-append_left (edges_at g a) (if t then to ∷ [] else []) b c
    back true d (inr p) = subst (λ k. Contains (edges_at g a ++ to ∷ []) k) p.1 (Contains-push (edges_at g a) to)
    back false d (inr p) = absurd (not_both refl (d.1 p.0))

not_reference : (r : Standing) → is_module_name r ≡ true → is_reference r ≡ false
not_reference module_name h = refl
not_reference parameter h = refl
not_reference (local e) h = refl
not_reference (reference p) h = cc
not_reference word h = refl

some_same : (d a : ℕ) → Some d ≡ Some a → d ≡ a
some_same d a e = ap number e
  where
    number : Option ℕ → ℕ
    number None = 0
    number (Some k) = k

module _ {B : Type 0} (g : Graph) (n : ℕ) (o : OccurrenceIn ℕ B) where
  -- an identifier that refers, and one that is a name
  module _ (h : Graph) (d : ℕ) (lies : o.declaration ≡ Some d) (inside : d < n) where
    pub adds_reference : is_reference o.role ≡ true → ((a : ℕ) → edges_at h a ≡ edges_at g a ++ (if d == a then (n + o.name) ∷ [] else [])) → (a b : ℕ) → Leads h a b ↔ (Leads g a b ⊎ IsStep n a b o)
    adds_reference r added a b = let all = leads_added g h d (n + o.name) added a b in (λ c. there (all.0 c), λ s. all.1 (back s))
      where
        there : Leads g a b ⊎ ((d ≡ a) × ((n + o.name) ≡ b)) → Leads g a b ⊎ IsStep n a b o
        there (inl c) = inl c
        there (inr p) = inr (inl (r, lies ∙ ap Some p.0, subst (λ k. k < n) p.0 inside, p.1))

        back : Leads g a b ⊎ IsStep n a b o → Leads g a b ⊎ ((d ≡ a) × ((n + o.name) ≡ b))
        back (inl c) = inl c
        back (inr (inl s)) = inr (some_same d a (sym lies ∙ s.1), s.3)
        back (inr (inr s)) = absurd (not_both (not_reference o.role s.0) r)

    pub adds_name : is_module_name o.role ≡ true → ((a : ℕ) → edges_at h a ≡ edges_at g a ++ (if (n + o.name) == a then d ∷ [] else [])) → (a b : ℕ) → Leads h a b ↔ (Leads g a b ⊎ IsStep n a b o)
    adds_name m added a b = let all = leads_added g h (n + o.name) d added a b in (λ c. there (all.0 c), λ s. all.1 (back s))
      where
        there : Leads g a b ⊎ (((n + o.name) ≡ a) × (d ≡ b)) → Leads g a b ⊎ IsStep n a b o
        there (inl c) = inl c
        there (inr p) = inr (inr (m, lies ∙ ap Some p.1, subst (λ k. k < n) p.1 inside, p.0))

        back : Leads g a b ⊎ IsStep n a b o → Leads g a b ⊎ (((n + o.name) ≡ a) × (d ≡ b))
        back (inl c) = inl c
        back (inr (inl s)) = absurd (not_both (not_reference o.role m) s.0)
        back (inr (inr s)) = inr (s.3, some_same d b (sym lies ∙ s.1))

-- identifiers one after the other
module _ {A B : Type 0} (f : A → OccurrenceIn ℕ B) (n : ℕ) where
  pub steps_next : (g h : Graph) (xs : List A) (i : ℕ) (x : A) → i < length xs → x ≡ get_or xs i x → ((a b : ℕ) → Leads g a b ↔ IsStepOf n a b (map f (take i xs))) → ((a b : ℕ) → Leads h a b ↔ (Leads g a b ⊎ IsStep n a b (f x)))
      → (a b : ℕ) → Leads h a b ↔ IsStepOf n a b (map f (take (i + 1) xs))
  steps_next g h xs i x l is all added a b =
      let more : map f (take (i + 1) xs) ≡ map f (take i xs) ++ f x ∷ [] = map_more f xs i x l ∙ ap (λ y. map f (take i xs) ++ f y ∷ []) (sym is) in
      (λ c. subst (IsStepOf n a b) (sym more) (there ((added a b).0 c)), λ s. (added a b).1 (back (subst (IsStepOf n a b) more s)))
    where
      there : Leads g a b ⊎ IsStep n a b (f x) → IsStepOf n a b (map f (take i xs) ++ f x ∷ [])
      there (inl c) = let s = (all a b).0 c in (s.0, Contains-append_left (map f (take i xs)) (f x ∷ []) s.0 s.1, s.2)
      there (inr s) = (f x, Contains-push (map f (take i xs)) (f x), s)

      by : (o : OccurrenceIn ℕ B) → IsStep n a b o → Contains (map f (take i xs)) o ⊎ (f x ≡ o) → Leads g a b ⊎ IsStep n a b (f x)
      by o s (inl c) = inl ((all a b).1 (o, c, s))
      by o s (inr q) = inr (subst (IsStep n a b) (sym q) s)

      back : IsStepOf n a b (map f (take i xs) ++ f x ∷ []) → Leads g a b ⊎ IsStep n a b (f x)
      back s = by s.0 s.2 (Contains-push_cases (map f (take i xs)) (f x) s.0 s.1)

  pub steps_all : (g : Graph) (xs : List A) (i : ℕ) → length xs ≤ i → ((a b : ℕ) → Leads g a b ↔ IsStepOf n a b (map f (take i xs))) → (a b : ℕ) → Leads g a b ↔ IsStepOf n a b (map f xs)
  steps_all g xs i l all = subst (λ ys. (a b : ℕ) → Leads g a b ↔ IsStepOf n a b (map f ys)) (take_all i xs l) all
