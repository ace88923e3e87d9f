-- The steps that are listed are those of the module.
use Rattle.std.proofs.Common.{◌≡◌, ◌⊎◌, ◌↔◌, ℕ, zero, suc, ◌<◌, ◌++◌, ◌==◌, ◌&&◌, Bool, true, false, List, [], ◌∷◌, length, map, get_or, take, ◌+◌, add-one, append_assoc, refl, sym, ap, ◌∙◌, subst, inl, inr, arith, cond}
use Rattle.std.specs.Prelude.{Option, Some, None, Result, Ok, Err, IfOk, IfSome, IfNone, flat_map, if◌then◌else◌}
use Rattle.std.specs.List.{Contains, filter}
use Rattle.std.proofs.lemmas.Bool.Decides.{Decides-eqb}
use Rattle.std.proofs.lemmas.List.{append-nil}
use Rattle.std.proofs.lemmas.List.Elements.{Contains-append_cases, Contains-append_left, Contains-append_right}
use Rattle.wesl_tree_syntax.specs.Unit.{UnitView, trees_of}
use Rattle.wesl_scope_occurrences.specs.Occurrences.{Block, Occurrence, occurrences, is_module_name, is_reference}
use Rattle.wesl_scope_occurrences.specs.Walk.{Found}
use Rattle.wesl_scope_occurrences.specs.Ways.{told}
use Rattle.wesl_scope_strip.specs.Declarations.{lies_in, declared_in, referred_in}
use Rattle.wesl_validate_rules.specs.Graphs.{Graph, edges_at, Leads}
use Rattle.wesl_validate_rules.specs.Valid.{LeadsTo}
use Rattle.wesl_validate_rules.specs.Steps.{referred_here, referred, used_by, steps_here, used_in, steps}
use Rattle.std.proofs.lemmas.Bool.{and_from, and_parts}
use Rattle.wesl_scope_strip.proofs.Keeping.{contains_cases, contains_here, contains_later, contains_none}

contains_one : {A : Type 0} (x m : A) → Contains (x ∷ []) m → x ≡ m
contains_one x m (zero, l, e) = e
contains_one x m (suc k, l, e) = absurd (omega (arith, l))

-- members of lists that are joined
module _ {A B : Type 0} (f : A → List B) where
  pub from_joined : (xs : List A) (y : B) → Contains (flat_map f xs) y → (x : A) × (Contains xs x × Contains (f x) y)
  from_joined [] y c = absurd (contains_none y c)
  from_joined (x ∷ xs) y c = by (Contains-append_cases (f x) (flat_map f xs) y c) (from_joined xs y)
    where
      by : Contains (f x) y ⊎ Contains (flat_map f xs) y → (Contains (flat_map f xs) y → (z : A) × (Contains xs z × Contains (f z) y)) → (z : A) × (Contains (x ∷ xs) z × Contains (f z) y)
      by (inl d) r = (x, (contains_here x xs, d))
      by (inr d) r = let s = r d in (s.0, (contains_later x s.0 xs s.1.0, s.1.1))

  pub to_joined : (xs : List A) (x : A) (y : B) → Contains xs x → Contains (f x) y → Contains (flat_map f xs) y
  to_joined [] x y c d = absurd (contains_none x c)
  to_joined (z ∷ xs) x y c d = by (contains_cases z x xs c) (λ e. to_joined xs x y e d)
    where
      by : (z ≡ x) ⊎ Contains xs x → (Contains xs x → Contains (flat_map f xs) y) → Contains (f z ++ flat_map f xs) y
      by (inl e) r = Contains-append_left (f z) (flat_map f xs) y (subst (λ w. Contains (f w) y) (sym e) d)
      by (inr e) r = Contains-append_right (f z) (flat_map f xs) y (r e)

-- one item after the other
module _ {X A B : Type 0} (v : X → A) (f : A → List B) where
  joined_suc : (xs : List X) (i : ℕ) (x : X) → i < length xs → x ≡ get_or xs i x → flat_map f (map v (take (suc i) xs)) ≡ flat_map f (map v (take i xs)) ++ f (v x)
  joined_suc [] i x h e = absurd (omega (arith, h))
  joined_suc (y ∷ xs) zero x h e = append-nil (f (v y)) ∙ ap (λ z. f (v z)) (sym e)
  joined_suc (y ∷ xs) (suc i) x h e = ap (λ ns. f (v y) ++ ns) (joined_suc xs i x (omega (arith, h)) e) ∙ sym (append_assoc (f (v y)) (flat_map f (map v (take i xs))) (f (v x)))

  pub joined_next : (xs : List X) (i : ℕ) (x : X) → i < length xs → x ≡ get_or xs i x → flat_map f (map v (take (i + 1) xs)) ≡ flat_map f (map v (take i xs)) ++ f (v x)
  joined_next xs i x h e = rw add-one (joined_suc xs i x h e)

taken_suc : {X : Type 0} (xs : List X) (i : ℕ) (x d : X) → i < length xs → x ≡ get_or xs i d → take (suc i) xs ≡ take i xs ++ x ∷ []
taken_suc [] i x d h e = absurd (omega (arith, h))
taken_suc (y ∷ xs) zero x d h e = ap (λ z. z ∷ []) (sym e)
taken_suc (y ∷ xs) (suc i) x d h e = ap (λ ns. y ∷ ns) (taken_suc xs i x d (omega (arith, h)) e)

-- one more of the targets, where a test admits them
pub admitted_next : {X : Type 0} (t : Bool) (old now : List X) (xs : List X) (i : ℕ) (x d : X) → i < length xs → x ≡ get_or xs i d → now ≡ old ++ (if t then take i xs else []) → now ++ (if t then x ∷ [] else []) ≡ old ++ (if t then take (i + 1) xs else [])
admitted_next true old now xs i x d h e n =
    let t : take i xs ++ x ∷ [] ≡ take (i + 1) xs = rw add-one (sym (taken_suc xs i x d h e)) in
    ap (λ ns. ns ++ x ∷ []) n ∙ (append_assoc old (take i xs) (x ∷ []) ∙ ap (λ ns. old ++ ns) t)
admitted_next false old now xs i x d h e n = append-nil now ∙ n

-- a list that a test admits
pub from_if : {B : Type 0} (t : Bool) (ys : List B) (y : B) → Contains (if t then ys else []) y → (t ≡ true) × Contains ys y
from_if true ys y c = (refl, c)
from_if false ys y c = absurd (contains_none y c)

pub to_if : {B : Type 0} (t : Bool) (ys : List B) (y : B) → t ≡ true → Contains ys y → Contains (if t then ys else []) y
to_if true ys y e c = c
to_if false ys y e c = cc

-- those of a list that pass, seen by `g`
module _ {A B : Type 0} (v : A → B) (p : B → Bool) (g : B → ℕ) (q : A → Bool) (h : A → ℕ) (tests : (x : A) → p (v x) ≡ q x) (sees : (x : A) → g (v x) ≡ h x) where
  pub passing : (xs : List A) → map g (filter p (map v xs)) ≡ flat_map (λ x. if q x then h x ∷ [] else []) xs
  passing [] = refl
  passing (x ∷ xs) = ap (λ t. map g (cond t (v x ∷ filter p (map v xs)) (filter p (map v xs)))) (tests x) ∙ by (q x) (passing xs)
    where
      by : (t : Bool) → map g (filter p (map v xs)) ≡ flat_map (λ x. if q x then h x ∷ [] else []) xs → map g (cond t (v x ∷ filter p (map v xs)) (filter p (map v xs))) ≡ (if t then h x ∷ [] else []) ++ flat_map (λ x. if q x then h x ∷ [] else []) xs
      by true e = ap (λ n. n ∷ map g (filter p (map v xs))) (sees x) ∙ ap (λ ns. h x ∷ ns) e
      by false e = e

lies_some : (j : ℕ) (d : Option ℕ) → lies_in j d ≡ true → d ≡ Some j
lies_some j None e = cc
lies_some j (Some i) e = ap Some ((Decides-eqb i j).0 e)

some_lies : (j : ℕ) (d : Option ℕ) → d ≡ Some j → lies_in j d ≡ true
some_lies j d e = rw e ((Decides-eqb j j).1 refl)

abbrev declared_here : ℕ → Found → List ℕ
declared_here j o = if is_module_name o.role && lies_in j o.declaration then o.name ∷ [] else []

module _ (u : UnitView) (w : ℕ → Block) (os : List Found) (all_is : map (told w) os ≡ occurrences (trees_of u)) where
  referred_is : (j : ℕ) → referred_in u j ≡ referred os j
  referred_is j =
      ap (λ xs. map (λ (o : Occurrence ℕ). o.name) (filter (λ (o : Occurrence ℕ). is_reference o.role && lies_in j o.declaration) xs)) (sym all_is)
      ∙ passing (told w) (λ (o : Occurrence ℕ). is_reference o.role && lies_in j o.declaration) (λ (o : Occurrence ℕ). o.name) (λ (o : Found). is_reference o.role && lies_in j o.declaration) (λ (o : Found). o.name) (λ o. refl) (λ o. refl) os

  declared_is : (j : ℕ) → declared_in u j ≡ flat_map (declared_here j) os
  declared_is j =
      ap (λ xs. map (λ (o : Occurrence ℕ). o.name) (filter (λ (o : Occurrence ℕ). is_module_name o.role && lies_in j o.declaration) xs)) (sym all_is)
      ∙ passing (told w) (λ (o : Occurrence ℕ). is_module_name o.role && lies_in j o.declaration) (λ (o : Occurrence ℕ). o.name) (λ (o : Found). is_module_name o.role && lies_in j o.declaration) (λ (o : Found). o.name) (λ o. refl) (λ o. refl) os

  pub leads_to : (a b : ℕ) → Contains (steps os a) b → LeadsTo u a b
  leads_to a b c =
      let s = from_joined (steps_here (used_in os) a) os b c in
      let t = from_if (is_module_name s.0.role && s.0.name == a) (used_in os s.0.declaration) b s.1.1 in
      by s.0 s.1.0 (and_parts (is_module_name s.0.role) (s.0.name == a) t.0) s.0.declaration refl t.1
    where
      by : (o : Found) → Contains os o → (is_module_name o.role ≡ true) × ((o.name == a) ≡ true) → (d : Option ℕ) → o.declaration ≡ d → Contains (used_in os d) b → LeadsTo u a b
      by o there tests None e c = absurd (contains_none b c)
      by o there tests (Some j) e c = (
        j,
        subst (λ xs. Contains xs a) (sym (declared_is j))
            (to_joined (declared_here j) os o a there (to_if (is_module_name o.role && lies_in j o.declaration) (o.name ∷ []) a (and_from (is_module_name o.role) (lies_in j o.declaration) tests.0 (some_lies j o.declaration e)) (subst (Contains (o.name ∷ [])) ((Decides-eqb o.name a).0 tests.1) (contains_here o.name [])))),
        subst (λ xs. Contains xs b) (sym (referred_is j)) c,
      )

  pub leads_from : (a b : ℕ) → LeadsTo u a b → Contains (steps os a) b
  leads_from a b (j, d, r) =
      let s = from_joined (declared_here j) os a (subst (λ xs. Contains xs a) (declared_is j) d) in
      let t = from_if (is_module_name s.0.role && lies_in j s.0.declaration) (s.0.name ∷ []) a s.1.1 in
      let tests = and_parts (is_module_name s.0.role) (lies_in j s.0.declaration) t.0 in
      let name : s.0.name ≡ a = contains_one s.0.name a t.1 in
      let used : Contains (used_in os s.0.declaration) b = subst (λ d. Contains (used_in os d) b) (sym (lies_some j s.0.declaration tests.1)) (subst (λ xs. Contains xs b) (referred_is j) r) in
      to_joined (steps_here (used_in os) a) os s.0 b s.1.0 (to_if (is_module_name s.0.role && s.0.name == a) (used_in os s.0.declaration) b (and_from (is_module_name s.0.role) (s.0.name == a) tests.0 ((Decides-eqb s.0.name a).1 name)) used)

  -- the graph of the steps
  pub same_steps : (g : Graph) → ((a : ℕ) → edges_at g a ≡ steps os a) → (a b : ℕ) → Leads g a b ↔ LeadsTo u a b
  same_steps g edges a b = (λ l. leads_to a b (subst (λ xs. Contains xs b) (edges a) l), λ l. subst (λ xs. Contains xs b) (sym (edges a)) (leads_from a b l))

-- what is used by each declaration, as it is listed
module _ (g : Graph) (os : List Found) (uses : (j : ℕ) → edges_at g j ≡ referred os j) where
  same_used : (d : Option ℕ) → used_by g d ≡ used_in os d
  same_used None = refl
  same_used (Some j) = uses j

  pub same_listed : (a : ℕ) (xs : List Found) → flat_map (steps_here (used_by g) a) xs ≡ flat_map (steps_here (used_in os) a) xs
  same_listed a [] = refl
  same_listed a (o ∷ xs) = ap (λ ns. (if is_module_name o.role && o.name == a then ns else []) ++ flat_map (steps_here (used_by g) a) xs) (same_used o.declaration)
      ∙ ap (λ ns. (if is_module_name o.role && o.name == a then used_in os o.declaration else []) ++ ns) (same_listed a xs)

-- a result that holds something, and one that holds nothing
pub on_some : {X E : Type 0} (r : Result (Option X) E) (P Q : X → Type 0) → ((x : X) → P x → Q x) → IfOk r (λ o. IfSome o P) → IfOk r (λ o. IfSome o Q)
on_some (Ok (Some x)) P Q f h = f x h
on_some (Ok None) P Q f h = h
on_some (Err e) P Q f h = h

pub on_none : {X E : Type 0} (r : Result (Option X) E) (P Q : Type 0) → (P → Q) → IfOk r (λ o. IfNone o P) → IfOk r (λ o. IfNone o Q)
on_none (Ok (Some x)) P Q f h = h
on_none (Ok None) P Q f h = f h
on_none (Err e) P Q f h = h

-- an identifier that adds nothing
pub no_use : (xs : List ℕ) (j : ℕ) (o : Found) → is_reference o.role ≡ false → xs ++ referred_here j o ≡ xs
no_use xs j o e = ap (λ t. xs ++ (if t && lies_in j o.declaration then o.name ∷ [] else [])) e ∙ append-nil xs

pub no_place : (xs : List ℕ) (j : ℕ) (o : Found) → o.declaration ≡ None → xs ++ referred_here j o ≡ xs
no_place xs j o e = ap (λ d. xs ++ (if is_reference o.role && lies_in j d then o.name ∷ [] else [])) e ∙ by (is_reference o.role)
  where
    by : (t : Bool) → xs ++ (if t && false then o.name ∷ [] else []) ≡ xs
    by true = append-nil xs
    by false = append-nil xs
