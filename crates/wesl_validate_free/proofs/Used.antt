-- What is told by marks are the uses that are free; and the laws.
use Rattle.std.proofs.Common.{◌≡◌, ℕ, ◌<◌, ◌||◌, ◌++◌, Bool, true, false, List, [], ◌∷◌, length, get_or, map, refl, sym, ap, subst, ◌∙◌, arith}
use Rattle.std.specs.Prelude.{if◌then◌else◌}
use Rattle.std.specs.List.{AllPairs, Contains, filter}
use Rattle.std.proofs.lemmas.List.{append-nil, get_or-map, length-map}
use Rattle.std.proofs.lemmas.List.Kept.{AllPairs-filter}
use Rattle.std.proofs.lemmas.Simd.{map-map}
use Rattle.wesl_tree_names.specs.Path.{Text}
use Rattle.wesl_tree_syntax.specs.Unit.{UnitView, trees_of, name_in, numbers}
use Rattle.wesl_scope_occurrences.specs.Occurrences.{Block, Occurrence, occurrences}
use Rattle.wesl_scope_occurrences.specs.Walk.{Found}
use Rattle.wesl_scope_occurrences.specs.Ways.{told}
use Rattle.wesl_scope_occurrences.proofs.Names.{names_each}
use Rattle.wesl_scope_strip.specs.Marks.{mark_at}
use Rattle.wesl_validate_builtins.specs.Builtins.{BuiltinNames}
use Rattle.wesl_validate_rules.specs.Valid.{spelling, is_undefined}
use Rattle.wesl_validate_rules.specs.Known.{is_meant, binds, is_unknown}
use Rattle.wesl_validate_rules.proofs.Finding.{from_mapped, test_is}
use Rattle.wesl_validate_free.specs.Free.{each_once}
use Rattle.wesl_validate_free.specs.Gathered.{uses_among, uses_view}
use Rattle.wesl_validate_free.specs.Laws.{NoUseIsDefined, UsesHaveFreeNames, UsesAreInOrder, UsesStandThere}
use Rattle.wesl_validate_free.specs.Uses.{Use, use_at, free_uses}
use Rattle.wesl_validate_free.specs.declared.uses.FreeUse.{FreeUse}
use Rattle.wesl_validate_free.proofs.Once.{none_once, of_passing}
use Rattle.wesl_validate_free.proofs.Passing.{passing}
use Rattle.wesl_validate_free.proofs.Placed.{in_order, place_is}
use Rattle.wesl_validate_free.proofs.Told.{none_is_defined}

-- by marks as by the definition
module _ (u : UnitView) (b : BuiltinNames) (names : List Text) (w : ℕ → Block) (os : List Found) (known : List Bool) (all_is : map (told w) os ≡ occurrences (trees_of u)) (same : names ≡ u.names)
    (within : (o : Found) → Contains os o → o.name < length names)
    (known_is : (m : ℕ) → m < length names → mark_at known m ≡ (is_meant b (name_in names m) || binds os m)) where
  pub uses_are : uses_among known names os ≡ free_uses u b
  uses_are =
      sym (ap (λ xs. map (λ (o : Occurrence ℕ). use_at o.place (spelling u o.name)) (filter (is_undefined u b) xs)) (sym all_is)
      ∙ passing (told w) (is_undefined u b) (λ (o : Occurrence ℕ). use_at o.place (spelling u o.name)) (is_unknown known) (λ (o : Found). use_at o.place (name_in names o.name)) (λ o. ap (λ ns. use_at o.place (name_in ns o.name)) (sym same)) os
      (test_is u b names w os known all_is same within known_is))

-- uses of the code: one more, and none
seen_push : (xs : List FreeUse) (x : FreeUse) → uses_view (xs ++ x ∷ []) ≡ uses_view xs ++ use_at x.place x.name.now ∷ []
seen_push [] x = refl
seen_push (y ∷ xs) x = ap (λ us. use_at y.place y.name.now ∷ us) (seen_push xs x)

pub one_used : (t : Bool) (old now : List FreeUse) (x : FreeUse) (made : Use) → t ≡ true → now ≡ old ++ x ∷ [] → use_at x.place x.name.now ≡ made → uses_view now ≡ uses_view old ++ (if t then made ∷ [] else [])
one_used t old now x made h e is =
    ap uses_view e ∙ (seen_push old x ∙ (ap (λ y. uses_view old ++ y ∷ []) is ∙ ap (λ b. uses_view old ++ (if b then made ∷ [] else [])) (sym h)))

pub none_used : (t : Bool) (old : List FreeUse) (made : Use) → t ≡ false → uses_view old ≡ uses_view old ++ (if t then made ∷ [] else [])
none_used t old made h = sym (ap (λ b. uses_view old ++ (if b then made ∷ [] else [])) h ∙ append-nil (uses_view old))

pub none_seen : (xs : List FreeUse) → uses_view xs ≡ [] → xs ≡ []
none_seen [] e = refl
none_seen (x ∷ xs) e = cc

-- laws
pub have_free_names : UsesHaveFreeNames
have_free_names u b = ap each_once (map-map (λ (x : Use). x.name) (λ (o : Occurrence ℕ). use_at o.place (spelling u o.name)) (filter (is_undefined u b) (occurrences (trees_of u))))

none_named : (xs : List Use) → map (λ (x : Use). x.name) xs ≡ [] → xs ≡ []
none_named [] e = refl
none_named (x ∷ xs) e = cc

pub no_use_is_defined : NoUseIsDefined
no_use_is_defined u b =
    let law = none_is_defined u b in (
      λ e. law.0 (sym (have_free_names u b) ∙ ap (λ xs. each_once (map (λ (x : Use). x.name) xs)) e),
      λ d. none_named (free_uses u b) (none_once (map (λ (x : Use). x.name) (free_uses u b)) (have_free_names u b ∙ law.1 d)),
    )

-- pairs of what is made of others
pairs_mapped : {A B : Type 0} (R : B → B → Type 0) (f : A → B) (xs : List A) → AllPairs (λ x y. R (f x) (f y)) xs → AllPairs R (map f xs)
pairs_mapped R f [] h i j d b l = absurd (omega (arith, l))
pairs_mapped R f (x ∷ xs) h i j d b l =
    let jl : j < length (x ∷ xs) = omega (arith, length-map (x ∷ xs) f, l) in
    let il : i < length (x ∷ xs) = omega (arith, b, jl) in
    subst (λ y. R y (get_or (map f (x ∷ xs)) j d)) (sym (get_or-map f (x ∷ xs) i x d il))
    (subst (λ y. R (f (get_or (x ∷ xs) i x)) y) (sym (get_or-map f (x ∷ xs) j x d jl)) (h i j x b jl))

abbrev use_of : UnitView → Occurrence ℕ → Use
use_of u o = use_at o.place (spelling u o.name)

pub are_in_order : UsesAreInOrder
are_in_order u b =
    let all = occurrences (trees_of u) in
    pairs_mapped (λ (x y : Use). x.place < y.place) (use_of u) (filter (is_undefined u b) all)
    (AllPairs-filter (λ (x y : Occurrence ℕ). x.place < y.place) (is_undefined u b) all (in_order (trees_of u)))

-- the identifier at the place of one
there : (u : UnitView) (o : Occurrence ℕ) → Contains (occurrences (trees_of u)) o → (o.place < length (numbers u)) × (get_or (numbers u) o.place 0 ≡ o.name)
there u o (k, l, e) =
    let all = occurrences (trees_of u) in
    let is : o.place ≡ k = sym (ap (λ (x : Occurrence ℕ). x.place) e) ∙ place_is (trees_of u) k o l in
    let names : map (λ (x : Occurrence ℕ). x.name) all ≡ numbers u = names_each (trees_of u) in
    let many : length (numbers u) ≡ length all = sym (ap length names) ∙ length-map all (λ (x : Occurrence ℕ). x.name) in (
      omega (arith, l, is, many),
      ap (λ p. get_or (numbers u) p 0) is
          ∙ (ap (λ ns. get_or ns k 0) (sym names) ∙ (get_or-map (λ (x : Occurrence ℕ). x.name) all k o 0 l ∙ ap (λ (x : Occurrence ℕ). x.name) e)),
    )

pub stand_there : UsesStandThere
stand_there u b x c =
    let s = from_mapped (use_of u) (filter (is_undefined u b) (occurrences (trees_of u))) x c in
    let t = there u s.0 (of_passing (is_undefined u b) (occurrences (trees_of u)) s.0 s.1.0).0 in
    subst (λ (y : Use). (y.place < length (numbers u)) × (spelling u (get_or (numbers u) y.place 0) ≡ y.name)) s.1.1 (t.0, ap (spelling u) t.1)
