-- A world says the same in any order.
use Rattle.std.proofs.Common.{◌≡◌, ◌⊎◌, inl, inr, ℕ, ◌≤◌, ◌+◌, Option, Some, None, List, [], ◌∷◌, ◌++◌, length, length-append, map, Contains, refl, sym, subst, ap, ◌∙◌, arith}
use Rattle.std.specs.List.Sorted.{IsPermutation}
use Rattle.std.proofs.lemmas.List.Elements.{Contains-append_cases, Contains-append_left, Contains-append_right}
use Rattle.std.proofs.lemmas.List.Sorted.{Contains-permutation, IsPermutation-sym, IsPermutation-map, length_permutation}
use Rattle.wesl_tree_names.specs.Path.{Text, Path}
use Rattle.wesl_tree_syntax.specs.Unit.{UnitOf}
use Rattle.wesl_link_symbols.specs.declared.symbols.Symbol.{Symbol}
use Rattle.wesl_link_symbols.specs.Tables.{Table}
use Rattle.wesl_link_reach.specs.World.{Task, Entered, Reached}
use Rattle.wesl_link_reach.specs.Faults.{Fault, Stands, AreDistinct}
use Rattle.wesl_link_reach.specs.Faults.AreDistinct.{none as none_distinct, one_more as one_distinct}
use Rattle.wesl_link_symbols.proofs.Lists.{contains_nil, contains_later, contains_first, contains_cases}
use Rattle.wesl_link_reach.proofs.Lists.{contains_map, map_contains, distinct_length}
use Rattle.wesl_link_tables.specs.Numbering.{AreRelated, IsRelatedOption, SameImport, SameReference, SameDeclaration, SameTable}
use Rattle.wesl_link_engine.specs.Worlds.{Module, table, tables, IsLinked}
use Rattle.wesl_link_engine.proofs.Carried.{IsOneToOne, Back, SameTask, SameFault, Covers, entered_to, reached_to, stands_to}

-- ---- lists with the same elements

module _ {X : Type 0} where
  split_at : (y : X) (ys : List X) (x : X) → (y ≡ x) ⊎ Contains ys x → (Contains ys x → (before : List X) × (after : List X) × (ys ≡ before ++ x ∷ after)) → (before : List X) × (after : List X) × (y ∷ ys ≡ before ++ x ∷ after)
  split_at y ys x (inl e) rest = ([], ys, ap (λ (z : X). z ∷ ys) e)
  split_at y ys x (inr h) rest = let (before, after, e) = rest h in (y ∷ before, after, ap (λ (zs : List X). y ∷ zs) e)

  pub split : (ys : List X) (x : X) → Contains ys x → (before : List X) × (after : List X) × (ys ≡ before ++ x ∷ after)
  split [] x h = absurd (contains_nil x h)
  split (y ∷ ys) x h = split_at y ys x (contains_cases y x ys h) (split ys x)

  -- all but one of the elements of a split list
  others : (x y : X) (before after : List X) → (x ≡ y → ⊥) → Contains (before ++ x ∷ after) y → Contains (before ++ after) y
  others x y before after differs h = by (Contains-append_cases before (x ∷ after) y h)
    where
      by : Contains before y ⊎ Contains (x ∷ after) y → Contains (before ++ after) y
      by (inl c) = Contains-append_left before after y c
      by (inr c) = elim (contains_cases x y after c) [ inl e ↦ absurd (differs e) | inr t ↦ Contains-append_right before after y t ]

  put_distinct : (before after : List X) (x : X) → AreDistinct (before ++ after) → (Contains (before ++ after) x → ⊥) → AreDistinct (before ++ x ∷ after)
  put_distinct [] after x d fresh = one_distinct x after fresh d
  put_distinct (y ∷ before) after x (one_distinct _ _ new d) fresh =
      one_distinct y (before ++ x ∷ after) (λ c. by (Contains-append_cases before (x ∷ after) y c)) (put_distinct before after x d (λ c. fresh (contains_later y x (before ++ after) c)))
    where
      by : Contains before y ⊎ Contains (x ∷ after) y → ⊥
      by (inl c) = new (Contains-append_left before after y c)
      by (inr c) = elim (contains_cases x y after c) [
        | inl e ↦ fresh (subst (λ z. Contains (y ∷ before ++ after) z) (sym e) (contains_first y (before ++ after)))
        | inr t ↦ new (Contains-append_right before after y t)
      ]

  -- no more elements than different ones that are all there
  distinct_in : (xs ys : List X) → AreDistinct xs → ((x : X) → Contains xs x → Contains ys x) → length ys ≤ length xs → AreDistinct ys
  distinct_in [] [] d h le = none_distinct
  distinct_in [] (y ∷ ys) d h le = absurd (omega arith)
  distinct_in (x ∷ xs) ys (one_distinct _ _ fresh d) h le =
      let (before, after, e) = split ys x (h x (contains_first x xs)) in
      let e2 : length ys ≡ length (before ++ x ∷ after) = ap length e in
      let more : length (before ++ after) ≡ length before + length after = length-append before after in
      let all : length (before ++ x ∷ after) ≡ length before + length (x ∷ after) = length-append before (x ∷ after) in
      let sub : (y : X) → Contains xs y → Contains (before ++ after) y =
      λ y c. others x y before after (λ same. fresh (subst (λ z. Contains xs z) (sym same) c)) (subst (λ (zs : List X). Contains zs y) e (h y (contains_later x y xs c))) in
      let absent : Contains (before ++ after) x → ⊥ =
      λ c.
      let longer : length (x ∷ xs) ≤ length (before ++ after) =
      distinct_length (x ∷ xs) (before ++ after) (one_distinct x xs fresh d) (λ y k. elim (contains_cases x y xs k) [ inl same ↦ subst (λ z. Contains (before ++ after) z) same c | inr t ↦ sub y t ]) in
      omega arith in
      subst (λ (zs : List X). AreDistinct zs) (sym e) (put_distinct before after x (distinct_in xs (before ++ after) d sub (omega arith)) absent)

  pub distinct_permutation : (xs ys : List X) → IsPermutation xs ys → AreDistinct xs → AreDistinct ys
  distinct_permutation xs ys p d =
      let e : length ys ≡ length xs = length_permutation xs ys p in
      distinct_in xs ys d (λ x c. Contains-permutation xs ys x p c) (omega arith)

-- ---- a table says what it says

abbrev Is : Path → Path → Type 0
Is p q = p ≡ q

abbrev Named : Text → Text → Type 0
Named n m = n ≡ m

paths_same : IsOneToOne Is
paths_same = record { one = λ x y z a b. sym a ∙ b; other = λ x w y a b. a ∙ sym b }

names_same : IsOneToOne Named
names_same = record { one = λ x y z a b. sym a ∙ b; other = λ x w y a b. a ∙ sym b }

module _ {X : Type 0} (R : X → X → Type 0) (itself : (x : X) → R x x) where
  list_itself : (xs : List X) → AreRelated R xs xs
  list_itself [] = tt
  list_itself (x ∷ xs) = (itself x, list_itself xs)

  option_itself : (o : Option X) → IsRelatedOption R o o
  option_itself None = tt
  option_itself (Some x) = itself x

table_itself : (t : Table Path Text) → SameTable Is Named t t
table_itself t = record {
  path = refl;
  imports = list_itself (SameImport Is Named) (λ i. record { bound = refl; path = refl; item = refl; published = refl; place = refl; from = refl; order = refl }) t.imports;
  declarations = list_itself (SameDeclaration Is Named)
      (λ d. record {
        name = option_itself Named (λ n. refl) d.name;
        place = refl;
        references = list_itself (SameReference Is Named) (λ r. record { path = refl; name = refl; from = refl }) d.references;
        unclear = list_itself Named (λ n. refl) d.unclear;
      }) t.declarations;
  together = λ a b. refl;
  crowded = refl;
}

-- ---- worlds

covers_all : (w v : List Module) → ((m : Module) → Contains w m → Contains v m) → Covers Is Named (tables w) (tables v)
covers_all w v into = record {
  covered = λ t c. let (m, d, e) = contains_map table w t c in (t, subst (λ (x : Table Path Text). Contains (tables v) x) e (map_contains table v m (into m d)), table_itself t);
}

back_all : (w v : List Module) → ((m : Module) → Contains v m → Contains w m) → Covers (Back Is) (Back Named) (tables v) (tables w)
back_all w v from = record {
  covered = λ t c. let (m, d, e) = contains_map table v t c in (t, subst (λ (x : Table Path Text). Contains (tables w) x) e (map_contains table w m (from m d)), back_itself t);
}
  where
    back_itself : (t : Table Path Text) → SameTable (Back Is) (Back Named) t t
    back_itself t = record {
      path = refl;
      imports = list_itself (SameImport (Back Is) (Back Named)) (λ i. record { bound = refl; path = refl; item = refl; published = refl; place = refl; from = refl; order = refl }) t.imports;
      declarations = list_itself (SameDeclaration (Back Is) (Back Named))
          (λ d. record {
            name = option_itself (Back Named) (λ n. refl) d.name;
            place = refl;
            references = list_itself (SameReference (Back Is) (Back Named)) (λ r. record { path = refl; name = refl; from = refl }) d.references;
            unclear = list_itself (Back Named) (λ n. refl) d.unclear;
          }) t.declarations;
      together = λ a b. refl;
      crowded = refl;
    }

module _ (task : Task Path Text) where
  task_itself : SameTask Is Named task task
  task_itself = record { root = refl; kept = list_itself Named (λ n. refl) task.kept; eager = refl }

  module _ (w v : List Module) (into : (m : Module) → Contains w m → Contains v m) where
    pub entered_there : (p : Path) → Entered (tables w) task p → Entered (tables v) task p
    entered_there p h =
        let (q, e, g) = entered_to Is Named paths_same names_same (tables w) (tables v) (covers_all w v into) task task task_itself p h in
        subst (λ (x : Path). Entered (tables v) task x) (sym e) g

    pub reached_there : (s : Symbol Path Text) → Reached (tables w) task s → Reached (tables v) task s
    reached_there s h =
        let (x, same, g) = reached_to Is Named paths_same names_same (tables w) (tables v) (covers_all w v into) task task task_itself s h in
        let e : x ≡ s = ap (λ (q : Path). record { path = q; name = x.name }) (sym same.path) ∙ ap (λ (n : Text). record { path = s.path; name = n }) (sym same.name) in
        subst (λ (y : Symbol Path Text). Reached (tables v) task y) e g

  module _ {E : Type 0} (refuses : Path → E → Type 0) (limit : ℕ) (w v : List Module) (into : (m : Module) → Contains w m → Contains v m) (from : (m : Module) → Contains v m → Contains w m) where
    stands_there : (f : Fault Path Text E) → Stands refuses task limit (tables w) f → (g : Fault Path Text E) × SameFault Is Named f g × Stands refuses task limit (tables v) g
    stands_there f h =
        stands_to Is Named paths_same names_same (tables w) (tables v) (covers_all w v into) task task task_itself (back_all w v from) refuses refuses (λ p q e same why. subst (λ (x : Path). refuses x e) same why) limit f h

module _ {E : Type 0} (hands : Path → UnitOf Text → Type 0) (refuses : Path → E → Type 0) (root : Module) (task : Task Path Text) (limit taken : ℕ) (w v : List Module) (same : IsPermutation w v) where
  into : (m : Module) → Contains w m → Contains v m
  into m c = Contains-permutation w v m same c

  from : (m : Module) → Contains v m → Contains w m
  from m c = Contains-permutation v w m (IsPermutation-sym w v same) c

  pub reordered : IsLinked hands refuses root task limit taken w → IsLinked hands refuses root task limit taken v
  reordered k = record {
    world = record {
      root_in = into root k.world.root_in;
      handed = λ m c. k.world.handed m (from m c);
      one_unit = λ m n c d e. k.world.one_unit m n (from m c) (from n d) e;
      no_relative = λ m c e. k.world.no_relative m (from m c) e;
    };
    once = distinct_permutation (map (λ (m : Module). m.path) w) (map (λ (m : Module). m.path) v) (IsPermutation-map (λ (m : Module). m.path) w v same) k.once;
    paths = λ p. ((λ (m, c, e). entered_there task w v into p ((k.paths p).0 (m, from m c, e))), (λ h. let (m, c, e) = (k.paths p).1 (entered_there task v w from p h) in (m, into m c, e)));
    no_fault = λ f h. let (g, is, there) = stands_there task refuses limit v w from into f h in k.no_fault g there;
    turns = let (ss, d, all, e) = k.turns in
        let l : length v ≡ length w = length_permutation w v same in
        (ss, d, (λ s. ((λ c. reached_there task w v into s ((all s).0 c)), (λ r. (all s).1 (reached_there task v w from s r)))), e ∙ ap (λ (n : ℕ). n + length ss) (sym l));
  }
