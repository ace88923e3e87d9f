-- Who asks for what is followed, entered, or a fault.
use Rattle.std.proofs.Common.{◌≡◌, ◌⊎◌, inl, inr, ℕ, zero, suc, ◌<◌, ◌≤◌, true, false, Option, Some, None, List, [], ◌∷◌, Contains, All, length, arith, subst, sym, refl, ap, ◌∙◌}
use Rattle.wesl_link_symbols.specs.declared.symbols.Answer.TheVariants.{Ambiguous}
use Rattle.wesl_link_symbols.specs.declared.symbols.LookUp.{LookUp}
use Rattle.wesl_link_symbols.specs.declared.symbols.Reference.{Reference}
use Rattle.wesl_link_symbols.specs.Tables.{Declaration, Table}
use Rattle.wesl_link_symbols.specs.Names.{asked_for}
use Rattle.wesl_link_reach.specs.World.{Task, IsAt, WalksTo, EndsWith, Entered, Followed}
use Rattle.wesl_link_reach.specs.World.Entered.{root as at_root, asked as by_look_up, imported as by_import}
use Rattle.wesl_link_reach.specs.World.Followed.{kept as by_kept, by_assert, by_symbol}
use Rattle.wesl_link_reach.specs.Faults.{Fault, duplicate, refused, missing, private, too_many, ambiguous, too_many_flags, AreDistinct, Stands}
use Rattle.wesl_link_reach.specs.Faults.AreDistinct.{none, one_more as one_distinct}
use Rattle.wesl_link_reach.proofs.Growing.{all_of}
use Rattle.wesl_link_symbols.proofs.Lists.{contains_nil, contains_first, contains_later, contains_cases, at_contains, contains_at}
use Rattle.wesl_link_flaws.specs.declared.asker.Asker.{Asker}
use Rattle.wesl_link_flaws.specs.declared.asker.Asker.TheVariants.{Kept, Named, Unclear, Imported, Whole}
use Rattle.wesl_link_flaws.specs.declared.absence.Absence.{Absence}
use Rattle.wesl_link_flaws.specs.Askers.{IsTaken, AsksBy, Brings, IsUnclearBy, StandsBy}

-- as many of a list as are wanted, each once
firsts : {X : Type 0} (n : ℕ) (xs : List X) → AreDistinct xs → n ≤ length xs → (ys : List X) × AreDistinct ys × ((x : X) → Contains ys x → Contains xs x) × (length ys ≡ n)
firsts zero xs d b = ([], none, (λ x h. absurd (contains_nil x h)), refl)
firsts (suc n) [] d b = absurd (omega arith)
firsts {X} (suc n) (x ∷ xs) (one_distinct _ _ fresh d) b =
    let (ys, d2, within, e) = firsts n xs d (omega arith) in (
      x ∷ ys,
      one_distinct x ys (λ h. fresh (within x h)) d2,
      (λ y h. elim (contains_cases x y ys h) [ inl same ↦ subst (λ (z : X). Contains (x ∷ xs) z) same (contains_first x xs) | inr t ↦ contains_later x y xs (within y t) ]),
      ap suc e,
    )

pub each : {X : Type 0} (Q : X → Type 0) (xs : List X) → All Q xs → (x : X) → Contains xs x → Q x
each Q xs all x (k, b, e) = subst Q e (all k x b)

pub all_from : {X : Type 0} (Q : X → Type 0) (xs : List X) → ((x : X) → Contains xs x → Q x) → All Q xs
all_from Q [] h = λ k d b. absurd (omega arith)
all_from Q (x ∷ xs) h = all_of Q x xs (h x (contains_first x xs)) (λ y held. h y (contains_later x y xs held))

module _ {P N : Type 0} (task : Task P N) (w : List (Table P N)) where
  by_declaration : (p : P) (t : Table P N) (d : Declaration P N) (r : Reference P N) (l : LookUp P N) (name : Option N)
      → IsAt w p t → Contains t.declarations d → d.name ≡ name → Contains d.references r → l ≡ asked_for t r → IsTaken task w p name → Followed w task l
  by_declaration p t d r l None at held e in_d is taken = by_assert p t l taken at (r, (d, held, e, in_d), is)
  by_declaration p t d r l (Some n) at held e in_d is taken = by_symbol (record { path = p; name = n }) t l taken at (r, (d, held, e, in_d), is)

  pub followed_of : (a : Asker P N) (l : LookUp P N) → AsksBy task w a l → Followed w task l
  followed_of (Kept n) l (held, e) = by_kept l (n, held, e)
  followed_of (Named p i k) l (t, d, (at, at_i, taken), r, at_k, is) =
      by_declaration p t d r l d.name at (at_contains t.declarations i d at_i) refl (at_contains d.references k r at_k) is taken
  followed_of (Unclear p i k) l h = absurd h
  followed_of (Imported p k) l h = absurd h
  followed_of (Whole p) l h = absurd h

  pub asker_of : (l : LookUp P N) → Followed w task l → (a : Asker P N) × AsksBy task w a l
  asker_of l (by_kept _ (n, held, e)) = (Kept n, (held, e))
  asker_of l (by_assert p t _ h at (r, (d, held, e, in_d), is)) =
      let (i, b, at_i) = contains_at t.declarations d held in
      let (k, c, at_k) = contains_at d.references r in_d in
      (Named p i k, (t, d, (at, at_i, subst (λ (x : Option N). IsTaken task w p x) (sym e) h), r, at_k, is))
  asker_of l (by_symbol s t _ h at (r, (d, held, e, in_d), is)) =
      let (i, b, at_i) = contains_at t.declarations d held in
      let (k, c, at_k) = contains_at d.references r in_d in
      (Named s.path i k, (t, d, (at, at_i, subst (λ (x : Option N). IsTaken task w s.path x) (sym e) h), r, at_k, is))

  brings_walk : (a : Asker P N) (q : P) (l x : LookUp P N) → AsksBy task w a l → WalksTo w l x → x.path ≡ q → Brings task w a q
  brings_walk (Kept n) q l x asks walks e = (l, asks, x, walks, e)
  brings_walk (Named p i k) q l x asks walks e = (l, asks, x, walks, e)
  brings_walk (Unclear p i k) q l x asks walks e = absurd asks
  brings_walk (Imported p k) q l x asks walks e = absurd asks
  brings_walk (Whole p) q l x asks walks e = absurd asks

  pub entered_by : (a : Asker P N) (q : P) → Brings task w a q → Entered w task q
  entered_by (Kept n) q (l, asks, x, walks, e) = by_look_up l x q (followed_of (Kept n) l asks) walks e
  entered_by (Named p i k) q (l, asks, x, walks, e) = by_look_up l x q (followed_of (Named p i k) l asks) walks e
  entered_by (Unclear p i k) q (l, asks, x, walks, e) = absurd asks
  entered_by (Imported p k) q (eager, h, t, at, i, at_k, e) = by_import p q t i eager h at (at_contains t.imports k i at_k) e
  entered_by (Whole p) q (l, asks, x, walks, e) = absurd asks

  pub bringer : (p : P) → Entered w task p → (p ≡ task.root) ⊎ ((a : Asker P N) × Brings task w a p)
  bringer p (at_root _ e) = inl e
  bringer p (by_look_up l x _ f walks e) = let (a, asks) = asker_of l f in inr (a, brings_walk a p l x asks walks e)
  bringer p (by_import q _ t i eager h at held e) = let (k, b, at_k) = contains_at t.imports i held in inr (Imported q k, (eager, h, t, at, i, at_k, e))

  pub entered_back : (p : P) → (p ≡ task.root) ⊎ ((a : Asker P N) × Brings task w a p) → Entered w task p
  entered_back p (inl e) = at_root p e
  entered_back p (inr (a, brings)) = entered_by a p brings

  module _ {E : Type 0} (absent : P → Absence E → Type 0) (limit : ℕ) where
    unclear_declared : (p : P) (t : Table P N) (d : Declaration P N) (n : N) (name : Option N)
        → IsAt w p t → Contains t.declarations d → d.name ≡ name → Contains d.unclear n → IsTaken task w p name → Stands absent task limit w (ambiguous n)
    unclear_declared p t d n None at held e in_d taken =
        inl (t, at.0, subst (λ (q : P). Entered w task q) (sym at.1) taken, (d, held, e, in_d))
    unclear_declared p t d n (Some m) at held e in_d taken = inr (inl (record { path = p; name = m }, t, taken, at, (d, held, e, in_d)))

    unclear_of : (a : Asker P N) (q : P) (n : N) → IsUnclearBy task w a q n → Stands absent task limit w (ambiguous n)
    unclear_of (Kept m) q n (l, asks, x, ep, en, ends) = inr (inr (l, followed_of (Kept m) l asks, (x, en, ends)))
    unclear_of (Named p i k) q n (l, asks, x, ep, en, ends) = inr (inr (l, followed_of (Named p i k) l asks, (x, en, ends)))
    unclear_of (Unclear p i k) q n (e, t, d, (at, at_i, taken), at_k) =
        unclear_declared p t d n d.name at (at_contains t.declarations i d at_i) refl (at_contains d.unclear k n at_k) taken
    unclear_of (Imported p k) q n (l, asks, x, ep, en, ends) = absurd asks
    unclear_of (Whole p) q n (l, asks, x, ep, en, ends) = absurd asks

    -- a fault that stands by an asker stands
    pub stands_of : (fault : Fault P N (Absence E)) (a : Asker P N) (q : P) → StandsBy task w absent limit fault a q → Stands absent task limit w fault
    stands_of (duplicate p n) a q (e, is, h, t, at, clash) = (t, at, h, clash)
    stands_of (refused e) a q (brings, missed, is) = (q, entered_by a q brings, missed, is)
    stands_of (missing p n) a q (e, l, asks, lacks) = (l, followed_of a l asks, lacks)
    stands_of (private n p) a q (e, l, asks, hides) = (l, followed_of a l asks, hides)
    stands_of (ambiguous n) a q h = unclear_of a q n h
    stands_of (too_many k) a q (e, brings, ps, d, all, full, fresh) =
        (e, q ∷ ps, one_distinct q ps fresh d, all_of (Entered w task) q ps (entered_by a q brings) (λ x h. each (Entered w task) ps all x h), omega arith)
    stands_of (too_many_flags p) a q h = absurd h

    abbrev Asked : Fault P N (Absence E) → Type 0
    Asked fault = (a : Asker P N) × (q : P) × StandsBy task w absent limit fault a q

    unclear_walk : (a : Asker P N) (q : P) (n : N) (l x : LookUp P N) → AsksBy task w a l → x.path ≡ q → x.name ≡ n → EndsWith w l x Ambiguous → IsUnclearBy task w a q n
    unclear_walk (Kept m) q n l x asks ep en ends = (l, asks, x, ep, en, ends)
    unclear_walk (Named p i k) q n l x asks ep en ends = (l, asks, x, ep, en, ends)
    unclear_walk (Unclear p i k) q n l x asks ep en ends = absurd asks
    unclear_walk (Imported p k) q n l x asks ep en ends = absurd asks
    unclear_walk (Whole p) q n l x asks ep en ends = absurd asks

    unclear_at : (p : P) (t : Table P N) (d : Declaration P N) (n : N) → IsAt w p t → Contains t.declarations d → Contains d.unclear n → IsTaken task w p d.name → Asked (ambiguous n)
    unclear_at p t d n at held in_d taken =
        let (i, b, at_i) = contains_at t.declarations d held in
        let (k, c, at_k) = contains_at d.unclear n in_d in
        (Unclear p i k, p, (refl, t, d, (at, at_i, taken), at_k))

    absent_asked : (p : P) (e : Absence E) (root : Table P N) → IsAt w task.root root → ((t : Table P N) → IsAt w p t → ⊥) → absent p e
        → (p ≡ task.root) ⊎ ((a : Asker P N) × Brings task w a p) → Asked (refused e)
    absent_asked p e root at missed is (inl same) = absurd (missed root (subst (λ (x : P). IsAt w x root) (sym same) at))
    absent_asked p e root at missed is (inr (a, brings)) = (a, p, (brings, missed, is))

    -- of two entered paths one is not the root, and is brought
    many_asked : (k : ℕ) (x y : P) (ps : List P) → k ≡ limit → (Contains (y ∷ ps) x → ⊥) → (Contains ps y → ⊥) → AreDistinct ps → ((z : P) → Contains (x ∷ y ∷ ps) z → Entered w task z)
        → limit < length (x ∷ y ∷ ps) → 0 < limit
        → (x ≡ task.root) ⊎ ((a : Asker P N) × Brings task w a x) → (y ≡ task.root) ⊎ ((a : Asker P N) × Brings task w a y) → Asked (too_many k)
    many_asked k x y ps e fresh fresh_y d h many some (inr (a, brings)) other =
        let (qs, d2, within, full) = firsts limit (y ∷ ps) (one_distinct y ps fresh_y d) (omega arith) in
        (a, x, (e, brings, qs, d2, all_from (Entered w task) qs (λ z held. h z (contains_later x z (y ∷ ps) (within z held))), full, (λ held. fresh (within x held))))
    many_asked k x y ps e fresh fresh_y d h many some (inl is) (inl is_y) =
        absurd (fresh (subst (λ (z : P). Contains (y ∷ ps) z) (is_y ∙ sym is) (contains_first y ps)))
    many_asked k x y ps e fresh fresh_y d h many some (inl is) (inr (a, brings)) =
        let fresh_x : Contains ps x → ⊥ = λ held. fresh (contains_later y x ps held) in
        let away : Contains (x ∷ ps) y → ⊥ = λ held. elim (contains_cases x y ps held) [ inl same ↦ fresh (subst (λ (z : P). Contains (y ∷ ps) z) (sym same) (contains_first y ps)) | inr t ↦ fresh_y t ] in
        let (qs, d2, within, full) = firsts limit (x ∷ ps) (one_distinct x ps fresh_x d) (omega arith) in
        let lift : (z : P) → Contains (x ∷ ps) z → Entered w task z =
        λ z held. elim (contains_cases x z ps held) [ inl same ↦ subst (λ (u : P). Entered w task u) same (h x (contains_first x (y ∷ ps))) | inr t ↦ h z (contains_later x z (y ∷ ps) (contains_later y z ps t)) ] in
        (a, y, (e, brings, qs, d2, all_from (Entered w task) qs (λ z held. lift z (within z held)), full, (λ held. away (within y held))))

    too_many_asked : (k : ℕ) (ps : List P) → k ≡ limit → AreDistinct ps → All (Entered w task) ps → limit < length ps → 0 < limit → Asked (too_many k)
    too_many_asked k [] e d all many some = absurd (omega arith)
    too_many_asked k (x ∷ []) e d all many some = absurd (omega arith)
    too_many_asked k (x ∷ y ∷ ps) e (one_distinct _ _ fresh (one_distinct _ _ fresh_y d)) all many some =
        let h : (z : P) → Contains (x ∷ y ∷ ps) z → Entered w task z = λ z held. each (Entered w task) (x ∷ y ∷ ps) all z held in
        many_asked k x y ps e fresh fresh_y d h many some (bringer x (h x (contains_first x (y ∷ ps))))
        (bringer y (h y (contains_later x y (y ∷ ps) (contains_first y ps))))

    pub crowded_not : (t : Table P N) → t.is_crowded ≡ false → t.is_crowded ≡ true → ⊥
    crowded_not t e f = let g : false ≡ true = sym e ∙ f in absurd cc

    -- a fault that stands does so by some asker
    pub asked_of : (root : Table P N) → IsAt w task.root root → ((t : Table P N) → Contains w t → t.is_crowded ≡ false) → 0 < limit
        → (fault : Fault P N (Absence E)) → Stands absent task limit w fault → Asked fault
    asked_of root at roomy some (duplicate p n) (t, at_p, h, clash) = (Whole p, p, (refl, refl, h, t, at_p, clash))
    asked_of root at roomy some (refused e) (p, h, missed, is) = absent_asked p e root at missed is (bringer p h)
    asked_of root at roomy some (missing p n) (l, f, lacks) = let (a, asks) = asker_of l f in (a, p, (refl, l, asks, lacks))
    asked_of root at roomy some (private n p) (l, f, hides) = let (a, asks) = asker_of l f in (a, p, (refl, l, asks, hides))
    asked_of root at roomy some (ambiguous n) (inl (t, held, h, (d, in_t, e, in_d))) =
        unclear_at t.path t d n (held, refl) in_t in_d (subst (λ (x : Option N). IsTaken task w t.path x) (sym e) h)
    asked_of root at roomy some (ambiguous n) (inr (inl (s, t, h, at_s, (d, in_t, e, in_d)))) =
        unclear_at s.path t d n at_s in_t in_d (subst (λ (x : Option N). IsTaken task w s.path x) (sym e) h)
    asked_of root at roomy some (ambiguous n) (inr (inr (l, f, (x, en, ends)))) =
        let (a, asks) = asker_of l f in (a, x.path, unclear_walk a x.path n l x asks refl en ends)
    asked_of root at roomy some (too_many k) (e, ps, d, all, many) = too_many_asked k ps e d all many some
    asked_of root at roomy some (too_many_flags p) (t, at_p, h, crowded) = absurd (crowded_not t (roomy t at_p.0) crowded)
