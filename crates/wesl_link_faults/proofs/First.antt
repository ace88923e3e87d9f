-- Where no path is beyond and no crowded module is told, each fault that explains a refusal is told.
use Rattle.std.proofs.Common.{◌≡◌, ◌⊎◌, inl, inr, ℕ, ◌<◌, ◌≤◌, List, [], ◌∷◌, Contains, length, arith, subst, sym, refl, ap, ◌∙◌}
use Rattle.wesl_link_symbols.specs.declared.symbols.LookUp.{LookUp}
use Rattle.wesl_link_symbols.specs.declared.symbols.Symbol.{Symbol}
use Rattle.wesl_link_symbols.specs.declared.symbols.Answer.{Answer}
use Rattle.wesl_link_symbols.specs.declared.symbols.Answer.TheVariants.{Missing, Private as Hidden, Ambiguous}
use Rattle.wesl_link_symbols.specs.Tables.{Table}
use Rattle.wesl_link_reach.specs.World.{Task, IsAt, IsWorld, Hops, Walk, WalksTo, Reaches, EndsWith, LeadsTo, IsMissingAt, IsPrivateAt, IsAmbiguousAt, Entered, Reached, Followed}
use Rattle.wesl_link_reach.specs.World.Walk.{begin, step}
use Rattle.wesl_link_reach.specs.World.Entered.{root, asked, imported}
use Rattle.wesl_link_reach.specs.World.Reached.{led_to, declared}
use Rattle.wesl_link_reach.specs.World.Followed.{kept, by_assert, by_symbol}
use Rattle.wesl_link_reach.specs.Faults.{Fault, duplicate, refused, missing, private, too_many, ambiguous, too_many_flags, Stands}
use Rattle.wesl_link_reach.proofs.Lists.{distinct_length}
use Rattle.wesl_link_reach.proofs.Exclusive.{Shares}
use Rattle.wesl_link_symbols.proofs.Lists.{contains_nil, contains_first, contains_later, contains_cases}
use Rattle.wesl_link_flaws.specs.declared.asker.Asker.{Asker}
use Rattle.wesl_link_flaws.specs.declared.absence.Absence.{Absence}
use Rattle.wesl_link_flaws.specs.declared.absence.Absence.TheVariants.{TurnedAway, Crowded}
use Rattle.wesl_link_flaws.specs.Askers.{Brings, StandsBy}
use Rattle.wesl_link_faults.specs.Opened.{Finding, Opened, IsOpened, IsAbsent, IsToldAbsent, TellsLimit}
use Rattle.wesl_link_faults.specs.Laws.{IsPlain, IsTold, TellsTheFirst}
use Rattle.wesl_link_flaws.proofs.Asking.{each, bringer, asked_of}
use Rattle.wesl_link_faults.proofs.Empty.{roomy_of, not_both}

module _ {P N : Type 0} where
  hop_into : {w v : List (Table P N)} {task : (Task P N)} → Shares w v task → (a b : (LookUp P N)) → Entered w task a.path → Hops v a b → Hops w a b
  hop_into shares a b h (t, at, answers) = (t, shares.held a.path t h at, answers)

  enters : {w : List (Table P N)} {task : (Task P N)} → (l a : (LookUp P N)) → Followed w task l → WalksTo w l a → Entered w task a.path
  enters l a f c = asked l a a.path f c refl

  walk_into : {w v : List (Table P N)} {task : (Task P N)} → Shares w v task → (l : (LookUp P N)) (met : List (LookUp P N)) (a : (LookUp P N)) → Followed w task l → Walk v l met a → Walk w l met a
  walk_into shares l met a f (begin _ e) = begin a e
  walk_into shares l met a f (step before b _ r new h) =
      let r2 = walk_into shares l before b f r in step before b a r2 new (hop_into shares b a (enters l b f (before, r2)) h)

  walks_into : {w v : List (Table P N)} {task : (Task P N)} → Shares w v task → (l a : (LookUp P N)) → Followed w task l → WalksTo v l a → WalksTo w l a
  walks_into shares l a f (met, walk) = (met, walk_into shares l met a f walk)

  -- what a look-up reaches is entered
  reach_enters : {w : List (Table P N)} {task : (Task P N)} → (l a : (LookUp P N)) → Followed w task l → Reaches w l a → Entered w task a.path
  reach_enters l a f (met, walk, new) = enters l a f (met, walk)

  reaches_into : {w v : List (Table P N)} {task : (Task P N)} → Shares w v task → (l a : (LookUp P N)) → Followed w task l → Reaches v l a → Reaches w l a
  reaches_into shares l a f (met, walk, new) = (met, walk_into shares l met a f walk, new)

  leads_into : {w v : List (Table P N)} {task : (Task P N)} → Shares w v task → (l : (LookUp P N)) (s : (Symbol P N)) → Followed w task l → LeadsTo v l s → LeadsTo w l s
  leads_into shares l s f (a, reaches, (t, at, d, e)) =
      let r = reaches_into shares l a f reaches in (a, r, (t, shares.held a.path t (reach_enters l a f r) at, d, e))

  ends_into : {w v : List (Table P N)} {task : (Task P N)} → Shares w v task → (l a : (LookUp P N)) (x : Answer P N) → Followed w task l → EndsWith v l a x → EndsWith w l a x
  ends_into shares l a x f (reaches, (t, at, answers)) =
      let r = reaches_into shares l a f reaches in (r, (t, shares.held a.path t (reach_enters l a f r) at, answers))

  reached_enters : {w : List (Table P N)} {task : (Task P N)} → {s : (Symbol P N)} → Reached w task s → Entered w task s.path
  reached_enters {s = s} (led_to l _ f (a, (met, walk, new), (t, at, d, e))) = asked l a s.path f (met, walk) (sym (ap (λ (x : (Symbol P N)). x.path) e))
  reached_enters {s = s} (declared _ t eager h at d) = h

  mutual
    entered_into : {w v : List (Table P N)} {task : (Task P N)} → Shares w v task → (p : P) → Entered v task p → Entered w task p
    entered_into shares p (root _ e) = root p e
    entered_into shares p (asked l a _ f c e) = let g = followed_into shares l f in asked l a p g (walks_into shares l a g c) e
    entered_into shares p (imported q _ t i eager h at held e) = let g = entered_into shares q h in imported q p t i eager g (shares.held q t g at) held e

    reached_into : {w v : List (Table P N)} {task : (Task P N)} → Shares w v task → (s : (Symbol P N)) → Reached v task s → Reached w task s
    reached_into shares s (led_to l _ f r) = let g = followed_into shares l f in led_to l s g (leads_into shares l s g r)
    reached_into shares s (declared _ t eager h at d) = let g = entered_into shares s.path h in declared s t eager g (shares.held s.path t g at) d

    followed_into : {w v : List (Table P N)} {task : (Task P N)} → Shares w v task → (l : (LookUp P N)) → Followed v task l → Followed w task l
    followed_into shares l (kept _ k) = kept l k
    followed_into {w} {v} {task} shares l (by_assert p t _ h at asks) = let g = entered_into shares p h in by_assert p t l g (shares.held p t g at) asks
    followed_into {w} {v} {task} shares l (by_symbol s t _ h at asks) =
        let g = reached_into shares s h in by_symbol s t l g (shares.held s.path t (reached_enters g) at) asks

  table_in : (hands : P → Table P N → Type 0) (start : Table P N) (w v : List (Table P N))
      → ((p : P) (x y : Table P N) → hands p x → hands p y → x ≡ y) → IsWorld hands start w → IsWorld hands start v
      → (n m : Table P N) → Contains v n → Contains w m → n.path ≡ m.path → (n ≡ start) ⊎ hands n.path n → (m ≡ start) ⊎ hands m.path m → Contains w n
  table_in hands start w v one in_w in_v n m n_held m_held e (inl is) _ = subst (λ (x : Table P N). Contains w x) (sym is) in_w.root_in
  table_in hands start w v one in_w in_v n m n_held m_held e (inr h) (inl is) =
      let same : n ≡ start = in_v.one_table n start n_held in_v.root_in (e ∙ ap (λ (x : Table P N). x.path) is) in
      subst (λ (x : Table P N). Contains w x) (sym same) in_w.root_in
  table_in hands start w v one in_w in_v n m n_held m_held e (inr h) (inr g) =
      let same : n ≡ m = one m.path n m (subst (λ (q : P). hands q n) e h) g in
      subst (λ (x : Table P N). Contains w x) (sym same) m_held

  missing_into : {w v : List (Table P N)} {task : Task P N} → Shares w v task → (l : LookUp P N) (p : P) (n : N) → Followed w task l → IsMissingAt v l p n → IsMissingAt w l p n
  missing_into shares l p n f (a, ep, en, inl ends) = (a, ep, en, inl (ends_into shares l a Missing f ends))
  missing_into shares l p n f (a, ep, en, inr (met, walk, again)) = (a, ep, en, inr (met, walk_into shares l met a f walk, again))

  private_into : {w v : List (Table P N)} {task : Task P N} → Shares w v task → (l : LookUp P N) (n : N) (p : P) → Followed w task l → IsPrivateAt v l n p → IsPrivateAt w l n p
  private_into shares l n p f (a, ep, en, ends) = (a, ep, en, ends_into shares l a Hidden f ends)

  ambiguous_into : {w v : List (Table P N)} {task : Task P N} → Shares w v task → (l : LookUp P N) (n : N) → Followed w task l → IsAmbiguousAt v l n → IsAmbiguousAt w l n
  ambiguous_into shares l n f (a, en, ends) = (a, en, ends_into shares l a Ambiguous f ends)

module _ {P N E : Type 0} where
  same_absence : (x y : Absence E) (f : Fault P N (Absence E)) → f ≡ refused x → f ≡ refused y → x ≡ y
  same_absence x y f e g = cc

  abbrev Tells : List (Finding P N E) → Type 0
  Tells fs = (f : Finding P N E) × Contains fs f × (f.fault ≡ refused Crowded)

  abbrev TellsNone : List (Finding P N E) → Type 0
  TellsNone fs = (f : Finding P N E) → Contains fs f → f.fault ≡ refused Crowded → ⊥

  is_crowded_fault : (fault : Fault P N (Absence E)) → (fault ≡ refused Crowded) ⊎ (fault ≡ refused Crowded → ⊥)
  is_crowded_fault (duplicate p n) = inr (λ e. absurd cc)
  is_crowded_fault (refused (TurnedAway x)) = inr (λ e. let g : TurnedAway x ≡ Crowded = same_absence (TurnedAway x) Crowded (refused (TurnedAway x)) refl e in absurd cc)
  is_crowded_fault (refused Crowded) = inl refl
  is_crowded_fault (missing p n) = inr (λ e. absurd cc)
  is_crowded_fault (private n p) = inr (λ e. absurd cc)
  is_crowded_fault (ambiguous n) = inr (λ e. absurd cc)
  is_crowded_fault (too_many k) = inr (λ e. absurd cc)
  is_crowded_fault (too_many_flags p) = inr (λ e. absurd cc)

  tells_crowded : (fs : List (Finding P N E)) → Tells fs ⊎ TellsNone fs
  tells_crowded [] = inr (λ f held e. contains_nil f held)
  tells_crowded (f ∷ fs) = by_case (is_crowded_fault f.fault) (tells_crowded fs)
    where
      by_case : (f.fault ≡ refused Crowded) ⊎ (f.fault ≡ refused Crowded → ⊥) → Tells fs ⊎ TellsNone fs → Tells (f ∷ fs) ⊎ TellsNone (f ∷ fs)
      by_case (inl e) rest = inl (f, contains_first f fs, e)
      by_case (inr not_so) (inl (g, held, e)) = inl (g, contains_later f g fs held, e)
      by_case (inr not_so) (inr none) = inr (λ g held e. elim (contains_cases f g fs held) [ inl same ↦ not_so (ap (λ (x : Finding P N E). x.fault) same ∙ e) | inr t ↦ none g t e ])

module _ {P N E : Type 0} (hands : P → Table P N → Type 0) (refuses : P → E → Type 0) (start : Table P N) (task : Task P N) (limit : ℕ) (k : Opened P N E)
    (plain : IsPlain hands refuses) (opened : IsOpened hands refuses start task limit k) (full : k.beyond ≡ []) (v : List (Table P N)) (in_v : IsWorld hands start v)
    (none : (f : Finding P N E) → Contains k.told f → f.fault ≡ refused Crowded → ⊥) where
  placed : (p : P) → Entered k.tables task p → Contains k.asked p
  placed p h = by_case (opened.all p h)
    where
      by_case : Contains k.asked p ⊎ (Contains k.beyond p × TellsLimit k limit) → Contains k.asked p
      by_case (inl c) = c
      by_case (inr b) = absurd (contains_nil p (subst (λ (xs : List P). Contains xs p) full b.0))

  start_at : IsAt k.tables task.root start
  start_at = (opened.world.root_in, opened.root_fits.0)

  in_k : IsWorld hands start k.tables
  in_k = record {
    root_in = opened.world.root_in;
    handed = λ t held. elim (opened.world.handed t held) [ inl e ↦ inl e | inr h ↦ inr h.0 ];
    one_table = opened.world.one_table;
  }

  -- a path at which v has a table is not told as absent
  not_absent : (p : P) (t : Table P N) (e : Absence E) (a : Asker P N) → (t ≡ start) ⊎ hands t.path t → t.path ≡ p → Contains k.told (record { fault = refused e; asker = a; at = p }) → IsAt k.tables p t ⊎ ⊥
  not_absent p t e a (inl is) at told = inl (subst (λ (x : Table P N). Contains k.tables x) (sym is) opened.world.root_in, at)
  not_absent p t Crowded a (inr h) at told = absurd (none (record { fault = refused Crowded; asker = a; at = p }) told refl)
  not_absent p t (TurnedAway e) a (inr h) at told =
      absurd (plain.1 p t e (subst (λ (q : P). hands q t) at h) (opened.stands (record { fault = refused (TurnedAway e); asker = a; at = p }) told).2)

  shared : (p : P) (t : Table P N) → IsAt v p t → ((m : Table P N) × IsAt k.tables p m) → IsAt k.tables p t
  shared p t at (m, m_at) = (table_in hands start k.tables v plain.0 in_k in_v t m at.0 m_at.0 (at.1 ∙ sym m_at.1) (in_v.handed t at.0) (in_k.handed m m_at.0), at.1)

  by_bringer : (p : P) (t : Table P N) → IsAt v p t → IsToldAbsent task k p → (p ≡ task.root) ⊎ ((a : Asker P N) × Brings task k.tables a p) → IsAt k.tables p t
  by_bringer p t at tells (inl e) = shared p t at (start, subst (λ (x : P). IsAt k.tables x start) (sym e) start_at)
  by_bringer p t at tells (inr (a, brings)) = elim (not_absent p t tells.0 a (in_v.handed t at.0) at.1 (tells.1 a brings)) [ inl h ↦ h | inr b ↦ absurd b ]

  shares : Shares k.tables v task
  shares = record { held = λ p t h at. by_case p t h at (opened.absent p (placed p h)) }
    where
      by_case : (p : P) (t : Table P N) → Entered k.tables task p → IsAt v p t → ((m : Table P N) × IsAt k.tables p m) ⊎ IsToldAbsent task k p → IsAt k.tables p t
      by_case p t h at (inl has) = shared p t at has
      by_case p t h at (inr tells) = by_bringer p t at tells (bringer task k.tables p h)

  some : 0 < limit
  some = let (i, b, e) = placed task.root (root task.root refl) in let (d, all, few) = opened.places in omega arith

  abbrev Asked : Fault P N (Absence E) → Type 0
  Asked fault = (a : Asker P N) × (q : P) × StandsBy task k.tables (IsAbsent hands refuses) limit fault a q

  find : (fault : Fault P N (Absence E)) → Stands (IsAbsent hands refuses) task limit k.tables fault → Asked fault
  find fault h = asked_of task k.tables (IsAbsent hands refuses) limit start start_at (roomy_of hands refuses start task limit k opened) some fault h

  refused_told : (p : P) (e : E) → Entered k.tables task p → ((t : Table P N) → IsAt v p t → ⊥) → refuses p e
      → ((m : Table P N) × IsAt k.tables p m) ⊎ IsToldAbsent task k p → (p ≡ task.root) ⊎ ((a : Asker P N) × Brings task k.tables a p) → IsTold hands refuses k (refused e)
  refused_told p e h missed is has (inl same) = absurd (missed start (in_v.root_in, opened.root_fits.0 ∙ sym same))
  refused_told p e h missed is (inl (m, at)) (inr b) = absurd (handed_missed p e missed is m at.1 (in_k.handed m at.0))
    where
      handed_missed : (p : P) (e : E) → ((t : Table P N) → IsAt v p t → ⊥) → refuses p e → (m : Table P N) → m.path ≡ p → (m ≡ start) ⊎ hands m.path m → ⊥
      handed_missed p e missed is m at (inl same) = missed start (in_v.root_in, ap (λ (x : Table P N). x.path) (sym same) ∙ at)
      handed_missed p e missed is m at (inr h) = plain.1 p m e (subst (λ (q : P). hands q m) at h) is
  refused_told p e h missed is (inr tells) (inr (a, brings)) = (record { fault = refused tells.0; asker = a; at = p }, tells.1 a brings, is, (tells.0, refl))

  told_of : (fault : Fault P N E) → Stands refuses task limit v fault → IsTold hands refuses k fault
  told_of (duplicate p n) (t, at, h, clash) =
      let g = entered_into shares p h in
      let (a, q, by) = find (duplicate p n) (t, shares.held p t g at, g, clash) in
      let f : Finding P N E = record { fault = duplicate p n; asker = a; at = q } in (f, opened.told f tt by, refl)
  told_of (refused e) (p, h, missed, is) = let g = entered_into shares p h in refused_told p e g missed is (opened.absent p (placed p g)) (bringer task k.tables p g)
  told_of (missing p n) (l, h, rest) =
      let g = followed_into shares l h in
      let (a, q, by) = find (missing p n) (l, g, missing_into shares l p n g rest) in
      let f : Finding P N E = record { fault = missing p n; asker = a; at = q } in (f, opened.told f tt by, refl)
  told_of (private n p) (l, h, rest) =
      let g = followed_into shares l h in
      let (a, q, by) = find (private n p) (l, g, private_into shares l n p g rest) in
      let f : Finding P N E = record { fault = private n p; asker = a; at = q } in (f, opened.told f tt by, refl)
  told_of (ambiguous n) h =
      let (a, q, by) = find (ambiguous n) (unclear_into h) in
      let f : Finding P N E = record { fault = ambiguous n; asker = a; at = q } in (f, opened.told f tt by, refl)
    where
      unclear_into : Stands refuses task limit v (ambiguous n) → Stands (IsAbsent hands refuses) task limit k.tables (ambiguous n)
      unclear_into (inl (t, held, h, unclear)) = let g = entered_into shares t.path h in inl (t, (shares.held t.path t g (held, refl)).0, g, unclear)
      unclear_into (inr (inl (s, t, h, at, unclear))) = let g = reached_into shares s h in inr (inl (s, t, g, shares.held s.path t (reached_enters g) at, unclear))
      unclear_into (inr (inr (l, f, rest))) = let g = followed_into shares l f in inr (inr (l, g, ambiguous_into shares l n g rest))
  told_of (too_many_flags p) (t, at, h, is) =
      let g = entered_into shares p h in not_both t.is_crowded is (roomy_of hands refuses start task limit k opened t (shares.held p t g at).0)
  told_of (too_many j) (e, ps, d, all, many) =
      let few : length ps ≤ length k.asked = distinct_length ps k.asked d (λ x held. placed x (entered_into shares x (each (Entered v task) ps all x held))) in
      let (d2, all2, room) = opened.places in absurd (omega arith)

pub tells_the_first : {P N E : Type 0} (hands : P → Table P N → Type 0) (refuses : P → E → Type 0) → TellsTheFirst hands refuses
tells_the_first hands refuses start task limit k fault plain opened full (v, in_v, stands) =
    elim (tells_crowded k.told) [ inl c ↦ inr c | inr none ↦ inl (told_of hands refuses start task limit k plain opened full v in_v none fault stands) ]
