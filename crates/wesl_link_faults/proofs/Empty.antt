-- Nothing is told exactly where there is a link.
use Rattle.std.proofs.Common.{◌≡◌, ◌⊎◌, ◌↔◌, inl, inr, ℕ, ◌<◌, ◌≤◌, ◌+◌, Bool, true, false, List, [], ◌∷◌, Contains, length, arith, subst, sym, refl, ap, ◌∙◌}
use Rattle.wesl_link_symbols.specs.declared.symbols.Symbol.{Symbol}
use Rattle.wesl_link_symbols.specs.Tables.{Table}
use Rattle.wesl_link_reach.specs.World.{Task, IsAt, Entered, Reached}
use Rattle.wesl_link_reach.specs.World.Entered.{root as at_root}
use Rattle.wesl_link_reach.specs.Faults.{Fault, duplicate, refused, missing, private, too_many, ambiguous, too_many_flags, AreDistinct, Stands}
use Rattle.wesl_link_reach.specs.Linking.{Linking, IsLinked}
use Rattle.wesl_link_reach.proofs.Lists.{distinct_length}
use Rattle.wesl_link_reach.proofs.Exclusive.{exclude}
use Rattle.wesl_link_symbols.proofs.Lists.{contains_nil, contains_first}
use Rattle.wesl_link_flaws.specs.declared.asker.Asker.{Asker}
use Rattle.wesl_link_flaws.specs.declared.absence.Absence.{Absence}
use Rattle.wesl_link_flaws.specs.declared.absence.Absence.TheVariants.{TurnedAway, Crowded}
use Rattle.wesl_link_flaws.specs.Askers.{Brings, StandsBy}
use Rattle.wesl_link_faults.specs.Opened.{Finding, Opened, IsOpened, HandsRoomy, IsAbsent, IsToldAbsent, TellsLimit}
use Rattle.wesl_link_faults.specs.Laws.{IsPlain, IsEmptyWhereLinked}
use Rattle.wesl_link_flaws.proofs.Asking.{each, bringer, stands_of, asked_of}

empty_of : {X : Type 0} (xs : List X) → ((x : X) → Contains xs x → ⊥) → xs ≡ []
empty_of [] h = refl
empty_of (x ∷ xs) h = absurd (h x (contains_first x xs))

pub not_both : (b : Bool) → b ≡ true → b ≡ false → ⊥
not_both b e f = let g : true ≡ false = sym e ∙ f in absurd cc

module _ {P N E : Type 0} (hands : P → Table P N → Type 0) (refuses : P → E → Type 0) (root : Table P N) (task : Task P N) (limit : ℕ) where
  roomy_by : (j : Linking P N) → IsLinked hands refuses root task limit j → (t : Table P N) → Contains j.tables t → (b : Bool) → t.is_crowded ≡ b → t.is_crowded ≡ false
  roomy_by j linked t held false e = e
  roomy_by j linked t held true e = absurd (linked.no_fault (too_many_flags t.path) (t, (held, refl), (linked.paths t.path).0 (t, (held, refl)), e))

  roomy_handed : (j : Linking P N) → IsLinked hands refuses root task limit j → (t : Table P N) → Contains j.tables t → (t ≡ root) ⊎ hands t.path t → (t ≡ root) ⊎ HandsRoomy hands refuses t.path t
  roomy_handed j linked t held (inl e) = inl e
  roomy_handed j linked t held (inr h) = inr (h, roomy_by j linked t held t.is_crowded refl)

  no_absence : (j : Linking P N) → IsLinked hands refuses root task limit j → (fault : Fault P N (Absence E)) → Stands (IsAbsent hands refuses) task limit j.tables fault → ⊥
  no_absence j linked (duplicate p n) h = linked.no_fault (duplicate p n) h
  no_absence j linked (refused e) (p, h, missed, is) = let (m, at) = (linked.paths p).1 h in missed m at
  no_absence j linked (missing p n) h = linked.no_fault (missing p n) h
  no_absence j linked (private n p) h = linked.no_fault (private n p) h
  no_absence j linked (ambiguous n) h = linked.no_fault (ambiguous n) h
  no_absence j linked (too_many i) h = linked.no_fault (too_many i) h
  no_absence j linked (too_many_flags p) h = linked.no_fault (too_many_flags p) h

  -- a link has roomy modules alone
  roomy_link : (j : Linking P N) → IsLinked hands refuses root task limit j → IsLinked (HandsRoomy hands refuses) (IsAbsent hands refuses) root task limit j
  roomy_link j linked = record {
    world = record {
      root_in = linked.world.root_in;
      handed = λ t held. roomy_handed j linked t held (linked.world.handed t held);
      one_table = linked.world.one_table;
    };
    root_first = linked.root_first;
    tables_once = linked.tables_once;
    symbols_once = linked.symbols_once;
    paths = linked.paths;
    symbols = linked.symbols;
    no_fault = no_absence j linked;
    turns = linked.turns;
  }

  never_both : IsPlain hands refuses → (p : P) (t : Table P N) (e : Absence E) → HandsRoomy hands refuses p t → IsAbsent hands refuses p e → ⊥
  never_both plain p t (TurnedAway e) h is = plain.1 p t e h.0 is
  never_both plain p t Crowded h (u, hu, full) = not_both u.is_crowded full (subst (λ (x : Table P N). x.is_crowded ≡ false) (plain.0 p t u h.0 hu) h.1)

  pub nothing_told : (k : Opened P N E) → IsPlain hands refuses → IsOpened hands refuses root task limit k → (j : Linking P N) → IsLinked hands refuses root task limit j → k.told ≡ []
  nothing_told k plain opened j linked =
      empty_of k.told (λ f held. exclude (HandsRoomy hands refuses) (IsAbsent hands refuses) root task limit j f.fault (λ p t u ht hu. plain.0 p t u ht.0 hu.0) (never_both plain)
      (roomy_link j linked) (k.tables, opened.world, stands_of task k.tables (IsAbsent hands refuses) limit f.fault f.asker f.at (opened.stands f held)))

  module _ (k : Opened P N E) (opened : IsOpened hands refuses root task limit k) where
    root_at : IsAt k.tables task.root root
    root_at = (opened.world.root_in, opened.root_fits.0)

    pub roomy_of : (t : Table P N) → Contains k.tables t → t.is_crowded ≡ false
    roomy_of t held = by_case (opened.world.handed t held)
      where
        by_case : (t ≡ root) ⊎ HandsRoomy hands refuses t.path t → t.is_crowded ≡ false
        by_case (inl e) = ap (λ (x : Table P N). x.is_crowded) e ∙ opened.root_fits.1
        by_case (inr h) = h.1

    module _ (nothing : (f : Finding P N E) → Contains k.told f → ⊥) where
      placed : (p : P) → Entered k.tables task p → Contains k.asked p
      placed p h = by_case (opened.all p h)
        where
          by_case : Contains k.asked p ⊎ (Contains k.beyond p × TellsLimit k limit) → Contains k.asked p
          by_case (inl c) = c
          by_case (inr b) = absurd (nothing b.1.0 b.1.1)

      brought_at : (p : P) → IsToldAbsent task k p → (p ≡ task.root) ⊎ ((a : Asker P N) × Brings task k.tables a p) → (t : Table P N) × IsAt k.tables p t
      brought_at p tells (inl e) = (root, subst (λ (x : P). IsAt k.tables x root) (sym e) root_at)
      brought_at p tells (inr (a, brings)) = absurd (nothing (record { fault = refused tells.0; asker = a; at = p }) (tells.1 a brings))

      table_at : (p : P) → Entered k.tables task p → (t : Table P N) × IsAt k.tables p t
      table_at p h = by_case (opened.absent p (placed p h))
        where
          by_case : ((t : Table P N) × IsAt k.tables p t) ⊎ IsToldAbsent task k p → (t : Table P N) × IsAt k.tables p t
          by_case (inl at) = at
          by_case (inr tells) = brought_at p tells (bringer task k.tables p h)

      some : 0 < limit
      some = let (i, b, e) = placed task.root (at_root task.root refl) in let (d, all, few) = opened.places in omega arith

      abbrev Asked : Fault P N (Absence E) → Type 0
      Asked fault = (a : Asker P N) × (q : P) × StandsBy task k.tables (IsAbsent hands refuses) limit fault a q

      asked : (fault : Fault P N (Absence E)) → Stands (IsAbsent hands refuses) task limit k.tables fault → Asked fault
      asked fault h = asked_of task k.tables (IsAbsent hands refuses) limit root root_at roomy_of some fault h

      clear : (fault : Fault P N E) → Stands refuses task limit k.tables fault → ⊥
      clear (duplicate p n) h = let (a, q, by) = asked (duplicate p n) h in nothing (record { fault = duplicate p n; asker = a; at = q }) (opened.told (record { fault = duplicate p n; asker = a; at = q }) tt by)
      clear (refused e) (p, h, missed, is) = let (t, at) = table_at p h in missed t at
      clear (missing p n) h = let (a, q, by) = asked (missing p n) h in nothing (record { fault = missing p n; asker = a; at = q }) (opened.told (record { fault = missing p n; asker = a; at = q }) tt by)
      clear (private n p) h = let (a, q, by) = asked (private n p) h in nothing (record { fault = private n p; asker = a; at = q }) (opened.told (record { fault = private n p; asker = a; at = q }) tt by)
      clear (ambiguous n) h = let (a, q, by) = asked (ambiguous n) h in nothing (record { fault = ambiguous n; asker = a; at = q }) (opened.told (record { fault = ambiguous n; asker = a; at = q }) tt by)
      clear (too_many i) (e, ps, d, all, many) =
          let few : length ps ≤ length k.asked = distinct_length ps k.asked d (λ x held. placed x (each (Entered k.tables task) ps all x held)) in
          let (d2, all2, room) = opened.places in absurd (omega arith)
      clear (too_many_flags p) (t, at, h, full) = not_both t.is_crowded full (roomy_of t at.0)

      pub linked_of : (ss : List (Symbol P N)) → AreDistinct ss → ((s : Symbol P N) → Contains ss s ↔ Reached k.tables task s)
          → IsLinked hands refuses root task limit (record { tables = k.tables; symbols = ss; turns = length k.tables + length ss })
      linked_of ss once reached = record {
        world = record {
          root_in = opened.world.root_in;
          handed = λ t held. elim (opened.world.handed t held) [ inl e ↦ inl e | inr h ↦ inr h.0 ];
          one_table = opened.world.one_table;
        };
        root_first = opened.root_first;
        tables_once = opened.tables_once;
        symbols_once = once;
        paths = λ p. ((λ h. subst (λ (x : P). Entered k.tables task x) h.1.1 (each (Entered k.tables task) k.asked opened.places.1 h.0.path (opened.tables_asked h.0 h.1.0))), (λ h. table_at p h));
        symbols = reached;
        no_fault = clear;
        turns = refl;
      }

pub empty_where_linked : {P N E : Type 0} (hands : P → Table P N → Type 0) (refuses : P → E → Type 0) → IsEmptyWhereLinked hands refuses
empty_where_linked {P} {N} {E} hands refuses root task limit k plain opened = (
  (λ none ss once reached. linked_of hands refuses root task limit k opened (λ f held. contains_nil f (subst (λ (xs : List (Finding P N E)). Contains xs f) none held)) ss once reached),
  (λ j linked. nothing_told hands refuses root task limit k plain opened j linked),
)
