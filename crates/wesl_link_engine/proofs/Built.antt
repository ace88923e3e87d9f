-- A world of numbered tables is one of units: what it says of tables, it says of the units that they are tables of.
use Rattle.std.proofs.Common.{◌≡◌, ◌⊎◌, inl, inr, ℕ, suc, ◌+◌, ◌==◌, Bool, true, false, true≢false, Some, List, [], ◌∷◌, length, map, Contains, All, refl, sym, subst, ap, ◌∙◌, eqb-true, eq-eqb}
use Rattle.std.specs.Prelude.{slice_get}
use Rattle.std.proofs.lemmas.Option.{slice_get_within, get_or_from_slice_get}
use Rattle.wesl_tree_names.specs.Path.{Text, Path, is_relative}
use Rattle.wesl_tree_syntax.specs.Unit.{UnitOf, spelled}
use Rattle.wesl_tree.specs.Translation.{unit_view}
use Rattle.wesl_link_symbols.specs.declared.ids.PathId.{PathId}
use Rattle.wesl_tree_base.specs.declared.ids.NameId.{NameId}
use Rattle.wesl_link_symbols.specs.declared.symbols.Symbol.{Symbol}
use Rattle.wesl_link_symbols.specs.Tables.{Table}
use Rattle.wesl_link_reach.specs.World as world
use Rattle.wesl_link_reach.specs.World.{Task, Entered, Reached}
use Rattle.wesl_link_reach.specs.Faults.{Fault, Stands, AreDistinct}
use Rattle.wesl_link_reach.specs.Faults.AreDistinct.{none as none_distinct, one_more as one_distinct}
use Rattle.wesl_link_reach.specs.Linking as linking
use Rattle.wesl_link_symbols.proofs.Lists.{contains_later, contains_first}
use Rattle.wesl_link_reach.proofs.Lists.{contains_map, map_contains}
use Rattle.wesl_link_tables.specs.Numbering.{AreRelated, SameTable, Numbering, NameAt, PathAt, AreDifferent}
use Rattle.wesl_link_engine.specs.Handing.{HaveOne, IsHandedTable}
use Rattle.wesl_link_engine.specs.Worlds.{Module, table, tables, IsWorld, task_of, IsLinked}
use Rattle.wesl_link_engine.specs.declared.loaded.Held.{Held}
use Rattle.wesl_link_engine.proofs.Carried.{Back, IsOneToOne, one_back, related_in, related_back, table_back, SameSymbol, SameTask, Covers, SameFault, stands_to, entered_to, reached_to}

module _ (nb : Numbering) where
  abbrev R : PathId → Path → Type 0
  R = PathAt nb

  abbrev S : NameId → Text → Type 0
  S = NameAt nb

  some_one : {X : Type 0} (xs : List X) (i : ℕ) (y z : X) → slice_get xs i ≡ Some y → slice_get xs i ≡ Some z → y ≡ z
  some_one xs i y z a b = let e : Some y ≡ Some z = sym a ∙ b in cc

  pub paths_one : AreDifferent nb.paths → IsOneToOne R
  paths_one d = record { one = λ p y z a b. some_one nb.paths p.0 y z a b; other = λ p q y a b. ap (λ (n : ℕ). record { 0 = n }) (d p.0 q.0 y a b) }

  pub names_one : AreDifferent nb.names → IsOneToOne S
  names_one d = record { one = λ p y z a b. some_one nb.names p.0 y z a b; other = λ p q y a b. ap (λ (n : ℕ). record { 0 = n }) (d p.0 q.0 y a b) }

  pub path_asked : All (λ p. is_relative p ≡ false) nb.paths → (p : PathId) (q : Path) → R p q → is_relative q ≡ false
  path_asked all p q at =
      subst (λ (x : Path). is_relative x ≡ false) (get_or_from_slice_get nb.paths p.0 q q at) (all p.0 q (slice_get_within nb.paths p.0 q at))

  module _ (hands : Path → UnitOf Text → Type 0) (units : List (PathId × Held)) (one : HaveOne units) (rt : Table PathId NameId) (rm : Module) (root_same : SameTable R S rt (table rm))
      (different_paths : AreDifferent nb.paths) (different_names : AreDifferent nb.names) (asked : All (λ p. is_relative p ≡ false) nb.paths) where
    -- a module whose table it is
    pub record ModuleFor (t : Table PathId NameId) (m : Module) : Type 0 where
      pub same : SameTable R S t (table m)
      pub whence : ((t ≡ rt) × (m ≡ rm)) ⊎ ((t.path ≡ rt.path → ⊥) × hands m.path m.unit × ((unit : Held) × Contains units (t.path, unit) × (m.unit ≡ spelled (unit_view unit.unit))))

    module _ (w : List (Table PathId NameId)) (is_world : world.IsWorld (IsHandedTable hands nb units) rt w) where
      module_for : (t : Table PathId NameId) → Contains w t → (m : Module) × ModuleFor t m
      module_for t held = by (t.path.0 == rt.path.0) refl
        where
          other : (t.path ≡ rt.path → ⊥) → (t ≡ rt) ⊎ IsHandedTable hands nb units t.path t → (m : Module) × ModuleFor t m
          other differ (inl e) = absurd (differ (ap (λ (x : Table PathId NameId). x.path) e))
          other differ (inr (q, unit, at, kept, given, numbered)) =
              (record { path = q; unit = spelled (unit_view unit.unit) }, record { same = numbered; whence = inr (differ, given, (unit, kept, refl)) })

          by : (b : Bool) → (t.path.0 == rt.path.0) ≡ b → (m : Module) × ModuleFor t m
          by true e =
              let at : t.path ≡ rt.path = ap (λ (n : ℕ). record { 0 = n }) (eqb-true t.path.0 rt.path.0 e) in
              let is : t ≡ rt = is_world.one_table t rt held is_world.root_in at in
              (rm, record { same = subst (λ (x : Table PathId NameId). SameTable R S x (table rm)) (sym is) root_same; whence = inl (is, refl) })
          by false e = other (λ at. true≢false (sym (eq-eqb t.path.0 rt.path.0 (ap (λ (p : PathId). p.0) at)) ∙ e)) (is_world.handed t held)

      built : (xs : List (Table PathId NameId)) → ((t : Table PathId NameId) → Contains xs t → Contains w t) → (ms : List Module) × AreRelated ModuleFor xs ms
      built [] h = ([], tt)
      built (t ∷ xs) h =
          let (m, f) = module_for t (h t (contains_first t xs)) in
          let (ms, rel) = built xs (λ u c. h u (contains_later t u xs c)) in
          (m ∷ ms, (f, rel))

      pub modules : (ms : List Module) × AreRelated ModuleFor w ms
      modules = built w (λ t c. c)

      module _ (ms : List Module) (rel : AreRelated ModuleFor w ms) where
        from_module : (m : Module) → Contains ms m → (t : Table PathId NameId) × Contains w t × ModuleFor t m
        from_module m c = related_in (Back ModuleFor) ms w m (related_back ModuleFor (Back ModuleFor) (λ x y z. z) w ms rel) c

        pub covers : Covers R S w (tables ms)
        covers = record { covered = λ t c. let (m, d, f) = related_in ModuleFor w ms t rel c in (table m, map_contains table ms m d, f.same) }

        pub covers_back : Covers (Back R) (Back S) (tables ms) w
        covers_back = record {
          covered = λ u c.
              let (m, d, e) = contains_map table ms u c in
              let (t, held, f) = from_module m d in
              (t, held, subst (λ (x : Table Path Text). SameTable (Back R) (Back S) x t) e (table_back R S t (table m) f.same));
        }

        same_path : (t u : Table PathId NameId) (m n : Module) → ModuleFor t m → ModuleFor u n → m.path ≡ n.path → t.path ≡ u.path
        same_path t u m n f g e = (paths_one different_paths).other t.path u.path n.path (subst (λ (q : Path). R t.path q) e f.same.path) g.same.path

        one_module : (t u : Table PathId NameId) (m n : Module) → ModuleFor t m → ModuleFor u n → m.path ≡ n.path → m ≡ n
        one_module t u m n f g e = by f.whence g.whence
          where
            at : t.path ≡ u.path
            at = same_path t u m n f g e

            by : ((t ≡ rt) × (m ≡ rm)) ⊎ ((t.path ≡ rt.path → ⊥) × hands m.path m.unit × ((unit : Held) × Contains units (t.path, unit) × (m.unit ≡ spelled (unit_view unit.unit))))
                → ((u ≡ rt) × (n ≡ rm)) ⊎ ((u.path ≡ rt.path → ⊥) × hands n.path n.unit × ((unit : Held) × Contains units (u.path, unit) × (n.unit ≡ spelled (unit_view unit.unit)))) → m ≡ n
            by (inl (a, b)) (inl (c, d)) = b ∙ sym d
            by (inl (a, b)) (inr (differ, given, rest)) = absurd (differ (sym at ∙ ap (λ (x : Table PathId NameId). x.path) a))
            by (inr (differ, given, rest)) (inl (c, d)) = absurd (differ (at ∙ ap (λ (x : Table PathId NameId). x.path) c))
            by (inr (differ, given, (x, kept, is))) (inr (differ2, given2, (y, kept2, is2))) =
                let same : x ≡ y = one u.path x y (subst (λ (p : PathId). Contains units (p, x)) at kept) kept2 in
                let unit : m.unit ≡ n.unit = is ∙ (ap (λ (z : Held). spelled (unit_view z.unit)) same ∙ sym is2) in
                ap (λ (q : Path). record { path = q; unit = m.unit }) e ∙ ap (λ (z : UnitOf Text). record { path = n.path; unit = z }) unit

        pub unit_world : IsWorld hands rm ms
        unit_world = record {
          root_in = let (m, c, f) = related_in ModuleFor w ms rt rel is_world.root_in in by_root m c f.whence;
          handed = λ m c. let (t, held, f) = from_module m c in by_handed t m f.whence;
          one_unit = λ m n c d e. let (t, held, f) = from_module m c in let (u, held2, g) = from_module n d in one_module t u m n f g e;
          no_relative = λ m c is. let (t, held, f) = from_module m c in true≢false (sym is ∙ path_asked asked t.path m.path f.same.path);
        }
          where
            by_root : (m : Module) → Contains ms m → ((rt ≡ rt) × (m ≡ rm)) ⊎ ((rt.path ≡ rt.path → ⊥) × hands m.path m.unit × ((unit : Held) × Contains units (rt.path, unit) × (m.unit ≡ spelled (unit_view unit.unit)))) → Contains ms rm
            by_root m c (inl (a, b)) = subst (λ (x : Module). Contains ms x) b c
            by_root m c (inr (differ, given, rest)) = absurd (differ refl)

            by_handed : (t : Table PathId NameId) (m : Module) → ((t ≡ rt) × (m ≡ rm)) ⊎ ((t.path ≡ rt.path → ⊥) × hands m.path m.unit × ((unit : Held) × Contains units (t.path, unit) × (m.unit ≡ spelled (unit_view unit.unit))))
                → (m ≡ rm) ⊎ hands m.path m.unit
            by_handed t m (inl (a, b)) = inl b
            by_handed t m (inr (differ, given, rest)) = inr given

        module _ (kept : List NameId) (keep : List Text) (kept_same : AreRelated S kept keep) (is_eager : Bool) where
          abbrev a : Task PathId NameId
          a = linking.task_of rt kept is_eager

          abbrev b : Task Path Text
          b = task_of rm keep is_eager

          same_task : SameTask R S a b
          same_task = record { root = root_same.path; kept = kept_same; eager = refl }

          same_task_back : SameTask (Back R) (Back S) b a
          same_task_back = record { root = root_same.path; kept = related_back S (Back S) (λ x y z. z) kept keep kept_same; eager = refl }

          pub refused_world : {E : Type 0} (refuses : Path → E → Type 0) (refuses_id : PathId → E → Type 0) → ((p : PathId) (q : Path) (e : E) → R p q → refuses_id p e → refuses q e)
              → (limit : ℕ) (f : Fault PathId NameId E) → Stands refuses_id a limit w f → (g : Fault Path Text E) × SameFault R S f g × Stands refuses b limit (tables ms) g
          refused_world refuses refuses_id to limit f h =
              stands_to R S (paths_one different_paths) (names_one different_names) w (tables ms) covers a b same_task covers_back refuses_id refuses to limit f h

          symbols_for : (xs : List (Symbol PathId NameId)) → ((s : Symbol PathId NameId) → Contains xs s → Reached w a s) → (ys : List (Symbol Path Text)) × AreRelated (SameSymbol R S) xs ys
          symbols_for [] h = ([], tt)
          symbols_for (s ∷ xs) h =
              let (x, same, r) = reached_to R S (paths_one different_paths) (names_one different_names) w (tables ms) covers a b same_task s (h s (contains_first s xs)) in
              let (ys, rel2) = symbols_for xs (λ u c. h u (contains_later s u xs c)) in
              (x ∷ ys, (same, rel2))

          symbol_one : (s : Symbol PathId NameId) (x y : Symbol Path Text) → SameSymbol R S s x → SameSymbol R S s y → x ≡ y
          symbol_one s x y h k =
              let p : x.path ≡ y.path = (paths_one different_paths).one s.path x.path y.path h.path k.path in
              let n : x.name ≡ y.name = (names_one different_names).one s.name x.name y.name h.name k.name in
              ap (λ (q : Path). record { path = q; name = x.name }) p ∙ ap (λ (z : Text). record { path = y.path; name = z }) n

          symbol_other : (s u : Symbol PathId NameId) (x : Symbol Path Text) → SameSymbol R S s x → SameSymbol R S u x → s ≡ u
          symbol_other s u x h k =
              let p : s.path ≡ u.path = (paths_one different_paths).other s.path u.path x.path h.path k.path in
              let n : s.name ≡ u.name = (names_one different_names).other s.name u.name x.name h.name k.name in
              ap (λ (q : PathId). record { path = q; name = s.name }) p ∙ ap (λ (z : NameId). record { path = u.path; name = z }) n

          distinct_symbols : (xs : List (Symbol PathId NameId)) (ys : List (Symbol Path Text)) → AreRelated (SameSymbol R S) xs ys → AreDistinct xs → AreDistinct ys
          distinct_symbols [] [] h d = none_distinct
          distinct_symbols (s ∷ xs) (x ∷ ys) h (one_distinct _ _ fresh d) =
              one_distinct x ys (λ held. let (u, c, k) = related_in (Back (SameSymbol R S)) ys xs x (related_back (SameSymbol R S) (Back (SameSymbol R S)) (λ a b z. z) xs ys h.1) held in
              fresh (subst (λ (z : Symbol PathId NameId). Contains xs z) (symbol_other u s x k h.0) c)) (distinct_symbols xs ys h.1 d)
          distinct_symbols [] (x ∷ ys) h d = absurd h
          distinct_symbols (s ∷ xs) [] h d = absurd h

          distinct_modules : (xs : List (Table PathId NameId)) (ns : List Module) → AreRelated ModuleFor xs ns → AreDistinct (linking.paths xs) → AreDistinct (map (λ (m : Module). m.path) ns)
          distinct_modules [] [] h d = none_distinct
          distinct_modules (t ∷ xs) (m ∷ ns) h (one_distinct _ _ fresh d) =
              one_distinct m.path (map (λ (n : Module). n.path) ns) (λ held.
              let (n, c, e) = contains_map (λ (n : Module). n.path) ns m.path held in
              let (u, k, f) = related_in (Back ModuleFor) ns xs n (related_back ModuleFor (Back ModuleFor) (λ x y z. z) xs ns h.1) c in
              fresh (subst (λ (p : PathId). Contains (linking.paths xs) p) (same_path u t n m f h.0 e) (map_contains (λ (x : Table PathId NameId). x.path) xs u k))) (distinct_modules xs ns h.1 d)
          distinct_modules [] (m ∷ ns) h d = absurd h
          distinct_modules (t ∷ xs) [] h d = absurd h

          same_length : {X Y : Type 0} (T : X → Y → Type 0) (xs : List X) (ys : List Y) → AreRelated T xs ys → length xs ≡ length ys
          same_length T [] [] h = refl
          same_length T (x ∷ xs) (y ∷ ys) h = ap suc (same_length T xs ys h.1)
          same_length T [] (y ∷ ys) h = absurd h
          same_length T (x ∷ xs) [] h = absurd h

          module _ {E : Type 0} (refuses : Path → E → Type 0) (refuses_id : PathId → E → Type 0) (back : (p : PathId) (q : Path) (e : E) → R p q → refuses q e → refuses_id p e) (limit : ℕ)
              (symbols : List (Symbol PathId NameId)) (turns : ℕ) where
            pub linked_world : linking.IsLinked (IsHandedTable hands nb units) refuses_id rt a limit (record { tables = w; symbols = symbols; turns = turns }) → IsLinked hands refuses rm b limit turns ms
            linked_world k = record {
              world = unit_world;
              once = distinct_modules w ms rel k.tables_once;
              paths = λ q. (to_entered q, from_entered q);
              no_fault = λ f h. let (g, same, stands) =
                  stands_to (Back R) (Back S) (one_back R (paths_one different_paths)) (one_back S (names_one different_names)) (tables ms) w covers_back b a same_task_back covers refuses refuses_id (λ q p e at why. back p q e at why) limit f h in k.no_fault g stands;
              turns = let (ys, rel2) = symbols_for symbols (λ s c. (k.symbols s).0 c) in (
                ys,
                distinct_symbols symbols ys rel2 k.symbols_once,
                (λ x. (to_reached ys rel2 x, from_reached ys rel2 x)),
                k.turns ∙ (ap (λ (n : ℕ). n + length symbols) (same_length ModuleFor w ms rel) ∙ ap (λ (n : ℕ). length ms + n) (same_length (SameSymbol R S) symbols ys rel2)),
              );
            }
              where
                to_entered : (q : Path) → ((m : Module) × Contains ms m × (m.path ≡ q)) → Entered (tables ms) b q
                to_entered q (m, c, e) =
                    let (t, held, f) = from_module m c in
                    let (x, at, g) = entered_to R S (paths_one different_paths) (names_one different_names) w (tables ms) covers a b same_task t.path ((k.paths t.path).0 (t, (held, refl))) in
                    subst (λ (y : Path). Entered (tables ms) b y) ((paths_one different_paths).one t.path x m.path at f.same.path ∙ e) g

                from_entered : (q : Path) → Entered (tables ms) b q → (m : Module) × Contains ms m × (m.path ≡ q)
                from_entered q h =
                    let (p, at, g) = entered_to (Back R) (Back S) (one_back R (paths_one different_paths)) (one_back S (names_one different_names)) (tables ms) w covers_back b a same_task_back q h in
                    let (t, there) = (k.paths p).1 g in
                    let (m, c, f) = related_in ModuleFor w ms t rel there.0 in
                    (m, c, (paths_one different_paths).one p m.path q (subst (λ (x : PathId). R x m.path) there.1 f.same.path) at)

                to_reached : (ys : List (Symbol Path Text)) → AreRelated (SameSymbol R S) symbols ys → (x : Symbol Path Text) → Contains ys x → Reached (tables ms) b x
                to_reached ys rel2 x c =
                    let (s, held, same) = related_in (Back (SameSymbol R S)) ys symbols x (related_back (SameSymbol R S) (Back (SameSymbol R S)) (λ u v z. z) symbols ys rel2) c in
                    let (y, same2, r) = reached_to R S (paths_one different_paths) (names_one different_names) w (tables ms) covers a b same_task s ((k.symbols s).0 held) in
                    subst (λ (z : Symbol Path Text). Reached (tables ms) b z) (symbol_one s y x same2 same) r

                from_reached : (ys : List (Symbol Path Text)) → AreRelated (SameSymbol R S) symbols ys → (x : Symbol Path Text) → Reached (tables ms) b x → Contains ys x
                from_reached ys rel2 x r =
                    let (s, same, g) = reached_to (Back R) (Back S) (one_back R (paths_one different_paths)) (one_back S (names_one different_names)) (tables ms) w covers_back b a same_task_back x r in
                    let (y, c, same2) = related_in (SameSymbol R S) symbols ys s rel2 ((k.symbols s).1 g) in
                    subst (λ (z : Symbol Path Text). Contains ys z) (symbol_one s y x same2 (record { path = same.path; name = same.name })) c
