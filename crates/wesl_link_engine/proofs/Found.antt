-- The modules that were taken are the world that the link found, in path order.
use Rattle.std.proofs.Common.{◌≡◌, ◌⊎◌, inl, inr, ℕ, zero, suc, ◌<◌, ◌+◌, Bool, true, false, true≢false, Option, Some, None, List, [], ◌∷◌, length, map, drop, get_or, Contains, All, refl, sym, subst, ap, ◌∙◌, arith}
use Rattle.std.specs.List.{AllAdjacentBelow}
use Rattle.std.specs.List.Sorted.{IsPermutation}
use Rattle.std.proofs.lemmas.List.Sorted.{IsPermutation-cons, IsPermutation-map}
use Rattle.wesl_tree_names.specs.Path.{Text, Path, path_view, is_relative}
use Rattle.wesl_tree_names.specs.PathOrder.{path_before}
use Rattle.wesl_tree_names.specs.declared.errors.ResolveError as resolve_error
use Rattle.wesl_tree_names.proofs.Order.{before-total}
use Rattle.wesl_tree_syntax.specs.Unit.{UnitOf, spelled}
use Rattle.wesl_tree.specs.Translation.{unit_view}
use Rattle.wesl_link_symbols.specs.declared.ids.PathId.{PathId}
use Rattle.wesl_tree_base.specs.declared.ids.NameId.{NameId}
use Rattle.wesl_link_symbols.specs.Tables.{Table}
use Rattle.wesl_link_reach.specs.Linking as linking
use Rattle.wesl_link_reach.specs.Faults.{AreDistinct}
use Rattle.wesl_link_reach.specs.Faults.AreDistinct.{one_more as one_distinct}
use Rattle.wesl_link_symbols.proofs.Entries.{found_at, none_at}
use Rattle.wesl_link_symbols.proofs.Lists.{contains_first, contains_later}
use Rattle.wesl_link_reach.proofs.Lists.{map_contains}
use Rattle.wesl_link_tables.specs.Tables.{table_at}
use Rattle.wesl_link_tables.specs.Numbering.{AreRelated, Numbering, Grows, NameAt, PathAt, AreDifferent, SameTable, IsNumbered}
use Rattle.wesl_link_tables.proofs.Lists.{related_more}
use Rattle.wesl_link_tables.proofs.Related.{name_later, table_later}
use Rattle.wesl_link_engine.specs.Handing.{HaveOne, IsHandedTable, IsRefusedPath}
use Rattle.wesl_link_engine.specs.Taking.{path_eq, unit_at, AreKept, IsTaken, AreInOrder}
use Rattle.wesl_link_engine.specs.Resolved.{module_at}
use Rattle.wesl_link_engine.specs.Keeping.{loaded_modules}
use Rattle.wesl_link_engine.specs.Worlds.{Module, table, task_of, IsLinked, IsModuleOrder}
use Rattle.wesl_link_engine.specs.declared.loaded.Held.{Held}
use Rattle.wesl_link_engine.specs.declared.loaded.LoadedModule.{LoadedModule}
use Rattle.wesl_link_engine.proofs.Kept.{path_same, path_laws}
use Rattle.wesl_link_engine.proofs.Built.{ModuleFor, linked_world, paths_one}
use Rattle.wesl_link_engine.proofs.Reordered.{reordered}

-- what is in order is strictly so where no path stands twice
strict : (m n : LoadedModule) (ms : List LoadedModule) → path_before (path_view n.path) (path_view m.path) ≡ false → AreDistinct (map (λ (x : Module). x.path) (loaded_modules (m ∷ n ∷ ms))) → path_before (path_view m.path) (path_view n.path) ≡ true
strict m n ms h (one_distinct _ _ fresh d) = by (before-total (path_view m.path) (path_view n.path))
  where
    by : (path_before (path_view m.path) (path_view n.path) ≡ true) ⊎ ((path_view m.path ≡ path_view n.path) ⊎ (path_before (path_view n.path) (path_view m.path) ≡ true)) → path_before (path_view m.path) (path_view n.path) ≡ true
    by (inl e) = e
    by (inr (inl e)) =
        let ps : List Path = map (λ (x : Module). x.path) (loaded_modules ms) in
        absurd (fresh (subst (λ (p : Path). Contains (path_view n.path ∷ ps) p) (sym e) (contains_first (path_view n.path) ps)))
    by (inr (inr e)) = absurd (true≢false (sym e ∙ h))

in_order : (ms : List LoadedModule) → AreInOrder ms → AreDistinct (map (λ (x : Module). x.path) (loaded_modules ms)) → AllAdjacentBelow (λ m n. path_before m.path n.path ≡ true) (loaded_modules ms) (length (loaded_modules ms))
in_order [] h d k x b = absurd (omega arith)
in_order (m ∷ []) h d k x b = absurd (omega arith)
in_order (m ∷ n ∷ ms) h d zero x b = strict m n ms (h 0 m (omega arith)) d
in_order (m ∷ n ∷ ms) h (one_distinct _ _ fresh d) (suc k) x b =
    let e : suc k + 1 ≡ suc (k + 1) = omega arith in
    let rest : AreInOrder (n ∷ ms) = λ j y c.
    let f : suc j + 1 ≡ suc (j + 1) = omega arith in
    subst (λ (i : ℕ). path_before (path_view (get_or (m ∷ n ∷ ms) i y).path) (path_view (get_or (n ∷ ms) j y).path) ≡ false) f (h (suc j) y (omega arith)) in
    subst (λ (i : ℕ). path_before (get_or (loaded_modules (n ∷ ms)) k x).path (get_or (loaded_modules (m ∷ n ∷ ms)) i x).path ≡ true) (sym e) (in_order (n ∷ ms) rest d k x (omega arith))

unit_has : (units : List (PathId × Held)) → HaveOne units → (p : PathId) (u : Held) → Contains units (p, u) → unit_at units p ≡ Some u
unit_has units one p u held = by (unit_at units p) refl
  where
    by : (o : Option Held) → unit_at units p ≡ o → unit_at units p ≡ Some u
    by None e = absurd (none_at path_eq path_same path_laws units p u e held)
    by (Some w) e = e ∙ ap Some (one p w u (found_at path_eq path_same path_laws units p w e) held)

module _ (first nb : Numbering) (g : Grows first nb) (hands : Path → UnitOf Text → Type 0) (refuses : Path → resolve_error.ResolveError → Type 0) (units : List (PathId × Held)) (one : HaveOne units)
    (rt : Table PathId NameId) (rm : Module) (root : IsNumbered first rt (table rm)) (different_paths : AreDifferent nb.paths) (different_names : AreDifferent nb.names) (asked : All (λ p. is_relative p ≡ false) nb.paths)
    (kept : List NameId) (keep : List Text) (kept_same : AreRelated (NameAt first) kept keep) (is_eager : Bool) (limit : ℕ) where
  pub root_now : IsNumbered nb rt (table rm)
  root_now = table_later first nb g rt (table rm) root

  pub kept_now : AreRelated (NameAt nb) kept keep
  kept_now = related_more (NameAt first) (NameAt nb) (name_later first nb g) kept keep kept_same

  abbrev For : Table PathId NameId → Module → Type 0
  For = ModuleFor nb hands units one rt rm root_now different_paths different_names asked

  module _ (k : linking.Linking PathId NameId) (linked : linking.IsLinked (IsHandedTable hands nb units) (IsRefusedPath refuses nb) rt (linking.task_of rt kept is_eager) limit k) where
    pub other_for : (us : List (Table PathId NameId)) (t : Table PathId NameId) (m : LoadedModule) → (t.path ≡ rt.path → ⊥) → (t ≡ rt) ⊎ IsHandedTable hands nb units t.path t → IsTaken nb units us t m → For t (module_at m.path m.unit)
    other_for us t m differ (inl e) h = absurd (differ (ap (λ (x : Table PathId NameId). x.path) e))
    other_for us t m differ (inr (q, unit, at, there, given, numbered)) (named, has, placed) =
        let kept_unit : Held = record { unit = m.unit; marks = m.marks } in
        let held : Contains units (t.path, kept_unit) = found_at path_eq path_same path_laws units t.path kept_unit has in
        let same_unit : unit ≡ kept_unit = one t.path unit kept_unit there held in
        let same_path : q ≡ path_view m.path = (paths_one nb different_paths).one t.path q (path_view m.path) at named in
        record {
          same = subst (λ (x : Path). SameTable (PathAt nb) (NameAt nb) t (table_at x (spelled (unit_view m.unit)))) same_path
              (subst (λ (x : Held). SameTable (PathAt nb) (NameAt nb) t (table_at q (spelled (unit_view x.unit)))) same_unit numbered);
          whence = inr (differ, subst (λ (x : Path). hands x (spelled (unit_view m.unit))) same_path (subst (λ (x : Held). hands q (spelled (unit_view x.unit))) same_unit given), (kept_unit, held, refl));
        }

    others_for : (us ts : List (Table PathId NameId)) (ms : List LoadedModule) → ((t : Table PathId NameId) → Contains ts t → Contains k.tables t × (t.path ≡ rt.path → ⊥)) → AreRelated (IsTaken nb units us) ts ms → AreRelated For ts (loaded_modules ms)
    others_for us [] [] h rel = tt
    others_for us (t ∷ ts) (m ∷ ms) h rel =
        let (held, differ) = h t (contains_first t ts) in
        (other_for us t m differ (linked.world.handed t held) rel.0, others_for us ts ms (λ u c. h u (contains_later t u ts c)) rel.1)
    others_for us [] (m ∷ ms) h rel = absurd rel
    others_for us (t ∷ ts) [] h rel = absurd rel

    pub fresh_root : (ts : List (Table PathId NameId)) → AreDistinct (linking.paths (rt ∷ ts)) → (t : Table PathId NameId) → Contains ts t → t.path ≡ rt.path → ⊥
    fresh_root ts (one_distinct _ _ fresh d) t c e = fresh (subst (λ (p : PathId). Contains (linking.paths ts) p) e (map_contains (λ (x : Table PathId NameId). x.path) ts t c))

    -- each module but the root has its unit among those that are kept
    module _ (ts : List (Table PathId NameId)) (is : k.tables ≡ rt ∷ ts) where
      pub ts_distinct : AreDistinct (linking.paths (rt ∷ ts))
      ts_distinct = subst (λ (xs : List (Table PathId NameId)). AreDistinct (linking.paths xs)) is linked.tables_once

      pub ts_held : (t : Table PathId NameId) → Contains ts t → Contains k.tables t
      ts_held t c = subst (λ (xs : List (Table PathId NameId)). Contains xs t) (sym is) (contains_later rt t ts c)

      pub kept_left : AreKept nb units (drop 1 k.tables)
      kept_left = subst (λ (xs : List (Table PathId NameId)). AreKept nb units (drop 1 xs)) (sym is) (λ t c. by t (fresh_root ts ts_distinct t c) (linked.world.handed t (ts_held t c)))
        where
          by : (t : Table PathId NameId) → (t.path ≡ rt.path → ⊥) → (t ≡ rt) ⊎ IsHandedTable hands nb units t.path t → ((q : Path) × PathAt nb t.path q) × ((u : Held) × (unit_at units t.path ≡ Some u))
          by t differ (inl e) = absurd (differ (ap (λ (x : Table PathId NameId). x.path) e))
          by t differ (inr (q, unit, at, there, given, numbered)) = ((q, at), (unit, unit_has units one t.path unit there))

      pub once_left : AreDistinct (linking.paths (drop 1 k.tables))
      once_left = subst (λ (xs : List (Table PathId NameId)). AreDistinct (linking.paths (drop 1 xs))) (sym is) (rest ts_distinct)
        where
          rest : AreDistinct (linking.paths (rt ∷ ts)) → AreDistinct (linking.paths ts)
          rest (one_distinct _ _ fresh d) = d

      pub some_left : 0 < length k.tables
      some_left = subst (λ (xs : List (Table PathId NameId)). 0 < length xs) (sym is) (omega arith)

    module _ (ts : List (Table PathId NameId)) (is : k.tables ≡ rt ∷ ts) (ms others : List LoadedModule) (rel : AreRelated (IsTaken nb units ts) ts ms) (same : IsPermutation ms others) where
      all_for : AreRelated For k.tables (rm ∷ loaded_modules ms)
      all_for =
          let rest : AreRelated For ts (loaded_modules ms) = others_for ts ts ms (λ t c. (ts_held ts is t c, fresh_root ts (ts_distinct ts is) t c)) rel in
          subst (λ (xs : List (Table PathId NameId)). AreRelated For xs (rm ∷ loaded_modules ms)) (sym is) (record { same = root_now; whence = inl (refl, refl) }, rest)

      pub found_linked : IsLinked hands refuses rm (task_of rm keep is_eager) limit k.turns (rm ∷ loaded_modules others)
      found_linked =
          reordered hands refuses rm (task_of rm keep is_eager) limit k.turns (rm ∷ loaded_modules ms) (rm ∷ loaded_modules others)
          (IsPermutation-cons rm (loaded_modules ms) (loaded_modules others) (IsPermutation-map (λ m. module_at m.path m.unit) ms others same))
          (linked_world nb hands units one rt rm root_now different_paths different_names asked k.tables linked.world (rm ∷ loaded_modules ms) all_for kept keep kept_now is_eager refuses (IsRefusedPath refuses nb) (λ p q e at why. (q, at, why)) limit
          k.symbols k.turns linked)

      pub found_order : AreInOrder others → IsModuleOrder rm (rm ∷ loaded_modules others)
      found_order sorted = (loaded_modules others, refl, in_order others sorted (later found_linked.once))
        where
          later : AreDistinct (map (λ (x : Module). x.path) (rm ∷ loaded_modules others)) → AreDistinct (map (λ (x : Module). x.path) (loaded_modules others))
          later (one_distinct _ _ fresh d) = d
