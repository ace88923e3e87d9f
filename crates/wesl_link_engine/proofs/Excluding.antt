-- Success and refusal exclude each other over units, as they do over their tables, and an eager link reaches all that is declared.
use Rattle.std.proofs.Common.{◌≡◌, ◌⊎◌, inl, inr, ℕ, suc, ◌+◌, List, [], ◌∷◌, ◌++◌, length, map, refl, sym, subst, ap, ◌∙◌}
use Rattle.std.proofs.lemmas.List.Sorted.{IsPermutation-middle}
use Rattle.wesl_tree_names.specs.Path.{Text, Path}
use Rattle.wesl_tree_syntax.specs.Unit.{UnitOf}
use Rattle.wesl_link_symbols.specs.Tables.{Table}
use Rattle.wesl_link_reach.specs.World as world
use Rattle.wesl_link_reach.specs.World.{Task}
use Rattle.wesl_link_reach.specs.World.Reached.{declared}
use Rattle.wesl_link_reach.specs.Faults.{AreDistinct}
use Rattle.wesl_link_reach.specs.Linking as linking
use Rattle.wesl_link_reach.proofs.Lists.{contains_map, map_contains}
use Rattle.wesl_link_reach.proofs.Exclusive as tables_law
use Rattle.wesl_link_tables.specs.Tables.{table_at}
use Rattle.wesl_link_engine.specs.Worlds.{Module, table, tables, IsWorld, IsLinked}
use Rattle.wesl_link_engine.specs.Laws.{AreExclusive, ReachesAllDeclared}
use Rattle.wesl_link_engine.proofs.Reordered.{split, reordered}

paths_are : (w : List Module) → linking.paths (tables w) ≡ map (λ (m : Module). m.path) w
paths_are [] = refl
paths_are (m ∷ w) = ap (λ (ps : List Path). m.path ∷ ps) (paths_are w)

many_are : (w : List Module) → length (tables w) ≡ length w
many_are [] = refl
many_are (m ∷ w) = ap suc (many_are w)

module _ {E : Type 0} (hands : Path → UnitOf Text → Type 0) (refuses : Path → E → Type 0) (root : Module) where
  -- the table is that of a unit that is handed out at the path
  abbrev HandsTable : Path → Table Path Text → Type 0
  HandsTable p t = (u : UnitOf Text) × hands p u × (t ≡ table_at p u)

  world_of : (w : List Module) → IsWorld hands root w → world.IsWorld HandsTable (table root) (tables w)
  world_of w h = record {
    root_in = map_contains table w root h.root_in;
    handed = λ t c. let (m, held, e) = contains_map table w t c in subst (λ (x : Table Path Text). (x ≡ table root) ⊎ HandsTable x.path x) e (by m (h.handed m held));
    one_table = λ t u c d same.
        let (m, held, e) = contains_map table w t c in
        let (n, held2, f) = contains_map table w u d in
        let at : m.path ≡ n.path = ap (λ (x : Table Path Text). x.path) e ∙ (same ∙ ap (λ (x : Table Path Text). x.path) (sym f)) in
        sym e ∙ (ap table (h.one_unit m n held held2 at) ∙ f);
  }
    where
      by : (m : Module) → (m ≡ root) ⊎ hands m.path m.unit → (table m ≡ table root) ⊎ HandsTable (table m).path (table m)
      by m (inl e) = inl (ap table e)
      by m (inr x) = inr (m.unit, x, refl)

  module _ (task : Task Path Text) (limit taken : ℕ) (others : List Module) (h : IsLinked hands refuses root task limit taken (root ∷ others)) where
    abbrev k : linking.Linking Path Text
    k = record { tables = tables (root ∷ others); symbols = h.turns.0; turns = taken }

    linked_tables : linking.IsLinked HandsTable refuses (table root) task limit k
    linked_tables = record {
      world = world_of (root ∷ others) h.world;
      root_first = (tables others, refl);
      tables_once = subst (λ (ps : List Path). AreDistinct ps) (sym (paths_are (root ∷ others))) h.once;
      symbols_once = h.turns.1;
      paths = λ p. (
        (λ (t, at). let (m, held, f) = contains_map table (root ∷ others) t at.0 in (h.paths p).0 (m, held, ap (λ (x : Table Path Text). x.path) f ∙ at.1)),
        (λ entered. let (m, held, e) = (h.paths p).1 entered in (table m, (map_contains table (root ∷ others) m held, e))),
      );
      symbols = h.turns.2;
      no_fault = h.no_fault;
      turns = h.turns.3 ∙ ap (λ (n : ℕ). n + length h.turns.0) (sym (many_are (root ∷ others)));
    }

pub exclude : {E : Type 0} (hands : Path → UnitOf Text → Type 0) (refuses : Path → E → Type 0) → AreExclusive hands refuses
exclude hands refuses root task limit taken w fault one never h (v, in_v, stands) =
    let (before, after, e) = split w root h.world.root_in in
    let there : IsLinked hands refuses root task limit taken (before ++ root ∷ after) = subst (λ (x : List Module). IsLinked hands refuses root task limit taken x) e h in
    let first : IsLinked hands refuses root task limit taken (root ∷ before ++ after) =
    reordered hands refuses root task limit taken (before ++ root ∷ after) (root ∷ before ++ after) (IsPermutation-middle before root after) there in
    tables_law.exclude (HandsTable hands refuses root) refuses (table root) task limit (k hands refuses root task limit taken (before ++ after) first) fault
    (λ p t u (x, a, e1) (y, b, e2). e1 ∙ (ap (table_at p) (one p x y a b) ∙ sym e2))
    (λ p t e2 (x, a, e1) r. never p x e2 a r)
    (linked_tables hands refuses root task limit taken (before ++ after) first)
    (tables v, world_of hands refuses root v in_v, stands)

pub reaches_all : {E : Type 0} (hands : Path → UnitOf Text → Type 0) (refuses : Path → E → Type 0) → ReachesAllDeclared hands refuses
reaches_all hands refuses root limit taken w m n h held d =
    declared (record { path = m.path; name = n }) (table m) refl ((h.paths m.path).0 (m, held, refl)) (map_contains table w m held, refl) d
