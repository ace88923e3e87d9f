-- The declarations of a module, as the code reads them one after the other.
use Rattle.std.proofs.Common.{◌≡◌, ℕ, zero, suc, ◌<◌, ◌≤◌, ◌+◌, Some, List, [], ◌∷◌, length, take, get_or, Contains, arith, refl, sym, subst, ap, ◌∙◌}
use Rattle.std.specs.Prelude.{slice_get, Vec}
use Rattle.std.specs.List.{enumerate_from}
use Rattle.std.specs.declared.alloc.Global.{Global}
use Rattle.std.proofs.lemmas.List.{take_all}
use Rattle.wesl_link_symbols.specs.declared.ids.PathId.{PathId}
use Rattle.wesl_tree_base.specs.declared.ids.NameId.{NameId}
use Rattle.wesl_link_symbols.specs.Tables.{Declaration, Table}
use Rattle.wesl_link_reach.specs.Linking.{Linking}
use Rattle.wesl_link_tables.specs.Numbering.{IsNumbered}
use Rattle.wesl_link_tables.specs.TextsView.{numbering_of_texts as numbering}
use Rattle.wesl_link_tables.specs.declared.marks.Mark.{Mark}
use Rattle.wesl_link_tables.specs.declared.texts.NumberTexts.{NumberTexts}
use Rattle.wesl_link_engine.specs.Linked.{placed}
use Rattle.wesl_link_engine.specs.Worlds.{table}
use Rattle.wesl_link_engine.specs.Tabled.{module_of, IsMarked}
use Rattle.wesl_link_engine.specs.Keeping.{all_loaded, task_in, IsLinkOf}
use Rattle.wesl_link_engine.specs.Holding.{IsHeldHere, RefersToAll, AreClear, AddsOne, AddsPlaced, AreModulesOf, IsModuleOf}
use Rattle.wesl_link_engine.specs.declared.loaded.LoadedModule.{LoadedModule}
use Rattle.wesl_link_engine.specs.declared.link.Link.{Link}
use Rattle.wesl_link_engine.specs.declared.assemble.Parts.{Parts}
use Rattle.wesl_link_engine.proofs.Tabled.{stands, numbered_there, marked_there}
use Rattle.wesl_link_engine.proofs.Adding.{Node, HasNodes, OneAt, rows_many, marks_many, placed_many, told_at, row_held, marks_refer, marks_clear, adds_next}
use Rattle.wesl_link_symbols.proofs.Lists.{at_contains}

-- a module of a link that is whole
pub whole : (l : Link) (m : LoadedModule) → IsLinkOf (task_in l) l → Contains (all_loaded l) m → IsModuleOf l l.numbers l.linked m
whole l m sound inside = record { sound = sound; numbers_are = refl; linked_is = refl; inside = inside }

module _ (l : Link) (numbers : NumberTexts) (k : Linking PathId NameId) (m : LoadedModule) (of : IsModuleOf l numbers k m) where
  pub table_stands : (t : Table PathId NameId) × (slice_get k.tables m.place ≡ Some t)
  table_stands = subst (λ (x : Linking PathId NameId). (t : Table PathId NameId) × (slice_get x.tables m.place ≡ Some t)) of.linked_is (stands l of.sound m of.inside)

  module _ (t : Table PathId NameId) (at : slice_get k.tables m.place ≡ Some t) (gs : List Node) (all : HasNodes m gs) (rows : List (Declaration PathId NameId)) (rows_are : rows ≡ t.declarations) where
    same : IsNumbered (numbering l.numbers) t (table (module_of m))
    same = numbered_there l of.sound m of.inside t (ap (λ (x : Linking PathId NameId). slice_get x.tables m.place) of.linked_is ∙ at)

    marked : IsMarked (numbering l.numbers) m
    marked = marked_there l of.sound m of.inside

    pub row_there : (i : ℕ) → i < length gs → i < length rows
    row_there i b = subst (λ n. i < n) (sym (ap length rows_are ∙ rows_many (numbering l.numbers) m t same marked gs all)) b

    pub marks_there : (i : ℕ) → i < length gs → i < length m.marks.items
    marks_there i b = subst (λ n. i < n) (sym (marks_many (numbering l.numbers) m t same marked gs all)) b

    pub all_taken : (i : ℕ) → length gs ≤ i → take i (placed (module_of m)) ≡ placed (module_of m)
    all_taken i b = take_all i (placed (module_of m)) (rw (placed_many (numbering l.numbers) m t same marked gs all) b)

    module _ (i : ℕ) (g : Node) (row : Declaration PathId NameId) (v : Vec Mark Global) (ms : List Mark) (b : i < length gs)
        (g_is : g ≡ get_or gs i g) (row_is : row ≡ get_or rows i row) (v_is : v ≡ get_or m.marks.items i v) (ms_are : ms ≡ v.items) where
      one : OneAt (numbering l.numbers) m i g row ms
      one = told_at (numbering l.numbers) m t same marked gs all i g rows row v ms b rows_are g_is row_is v_is ms_are

      pub row_inside : Contains t.declarations row
      row_inside = row_held (numbering l.numbers) m t same marked gs all i rows row b rows_are row_is

      pub refers : RefersToAll row ms
      refers = marks_refer l of.sound m i g row ms one

      pub clear : IsHeldHere k t.path g.node row.name → AreClear ms
      clear held =
          let t_in = at_contains l.linked.tables m.place t (ap (λ (x : Linking PathId NameId). slice_get x.tables m.place) of.linked_is ∙ at) in
          marks_clear l of.sound m i g row ms one t g.node t_in row_inside (subst (λ (x : Linking PathId NameId). IsHeldHere x t.path g.node row.name) (sym of.linked_is) held)

      pub next : (p q r : Parts) → AddsPlaced l (take i (placed (module_of m))) p q → AddsOne (numbering numbers) k t g row.name ms q r → AddsPlaced l (take (i + 1) (placed (module_of m))) p r
      next p q r so adds =
          let in_numbers = subst (λ (n : NumberTexts). AddsOne (numbering n) k t g row.name ms q r) (sym of.numbers_are) adds in
          let in_link = subst (λ (x : Linking PathId NameId). AddsOne (numbering l.numbers) x t g row.name ms q r) (sym of.linked_is) in_numbers in
          adds_next l of.sound m t same p q r i g row ms one so in_link

-- one of the modules
pub one_of : (l : Link) (numbers : NumberTexts) (k : Linking PathId NameId) (ms : List LoadedModule) (m : LoadedModule) → AreModulesOf l numbers k ms → Contains ms m → IsModuleOf l numbers k m
one_of l numbers k ms m of there = record {
  sound = of.sound;
  numbers_are = of.numbers_are;
  linked_is = of.linked_is;
  inside = subst (λ (ns : List LoadedModule). Contains ns m) (sym of.modules_are) there;
}

-- the place and the item that come together
pub numbered_at : {X : Type 0} (n : ℕ) (xs : List X) (i j : ℕ) (x : X) → i < length (enumerate_from n xs) → (j, x) ≡ get_or (enumerate_from n xs) i (j, x) → (i < length xs) × (j ≡ n + i) × (x ≡ get_or xs i x)
numbered_at {X} n [] i j x b e = absurd (omega (arith, b))
numbered_at {X} n (y ∷ ys) zero j x b e = (omega arith, (let f : j ≡ n = ap (λ (p : ℕ × X). p.0) e in omega (arith, f)), ap (λ (p : ℕ × X). p.1) e)
numbered_at {X} n (y ∷ ys) (suc i) j x b e = let (c, f, g) = numbered_at (n + 1) ys i j x (omega (arith, b)) e in (omega (arith, c), omega (arith, f), g)
