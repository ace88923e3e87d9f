-- One declaration of a module is added, or none.
use Rattle.std.proofs.Common.{◌≡◌, ℕ, ◌<◌, ◌+◌, false, Option, Some, None, List, [], ◌∷◌, ◌++◌, length, map, take, drop, get_or, Contains, refl, sym, subst, ap, ◌∙◌, append_assoc}
use Rattle.std.specs.Prelude.{slice_get, Vec}
use Rattle.std.specs.declared.alloc.Global.{Global}
use Rattle.std.proofs.lemmas.List.{map-append}
use mathlib.Core.List.{map-map}
use Rattle.wesl_tree_names.specs.Path.{Text, Path, path_view}
use Rattle.wesl_tree_syntax.specs.Tree.{LabelOf, kind, at, ident, text, texts, truth, unary, binary, assignment, space, access, path, ForestOf, TreeOf, end, tree, before, trees, forest_of, respell, respell_forest, respell_label, declaration_node}
use Rattle.wesl_tree_syntax.specs.Unit.{UnitOf, name_in}
use Rattle.wesl_tree_syntax.specs.View.{global_view, placed as placed_tree, declarations_tree}
use Rattle.wesl_tree_syntax.specs.declared.span.Spanned.{Spanned}
use Rattle.wesl_tree_syntax.specs.declared.declaration.GlobalDeclaration.{GlobalDeclaration}
use Rattle.wesl_tree.specs.Translation.{unit_view}
use Rattle.wesl_link_symbols.specs.declared.ids.PathId.{PathId}
use Rattle.wesl_tree_base.specs.declared.ids.NameId.{NameId}
use Rattle.wesl_link_symbols.specs.Tables.{Declaration, Table}
use Rattle.wesl_link_reach.specs.Linking.{Linking}
use Rattle.wesl_link_reach.proofs.Lists.{length_map, map_contains}
use Rattle.wesl_scope_occurrences.specs.Occurrences.{occurrences}
use Rattle.wesl_scope_occurrences.specs.Pieces.{size, declarations_in, pieces}
use Rattle.wesl_link_tables.specs.Imports.{first_label}
use Rattle.wesl_link_tables.specs.Marks.{IsMark}
use Rattle.wesl_link_tables.specs.Tables.{declaration_of, name_of, scope_of, uses}
use Rattle.wesl_link_tables.specs.Uses.{Use, use_of}
use Rattle.wesl_link_tables.specs.Numbering.{Numbering, NameAt, PathAt, AreRelated, IsRelatedOption, IsNumbered, SameDeclaration}
use Rattle.wesl_link_tables.specs.TextsView.{numbering_of_texts as numbering}
use Rattle.wesl_link_tables.specs.declared.marks.Mark.{Mark}
use Rattle.wesl_link_tables.proofs.Lists.{related_append}
use Rattle.wesl_link_assembly.specs.Views.{Meaning, denotation_view}
use Rattle.wesl_link_assembly.specs.declared.denotation.Denotation.{Denotation}
use Rattle.wesl_link_engine.specs.Linked.{Placed, placed, is_assert, IsHeldAs}
use Rattle.wesl_link_engine.specs.Worlds.{table, tables}
use Rattle.wesl_link_engine.specs.Tabled.{IsMarked}
use Rattle.wesl_link_engine.specs.Keeping.{module_of, all_loaded, modules_in, task_in, IsLinkOf}
use Rattle.wesl_link_engine.specs.Holding.{declaration_tree, IsMeant, IsHeldHere, RefersToAll, AreClear, AddsOne, is_added, is_not_held, AddsPlaced}
use Rattle.wesl_link_engine.specs.declared.loaded.LoadedModule.{LoadedModule}
use Rattle.wesl_link_engine.specs.declared.link.Link.{Link}
use Rattle.wesl_link_engine.specs.declared.assemble.Parts.{Parts}
use Rattle.wesl_link_engine.proofs.Carried.{Covers}
use Rattle.wesl_link_engine.proofs.Lists.{item_held, read_at, take_at, paired_at, declarations_at, related_at, related_length, paired_length, declarations_length, cut_length}
use Rattle.wesl_link_engine.proofs.Meant.{refers_to_all, all_clear, is_held, meanings_told}
use Rattle.wesl_link_engine.proofs.Parted.{shape_replaced, adds_not, adds_one}
use Rattle.wesl_link_tables.proofs.Nodes.{trees-forest_of}
use Rattle.wesl_tree_interner.proofs.Interning.{get_map}

abbrev pub Node : Type 0
Node = Spanned GlobalDeclaration

-- the declaration, as it is spelled in the module
abbrev pub spelled_in : LoadedModule → Node → TreeOf Text
spelled_in m g = respell (name_in (unit_view m.unit).names) (placed_tree global_view declaration_node g)

-- ---- other names

module _ {I J : Type 0} (f : I → J) where
  assert_label : (l : LabelOf I) → is_assert (respell_label f l) ≡ is_assert l
  assert_label (kind k) = refl
  assert_label (at k s e) = refl
  assert_label (ident r i) = refl
  assert_label (text x) = refl
  assert_label (texts x) = refl
  assert_label (truth x) = refl
  assert_label (unary x) = refl
  assert_label (binary x) = refl
  assert_label (assignment x) = refl
  assert_label (space x) = refl
  assert_label (access x) = refl
  assert_label (path x) = refl

  assert_respelled : (g : ForestOf I) → first_label false is_assert (respell_forest f g) ≡ first_label false is_assert g
  assert_respelled end = refl
  assert_respelled (tree l children others) = assert_label l

  trees_respelled : (g : ForestOf I) → trees (respell_forest f g) ≡ map (respell f) (trees g)
  trees_respelled end = refl
  trees_respelled (tree l children others) = ap (λ ts. record { label = respell_label f l; children = respell_forest f children } ∷ ts) (trees_respelled others)

-- ---- the declarations of a module

abbrev pub HasNodes : LoadedModule → List Node → Type 0
HasNodes m gs = (unit_view m.unit).declarations.children ≡ forest_of (map (placed_tree global_view declaration_node) gs)

pub declarations_are : (m : LoadedModule) (v : Vec Node Global) (gs : List Node) → declarations_tree v ≡ (unit_view m.unit).declarations → gs ≡ v.items → HasNodes m gs
declarations_are m v gs e g = sym (ap (λ (t : TreeOf ℕ). t.children) e) ∙ ap (λ xs. forest_of (map (placed_tree global_view declaration_node) xs)) (sym g)

all_trees : (m : LoadedModule) (gs : List Node) → HasNodes m gs → declarations_in (module_of m).unit ≡ map (spelled_in m) gs
all_trees m gs e =
    let apart : map (spelled_in m) gs ≡ map (respell (name_in (unit_view m.unit).names)) (map (placed_tree global_view declaration_node) gs) = simp map-map in
    trees_respelled (name_in (unit_view m.unit).names) (unit_view m.unit).declarations.children
    ∙ (ap (map (respell (name_in (unit_view m.unit).names))) (ap trees e ∙ trees-forest_of (map (placed_tree global_view declaration_node) gs)) ∙ sym apart)

uses_length : (own : Path) (u : UnitOf Text) → length (uses own u) ≡ length (declarations_in u)
uses_length own u =
    length_map (map (use_of (scope_of own u) (occurrences u))) (pieces u) ∙ cut_length (declarations_in u) (drop (size u.directives) (drop (size u.imports) (occurrences u)))

-- what stands at a place of a module's declarations, with its row in the table and its marks
pub record OneAt (nb : Numbering) (m : LoadedModule) (i : ℕ) (g : Node) (row : Declaration PathId NameId) (ms : List Mark) : Type 0 where
  pub uses : List (Use Path Text)
  pub number : ℕ
  pub stands : slice_get (placed (module_of m)) i ≡ Some (record { home = module_of m; declaration = spelled_in m g; uses = uses })
  pub same : SameDeclaration (PathAt nb) (NameAt nb) row (declaration_of (scope_of (module_of m).path (module_of m).unit) number (spelled_in m g) uses)
  pub marked : AreRelated (IsMark nb) ms uses

module _ (nb : Numbering) (m : LoadedModule) (t : Table PathId NameId) (same : IsNumbered nb t (table (module_of m))) (marked : IsMarked nb m) (gs : List Node) (all : HasNodes m gs) where
  abbrev own : Path
  own = (module_of m).path

  abbrev unit : UnitOf Text
  unit = (module_of m).unit

  trees_many : length (declarations_in unit) ≡ length gs
  trees_many = ap length (all_trees m gs all) ∙ length_map (spelled_in m) gs

  -- as many rows, and as many marks
  pub rows_many : length t.declarations ≡ length gs
  rows_many =
      sym (related_length (SameDeclaration (PathAt nb) (NameAt nb)) t.declarations (table (module_of m)).declarations same.declarations)
      ∙ (declarations_length own unit 0 (declarations_in unit) (uses own unit) (uses_length own unit) ∙ trees_many)

  pub marks_many : length m.marks.items ≡ length gs
  marks_many = sym (related_length (λ (v : Vec Mark Global) us. AreRelated (IsMark nb) v.items us) m.marks.items (uses own unit) marked) ∙ (uses_length own unit ∙ trees_many)

  pub placed_many : length (placed (module_of m)) ≡ length gs
  placed_many = paired_length (λ x vs. record { home = module_of m; declaration = x; uses = vs }) (declarations_in unit) (uses own unit) (uses_length own unit) ∙ trees_many

  pub one_at : (i : ℕ) (g : Node) (row : Declaration PathId NameId) (ms : Vec Mark Global) → slice_get gs i ≡ Some g → slice_get t.declarations i ≡ Some row → slice_get m.marks.items i ≡ Some ms → OneAt nb m i g row ms.items
  one_at i g row ms g_at row_at ms_at =
      let (us, us_at, is_marked) = related_at (λ (v : Vec Mark Global) us. AreRelated (IsMark nb) v.items us) m.marks.items (uses own unit) marked i ms ms_at in
      let tree_at : slice_get (declarations_in unit) i ≡ Some (spelled_in m g) = ap (λ ts. slice_get ts i) (all_trees m gs all) ∙ get_map (spelled_in m) gs i g g_at in
      let (d, d_at, is_d) = related_at (SameDeclaration (PathAt nb) (NameAt nb)) t.declarations (table (module_of m)).declarations same.declarations i row row_at in
      let (n, there) = declarations_at own unit 0 (declarations_in unit) (uses own unit) i (spelled_in m g) us tree_at us_at in
      let both : Some d ≡ Some (declaration_of (scope_of own unit) n (spelled_in m g) us) = sym d_at ∙ there in
      let is : d ≡ declaration_of (scope_of own unit) n (spelled_in m g) us = cc in
      record {
        uses = us;
        number = n;
        stands = paired_at (λ x vs. record { home = module_of m; declaration = x; uses = vs }) (declarations_in unit) (uses own unit) i (spelled_in m g) us tree_at us_at;
        same = subst (λ (e : Declaration Path Text). SameDeclaration (PathAt nb) (NameAt nb) row e) is is_d;
        marked = is_marked;
      }

  -- the same, of what the code reads there
  pub told_at : (i : ℕ) (g : Node) (rows : List (Declaration PathId NameId)) (row : Declaration PathId NameId) (v : Vec Mark Global) (ms : List Mark) → i < length gs → rows ≡ t.declarations
      → g ≡ get_or gs i g → row ≡ get_or rows i row → v ≡ get_or m.marks.items i v → ms ≡ v.items → OneAt nb m i g row ms
  told_at i g rows row v ms b rows_are g_is row_is v_is ms_are =
      let row_at : slice_get t.declarations i ≡ Some row = ap (λ ds. slice_get ds i) (sym rows_are) ∙ read_at rows i row (subst (λ n. i < n) (sym (ap length rows_are ∙ rows_many)) b) row_is in
      let v_at : slice_get m.marks.items i ≡ Some v = read_at m.marks.items i v (subst (λ n. i < n) (sym marks_many) b) v_is in
      subst (λ (ns : List Mark). OneAt nb m i g row ns) (sym ms_are) (one_at i g row v (read_at gs i g b g_is) row_at v_at)

  pub row_held : (i : ℕ) (rows : List (Declaration PathId NameId)) (row : Declaration PathId NameId) → i < length gs → rows ≡ t.declarations → row ≡ get_or rows i row → Contains t.declarations row
  row_held i rows row b rows_are row_is = subst (λ (ds : List (Declaration PathId NameId)). Contains ds row) rows_are (item_held rows i row (subst (λ n. i < n) (sym (ap length rows_are ∙ rows_many)) b) row_is)

-- ---- one declaration

module _ (l : Link) (sound : IsLinkOf (task_in l) l) where
  covers : Covers (PathAt (numbering l.numbers)) (NameAt (numbering l.numbers)) l.linked.tables (tables (modules_in l))
  covers = record {
    covered = λ t c.
        let (m, d, f) = sound.covered t c in
        (table (module_of m), map_contains table (modules_in l) (module_of m) (map_contains module_of (all_loaded l) m d), f);
  }

  module _ (m : LoadedModule) (i : ℕ) (g : Node) (row : Declaration PathId NameId) (ms : List Mark) (one : OneAt (numbering l.numbers) m i g row ms) where
    -- what the marks ask for, the declaration refers to
    pub marks_refer : RefersToAll row ms
    marks_refer = refers_to_all (numbering l.numbers) l.numbers.paths.different l.numbers.names.different row (module_of m).path (module_of m).unit one.number (spelled_in m g) ms one.uses one.same one.marked

    -- and where it is held, none of them is unclear
    pub marks_clear : (t : Table PathId NameId) (h : GlobalDeclaration) → Contains l.linked.tables t → Contains t.declarations row → IsHeldHere l.linked t.path h row.name → AreClear ms
    marks_clear t h t_in row_in held =
        all_clear (numbering l.numbers) l.numbers.paths.different l.numbers.names.different row (module_of m).path (module_of m).unit one.number (spelled_in m g) ms one.uses one.same one.marked
        (λ n c. sound.clear t row.name n t_in (is_held l.linked t.path h row.name held) (row, row_in, refl, c))

  module _ (m : LoadedModule) (t : Table PathId NameId) (same : IsNumbered (numbering l.numbers) t (table (module_of m))) (p q r : Parts) (i : ℕ) (g : Node) (row : Declaration PathId NameId) (ms : List Mark)
      (one : OneAt (numbering l.numbers) m i g row ms) where
    abbrev d : Placed
    d = record { home = module_of m; declaration = spelled_in m g; uses = one.uses }

    abbrev f : ℕ → Text
    f = name_in (unit_view m.unit).names

    -- what is held in numbers is held in texts, and the other way round
    held_text : (o : Option NameId) (x : Option Text) → IsRelatedOption (NameAt (numbering l.numbers)) o x → IsHeldHere l.linked t.path g.node o → IsHeldAs (tables (modules_in l)) (task_in l) d x
    held_text None None h e = assert_respelled f (before (global_view g.node) end) ∙ e
    held_text (Some n) (Some x) h c = (sound.reached (record { path = t.path; name = n }) (record { path = path_view m.path; name = x }) same.path h).0 c
    held_text None (Some x) h e = absurd h
    held_text (Some n) None h e = absurd h

    held_number : (o : Option NameId) (x : Option Text) → IsRelatedOption (NameAt (numbering l.numbers)) o x → IsHeldAs (tables (modules_in l)) (task_in l) d x → IsHeldHere l.linked t.path g.node o
    held_number None None h e = sym (assert_respelled f (before (global_view g.node) end)) ∙ e
    held_number (Some n) (Some x) h c = (sound.reached (record { path = t.path; name = n }) (record { path = path_view m.path; name = x }) same.path h).1 c
    held_number None (Some x) h e = absurd h
    held_number (Some n) None h e = absurd h

    abbrev done : List Placed
    done = take i (placed (module_of m))

    next : take (i + 1) (placed (module_of m)) ≡ done ++ d ∷ []
    next = take_at (placed (module_of m)) i d one.stands

    pub adds_next : AddsPlaced l (take i (placed (module_of m))) p q → AddsOne (numbering l.numbers) l.linked t g row.name ms q r → AddsPlaced l (take (i + 1) (placed (module_of m))) p r
    adds_next s (is_added here a) =
        let (told, named) = meanings_told (numbering l.numbers) l.numbers.paths.different l.numbers.names.different l.linked (modules_in l) covers t (path_view m.path) same.path ms one.uses a.meant one.marked a.means in
        subst (λ (all : List Placed). AddsPlaced l all p r) (sym next)
        (adds_one l done p q d s r (declaration_tree g) a.meant (held_text row.name (name_of (spelled_in m g)) one.same.name here) (sym (shape_replaced f (before (declaration_tree g) end))) a.declarations a.denotations told named)
    adds_next s (is_not_held out e) =
        subst (λ (all : List Placed). AddsPlaced l all p r) (sym next)
        (subst (λ (x : Parts). AddsPlaced l (done ++ d ∷ []) p x) (sym e) (adds_not l done p q d s (λ h. out (held_number row.name (name_of (spelled_in m g)) one.same.name h))))

-- ---- one identifier

module _ (nb : Numbering) (k : Linking PathId NameId) (t : Table PathId NameId) where
  -- after these the meanings of what has the marks
  abbrev pub AllMeant : List Denotation → List Mark → List Denotation → Type 0
  AllMeant before ms after = (ds : List Meaning) × (map denotation_view after ≡ map denotation_view before ++ ds) × AreRelated (IsMeant nb k t) ms ds

  pub meant_more : (ms : List Mark) (i : ℕ) (m : Mark) (before old new : List Denotation) (d : Denotation) → slice_get ms i ≡ Some m → AllMeant before (take i ms) old → new ≡ old ++ d ∷ [] → IsMeant nb k t m (denotation_view d)
      → AllMeant before (take (i + 1) ms) new
  meant_more ms i m before old new d at_i (ds, same, all) pushed here = (
    ds ++ denotation_view d ∷ [],
    ap (map denotation_view) pushed ∙ (map-append denotation_view old (d ∷ []) ∙ (ap (λ xs. xs ++ denotation_view d ∷ []) same ∙ append_assoc (map denotation_view before) ds (denotation_view d ∷ []))),
    subst (λ (ns : List Mark). AreRelated (IsMeant nb k t) ns (ds ++ denotation_view d ∷ [])) (sym (take_at ms i m at_i))
        (related_append (IsMeant nb k t) (IsMeant nb k t) (λ x y h. h) (take i ms) (m ∷ []) ds (denotation_view d ∷ []) all (here, tt)),
  )
