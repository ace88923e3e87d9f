-- The linked unit of what a link found.
use Rattle.std.proofs.Common.{◌≡◌, inl, inr, ◌+◌, List, [], ◌∷◌, ◌++◌, length, length-append, map, Contains, refl, sym, subst, ap, ◌∙◌, append-nil}
use Rattle.std.proofs.lemmas.List.{map-append}
use Rattle.std.proofs.lemmas.List.Elements.{Contains-append_cases}
use Rattle.std.specs.Prelude.{Vec}
use Rattle.std.specs.declared.alloc.Global.{Global}
use Rattle.wesl_tree_names.specs.Path.{Text, Path}
use Rattle.wesl_tree_syntax.specs.Tree.{TreeOf, Forest, ForestOf, forest_of, trees, identifiers, before, kind, tree, end, imports as imports_kind, directive_list, declarations as declarations_kind}
use Rattle.wesl_tree_syntax.specs.Unit.{UnitView, forest_of_unit, spelled}
use Rattle.wesl_tree_syntax.specs.View.{directives_tree}
use Rattle.wesl_tree_syntax.specs.declared.span.Spanned.{Spanned}
use Rattle.wesl_tree_syntax.specs.declared.declaration.GlobalDirective.{GlobalDirective}
use Rattle.wesl_tree.specs.Translation.{unit_view}
use Rattle.wesl_link_symbols.specs.Tables.{Table}
use Rattle.wesl_link_symbols.proofs.Lists.{contains_nil, contains_first, contains_later, contains_cases}
use Rattle.wesl_link_reach.proofs.Lists.{contains_map, length_map}
use Rattle.wesl_scope_occurrences.specs.Laws.{PiecesAreDeclarations}
use Rattle.wesl_scope_occurrences.specs.Occurrences.{Occurrence, occurrences}
use Rattle.wesl_scope_occurrences.specs.Pieces.{declarations_in, pieces}
use Rattle.wesl_link_tables.specs.Numbering.{PathAt, NameAt}
use Rattle.wesl_link_tables.specs.Tables.{scope_of, paired}
use Rattle.wesl_link_tables.specs.Uses.{Use, use_of}
use Rattle.wesl_link_tables.specs.TextsView.{numbering_of_texts as numbering}
use Rattle.wesl_link_engine.specs.Given.{Given}
use Rattle.wesl_link_assembly.specs.Denotations.{symbol, local, free_name, printed_as}
use Rattle.wesl_link_assembly.specs.Directives.{AreThinned, Thins, all_directives}
use Rattle.wesl_link_assembly.specs.Laws.{MeaningsCanBeRetold}
use Rattle.wesl_link_assembly.specs.Linked.{shape, nodes_of, IsLinkedAs}
use Rattle.wesl_link_assembly.specs.Views.{Meaning, denotation_view}
use Rattle.wesl_link_assembly.proofs.Replaced.{identifiers_replaced}
use Rattle.wesl_link_engine.specs.Linked.{Denotation, Joins, StandsFor, IsHeld, AreHeldOf, AreMeanings, IsAssembled, Placed, placed, directives_in, unit_of}
use Rattle.wesl_link_engine.specs.Linked.{Joins as joins}
use Rattle.wesl_link_engine.specs.Worlds.{Module, tables}
use Rattle.wesl_link_engine.specs.Keeping.{name_text, denotation_text, name_under, module_of, all_loaded, modules_in, task_in}
use Rattle.wesl_link_engine.specs.Holding.{nodes, printed_by, IsNamed, AreParts, HasMeanings, IsLinkedOf}
use Rattle.wesl_link_engine.specs.declared.loaded.LoadedModule.{LoadedModule}
use Rattle.wesl_link_engine.specs.declared.link.Link.{Link}
use Rattle.wesl_link_engine.specs.declared.assemble.Parts.{Parts}
use Rattle.wesl_link_engine.proofs.Lists.{related_length, flat_map-map, selected_in, joined_in}
use Rattle.wesl_link_engine.proofs.Parted.{identifiers_more}
use Rattle.wesl_link_engine.proofs.Texts.{path_is, name_is, name_by, told_apart}

-- trees of one shape have as many identifiers
many_of : {I J : Type 0} (f : ForestOf I) (g : ForestOf J) → shape f ≡ shape g → length (identifiers f) ≡ length (identifiers g)
many_of f g e =
    sym (length_map (λ i. tt) (identifiers f)) ∙ (ap length (sym (identifiers_replaced (λ i. tt) f)) ∙ (ap (λ h. length (identifiers h)) e
    ∙ (ap length (identifiers_replaced (λ i. tt) g) ∙ length_map (λ i. tt) (identifiers g))))

-- three lists under one node
abbrev three : {I : Type 0} → ForestOf I → ForestOf I → ForestOf I
three directives declarations = tree (kind imports_kind) end (tree (kind directive_list) directives (tree (kind declarations_kind) declarations end))

all_directives_are : (ms : List LoadedModule) → all_directives (map (λ m. unit_view m.unit) ms) ≡ directives_in (map module_of ms)
all_directives_are ms =
    flat_map-map (λ u. trees (spelled u).directives.children) (λ (m : LoadedModule). unit_view m.unit) ms
    ∙ sym (flat_map-map (λ (m : Module). trees m.unit.directives.children) module_of ms)

-- ---- as many meanings as identifiers

-- as many uses as the tree has identifiers
abbrev IsSized : Placed → Type 0
IsSized d = length d.uses ≡ length (identifiers (before d.declaration end))

sized_each : (m : Module) (f : Occurrence Text → Use Path Text) (ts : List (TreeOf Text)) (ps : List (List (Occurrence Text))) → map (map (λ o. o.name)) ps ≡ map (λ t. identifiers (before t end)) ts
    → (d : Placed) → Contains (paired (λ t us. record { home = m; declaration = t; uses = us }) ts (map (map f) ps)) d → IsSized d
sized_each m f [] ps e d c = absurd (contains_nil d c)
sized_each m f (t ∷ ts) [] e d c = absurd (contains_nil d c)
sized_each m f (t ∷ ts) (p ∷ ps) e d c =
    let name_in_it = λ (o : Occurrence Text). o.name in
    let here : map name_in_it p ≡ identifiers (before t end) = cc in
    let rest : map (map name_in_it) ps ≡ map (λ t. identifiers (before t end)) ts = cc in
    let first : Placed = record { home = m; declaration = t; uses = map f p } in
    elim (contains_cases first d (paired (λ t us. record { home = m; declaration = t; uses = us }) ts (map (map f) ps)) c) [
      | inl is ↦ subst (λ (x : Placed). IsSized x) is (length_map f p ∙ (sym (length_map name_in_it p) ∙ ap length here))
      | inr more ↦ sized_each m f ts ps rest d more
    ]

sized : PiecesAreDeclarations → (m : LoadedModule) (d : Placed) → Contains (placed (module_of m)) d → IsSized d
sized law m d c =
    let u = (module_of m).unit in
    let own = (module_of m).path in
    sized_each (module_of m) (use_of (scope_of own u) (occurrences u)) (declarations_in u) (pieces u) (law u refl) d c

many_meanings : (w : List (Table Path Text)) (held : List Placed) (ms : List Denotation) → Joins (AreMeanings w) held ms → ((d : Placed) → Contains held d → IsSized d)
    → length ms ≡ length (identifiers (forest_of (map (λ d. d.declaration) held)))
many_meanings w _ _ joins.none all = refl
many_meanings w _ _ (joins.one_more d ds ms ns r s) all =
    let tree_in = λ (x : Placed). x.declaration in
    let here : length ms ≡ length (identifiers (before d.declaration end)) = related_length (StandsFor w d.home.path) d.uses ms r ∙ all d (contains_first d ds) in
    let rest : length ns ≡ length (identifiers (forest_of (map tree_in ds))) = many_meanings w ds ns s (λ x c. all x (contains_later d x ds c)) in
    length-append ms ns ∙ (ap (λ n. n + length ns) here ∙ (ap (λ n. length (identifiers (before d.declaration end)) + n) rest
    ∙ (sym (length-append (identifiers (before d.declaration end)) (identifiers (forest_of (map tree_in ds)))) ∙ ap length (sym (identifiers_more (d.declaration ∷ []) (map tree_in ds))))))

-- ---- the unit

module _ (law : PiecesAreDeclarations) (l : Link) (given : Given) (ds : Vec (Spanned GlobalDirective) Global) (texts : List Text) (parts : Parts)
    (d : AreThinned (all_directives (map (λ m. unit_view m.unit) (all_loaded l))) ds texts) (p : AreParts l (all_loaded l) (map free_name texts) parts) where
  abbrev texts_of : Meaning → Denotation
  texts_of = denotation_text (numbering l.numbers)

  abbrev words : List Meaning
  words = map free_name texts

  abbrev dirs : Forest
  dirs = (directives_tree ds).children

  abbrev decls : Forest
  decls = forest_of (nodes parts)

  held_sized : (d : Placed) → Contains p.held d → IsSized d
  held_sized d c =
      let w = tables (modules_in l) in
      let (n, ds, in_ms, holds, there) = joined_in (AreHeldOf w (task_in l)) (modules_in l) p.held d p.holds c in
      let (m, in_all, is) = contains_map module_of (all_loaded l) n in_ms in
      sized law m d (subst (λ (x : Module). Contains (placed x) d) (sym is) (selected_in (IsHeld w (task_in l)) (placed n) ds d holds there))

  many_declared : length p.meant ≡ length (identifiers decls)
  many_declared =
      sym (length_map texts_of p.meant)
      ∙ (many_meanings (tables (modules_in l)) p.held (map texts_of p.meant) p.means held_sized ∙ sym (many_of decls (forest_of (map (λ (h : Placed). h.declaration) p.held)) p.alike))

  pub all_named : HasMeanings ds parts
  all_named =
      let many : length words ≡ length (identifiers dirs) = length_map free_name texts ∙ (ap length d.words_are ∙ sym (many_of dirs (forest_of d.kept) d.same_shape)) in
      sym (length_map denotation_view parts.denotations.items)
      ∙ (ap length p.denotations ∙ (length-append words p.meant
      ∙ (ap (λ n. n + length p.meant) many ∙ (ap (λ n. length (identifiers dirs) + n) many_declared
      ∙ (sym (length-append (identifiers dirs) (identifiers decls)) ∙ ap (λ xs. length (identifiers dirs ++ xs)) (sym (append-nil (identifiers decls))))))))

  free_texts : (xs : List Text) → map texts_of (map free_name xs) ≡ map free_name xs
  free_texts [] = refl
  free_texts (x ∷ xs) = ap (λ ys. free_name x ∷ ys) (free_texts xs)

  named : (m : Meaning) → Contains (words ++ p.meant) m → IsNamed (numbering l.numbers) m
  named m c = elim (Contains-append_cases words p.meant m c) [
    | inl h ↦ (let (x, k, e) = contains_map free_name texts m h in subst (λ (n : Meaning). IsNamed (numbering l.numbers) n) e tt)
    | inr h ↦ p.named m h
  ]

  reprinted : (m : Meaning) → IsNamed (numbering l.numbers) m → printed_as (name_under (numbering l.numbers) given) (texts_of m) ≡ printed_as (printed_by (numbering l.numbers) given) m
  reprinted (symbol q n) ((path, at), (x, is)) =
      name_of path at x is
    where
      name_of : (path : Path) → PathAt (numbering l.numbers) q path → (x : Text) → NameAt (numbering l.numbers) n x
          → printed_as (name_under (numbering l.numbers) given) (texts_of (symbol q n)) ≡ printed_by (numbering l.numbers) given q n
      name_of path at x is = ap (λ o. name_under (numbering l.numbers) given o (name_text (numbering l.numbers) n)) (path_is (numbering l.numbers) q path at)
          ∙ (ap (name_under (numbering l.numbers) given path) (name_is (numbering l.numbers) n x is)
          ∙ name_by (numbering l.numbers) l.numbers.paths.different l.numbers.names.different given q n path x at is)
  reprinted (local q b n) h = refl
  reprinted (free_name n) h = refl

  shapes : shape (forest_of_unit (unit_of d.kept p.held)) ≡ shape (forest_of_unit (nodes_of ds parts.declarations))
  shapes = ap (λ x. three x (shape (forest_of (map (λ (h : Placed). h.declaration) p.held)))) (sym d.same_shape) ∙ ap (λ x. three (shape dirs) x) (sym p.alike)

  pub assembled_is : MeaningsCanBeRetold → (unit : UnitView) → IsLinkedOf (numbering l.numbers) given ds parts unit → IsAssembled (modules_in l) (task_in l) (name_under (numbering l.numbers) given) unit
  assembled_is retold unit linked = record {
    directives = d.kept;
    held = p.held;
    meanings = map texts_of p.meant;
    thinned = subst (λ (ts : List (TreeOf Text)). Thins ts d.kept) (all_directives_are (all_loaded l)) d.thinned;
    holds = p.holds;
    means = p.means;
    linked =
        subst (λ (ms : List Denotation). IsLinkedAs (printed_as (name_under (numbering l.numbers) given)) (unit_of d.kept p.held) ms unit)
        (map-append texts_of words p.meant ∙ ap (λ ws. ws ++ map texts_of p.meant) (free_texts texts ∙ ap (map free_name) d.words_are))
        (retold texts_of (printed_as (printed_by (numbering l.numbers) given)) (printed_as (name_under (numbering l.numbers) given)) (nodes_of ds parts.declarations) (unit_of d.kept p.held) (words ++ p.meant) unit
        (λ m c. reprinted m (named m c))
        (λ n. refl)
        (λ a b c e same. told_apart (numbering l.numbers) l.numbers.paths.different l.numbers.names.different given a b (named a c) (named b e) same)
        shapes
        (subst (λ (ms : List Meaning). IsLinkedAs (printed_as (printed_by (numbering l.numbers) given)) (nodes_of ds parts.declarations) ms unit) p.denotations linked));
  }
