-- The identifiers of a module: those of its imports, of its directives and of its declarations.
use Rattle.std.proofs.Common.{◌≡◌, ℕ, ◌+◌, false, List, [], ◌∷◌, ◌++◌, Some, None, refl, sym, ap, ◌∙◌, subst}
use Rattle.std.specs.Prelude.{drop}
use Rattle.std.proofs.lemmas.List.{append-nil}
use Rattle.wesl_tree_syntax.specs.Tree.{LabelOf, ForestOf, end, tree, forest_of, trees, kind, declarations as declarations_kind}
use Rattle.wesl_tree_syntax.specs.Unit.{UnitOf}
use Rattle.wesl_scope_occurrences.specs.Occurrences.{Block, Occurrence, Surroundings, Node, globally, plain, after_field, count, occurrences_from, occurrences}
use Rattle.wesl_scope_occurrences.specs.Pieces.{size, cut, declarations_in, pieces}
use Rattle.wesl_link_laws.proofs.Alike.{is_ident}
use Rattle.wesl_link_laws.proofs.Parts.{part, parts, blocks_of, AreNodes, part_first, part_size, drop_first, parts_cut}

-- where a module begins
abbrev pub outside : Surroundings Block
outside = record { block = []; held_block = []; is_local = false; declaration = None; words = false; excused = false }

abbrev pub module_node : Node Block
module_node = plain outside

-- the list of the global declarations
abbrev pub globals_node : Node Block
globals_node = record { ahead = []; others = outside; next_declaration = Some 0; declares = globally; path = None }

-- a node whose fields stand in the module's block
pub record IsOutside (node : Node Block) : Type 0 where
  pub ahead : node.ahead ≡ []
  pub others : node.others ≡ outside
  pub declares : node.declares ≡ globally
  pub path : node.path ≡ None

pub later_outside : (node : Node Block) → IsOutside node → IsOutside (after_field node)
later_outside node h = record { ahead = ap later h.ahead; others = h.others; declares = h.declares; path = h.path }
  where
    later : List (Surroundings Block) → List (Surroundings Block)
    later [] = []
    later (x ∷ xs) = xs

pub globals_outside : IsOutside globals_node
globals_outside = record { ahead = refl; others = refl; declares = refl; path = refl }

module _ {I : Type 0} where
  pub record IsModule (u : UnitOf I) : Type 0 where
    pub imports : is_ident u.imports.label ≡ false
    pub directives : is_ident u.directives.label ≡ false
    pub declarations : u.declarations.label ≡ kind declarations_kind

  -- where its directives begin, and its declarations
  abbrev pub directives_place : UnitOf I → ℕ
  directives_place u = 0 + count u.imports.children

  abbrev pub directives_number : UnitOf I → ℕ
  directives_number u = 1 + blocks_of u.imports

  abbrev pub globals_place : UnitOf I → ℕ
  globals_place u = directives_place u + count u.directives.children

  abbrev pub globals_number : UnitOf I → ℕ
  globals_number u = directives_number u + blocks_of u.directives + 0

  abbrev pub imports_part : UnitOf I → List (Occurrence I)
  imports_part u = part module_node 0 1 u.imports

  abbrev pub directives_part : UnitOf I → List (Occurrence I)
  directives_part u = part module_node (directives_place u) (directives_number u) u.directives

  abbrev pub globals_part : UnitOf I → List (Occurrence I)
  globals_part u = occurrences_from globals_node (globals_place u) (globals_number u) u.declarations.children

  last_part : (p q : ℕ) (l : LabelOf I) (c : ForestOf I) → l ≡ kind declarations_kind → occurrences_from module_node p q (tree l c end) ≡ occurrences_from globals_node p (q + 0) c
  last_part p q l c e = subst (λ k. occurrences_from module_node p q (tree k c end) ≡ occurrences_from globals_node p (q + 0) c) (sym e) (append-nil (occurrences_from globals_node p (q + 0) c))

  pub in_parts : (u : UnitOf I) → IsModule u → occurrences u ≡ imports_part u ++ (directives_part u ++ globals_part u)
  in_parts u m =
      part_first u.imports.label u.imports.children (tree u.directives.label u.directives.children (tree u.declarations.label u.declarations.children end)) module_node 0 1 m.imports
      ∙ ap (λ xs. imports_part u ++ xs)
      (part_first u.directives.label u.directives.children (tree u.declarations.label u.declarations.children end) module_node (directives_place u) (directives_number u) m.directives
      ∙ ap (λ xs. directives_part u ++ xs) (last_part (globals_place u) (directives_number u + blocks_of u.directives) u.declarations.label u.declarations.children m.declarations))

  -- those after imports and directives
  pub globals_left : (u : UnitOf I) → IsModule u → drop (size u.directives) (drop (size u.imports) (occurrences u)) ≡ globals_part u
  globals_left u m =
      ap (λ xs. drop (size u.directives) (drop (size u.imports) xs)) (in_parts u m)
      ∙ (ap (drop (size u.directives)) (drop_first (size u.imports) (imports_part u) (directives_part u ++ globals_part u) (part_size u.imports module_node 0 1))
      ∙ drop_first (size u.directives) (directives_part u) (globals_part u) (part_size u.directives module_node (directives_place u) (directives_number u)))

  pub trees_again : (f : ForestOf I) → forest_of (trees f) ≡ f
  trees_again end = refl
  trees_again (tree l c o) = ap (λ f. tree l c f) (trees_again o)

  -- the identifiers of its declarations, one part for each
  abbrev pub global_parts : UnitOf I → List (List (Occurrence I))
  global_parts u = parts globals_node (globals_place u) (globals_number u) (declarations_in u)

  pub pieces_parts : (u : UnitOf I) → IsModule u → AreNodes (declarations_in u) → pieces u ≡ global_parts u
  pieces_parts u m nodes =
      ap (cut (declarations_in u)) (globals_left u m)
      ∙ (ap (λ f. cut (declarations_in u) (occurrences_from globals_node (globals_place u) (globals_number u) f)) (sym (trees_again u.declarations.children))
      ∙ parts_cut (declarations_in u) nodes globals_node (globals_place u) (globals_number u))
