-- The identifiers of a declaration among those of its module.
use Rattle.std.proofs.Common.{◌≡◌, ◌⊎◌, inl, inr, ℕ, ◌+◌, ◌≤◌, List, ◌∷◌, ◌++◌, Contains, arith, refl, sym, ap, ◌∙◌, subst}
use Rattle.std.proofs.lemmas.List.Elements.{Contains-append_cases, Contains-append_left, Contains-append_right}
use Rattle.wesl_tree_syntax.specs.Tree.{TreeOf, end, before}
use Rattle.wesl_tree_syntax.specs.Unit.{UnitOf}
use Rattle.wesl_scope_occurrences.specs.Occurrences.{Block, Occurrence, Node, opens, after_field, count, blocks_in, occurrences, occurrences_from}
use Rattle.wesl_scope_occurrences.specs.Pieces.{declarations_in}
use Rattle.wesl_link_laws.proofs.Alike.{shape_in, blocks_unfold}
use Rattle.wesl_link_laws.proofs.Parts.{joined, part, parts, blocks_of, AreNodes, parts_joined}
use Rattle.wesl_link_laws.proofs.Ranges.{Within, TopNode, all_within, every_held, inner_number, StandsAt, first_tree, later_tree, starts_later, in_part}
use Rattle.wesl_link_laws.proofs.Scoped.{Around, itself, further}
use Rattle.wesl_link_laws.proofs.Modules.{module_node, globals_node, IsModule, in_parts, imports_part, directives_part, globals_part, directives_place, directives_number, globals_place, globals_number, global_parts, trees_again}

-- a block that stands round one of a tree is the module's or of that tree
pub around_within : (first n : ℕ) (b c : Block) → Around b c → Within first n c → Within first n b
around_within first n _ _ itself h = h
around_within first n b _ (further a) h = around_within first n b _ a h.1

top : TopNode module_node
top = record { no_more = refl; others = (refl, refl) }

pub top_globals : TopNode globals_node
top_globals = record { no_more = refl; others = (refl, refl) }

module _ {I : Type 0} where
  pub part_inside : (node : Node Block) (p q : ℕ) (ts : List (TreeOf I)) (t : TreeOf I) (n : Node Block) (r s : ℕ) → StandsAt node p q ts t n r s → (o : Occurrence I) → Contains (part n r s t) o → Contains (joined (parts node p q ts)) o
  part_inside _ _ _ _ _ _ _ _ (first_tree node p q t ts) o c = Contains-append_left (part node p q t) (joined (parts (after_field node) (p + count t.children) (q + blocks_of t) ts)) o c
  part_inside _ _ _ _ _ _ _ _ (later_tree node p q u ts t n r s at) o c =
      Contains-append_right (part node p q u) (joined (parts (after_field node) (p + count u.children) (q + blocks_of u) ts)) o (part_inside (after_field node) (p + count u.children) (q + blocks_of u) ts t n r s at o c)

  pub globals_joined : (u : UnitOf I) → AreNodes (declarations_in u) → globals_part u ≡ joined (global_parts u)
  globals_joined u nodes =
      ap (occurrences_from globals_node (globals_place u) (globals_number u)) (sym (trees_again u.declarations.children))
      ∙ parts_joined (declarations_in u) nodes globals_node (globals_place u) (globals_number u)

  -- what stands in a block of a declaration is no import nor directive
  pub in_globals : (u : UnitOf I) → IsModule u → (o : Occurrence I) (k : ℕ) (outer : Block) → Contains (occurrences u) o → o.block ≡ k ∷ outer → globals_number u ≤ k → Contains (globals_part u) o
  in_globals u m o k outer held e low = by (Contains-append_cases (imports_part u) (directives_part u ++ globals_part u) o (subst (λ os. Contains os o) (in_parts u m) held))
    where
      later : Contains (directives_part u) o ⊎ Contains (globals_part u) o → Contains (globals_part u) o
      later (inr h) = h
      later (inl h) =
          let b = blocks_in (before u.directives end) in
          let size : b ≡ opens (shape_in u.directives.label) + blocks_in u.directives.children + 0 = blocks_unfold u.directives.label u.directives.children end m.directives in
          let w = every_held (λ x. Within (directives_number u) b x.block) (directives_part u) o (all_within (before u.directives end) module_node top (directives_place u) (directives_number u)) h in
          let (d, is, small) = inner_number (directives_number u) b k outer o.block e w in
          absurd (omega (arith, size, is, small, low))

      by : Contains (imports_part u) o ⊎ Contains (directives_part u ++ globals_part u) o → Contains (globals_part u) o
      by (inr h) = later (Contains-append_cases (directives_part u) (globals_part u) o h)
      by (inl h) =
          let b = blocks_in (before u.imports end) in
          let size : b ≡ opens (shape_in u.imports.label) + blocks_in u.imports.children + 0 = blocks_unfold u.imports.label u.imports.children end m.imports in
          let w = every_held (λ x. Within 1 b x.block) (imports_part u) o (all_within (before u.imports end) module_node top 0 1) h in
          let (d, is, small) = inner_number 1 b k outer o.block e w in
          absurd (omega (arith, size, is, small, low))

  -- so it is in the declaration
  pub in_declaration : (u : UnitOf I) → IsModule u → AreNodes (declarations_in u) → (t : TreeOf I) (n : Node Block) (r s : ℕ) → StandsAt globals_node (globals_place u) (globals_number u) (declarations_in u) t n r s
      → (o : Occurrence I) (k : ℕ) (outer : Block) → Contains (occurrences u) o → o.block ≡ k ∷ outer → Within s (blocks_of t) o.block → Contains (part n r s t) o
  in_declaration u m nodes t n r s at o k outer held e w =
      let (d, is, small) = inner_number s (blocks_of t) k outer o.block e w in
      let first = starts_later globals_node (globals_place u) (globals_number u) (declarations_in u) t n r s at in
      let inside = in_globals u m o k outer held e (omega (arith, first, is)) in
      in_part globals_node (globals_place u) (globals_number u) (declarations_in u) t n r s at nodes top_globals o k outer (subst (λ os. Contains os o) (globals_joined u nodes) inside) e (omega (arith, is)) (omega (arith, is, small))
