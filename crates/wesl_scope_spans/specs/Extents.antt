-- The nodes of a module that have a span, and the identifiers in each.
use Rattle.std.specs.Prelude.{ℕ, suc, ◌+◌, Bool, ◌&&◌, nat_le, nat_lt, List, [], ◌∷◌, ◌++◌}
use Rattle.wesl_tree_base.specs.declared.span.Span.{Span}
use Rattle.wesl_tree_syntax.specs.Tree.{ForestOf, end, tree, at, ident}
use Rattle.wesl_tree_syntax.specs.Unit.{UnitOf, forest_of_unit}
use Rattle.wesl_scope_occurrences.specs.Occurrences.{count}
use Rattle.wesl_scope_spans.specs.Spans.{from_to}

-- a node by its span: how many identifiers come before it, and how many are in it
pub record Extent : Type 0 where
  pub span : Span
  pub first : ℕ
  pub size : ℕ

-- whether the identifier at place p is in the node
abbrev pub holds : ℕ → Extent → Bool
holds p n = nat_le n.first p && nat_lt p (n.first + n.size)

module _ {I : Type 0} where
  -- those in trees side by side, where p identifiers come before, in document order: a node stands before those in it
  abbrev pub extents_from : ℕ → ForestOf I → List Extent
  extents_from p end = []
  extents_from p (tree (ident r x) children others) = extents_from (suc p) others
  extents_from p (tree (at k s e) children others) =
      record { span = from_to s e; first = p; size = count children } ∷ (extents_from p children ++ extents_from (p + count children) others)
  extents_from p (tree l children others) = extents_from p children ++ extents_from (p + count children) others

  -- those of a module
  abbrev pub extents : UnitOf I → List Extent
  extents u = extents_from 0 (forest_of_unit u)
