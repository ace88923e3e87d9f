use Rattle.wesl_tree_base.specs.declared.span.Span.{Span}
use Rattle.wesl_tree_syntax.specs.Tree.{import_node}
use Rattle.wesl_tree_syntax.specs.View.{import_view, placed}
use Rattle.wesl_scope_spans.proofs.Stepped.{Walked}
use Rattle.wesl_scope_spans.proofs.imports.in_imports.Given as goal

abbrev pub invariant-loop-import : goal.invariant-loop-import
invariant-loop-import l = (s : Span) → Walked (placed import_view import_node) s l.initial.places l.import-items l.import-index l.places
