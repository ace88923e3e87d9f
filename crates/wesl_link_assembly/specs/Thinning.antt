-- The directives that were met so far.
use Rattle.std.specs.Prelude.{◌≡◌, Option, Some, None, List, map}
use Rattle.wesl_tree_names.specs.Path.{Text}
use Rattle.wesl_tree_syntax.specs.Tree.{Tree, TreeOf, before, end, identifiers, respell, directive_node}
use Rattle.wesl_tree_syntax.specs.Unit.{name_in}
use Rattle.wesl_tree_syntax.specs.View.{placed, directive_view, texts_of}
use Rattle.wesl_tree_syntax.specs.declared.span.Spanned.{Spanned}
use Rattle.wesl_tree_syntax.specs.declared.declaration.GlobalDirective.{GlobalDirective}
use Rattle.wesl_link_assembly.specs.Directives.{last, AreThinned}
use Rattle.wesl_link_assembly.specs.declared.thinning.Met.{Met}
use Rattle.wesl_link_assembly.specs.declared.thinning.Thinning.{Thinning}

-- a directive, as its module spells it
abbrev pub spelled_directive : List Text → Spanned GlobalDirective → TreeOf Text
spelled_directive names d = respell (name_in names) (placed directive_view directive_node d)

-- directives as trees
abbrev pub directive_trees : List (Spanned GlobalDirective) → List Tree
directive_trees ds = map (placed directive_view directive_node) ds

-- the words of a directive: the names of its identifiers
abbrev pub words_in : List Text → Spanned GlobalDirective → List Text
words_in names d = map (name_in names) (identifiers (before (placed directive_view directive_node d) end))

-- a directive that was met, as its module spells it
abbrev pub told : Option Met → Option (TreeOf Text)
told None = None
told (Some m) = Some (spelled_directive m.names.now m.directive.now)

-- the directives that stay of all that were met
pub record IsThinning (all : List (TreeOf Text)) (t : Thinning) : Type 0 where
  pub thinned : AreThinned all t.directives.nodes (texts_of t.directives.words)
  pub last_met : last all ≡ told t.last
