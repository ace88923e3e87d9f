-- One walk over a tree, which finds the nodes of a kind. Labels come first, so that it goes on at each label whatever is
-- looked for.
use Rattle.std.specs.Prelude.{Bool, true, false, List, [], ◌∷◌, ◌++◌, if◌then◌else◌}
use Rattle.wesl_tree_syntax.specs.Tree.{Label, Forest, Tree, end, tree, before, kind, if_attribute, elif_attribute, import_statement, diagnostic_directive, enable_directive, requires_directive}
use Rattle.wesl_tree_syntax.specs.Nodes.{without_attributes}
use Rattle.wesl_visit_collect.specs.Picks.{picks}
use Rattle.wesl_visit_collect.specs.Sought.{Sought, expressions, types}
use Rattle.wesl_visit_collect.specs.Seen.{inside}

-- whether words are left out
abbrev pub passes_words : Sought → Bool
passes_words expressions = true
passes_words types = true
passes_words _ = false

-- what is seen below a label
abbrev pub sight_below : Sought → Label → Forest → Forest
sight_below k (kind if_attribute) f = if passes_words k then end else f
sight_below k (kind elif_attribute) f = if passes_words k then end else f
sight_below k (kind import_statement) f = if passes_words k then without_attributes f else f
sight_below k (kind diagnostic_directive) f = if passes_words k then without_attributes f else f
sight_below k (kind enable_directive) f = if passes_words k then without_attributes f else f
sight_below k (kind requires_directive) f = if passes_words k then without_attributes f else f
sight_below k _ f = f

-- What a walk sees of trees side by side. Where it looks for expressions or types, it sees nothing below `@if` and `@elif`,
-- and empty lists of attributes at imports and directives; else it sees all.
abbrev pub sight : Sought → Forest → Forest
sight k end = end
sight k (tree l children others) = tree l (sight_below k l (sight k children)) (sight k others)

-- the nodes of a kind: the outermost ones, or with those inside them
abbrev pub chosen : Sought → Bool → Forest → List Tree
chosen k deep end = []
chosen k deep (tree l children others) =
    (if picks k l then record { label = l; children = children } ∷ (if deep then chosen k deep children else []) else chosen k deep children) ++ chosen k deep others

-- those that are found in what stands side by side
abbrev pub found_in : Sought → Bool → Forest → List Tree
found_in k deep f = chosen k deep (sight k f)

-- the tree, where it is of the kind
abbrev pub itself : Sought → Tree → List Tree
itself k t = if picks k t.label then t ∷ [] else []

-- whether those below a node are found too
abbrev pub goes_on : Sought → Bool → Label → Bool
goes_on k deep l = if picks k l then deep else true

-- those that are found strictly below a node
abbrev pub strictly : Sought → Bool → Tree → List Tree
strictly k deep t = chosen k deep (inside (sight k (before t end)))
