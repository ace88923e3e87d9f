-- What visits see of a tree.
use Rattle.wesl_tree_syntax.specs.Tree.{Forest, Tree, end, tree, before}
use Rattle.wesl_tree_syntax.specs.Nodes.{without_words}
use Rattle.wesl_visit_collect.specs.Sought.{Sought, expressions, types, statements, attribute_lists}

-- visits of expressions and types see no words
abbrev pub seen : Sought → Forest → Forest
seen expressions = without_words
seen types = without_words
seen statements = λ f. f
seen attribute_lists = λ f. f

-- what stands below the first of trees side by side; nothing where there are none
abbrev pub inside : Forest → Forest
inside end = end
inside (tree l children others) = children

-- what visits of a kind see strictly below a node
abbrev pub below : Sought → Tree → Forest
below k t = inside (seen k (before t end))
