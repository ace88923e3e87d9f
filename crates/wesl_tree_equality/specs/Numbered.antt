-- What a node says wherever it stands.
use Rattle.wesl_tree_syntax.specs.Tree.{Tree, respell}

-- the tree of a node without its places in the source, each identifier by its number
abbrev pub numbered : Tree → Tree
numbered = respell (λ i. i)
