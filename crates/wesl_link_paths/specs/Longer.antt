-- Lists of paths that go on.
use Rattle.std.specs.Prelude.{◌≡◌, List, ◌++◌, get_or}
use Rattle.wesl_tree_names.specs.Path.{Path, root_path}
use Rattle.wesl_link_symbols.specs.declared.ids.PathId.{PathId}

-- the path of a number among these
abbrev pub path_in : List Path → PathId → Path
path_in paths p = get_or paths p.0 root_path

-- the list goes on from the other
abbrev pub IsLonger : {X : Type 0} → List X → List X → Type 0
IsLonger {X} old new = (more : List X) × (new ≡ old ++ more)
