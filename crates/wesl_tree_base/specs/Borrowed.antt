-- What a list of borrowed texts says.
use Rattle.std.specs.Prelude.{List, map}
use denote.Ref.{Bor}
use Rattle.wesl_tree_base.specs.Pieces.{Text}

-- the texts that the references lead to
abbrev pub texts : List (Bor Text) → List Text
texts = map (λ x. x.now)
