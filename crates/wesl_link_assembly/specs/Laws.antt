-- Laws of the definitions, as functions of the crate cite them.
use Rattle.std.specs.Prelude.{◌≡◌, ℕ, List, Contains, map}
use Rattle.wesl_tree_names.specs.Path.{Text, Path}
use Rattle.wesl_tree_syntax.specs.Unit.{UnitOf, UnitView, forest_of_unit}
use Rattle.wesl_link_assembly.specs.Denotations.{DenotationOf, free_name}
use Rattle.wesl_link_assembly.specs.Linked.{shape, IsLinkedAs}
use Rattle.wesl_link_assembly.specs.Views.{Meaning}

-- `f` tells what identifiers stand for in other words: those that stand for different things still do, and each is
-- printed as before, as a name that nothing declares is printed as itself. Then a unit that is linked as they were told
-- is linked as they are told now.
abbrev pub MeaningsCanBeRetold : Type 0
MeaningsCanBeRetold =
    (f : Meaning → DenotationOf Path Text ℕ) (print : Meaning → Text) (reprint : DenotationOf Path Text ℕ → Text) (nodes : UnitOf ℕ) (others : UnitOf Text) (ds : List Meaning) (unit : UnitView)
    → ((d : Meaning) → Contains ds d → reprint (f d) ≡ print d)
    → ((n : Text) → reprint (free_name n) ≡ n)
    → ((c d : Meaning) → Contains ds c → Contains ds d → f c ≡ f d → c ≡ d)
    → shape (forest_of_unit others) ≡ shape (forest_of_unit nodes)
    → IsLinkedAs print nodes ds unit
    → IsLinkedAs reprint others (map f ds) unit
