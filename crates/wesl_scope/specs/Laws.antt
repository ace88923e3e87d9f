-- Laws of the definitions, as functions of the crate cite them.
use Rattle.std.specs.Prelude.{◌≡◌, ℕ, ◌<◌, Bool, true, List, []}
use Rattle.std.specs.List.{Contains}
use Rattle.wesl_tree_names.specs.Path.{Text}
use Rattle.wesl_tree_syntax.specs.Unit.{UnitView, name_in}
use Rattle.wesl_scope_strip.specs.Declarations.{count, declared_in, referred_in, IsKept}
use Rattle.wesl_scope.specs.Strip.{IsStripped}

-- the stripped module is one
abbrev pub StripsOneWay : Type 0
StripsOneWay = (keep : List Text) (old a b : UnitView) → IsStripped keep old a → IsStripped keep old b → a.declarations ≡ b.declarations

-- no less a set holds what is kept: each set with the three properties holds all that is kept
abbrev pub KeepsNoMore : Type 0
KeepsNoMore = (u : UnitView) (keep : List Text) (S : ℕ → Bool)
    → ((j m : ℕ) → j < count u → Contains (declared_in u j) m → Contains keep (name_in u.names m) → S j ≡ true)
    → ((j : ℕ) → j < count u → declared_in u j ≡ [] → S j ≡ true)
    → ((i j m : ℕ) → j < count u → S i ≡ true → Contains (referred_in u i) m → Contains (declared_in u j) m → S j ≡ true)
    → (j : ℕ) → IsKept u keep j → S j ≡ true
