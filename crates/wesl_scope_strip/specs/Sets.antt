-- Texts as a set.
use Rattle.std.specs.Prelude.{◌≡◌, ℕ, Bool, List, bytes_eq}
use Rattle.std.specs.HashSet.{HashSet, contains}
use Rattle.std.specs.List.{list_any}
use denote.Ref.{Bor}
use Rattle.wesl_tree_names.specs.Path.{Text}

-- whether a text is that of one of these
abbrev pub is_text_of : List (Bor Text) → Text → Bool
is_text_of ks t = list_any (λ k. bytes_eq k.now t) ks

-- the set has exactly these texts
abbrev pub HasThese : {S : Type 0} → List (Bor Text) → HashSet (Bor Text) S → Type 0
HasThese ks held = (n : Bor Text) → contains (λ a b. bytes_eq a.now b.now) held n ≡ is_text_of ks n.now
