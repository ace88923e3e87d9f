-- Trees in which no name is declared.
use Rattle.std.proofs.Common.{◌≡◌, Bool, true, false, ◌&&◌, List, [], ◌++◌, refl}
use Rattle.wesl_tree_names.specs.Path.{Text}
use Rattle.wesl_tree_syntax.specs.Tree.{Label, Forest, Tree, end, tree, ident, binder}
use Rattle.wesl_scope_words.specs.Said.{words_of, said}
use Rattle.std.proofs.lemmas.Bool.{and_parts}

-- whether a label is not that of a name that is declared
abbrev pub is_silent : Label → Bool
is_silent (ident binder x) = false
is_silent _ = true

-- whether none of these trees holds such a label
abbrev pub is_quiet : Forest → Bool
is_quiet end = true
is_quiet (tree l children others) = is_silent l && is_quiet children && is_quiet others

-- nor does this one
abbrev pub IsQuiet : Tree → Type 0
IsQuiet t = (is_silent t.label && is_quiet t.children) ≡ true

joins : (a b : List (List Text)) → a ≡ [] → b ≡ [] → a ++ b ≡ []
joins a b p q = rw (p, q) refl

-- nothing is said there
pub nothing_said : (ws : List Text) (f : Forest) → is_quiet f ≡ true → said ws f ≡ []
nothing_said ws end h = refl
nothing_said ws (tree l children others) h =
    let a = and_parts (is_silent l && is_quiet children) (is_quiet others) h in
    let b = and_parts (is_silent l) (is_quiet children) a.0 in
    by l b.0 (λ vs. nothing_said vs children b.1) (nothing_said ws others a.1)
  where
    by : (l : Label) → is_silent l ≡ true → ((vs : List Text) → said vs children ≡ []) → said ws others ≡ [] → said ws (tree l children others) ≡ []
    by (ident binder x) h inner more = absurd (let z : ⊥ = cc in z)
    by (ident r x) h inner more = more
    by l h inner more = joins (said (words_of l children) children) (said ws others) (inner (words_of l children)) more
