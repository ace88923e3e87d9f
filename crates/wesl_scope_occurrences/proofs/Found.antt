-- The names that a walk finds, after those found before.
use Rattle.std.proofs.Common.{◌≡◌, ℕ, zero, suc, ◌+◌, ◌<◌, List, [], ◌∷◌, ◌++◌, map, length, get_or, take, refl, sym, ap, ◌∙◌, arith, append_assoc, append-nil, add-one}
use Rattle.std.proofs.lemmas.List.{map-append}
use Rattle.wesl_tree_syntax.specs.Tree.{Label, Forest, end, tree, kind, at, ident, text, texts, truth, unary, binary, assignment, space, access, path, identifiers}
use Rattle.wesl_scope_occurrences.specs.Occurrences.{node_of, opened_by, here_in}
use Rattle.wesl_scope_occurrences.specs.Walk.{Found, State, Fields, numbers_at, opening, ended_at, all_ended, closed, stepped, or_found, walk}
use Rattle.wesl_scope_occurrences.specs.declared.occurrence.Occurrence.{Occurrence}

abbrev named_by : Found → ℕ
named_by o = o.name

abbrev pub names : State → List ℕ
names s = map named_by s.found

ended_names : (e p : ℕ) (os : List Found) → map named_by (ended_at e p os) ≡ map named_by os
ended_names e p [] = refl
ended_names e zero (o ∷ os) = refl
ended_names e (suc p) (o ∷ os) = ap (λ xs. o.name ∷ xs) (ended_names e p os)

all_ended_names : (e : ℕ) (ps : List ℕ) (os : List Found) → map named_by (all_ended e ps os) ≡ map named_by os
all_ended_names e [] os = refl
all_ended_names e (p ∷ ps) os = all_ended_names e ps (ended_at e p os) ∙ ended_names e p os

closed_names : (ps : List ℕ) (s : State) → names (closed ps s) ≡ names s
closed_names [] s = refl
closed_names (p ∷ ps) s = all_ended_names (length s.found) (p ∷ ps) s.found

opening_names : (n b : ℕ) (s : State) → names (opening n b s) ≡ names s
opening_names zero b s = refl
opening_names (suc zero) b s = refl
opening_names (suc (suc n)) b s = refl

-- what is found first, and what comes after it
then : (s t u : State) (xs ys : List ℕ) → names t ≡ names s ++ xs → names u ≡ names t ++ ys → names u ≡ names s ++ (xs ++ ys)
then s t u xs ys e f = f ∙ (ap (λ zs. zs ++ ys) e ∙ append_assoc (names s) xs ys)

abbrev Finds : Forest → Type 0
Finds f = (fs : Fields) (s : State) → names (walk fs s f) ≡ names s ++ identifiers f

-- a tree that is no identifier, and those after it
in_tree : (l : Label) (children others : Forest) (fs : Fields) (s : State) → Finds children → Finds others
    → names (walk (stepped fs l (length s.found)) (walk (record { node = node_of l children (numbers_at (length s.outer)) (here_in fs.node); named = [] }) (opening (opened_by l) (here_in fs.node).block s) children) others)
    ≡ names s ++ (identifiers children ++ identifiers others)
in_tree l children others fs s inner outer =
    let fields : Fields = record { node = node_of l children (numbers_at (length s.outer)) (here_in fs.node); named = [] } in
    let opened : State = opening (opened_by l) (here_in fs.node).block s in
    let t : State = walk fields opened children in
    let u : State = walk (stepped fs l (length s.found)) t others in
    then s t u (identifiers children) (identifiers others)
    (inner fields opened ∙ ap (λ xs. xs ++ identifiers children) (opening_names (opened_by l) (here_in fs.node).block s))
    (outer (stepped fs l (length s.found)) t)

pub walk_names : (f : Forest) (fs : Fields) (s : State) → names (walk fs s f) ≡ names s ++ identifiers f
walk_names end fs s = closed_names fs.named s ∙ sym (append-nil (names s))
walk_names (tree (ident r x) children others) fs s =
    let inner : State = walk (record { node = node_of (ident r x) children (numbers_at (length s.outer)) (here_in fs.node); named = [] }) s children in
    let t : State = or_found (ident r x) fs.node s inner in
    then s t (walk (stepped fs (ident r x) (length s.found)) t others) (x ∷ []) (identifiers others)
    (map-append named_by s.found _) (walk_names others (stepped fs (ident r x) (length s.found)) t)
walk_names (tree (kind k) children others) fs s = in_tree (kind k) children others fs s (λ gs t. walk_names children gs t) (λ gs t. walk_names others gs t)
walk_names (tree (at k i j) children others) fs s = in_tree (at k i j) children others fs s (λ gs t. walk_names children gs t) (λ gs t. walk_names others gs t)
walk_names (tree (text v) children others) fs s = in_tree (text v) children others fs s (λ gs t. walk_names children gs t) (λ gs t. walk_names others gs t)
walk_names (tree (texts v) children others) fs s = in_tree (texts v) children others fs s (λ gs t. walk_names children gs t) (λ gs t. walk_names others gs t)
walk_names (tree (truth v) children others) fs s = in_tree (truth v) children others fs s (λ gs t. walk_names children gs t) (λ gs t. walk_names others gs t)
walk_names (tree (unary v) children others) fs s = in_tree (unary v) children others fs s (λ gs t. walk_names children gs t) (λ gs t. walk_names others gs t)
walk_names (tree (binary v) children others) fs s = in_tree (binary v) children others fs s (λ gs t. walk_names children gs t) (λ gs t. walk_names others gs t)
walk_names (tree (assignment v) children others) fs s = in_tree (assignment v) children others fs s (λ gs t. walk_names children gs t) (λ gs t. walk_names others gs t)
walk_names (tree (space v) children others) fs s = in_tree (space v) children others fs s (λ gs t. walk_names children gs t) (λ gs t. walk_names others gs t)
walk_names (tree (access v) children others) fs s = in_tree (access v) children others fs s (λ gs t. walk_names children gs t) (λ gs t. walk_names others gs t)
walk_names (tree (path v) children others) fs s = in_tree (path v) children others fs s (λ gs t. walk_names children gs t) (λ gs t. walk_names others gs t)

-- ---- the words of a directive

next_ident : (xs : List Occurrence) (i : ℕ) (x : Occurrence) → i < length xs → x ≡ get_or xs i x → map (λ o. o.ident.0) (take (suc i) xs) ≡ map (λ o. o.ident.0) (take i xs) ++ x.ident.0 ∷ []
next_ident [] i x h is = absurd (omega arith)
next_ident (y ∷ ys) zero x h is = ap (λ (z : Occurrence). z.ident.0 ∷ []) (sym is)
next_ident (y ∷ ys) (suc i) x h is = ap (λ ns. y.ident.0 ∷ ns) (next_ident ys i x (omega arith) is)

-- one more of them
pub idents_taken : (xs : List Occurrence) (i : ℕ) (x : Occurrence) → i < length xs → x ≡ get_or xs i x → map (λ o. o.ident.0) (take (i + 1) xs) ≡ map (λ o. o.ident.0) (take i xs) ++ x.ident.0 ∷ []
idents_taken xs i x h is = rw add-one (next_ident xs i x h is)
