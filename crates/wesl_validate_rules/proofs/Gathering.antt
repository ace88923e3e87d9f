-- What is gathered are the names that are bound.
use Rattle.std.proofs.Common.{◌≡◌, ℕ, Bool, false, List, [], ◌∷◌, ◌++◌, map, refl, sym, ap, ◌∙◌, append_assoc, ◌+◌, ◌<◌, ◌≤◌, length, get_or, drop, drop-cons, add-one, Vec, Global, take, zero, suc, arith}
use Rattle.std.specs.Prelude.{flat_map, if◌then◌else◌, Result, Ok, Err, OnOk}
use Rattle.std.proofs.lemmas.List.{append-nil, drop_all}
use Rattle.wesl_tree_syntax.specs.Tree.{Forest, end, tree, kind, at, ident, text, texts, truth, unary, binary, assignment, space, access, path, binder, reference, word, before, forest_of, import_node, declaration_node}
use Rattle.wesl_tree_syntax.specs.View.{entry_view, content_view, import_view, global_view, placed}
use Rattle.wesl_tree_syntax.specs.declared.span.Spanned.{Spanned}
use Rattle.wesl_tree_syntax.specs.declared.import.Import.{Import, out-Import}
use Rattle.wesl_tree_syntax.specs.declared.import.ImportStatement.{ImportStatement}
use Rattle.wesl_tree_syntax.specs.declared.import.ImportContent.{ImportContent, Collection}
use Rattle.wesl_tree_syntax.specs.declared.declaration.GlobalDeclaration.{GlobalDeclaration}
use Rattle.wesl_validate_rules.specs.Names.{binders_in, imported_in, declared_in, imported, declared}
use Rattle.wesl_validate_rules.specs.Gathered.{gathered}
use Rattle.wesl_tree_syntax.proofs.Views.{view_collection, view_entry}

-- of a tree whose label is no name, and of those after it
inner : (found : List ℕ) (children others : Forest) → ((ns : List ℕ) → gathered ns children ≡ ns ++ binders_in children) → ((ns : List ℕ) → gathered ns others ≡ ns ++ binders_in others) → gathered (gathered found children) others ≡ found ++ (binders_in children ++ binders_in others)
inner found children others f g = g (gathered found children) ∙ (ap (λ ns. ns ++ binders_in others) (f found) ∙ append_assoc found (binders_in children) (binders_in others))

pub gathered_is : (found : List ℕ) (f : Forest) → gathered found f ≡ found ++ binders_in f
gathered_is found end = sym (append-nil found)
gathered_is found (tree (ident binder x) children others) = gathered_is (found ++ x ∷ []) others ∙ append_assoc found (x ∷ []) (binders_in others)
gathered_is found (tree (ident reference x) children others) = inner found children others (λ ns. gathered_is ns children) (λ ns. gathered_is ns others)
gathered_is found (tree (ident word x) children others) = inner found children others (λ ns. gathered_is ns children) (λ ns. gathered_is ns others)
gathered_is found (tree (kind k) children others) = inner found children others (λ ns. gathered_is ns children) (λ ns. gathered_is ns others)
gathered_is found (tree (at k s e) children others) = inner found children others (λ ns. gathered_is ns children) (λ ns. gathered_is ns others)
gathered_is found (tree (text x) children others) = inner found children others (λ ns. gathered_is ns children) (λ ns. gathered_is ns others)
gathered_is found (tree (texts x) children others) = inner found children others (λ ns. gathered_is ns children) (λ ns. gathered_is ns others)
gathered_is found (tree (truth x) children others) = inner found children others (λ ns. gathered_is ns children) (λ ns. gathered_is ns others)
gathered_is found (tree (unary x) children others) = inner found children others (λ ns. gathered_is ns children) (λ ns. gathered_is ns others)
gathered_is found (tree (binary x) children others) = inner found children others (λ ns. gathered_is ns children) (λ ns. gathered_is ns others)
gathered_is found (tree (assignment x) children others) = inner found children others (λ ns. gathered_is ns children) (λ ns. gathered_is ns others)
gathered_is found (tree (space x) children others) = inner found children others (λ ns. gathered_is ns children) (λ ns. gathered_is ns others)
gathered_is found (tree (access x) children others) = inner found children others (λ ns. gathered_is ns children) (λ ns. gathered_is ns others)
gathered_is found (tree (path p) children others) = inner found children others (λ ns. gathered_is ns children) (λ ns. gathered_is ns others)

-- what is gathered where there is no condition
pub added_plain : (old now : List ℕ) (t : Bool) (f : Forest) → t ≡ false → now ≡ gathered old f → now ≡ old ++ (if t then [] else binders_in f)
added_plain old now t f e n = n ∙ (gathered_is old f ∙ ap (λ s. old ++ (if s then [] else binders_in f)) (sym e))

pub on_ok : {X E : Type 0} (r : Result X E) (P Q : Type 0) → (P → Q) → OnOk r P → OnOk r Q
on_ok (Ok x) P Q f h = f h
on_ok (Err e) P Q f h = h

abbrev pub imported_by : Spanned ImportStatement → List ℕ
imported_by s = imported_in (before (import_view s.node) end)

pub all_imported : (xs : List (Spanned ImportStatement)) → flat_map imported_by xs ≡ imported (forest_of (map (placed import_view import_node) xs))
all_imported [] = refl
all_imported (x ∷ xs) = ap (λ ns. imported_by x ++ ns) (all_imported xs)

abbrev pub declared_by : Spanned GlobalDeclaration → List ℕ
declared_by s = declared_in (before (global_view s.node) end)

pub all_declared : (xs : List (Spanned GlobalDeclaration)) → flat_map declared_by xs ≡ declared (forest_of (map (placed global_view declaration_node) xs))
all_declared [] = refl
all_declared (x ∷ xs) = ap (λ ns. declared_by x ++ ns) (all_declared xs)

-- the entries of a collection, one after the other
abbrev entries_gathered : List ℕ → List Import → List ℕ
entries_gathered found is = gathered found (forest_of (map entry_view is))

pub entry_next : (first found now : List ℕ) (is : List Import) (i : ℕ) (x : Import) → i < length is → x ≡ get_or is i x → now ≡ gathered found (before (content_view (out-Import x).content) end)
    → entries_gathered first is ≡ entries_gathered found (drop i is) → entries_gathered first is ≡ entries_gathered now (drop (i + 1) is)
entry_next first found now is i x h e added so =
    so ∙ (step ∙ ap (λ ns. entries_gathered ns (drop (i + 1) is)) (ap (λ t. gathered found (before t end)) (view_entry x) ∙ sym added))
  where
    step : entries_gathered found (drop i is) ≡ entries_gathered (gathered found (before (entry_view x) end)) (drop (i + 1) is)
    step = rw (drop-cons is i x h, ← e, add-one) refl

pub entries_all : (first found : List ℕ) (content : ImportContent) (es : Vec Import Global) (is : List Import) (i : ℕ) → content ≡ Collection es → is ≡ es.items → length is ≤ i
    → entries_gathered first is ≡ entries_gathered found (drop i is) → found ≡ gathered first (before (content_view content) end)
entries_all first found content es is i shape same past so =
    sym (ap (λ t. gathered first (before t end)) (ap content_view shape ∙ view_collection es) ∙ (ap (entries_gathered first) (sym same) ∙ (so ∙ ap (entries_gathered found) (drop_all i is past))))

-- what one more node adds
joined_suc : {X : Type 0} (f : X → List ℕ) (xs : List X) (i : ℕ) (x : X) → i < length xs → x ≡ get_or xs i x → flat_map f (take (suc i) xs) ≡ flat_map f (take i xs) ++ f x
joined_suc f [] i x h e = absurd (omega (arith, h))
joined_suc f (y ∷ xs) zero x h e = append-nil (f y) ∙ ap f (sym e)
joined_suc f (y ∷ xs) (suc i) x h e = ap (λ ns. f y ++ ns) (joined_suc f xs i x (omega (arith, h)) e) ∙ sym (append_assoc (f y) (flat_map f (take i xs)) (f x))

pub added_next : {X : Type 0} (f : X → List ℕ) (xs : List X) (i : ℕ) (x : X) (first old now : List ℕ) → i < length xs → x ≡ get_or xs i x → now ≡ old ++ f x → old ≡ first ++ flat_map f (take i xs) → now ≡ first ++ flat_map f (take (i + 1) xs)
added_next f xs i x first old now h e added so =
    added ∙ (ap (λ ns. ns ++ f x) so ∙ (append_assoc first (flat_map f (take i xs)) (f x) ∙ ap (λ ns. first ++ ns) (sym joined)))
  where
    joined : flat_map f (take (i + 1) xs) ≡ flat_map f (take i xs) ++ f x
    joined = rw add-one (joined_suc f xs i x h e)
