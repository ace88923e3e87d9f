-- The pieces of a module's identifiers.
use Rattle.std.proofs.Common.{◌≡◌, ℕ, zero, suc, ◌+◌, List, [], ◌∷◌, ◌++◌, map, length, refl, sym, ◌∙◌, ap, subst, arith, length-append}
use Rattle.std.proofs.lemmas.List.{length-map}
use Rattle.std.specs.Prelude.{take, drop}
use Rattle.wesl_tree_syntax.specs.Tree.{LabelOf, ForestOf, TreeOf, trees, before, end, tree, kind, at, ident, text, texts, truth, unary, binary, assignment, space, access, path, identifiers, declarations}
use Rattle.wesl_tree_syntax.specs.Unit.{UnitOf, forest_of_unit}
use Rattle.wesl_scope_occurrences.specs.Occurrences.{Occurrence, occurrences}
use Rattle.wesl_scope_occurrences.specs.Pieces.{size, cut, pieces, declarations_in}
use Rattle.wesl_scope_occurrences.proofs.Names.{names_each}

-- ---- lists

take_length : {X : Type 0} (xs ys : List X) → take (length xs) (xs ++ ys) ≡ xs
take_length [] ys = refl
take_length (x ∷ xs) ys = ap (λ l. x ∷ l) (take_length xs ys)

drop_length : {X : Type 0} (xs ys : List X) → drop (length xs) (xs ++ ys) ≡ ys
drop_length [] ys = refl
drop_length (x ∷ xs) ys = drop_length xs ys

pub map_take : {X Y : Type 0} (f : X → Y) (n : ℕ) (xs : List X) → map f (take n xs) ≡ take n (map f xs)
map_take f zero xs = refl
map_take f (suc n) [] = refl
map_take f (suc n) (x ∷ xs) = ap (λ l. f x ∷ l) (map_take f n xs)

pub map_drop : {X Y : Type 0} (f : X → Y) (n : ℕ) (xs : List X) → map f (drop n xs) ≡ drop n (map f xs)
map_drop f zero xs = refl
map_drop f (suc n) [] = refl
map_drop f (suc n) (x ∷ xs) = map_drop f n xs

pub append_nil : {X : Type 0} (xs : List X) → xs ++ [] ≡ xs
append_nil [] = refl
append_nil (x ∷ xs) = ap (λ l. x ∷ l) (append_nil xs)

-- ---- trees

-- how many identifiers trees have
abbrev pub total : {I : Type 0} → List (TreeOf I) → ℕ
total [] = 0
total (t ∷ ts) = size t + total ts

module _ {I : Type 0} where
  -- the identifiers of a tree, and then those of the others
  first_of : (l : LabelOf I) (c o : ForestOf I) → identifiers (tree l c o) ≡ identifiers (tree l c end) ++ identifiers o
  first_of (ident r x) c o = refl
  first_of (kind k) c o = ap (λ l. l ++ identifiers o) (sym (append_nil (identifiers c)))
  first_of (at k i j) c o = ap (λ l. l ++ identifiers o) (sym (append_nil (identifiers c)))
  first_of (text v) c o = ap (λ l. l ++ identifiers o) (sym (append_nil (identifiers c)))
  first_of (texts v) c o = ap (λ l. l ++ identifiers o) (sym (append_nil (identifiers c)))
  first_of (truth v) c o = ap (λ l. l ++ identifiers o) (sym (append_nil (identifiers c)))
  first_of (unary v) c o = ap (λ l. l ++ identifiers o) (sym (append_nil (identifiers c)))
  first_of (binary v) c o = ap (λ l. l ++ identifiers o) (sym (append_nil (identifiers c)))
  first_of (assignment v) c o = ap (λ l. l ++ identifiers o) (sym (append_nil (identifiers c)))
  first_of (space v) c o = ap (λ l. l ++ identifiers o) (sym (append_nil (identifiers c)))
  first_of (access v) c o = ap (λ l. l ++ identifiers o) (sym (append_nil (identifiers c)))
  first_of (path v) c o = ap (λ l. l ++ identifiers o) (sym (append_nil (identifiers c)))

  pub cut_map : {X Y : Type 0} (f : X → Y) (ts : List (TreeOf I)) (xs : List X) → map (map f) (cut ts xs) ≡ cut ts (map f xs)
  cut_map f [] xs = refl
  cut_map f (t ∷ ts) xs =
      ap (λ l. l ∷ map (map f) (cut ts (drop (size t) xs))) (map_take f (size t) xs)
      ∙ ap (λ l. take (size t) (map f xs) ∷ l) (cut_map f ts (drop (size t) xs) ∙ ap (cut ts) (map_drop f (size t) xs))

  cut_all : (f : ForestOf I) → cut (trees f) (identifiers f) ≡ map (λ t. identifiers (before t end)) (trees f)
  cut_all end = refl
  cut_all (tree l c o) =
      let a = identifiers (tree l c end) in
      ap (λ xs. take (length a) xs ∷ cut (trees o) (drop (length a) xs)) (first_of l c o)
      ∙ (ap (λ xs. xs ∷ cut (trees o) (drop (length a) (a ++ identifiers o))) (take_length a (identifiers o))
      ∙ ap (λ xs. a ∷ xs) (ap (cut (trees o)) (drop_length a (identifiers o)) ∙ cut_all o))

  abbrev name_in_it : Occurrence I → I
  name_in_it o = o.name

  pub pieces_are : (u : UnitOf I) → u.declarations.label ≡ kind declarations
      → map (map (λ o. o.name)) (pieces u) ≡ map (λ t. identifiers (before t end)) (declarations_in u)
  pieces_are u label =
      let a = identifiers (before u.imports end) in
      let b = identifiers (before u.directives end) in
      let c = identifiers (before u.declarations end) in
      let whole : map name_in_it (occurrences u) ≡ a ++ (b ++ c) =
      names_each u ∙ (first_of u.imports.label u.imports.children (tree u.directives.label u.directives.children (tree u.declarations.label u.declarations.children end))
      ∙ ap (λ l. a ++ l) (first_of u.directives.label u.directives.children (tree u.declarations.label u.declarations.children end))) in
      let inner : c ≡ identifiers u.declarations.children =
      subst (λ (l : LabelOf I). identifiers (tree l u.declarations.children end) ≡ identifiers u.declarations.children) (sym label) (append_nil (identifiers u.declarations.children)) in
      let rest : map name_in_it (drop (length b) (drop (length a) (occurrences u))) ≡ identifiers u.declarations.children =
      map_drop name_in_it (length b) (drop (length a) (occurrences u))
      ∙ (ap (drop (length b)) (map_drop name_in_it (length a) (occurrences u) ∙ (ap (drop (length a)) whole ∙ drop_length a (b ++ c)))
      ∙ (drop_length b c ∙ inner)) in
      cut_map name_in_it (declarations_in u) (drop (length b) (drop (length a) (occurrences u)))
      ∙ (ap (cut (declarations_in u)) rest ∙ cut_all u.declarations.children)

  identifiers_total : (f : ForestOf I) → length (identifiers f) ≡ total (trees f)
  identifiers_total end = refl
  identifiers_total (tree l c o) =
      let e : length (identifiers (tree l c o)) ≡ length (identifiers (tree l c end) ++ identifiers o) = ap length (first_of l c o) in
      omega (arith, e, length-append (identifiers (tree l c end)) (identifiers o), identifiers_total o)

  -- the last piece ends with the module
  pub whole_length : (u : UnitOf I) → u.declarations.label ≡ kind declarations → length (occurrences u) ≡ size u.imports + size u.directives + total (declarations_in u)
  whole_length u label =
      let inner : size u.declarations ≡ total (declarations_in u) =
      ap length (subst (λ (l : LabelOf I). identifiers (tree l u.declarations.children end) ≡ identifiers u.declarations.children) (sym label) (append_nil (identifiers u.declarations.children)))
      ∙ identifiers_total u.declarations.children in
      let all : length (map name_in_it (occurrences u)) ≡ size u.imports + (size u.directives + (size u.declarations + 0)) = ap length (names_each u) ∙ identifiers_total (forest_of_unit u) in
      omega (arith, inner, all, length-map (occurrences u) name_in_it)
