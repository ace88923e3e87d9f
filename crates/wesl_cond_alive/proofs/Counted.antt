-- The marks of a walk: one for each identifier, in order, numbered as they are.
use Rattle.std.proofs.Common.{◌≡◌, ℕ, zero, suc, ◌+◌, List, [], ◌∷◌, ◌++◌, append_assoc, append-nil, length, length-append, map, sym, ap, ◌∙◌, refl, arith}
use Rattle.std.proofs.lemmas.List.{map-append}
use Rattle.wesl_tree_syntax.specs.Tree.{LabelOf, ForestOf, end, tree, ident, identifiers, respell_label, respell_forest}
use Rattle.wesl_cond_alive.specs.Alive.{Numbered, numbered, relabel}
use Rattle.wesl_cond_alive.specs.Walk.{Mark, Node, State, after, standing, walk}
use Rattle.wesl_cond_alive.proofs.Grown.{at_entry, entry_marks, node_in, passed}

module _ {I : Type 0} where
  abbrev names_of : List (Mark I) → List I
  names_of ms = map (λ m. m.name) ms

  marks_at : (l : LabelOf I) (node : Node) (s : State I) (c o : ForestOf I) → ((n : Node) (t : State I) → names_of (walk n t c).marks ≡ names_of t.marks ++ identifiers c)
      → names_of (passed node s l c).marks ++ identifiers o ≡ names_of s.marks ++ identifiers (tree l c o)
  marks_at (ident r x) node s c o ih =
      ap (λ xs. xs ++ identifiers o) (map-append (λ (m : Mark I). m.name) s.marks (record { name = x; set = (standing node.here node.ahead c).set } ∷ []))
      ∙ append_assoc (names_of s.marks) (x ∷ []) (identifiers o)
  marks_at l node s c o ih =
      ap (λ xs. xs ++ identifiers o) (ih (node_in node s l c) (at_entry node s l c) ∙ ap (λ ms. names_of ms ++ identifiers c) (entry_marks node s l c))
      ∙ append_assoc (names_of s.marks) (identifiers c) (identifiers o)

  -- a mark for each identifier, in order
  pub marks_walked : (f : ForestOf I) (node : Node) (s : State I) → names_of (walk node s f).marks ≡ names_of s.marks ++ identifiers f
  marks_walked end node s = sym (append-nil (names_of s.marks))
  marks_walked (tree l c o) node s = marks_walked o (after node c) (passed node s l c) ∙ marks_at l node s c o (marks_walked c)

-- ---- numbered identifiers

abbrev pub count_from : ℕ → ℕ → List ℕ
count_from n zero = []
count_from n (suc m) = n ∷ count_from (suc n) m

count_both : (n a b : ℕ) → count_from n (a + b) ≡ count_from n a ++ count_from (n + a) b
count_both n zero b = let e : 0 + b ≡ b = omega arith in let d : n ≡ n + 0 = omega arith in ap (count_from n) e ∙ ap (λ m. count_from m b) d
count_both n (suc a) b =
    let e : suc a + b ≡ suc (a + b) = omega arith in
    let d : suc n + a ≡ n + suc a = omega arith in
    ap (count_from n) e ∙ ap (λ xs. n ∷ xs) (count_both (suc n) a b ∙ ap (λ m. count_from (suc n) a ++ count_from m b) d)

module _ {I : Type 0} where
  abbrev numbers_in : ForestOf (Numbered I) → List ℕ
  numbers_in f = map (λ x. x.number) (identifiers f)

  abbrev Counts : ℕ → ForestOf I → Type 0
  Counts n f = numbers_in (numbered n f) ≡ count_from n (length (identifiers f))

  both_count : (n : ℕ) (c o : ForestOf I) → Counts n c → Counts (n + length (identifiers c ++ [])) o
      → map (λ (x : Numbered I). x.number) (identifiers (numbered n c) ++ identifiers (numbered (n + length (identifiers c ++ [])) o)) ≡ count_from n (length (identifiers c ++ identifiers o))
  both_count n c o e d =
      let m = length (identifiers c) in
      let same : length (identifiers c ++ []) ≡ m = ap length (append-nil (identifiers c)) in
      map-append (λ (x : Numbered I). x.number) (identifiers (numbered n c)) (identifiers (numbered (n + length (identifiers c ++ [])) o))
      ∙ ((λ t. e t ++ d t)
      ∙ (ap (λ k. count_from n m ++ count_from (n + k) (length (identifiers o))) same
      ∙ (sym (count_both n m (length (identifiers o))) ∙ ap (count_from n) (sym (length-append (identifiers c) (identifiers o))))))

  counts_at : (n : ℕ) (l : LabelOf I) (c o : ForestOf I) → ((m : ℕ) → Counts m c) → ((m : ℕ) → Counts m o) → Counts n (tree l c o)
  counts_at n (ident r x) c o e d = let is : n + 1 ≡ suc n = omega arith in ap (λ xs. n ∷ xs) (ap (λ m. numbers_in (numbered m o)) is ∙ d (suc n))
  counts_at n l c o e d = both_count n c o (e n) (d (n + length (identifiers c ++ [])))

  -- the numbers are those from the first on
  pub counted : (f : ForestOf I) (n : ℕ) → Counts n f
  counted end n = refl
  counted (tree l c o) n = counts_at n l c o (counted c) (counted o)

module _ {I J : Type 0} (r : I → J) where
  label_named : (n : ℕ) (l : LabelOf I) → respell_label (λ (x : Numbered J). x.name) (relabel n (respell_label r l)) ≡ respell_label r l
  label_named n (ident role x) = refl
  label_named n l = refl

  -- and the names are front they were
  pub named : (f : ForestOf I) (n : ℕ) → respell_forest (λ (x : Numbered J). x.name) (numbered n (respell_forest r f)) ≡ respell_forest r f
  named end n = refl
  named (tree l c o) n = λ t. tree (label_named n l t) (named c n t) (named o (n + length (identifiers (tree (respell_label r l) (respell_forest r c) end))) t)
