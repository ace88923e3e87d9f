-- What trees with other numbers say.
use Rattle.std.proofs.Common.{◌≡◌, ℕ, ◌+◌, ◌≤◌, Bool, true, ◌&&◌, List, [], ◌∷◌, ◌++◌, length, map, refl, sym, ◌∙◌, ap, arith, append_assoc, length-append}
use Rattle.std.specs.Prelude.{nat_lt}
use Rattle.std.proofs.lemmas.List.{map-append}
use Rattle.wesl_tree_syntax.specs.Tree.{Label, LabelOf, Forest, ForestOf, end, tree, kind, at, ident, text, texts, truth, unary, binary, assignment, space, access, path, identifiers, respell_forest, forest_below}
use Rattle.wesl_tree_syntax.specs.Unit.{UnitOf, forest_of_unit}
use Rattle.wesl_scope_numbers.specs.Leaves.{are_leaves, KeepsSpelling}
use Rattle.wesl_tree_copies.specs.Renumbered.{renumbered, after}
use Rattle.std.proofs.lemmas.Bool.{and_parts}
use Rattle.wesl_scope_occurrences.proofs.Cutting.{append_nil}
use Rattle.wesl_scope_occurrences.proofs.Showing.{emptied}

abbrev pub all_below : ℕ → List ℕ → Bool
all_below n [] = true
all_below n (m ∷ ms) = nat_lt m n && all_below n ms

-- the numbers that the trees take are the first ones
pub record Taken (f : Forest) (ns : List ℕ) : Type 0 where
  pub splits : identifiers (renumbered f ns) ++ after f ns ≡ ns
  pub many : length (identifiers f) + length (after f ns) ≡ length ns
  pub below : (n : ℕ) → all_below n ns ≡ true → (forest_below n (renumbered f ns) ≡ true) × (all_below n (after f ns) ≡ true)

-- a node that is no identifier
taken_node : (children others : Forest) (ns : List ℕ) → length (identifiers children ++ identifiers others) ≤ length ns
    → (length (identifiers children) ≤ length ns → Taken children ns) → (length (identifiers others) ≤ length (after children ns) → Taken others (after children ns))
    → ((identifiers (renumbered children ns) ++ identifiers (renumbered others (after children ns))) ++ after others (after children ns) ≡ ns)
    × (length (identifiers children ++ identifiers others) + length (after others (after children ns)) ≡ length ns)
    × ((n : ℕ) → all_below n ns ≡ true → ((forest_below n (renumbered children ns) && forest_below n (renumbered others (after children ns))) ≡ true) × (all_below n (after others (after children ns)) ≡ true))
taken_node children others ns h first second =
    let many = length-append (identifiers children) (identifiers others) in
    let a = first (omega (arith, h, many)) in
    let b = second (omega (arith, h, many, a.many)) in (
      append_assoc (identifiers (renumbered children ns)) (identifiers (renumbered others (after children ns))) (after others (after children ns))
          ∙ (ap (λ xs. identifiers (renumbered children ns) ++ xs) b.splits ∙ a.splits),
      omega (arith, many, a.many, b.many),
      λ n l. let p = a.below n l in let q = b.below n p.1 in (rw (p.0, q.0) refl, q.1),
    )

module _ where
  pub taken : (f : Forest) (ns : List ℕ) → are_leaves f ≡ true → length (identifiers f) ≤ length ns → Taken f ns
  taken end ns v h = record { splits = refl; many = omega arith; below = λ n l. (refl, l) }
  taken (tree (ident r x) end others) [] v h = absurd (omega (arith, h))
  taken (tree (ident r x) end others) (m ∷ ms) v h =
      let t = taken others ms v (omega (arith, h)) in
      record {
        splits = ap (λ xs. m ∷ xs) t.splits;
        many = omega (arith, t.many);
        below = λ n l. let p = and_parts (nat_lt m n) (all_below n ms) l in let q = t.below n p.1 in (rw (p.0, q.0) refl, q.1);
      }
  taken (tree (ident r x) (tree l children beside) others) ns v h = absurd (let x : ⊥ = cc in x)
  taken (tree (kind k) children others) ns v h =
      let w = and_parts (are_leaves children) (are_leaves others) v in let t = taken_node children others ns h (taken children ns w.0) (taken others (after children ns) w.1) in record { splits = t.0; many = t.1; below = t.2 }
  taken (tree (at k i j) children others) ns v h =
      let w = and_parts (are_leaves children) (are_leaves others) v in let t = taken_node children others ns h (taken children ns w.0) (taken others (after children ns) w.1) in record { splits = t.0; many = t.1; below = t.2 }
  taken (tree (text y) children others) ns v h =
      let w = and_parts (are_leaves children) (are_leaves others) v in let t = taken_node children others ns h (taken children ns w.0) (taken others (after children ns) w.1) in record { splits = t.0; many = t.1; below = t.2 }
  taken (tree (texts y) children others) ns v h =
      let w = and_parts (are_leaves children) (are_leaves others) v in let t = taken_node children others ns h (taken children ns w.0) (taken others (after children ns) w.1) in record { splits = t.0; many = t.1; below = t.2 }
  taken (tree (truth y) children others) ns v h =
      let w = and_parts (are_leaves children) (are_leaves others) v in let t = taken_node children others ns h (taken children ns w.0) (taken others (after children ns) w.1) in record { splits = t.0; many = t.1; below = t.2 }
  taken (tree (unary y) children others) ns v h =
      let w = and_parts (are_leaves children) (are_leaves others) v in let t = taken_node children others ns h (taken children ns w.0) (taken others (after children ns) w.1) in record { splits = t.0; many = t.1; below = t.2 }
  taken (tree (binary y) children others) ns v h =
      let w = and_parts (are_leaves children) (are_leaves others) v in let t = taken_node children others ns h (taken children ns w.0) (taken others (after children ns) w.1) in record { splits = t.0; many = t.1; below = t.2 }
  taken (tree (assignment y) children others) ns v h =
      let w = and_parts (are_leaves children) (are_leaves others) v in let t = taken_node children others ns h (taken children ns w.0) (taken others (after children ns) w.1) in record { splits = t.0; many = t.1; below = t.2 }
  taken (tree (space y) children others) ns v h =
      let w = and_parts (are_leaves children) (are_leaves others) v in let t = taken_node children others ns h (taken children ns w.0) (taken others (after children ns) w.1) in record { splits = t.0; many = t.1; below = t.2 }
  taken (tree (access y) children others) ns v h =
      let w = and_parts (are_leaves children) (are_leaves others) v in let t = taken_node children others ns h (taken children ns w.0) (taken others (after children ns) w.1) in record { splits = t.0; many = t.1; below = t.2 }
  taken (tree (path y) children others) ns v h =
      let w = and_parts (are_leaves children) (are_leaves others) v in let t = taken_node children others ns h (taken children ns w.0) (taken others (after children ns) w.1) in record { splits = t.0; many = t.1; below = t.2 }

no_more : (xs : List ℕ) → xs ++ [] ≡ xs
no_more [] = refl
no_more (x ∷ xs) = ap (λ ys. x ∷ ys) (no_more xs)

-- where there are as many numbers as identifiers, they are the identifiers
pub numbers_are : (f : Forest) (ns : List ℕ) → are_leaves f ≡ true → length (identifiers f) ≡ length ns → identifiers (renumbered f ns) ≡ ns
numbers_are f ns v h =
    let t = taken f ns v (omega (arith, h)) in
    let none : after f ns ≡ [] = emptied (after f ns) (omega (arith, h, t.many)) in
    sym (no_more (identifiers (renumbered f ns))) ∙ (ap (λ xs. identifiers (renumbered f ns) ++ xs) (sym none) ∙ t.splits)

-- spelling: the names `g` of the new numbers, and `h` of the old ones
module _ {X : Type 0} (g h : ℕ → X) where
  abbrev pub Respelled : Forest → List ℕ → List X → Type 0
  Respelled f ns more = (respell_forest g (renumbered f ns) ≡ respell_forest h f) × (map g (after f ns) ≡ more)

  respelled_node : (l : Label) (m : LabelOf X) (children others : Forest) (ns : List ℕ) (more : List X) → map g ns ≡ map h (identifiers children ++ identifiers others) ++ more
      → ((rest : List X) → map g ns ≡ map h (identifiers children) ++ rest → Respelled children ns rest)
      → (map g (after children ns) ≡ map h (identifiers others) ++ more → Respelled others (after children ns) more)
      → (tree m (respell_forest g (renumbered children ns)) (respell_forest g (renumbered others (after children ns))) ≡ tree m (respell_forest h children) (respell_forest h others))
      × (map g (after others (after children ns)) ≡ more)
  respelled_node l m children others ns more e first second =
      let a = first (map h (identifiers others) ++ more) (e ∙ (ap (λ xs. xs ++ more) (map-append h (identifiers children) (identifiers others)) ∙ append_assoc (map h (identifiers children)) (map h (identifiers others)) more)) in
      let b = second a.1 in
      (ap (λ x. tree m x (respell_forest g (renumbered others (after children ns)))) a.0 ∙ ap (λ x. tree m (respell_forest h children) x) b.0, b.1)

  pub respelled : (f : Forest) (ns : List ℕ) (more : List X) → are_leaves f ≡ true → map g ns ≡ map h (identifiers f) ++ more → Respelled f ns more
  respelled end ns more v e = (refl, e)
  respelled (tree (ident r x) end others) [] more v e = absurd (let y : ⊥ = cc in y)
  respelled (tree (ident r x) end others) (n ∷ ns) more v e =
      let named : g n ≡ h x = cc in
      let t = respelled others ns more v (let q : map g ns ≡ map h (identifiers others) ++ more = cc in q) in
      (ap (λ y. tree (ident r y) end (respell_forest g (renumbered others ns))) named ∙ ap (λ y. tree (ident r (h x)) end y) t.0, t.1)
  respelled (tree (ident r x) (tree l children beside) others) ns more v e = absurd (let y : ⊥ = cc in y)
  respelled (tree (kind k) children others) ns more v e =
      let w = and_parts (are_leaves children) (are_leaves others) v in respelled_node (kind k) (kind k) children others ns more e (λ rest. respelled children ns rest w.0) (respelled others (after children ns) more w.1)
  respelled (tree (at k i j) children others) ns more v e =
      let w = and_parts (are_leaves children) (are_leaves others) v in respelled_node (at k i j) (at k 0 0) children others ns more e (λ rest. respelled children ns rest w.0) (respelled others (after children ns) more w.1)
  respelled (tree (text y) children others) ns more v e =
      let w = and_parts (are_leaves children) (are_leaves others) v in respelled_node (text y) (text y) children others ns more e (λ rest. respelled children ns rest w.0) (respelled others (after children ns) more w.1)
  respelled (tree (texts y) children others) ns more v e =
      let w = and_parts (are_leaves children) (are_leaves others) v in respelled_node (texts y) (texts y) children others ns more e (λ rest. respelled children ns rest w.0) (respelled others (after children ns) more w.1)
  respelled (tree (truth y) children others) ns more v e =
      let w = and_parts (are_leaves children) (are_leaves others) v in respelled_node (truth y) (truth y) children others ns more e (λ rest. respelled children ns rest w.0) (respelled others (after children ns) more w.1)
  respelled (tree (unary y) children others) ns more v e =
      let w = and_parts (are_leaves children) (are_leaves others) v in respelled_node (unary y) (unary y) children others ns more e (λ rest. respelled children ns rest w.0) (respelled others (after children ns) more w.1)
  respelled (tree (binary y) children others) ns more v e =
      let w = and_parts (are_leaves children) (are_leaves others) v in respelled_node (binary y) (binary y) children others ns more e (λ rest. respelled children ns rest w.0) (respelled others (after children ns) more w.1)
  respelled (tree (assignment y) children others) ns more v e =
      let w = and_parts (are_leaves children) (are_leaves others) v in respelled_node (assignment y) (assignment y) children others ns more e (λ rest. respelled children ns rest w.0) (respelled others (after children ns) more w.1)
  respelled (tree (space y) children others) ns more v e =
      let w = and_parts (are_leaves children) (are_leaves others) v in respelled_node (space y) (space y) children others ns more e (λ rest. respelled children ns rest w.0) (respelled others (after children ns) more w.1)
  respelled (tree (access y) children others) ns more v e =
      let w = and_parts (are_leaves children) (are_leaves others) v in respelled_node (access y) (access y) children others ns more e (λ rest. respelled children ns rest w.0) (respelled others (after children ns) more w.1)
  respelled (tree (path y) children others) ns more v e =
      let w = and_parts (are_leaves children) (are_leaves others) v in respelled_node (path y) (path y) children others ns more e (λ rest. respelled children ns rest w.0) (respelled others (after children ns) more w.1)

pub spelled_as : KeepsSpelling
spelled_as g h f ns v e = (respelled g h f ns [] v (e ∙ sym (append_nil (map h (identifiers f))))).0

-- units with one forest are one
pub unit_with : {X : Type 0} (a : LabelOf X) (b : ForestOf X) (c : LabelOf X) (d : ForestOf X) (e : LabelOf X) (f : ForestOf X) → UnitOf X
unit_with a b c d e f = record { imports = record { label = a; children = b }; directives = record { label = c; children = d }; declarations = record { label = e; children = f } }

one_of : {X : Type 0} (a a' : LabelOf X) (b b' : ForestOf X) (c c' : LabelOf X) (d d' : ForestOf X) (e e' : LabelOf X) (f f' : ForestOf X) → a ≡ a' → b ≡ b' → c ≡ c' → d ≡ d' → e ≡ e' → f ≡ f' → unit_with a b c d e f ≡ unit_with a' b' c' d' e' f'
one_of a a' b b' c c' d d' e e' f f' p q r s t u = cc

pub one_unit : {X : Type 0} (u w : UnitOf X) → forest_of_unit u ≡ forest_of_unit w → u ≡ w
unfolding unit_with
one_unit u w e =
    one_of u.imports.label w.imports.label u.imports.children w.imports.children u.directives.label w.directives.label u.directives.children w.directives.children u.declarations.label w.declarations.label u.declarations.children w.declarations.children
    (let x : u.imports.label ≡ w.imports.label = cc in x) (let x : u.imports.children ≡ w.imports.children = cc in x)
    (let x : u.directives.label ≡ w.directives.label = cc in x) (let x : u.directives.children ≡ w.directives.children = cc in x)
    (let x : u.declarations.label ≡ w.declarations.label = cc in x) (let x : u.declarations.children ≡ w.declarations.children = cc in x)
