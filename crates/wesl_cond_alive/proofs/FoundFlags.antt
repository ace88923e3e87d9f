-- The flags that a walk finds are those of its trees.
use Rattle.std.proofs.Common.{◌≡◌, Bool, true, false, cond, ◌||◌, ℕ, List, [], ◌∷◌, ◌++◌, map, refl, ap, ◌∙◌, sym, append_assoc, append-nil}
use Rattle.std.proofs.lemmas.List.{map-append}
use Rattle.wesl_cond_chains.specs.Conditions.{condition_at}
use Rattle.wesl_cond_chains.specs.Flags.{identifier, flags_in, flags_of}
use Rattle.wesl_tree_syntax.specs.Nodes.{is_formula}
use Rattle.wesl_tree_syntax.specs.Tree.{Label, LabelOf, Forest, ForestOf, end, tree, ident, kind, respell_label, respell_forest, imports, directive_list, declarations}
use Rattle.wesl_tree_syntax.specs.Unit.{UnitView, forest_of_unit, trees_of, name_in, spelled}
use Rattle.wesl_cond_alive.specs.Sound.{Outline, is_conditional}
use Rattle.wesl_cond_alive.specs.Walk.{Ahead, listed, leaf, bare, closing, body, last, past, inner, inside, beyond, Here, Node, State, after, all_choices, in_set, plain, entered, flagged, judged, no_choices, or_marked, outlines_at, places_in, standing, walk}

marked_flags : (l : Label) (here : Here) (s found : State ℕ) → (or_marked l here s found).flags ≡ found.flags
marked_flags (ident r x) here s found = refl
marked_flags l here s found = refl

judged_flags : (holder : ℕ) (xs : List (Outline ℕ)) (s : State ℕ) → (judged holder xs s).flags ≡ s.flags
judged_flags holder [] s = refl
judged_flags holder (x ∷ xs) s = refl

flagged_at : (l : Label) (here : Here) (b : Bool) (s : State ℕ) → here.is_formula ≡ b → (flagged l here s).flags ≡ s.flags ++ identifier b l
flagged_at (ident r x) here true s e = rw e refl
flagged_at (ident r x) here false s e = rw e (sym (append-nil s.flags))
flagged_at l here true s e = sym (append-nil s.flags)
flagged_at l here false s e = sym (append-nil s.flags)

either_place : (b : Bool) (here : Here) → (cond b (record here { set = no_choices }) here).is_formula ≡ here.is_formula
either_place true here = refl
either_place false here = refl

formula_stays : (here : Here) (ahead : Ahead) (children : Forest) → (standing here ahead children).is_formula ≡ here.is_formula
formula_stays here (listed []) children = refl
formula_stays here (listed (h ∷ hs)) children = refl
formula_stays here leaf children = refl
formula_stays here bare children = either_place (is_conditional (condition_at children)) here
formula_stays here (closing hs) children = refl
formula_stays here (body hs) children = refl
formula_stays here (last hs) children = refl
formula_stays here past children = refl
formula_stays here (inner hs) children = refl
formula_stays here (inside hs) children = refl
formula_stays here beyond children = refl

either : (a b : Bool) → cond a true b ≡ (b || a)
either true true = refl
either true false = refl
either false true = refl
either false false = refl

pub flags_walked : (f : Forest) (node : Node) (s : State ℕ) → (walk node s f).flags ≡ s.flags ++ flags_in node.here.is_formula f
flags_walked end node s = sym (append-nil s.flags)
flags_walked (tree l c o) node s =
    let here = standing node.here node.ahead c in
    let list = outlines_at node l c in
    let b = node.here.is_formula in
    let is : here.is_formula ≡ b = formula_stays node.here node.ahead c in
    let in_node = entered node l c (places_in here.set list s) in
    let begun = judged here.set list (flagged l here s) in
    let inner_flags : (walk in_node begun c).flags ≡ (s.flags ++ identifier b l) ++ flags_in (b || is_formula l) c =
    flags_walked c in_node begun
    ∙ ap (λ xs. xs ++ flags_in (cond (is_formula l) true here.is_formula) c) (judged_flags here.set list (flagged l here s) ∙ flagged_at l here b s is)
    ∙ ap (λ x. (s.flags ++ identifier b l) ++ flags_in x c) (ap (cond (is_formula l) true) is ∙ either (is_formula l) b) in
    flags_walked o (after node c) (or_marked l here s (walk in_node begun c))
    ∙ ap (λ xs. xs ++ flags_in b o) (marked_flags l here s (walk in_node begun c) ∙ inner_flags)
    ∙ (append_assoc (s.flags ++ identifier b l) (flags_in (b || is_formula l) c) (flags_in b o)
    ∙ (append_assoc s.flags (identifier b l) (flags_in (b || is_formula l) c ++ flags_in b o)
    ∙ ap (λ xs. s.flags ++ xs) (sym (append_assoc (identifier b l) (flags_in (b || is_formula l) c) (flags_in b o)))))

-- ---- other identifiers

module _ {I J : Type 0} (r : I → J) where
  identifier_natural : (b : Bool) (l : LabelOf I) → identifier b (respell_label r l) ≡ map r (identifier b l)
  identifier_natural true (ident s x) = refl
  identifier_natural false (ident s x) = refl
  identifier_natural true l = refl
  identifier_natural false l = refl

  pub formula_natural : (l : LabelOf I) → is_formula (respell_label r l) ≡ is_formula l
  formula_natural (kind k) = refl
  formula_natural l = refl

  pub flags_natural : (f : ForestOf I) (b : Bool) → flags_in b (respell_forest r f) ≡ map r (flags_in b f)
  flags_natural end b = refl
  flags_natural (tree l c o) b =
      ap (λ xs. (xs ++ flags_in (b || is_formula (respell_label r l)) (respell_forest r c)) ++ flags_in b (respell_forest r o)) (identifier_natural b l)
      ∙ ap (λ x. (map r (identifier b l) ++ flags_in (b || x) (respell_forest r c)) ++ flags_in b (respell_forest r o)) (formula_natural l)
      ∙ ap (λ xs. (map r (identifier b l) ++ xs) ++ flags_in b (respell_forest r o)) (flags_natural c (b || is_formula l))
      ∙ ap (λ xs. (map r (identifier b l) ++ map r (flags_in (b || is_formula l) c)) ++ xs) (flags_natural o b)
      ∙ ap (λ xs. xs ++ map r (flags_in b o)) (sym (map-append r (identifier b l) (flags_in (b || is_formula l) c)))
      ∙ sym (map-append r (identifier b l ++ flags_in (b || is_formula l) c) (flags_in b o))

-- the flags of a module are the names of those that the walk finds
pub flags_found : (u : UnitView) → u.imports.label ≡ kind imports → u.directives.label ≡ kind directive_list → u.declarations.label ≡ kind declarations
    → flags_of (spelled u) ≡ map (name_in u.names) (walk (plain (in_set all_choices)) (record { branches = []; marks = []; flags = [] }) (forest_of_unit (trees_of u))).flags
flags_found u e d k =
    let r = name_in u.names in
    let a = flags_in false u.imports.children in
    let b = flags_in false u.directives.children in
    let c = flags_in false u.declarations.children in
    let is : flags_in false (forest_of_unit (trees_of u)) ≡ (a ++ b) ++ c = rw (e, d, k) (ap (λ xs. a ++ xs) (ap (λ xs. b ++ xs) (append-nil c)) ∙ sym (append_assoc a b c)) in
    ap (λ xs. (xs ++ flags_in false (respell_forest r u.directives.children)) ++ flags_in false (respell_forest r u.declarations.children)) (flags_natural r u.imports.children false)
    ∙ ap (λ xs. (map r a ++ xs) ++ flags_in false (respell_forest r u.declarations.children)) (flags_natural r u.directives.children false)
    ∙ ap (λ xs. (map r a ++ map r b) ++ xs) (flags_natural r u.declarations.children false)
    ∙ ap (λ xs. xs ++ map r c) (sym (map-append r a b))
    ∙ sym (map-append r (a ++ b) c)
    ∙ ap (map r) (sym (flags_walked (forest_of_unit (trees_of u)) (plain (in_set all_choices)) (record { branches = []; marks = []; flags = [] }) ∙ is))
