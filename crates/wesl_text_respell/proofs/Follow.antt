-- What is printed for trees with other names, node by node.
use Rattle.std.proofs.Common.{◌≡◌, ◌⊎◌, zero, Bool, true, false, not, ◌&&◌, ◌||◌, if◌then◌else◌, [], ◌∷◌, ◌++◌, Option, Some, None, option_and_then, refl, sym as turned, inl, inr, ap, ap₂, ◌∙◌, subst, codes, bytes_eq}
use Rattle.std.proofs.lemmas.Slice.Eq.{bytes_eq-Decides}
use Rattle.wesl_tree_names.specs.Path.{Text, Path}
use Rattle.wesl_tree_syntax.specs.Tree.{Role, kind, at, ident, path, assignment, end, tree, reference, present, absent, attributes, list, type_expression, type_or_identifier, expression_node}
use Rattle.wesl_tree_syntax.specs.declared.statement.AssignmentOperator.TheVariants as assignment_operator
use Rattle.wesl_text_tokens.specs.declared.symbol.Symbol.TheVariants as is
use Rattle.wesl_text_form.specs.Names.{is_name, is_word, is_path}
use Rattle.wesl_text_form.specs.Operators.{class_of, is_tight}
use Rattle.wesl_text_form.specs.Productions.{Sort, an_expression, a_type, an_argument, an_attribute, a_bare_statement, Leaf, an_ident, a_path, Row, nothing, sym, opens, closes, own, leaf, commas, optional, target, attrs, row_of}
use Rattle.wesl_text_form.specs.Spelling.{Label, Forest, Slots, spells, followed, provided, named, stepped, origin_slots, leaf_slots, first_slots, fits, stands_as, label_at, below_first, from_place, begins_enclosed, are_apart, is_kind, is_underscore, is_wildcard, leads_to_place, is_end, is_empty_at, is_absent_at}
use Rattle.wesl_text_reading.proofs.Filled.{no_some, no_true}
use Rattle.wesl_text_reading.proofs.KindsAgain.{label_is}
use Rattle.wesl_text_respell.specs.Respelled.{named_by, qualified_by, IsNamed, MayBecome, IsRespelled, ends, same, renamed, unqualified, discards}
use Rattle.wesl_text_respell.proofs.Kept.{end_kept, kind_kept, class_kept, leads_kept, open_kept, lone_kept, fits_kept, stands_kept, type_kept}
use Rattle.wesl_text_respell.proofs.Related.{none, other, like_self, Follows, follows_self, follows_joined, follows_either}
use Rattle.wesl_text_respell.proofs.Leaves.{leaf_kept, leaf_renamed, Begin, path_gone, ident_begins}
use Rattle.wesl_text_respell.proofs.Trees.{rows_fair, TreesFollow, none_follow, target_is, tree_follows}
use Rattle.wesl_text_reading.proofs.ForParts.{no_slots}
use Rattle.wesl_text_reading.proofs.RowReads.{target_slots}

-- ---- nodes

-- one that is no type
node_follows : {c d : Forest} (l : Label) → is_kind type_expression (Some l) ≡ false → IsRespelled c d → TreesFollow c d → (s : Sort) → Follows (first_slots l c (spells c) s) (first_slots l d (spells d) s)
node_follows {c = c} {d = d} l t r below s = by (row_of s l) (λ x e. below.row x (rows_fair s l x e)) where
  by : (o : Option Row) → ((x : Row) → o ≡ Some x → Follows ((spells c).row x) ((spells d).row x))
      → Follows (option_and_then (λ r. if fits l c && stands_as s l c then (spells c).row r else None) o) (option_and_then (λ r. if fits l d && stands_as s l d then (spells d).row r else None) o)
  by None f = tt
  by (Some x) f = follows_either (fits l c && stands_as s l c) (fits l d && stands_as s l d) ((spells c).row x) None ((spells d).row x) None (ap₂ (λ a b. a && b) (fits_kept l t r) (stands_kept s l r)) (λ e. f x refl) (λ e. tt)

-- ---- types

abbrev arguments_row : Row
arguments_row = optional (opens (commas list an_argument (closes nothing))) nothing

abbrev name_row : Row
name_row = leaf (an_ident reference) arguments_row

abbrev type_row : Row
type_row = optional (leaf (a_path false) nothing) name_row

-- where the arguments are a type, there are no slots
typed_second : (f : Forest) → is_kind type_expression (label_at 1 f) ≡ true → (spells f).row name_row ≡ None
typed_second end h = absurd (no_true h)
typed_second (tree l c end) h = absurd (no_true h)
typed_second (tree l c (tree m d o)) h = subst (λ z. (spells (tree l c (tree z d o))).row name_row ≡ None) (turned (label_is type_expression m h)) (by (is_end c)) where
  by : (z : Bool) → (let n : Slots = None in if z then followed (leaf_slots (an_ident reference) l (tree (kind type_expression) d o)) n else None) ≡ None
  by true = no_slots (leaf_slots (an_ident reference) l (tree (kind type_expression) d o))
  by false = refl

typed_third : (f : Forest) → is_kind type_expression (label_at 2 f) ≡ true → (spells f).row type_row ≡ None
typed_third end h = absurd (no_true h)
typed_third (tree l c o) h = by ((spells o).row name_row) (typed_second o h) (is_kind absent (Some l) && is_end c) (is_kind present (Some l)) where
  by : (x : Slots) → x ≡ None → (a b : Bool) → (if a then x else if b then followed ((spells c).row (leaf (a_path false) nothing)) x else None) ≡ None
  by x e true b = e
  by x e false true = ap (followed ((spells c).row (leaf (a_path false) nothing))) e ∙ no_slots ((spells c).row (leaf (a_path false) nothing))
  by x e false false = refl

-- whether the fields of a type fit, by where its arguments are
abbrev type_fits : Forest → Bool
type_fits c = is_absent_at 2 c || not (is_empty_at 0 (below_first (from_place 2 c)))

-- a type by its fields
type_follows : (c d : Forest) → (type_fits d ≡ type_fits c) ⊎ ((spells c).row type_row ≡ None) → Follows ((spells c).row type_row) ((spells d).row type_row) → (s : Sort) → Follows (first_slots (kind type_expression) c (spells c) s) (first_slots (kind type_expression) d (spells d) s)
type_follows c d (inl q) p a_type = follows_either (type_fits c && true) (type_fits d && true) ((spells c).row type_row) None ((spells d).row type_row) None (ap (λ z. z && true) q) (λ e. p) (λ e. tt)
type_follows c d (inr q) p a_type = by ((spells c).row type_row) q (type_fits c && true) where
  by : (x : Slots) → x ≡ None → (z : Bool) → Follows (if z then x else None) (if type_fits d && true then (spells d).row type_row else None)
  by None e z = of z where
    of : (z : Bool) → Follows (if z then None else None) (if type_fits d && true then (spells d).row type_row else None)
    of true = tt
    of false = tt
  by (Some ss) e z = absurd (no_some ss (turned e))
type_follows c d q p s = tt

plain_type : {c d : Forest} → IsRespelled c d → TreesFollow c d → (s : Sort) → Follows (first_slots (kind type_expression) c (spells c) s) (first_slots (kind type_expression) d (spells d) s)
plain_type {c = c} {d = d} r below s = type_follows c d (by (is_kind type_expression (label_at 2 c)) refl) (below.row type_row refl) s where
  by : (z : Bool) → is_kind type_expression (label_at 2 c) ≡ z → (type_fits d ≡ type_fits c) ⊎ ((spells c).row type_row ≡ None)
  by true e = inr (typed_third c e)
  by false e = inl (type_kept 2 r e)

-- one that loses its path
pathless_type : {f g : Forest} (q : Path) → IsRespelled f g → TreesFollow f g → (s : Sort)
    → Follows (first_slots (kind type_expression) (tree (kind present) (tree (path q) end end) f) (spells (tree (kind present) (tree (path q) end end) f)) s)
    (first_slots (kind type_expression) (tree (kind absent) end g) (spells (tree (kind absent) end g)) s)
pathless_type {f = f} {g = g} q r below s = type_follows (tree (kind present) (tree (path q) end end) f) (tree (kind absent) end g) (by (is_kind type_expression (label_at 1 f)) refl)
    (path_gone q ((spells f).row name_row) ((spells g).row name_row) (ident_begins f reference arguments_row) (below.row name_row refl)) s where
      by : (z : Bool) → is_kind type_expression (label_at 1 f) ≡ z
          → (type_fits (tree (kind absent) end g) ≡ type_fits (tree (kind present) (tree (path q) end end) f)) ⊎ ((spells (tree (kind present) (tree (path q) end end) f)).row type_row ≡ None)
      by true e = inr (typed_third (tree (kind present) (tree (path q) end end) f) e)
      by false e = inl (type_kept 1 r e)

-- ---- `_`

abbrev pub Wild : Label → Forest → Type 0
Wild l c = (l ≡ at expression_node 0 0) × (c ≡ named_by (codes "_"))

pub wild_is : (l : Label) (c : Forest) → is_wildcard l c ≡ true → Wild l c
wild_is (at expression_node zero zero) (tree (kind type_or_identifier) (tree (kind type_expression) (tree (kind absent) end (tree m end (tree (kind absent) end end))) end) end) h = by m h where
  by : (m : Label) → is_underscore m ≡ true → Wild (at expression_node 0 0) (tree (kind type_or_identifier) (tree (kind type_expression) (tree (kind absent) end (tree m end (tree (kind absent) end end))) end) end)
  by (ident reference t) h = (refl, ap named_by ((bytes_eq-Decides t (codes "_")).0 h))
  by m h = absurd (no_true h)
wild_is l c h = absurd (no_true h)

-- the slots of such an expression
abbrev word_slots : Bool → Text → Slots
word_slots z t = followed (followed (followed (provided z (named t ∷ [])) (Some [])) (Some [])) (Some [])

no_name : is_name (codes "_") ≡ false
no_name = by (is_word (codes "_")) where
  by : (b : Bool) → (b && false) ≡ false
  by true = refl
  by false = refl

-- `_` becomes a name, or stays
abbrev WildBecomes : Forest → Type 0
WildBecomes d = (d ≡ named_by (codes "_")) ⊎ ((y : Text) × (is_name y ≡ true) × (d ≡ named_by y))

wild_becomes : {d : Forest} → IsRespelled (named_by (codes "_")) d → WildBecomes d
wild_becomes (same m (same n (same k ends (same j ends (same i ends ends))) ends) ends) = inl refl
wild_becomes (same m (same n (same k ends (renamed r x y (inl h) ends (same i ends ends))) ends) ends) = inr (y, h, refl)
wild_becomes (same m (same n (same k ends (renamed r x y (inr q) ends (same i ends ends))) ends) ends) = inl (ap named_by q)

-- what becomes `_` was `_`, or has no slots
abbrev WildWas : Label → Forest → Type 0
WildWas l c = (c ≡ named_by (codes "_")) ⊎ (first_slots l c (spells c) an_expression ≡ None)

abbrev path_slots : Bool → Path → Text → Slots
path_slots z q t = followed (followed (followed (followed (provided (is_path false q) (origin_slots false q.origin ++ stepped q.components)) (Some [])) (followed (provided z (named t ∷ [])) (Some []))) (Some [])) (Some [])

path_none : (q : Path) → first_slots (at expression_node 0 0) (qualified_by q (codes "_")) (spells (qualified_by q (codes "_"))) an_expression ≡ None
path_none q =
    ap (λ z. path_slots z q (codes "_")) no_name
    ∙ ap (λ z. followed (followed z (Some [])) (Some [])) (no_slots (followed (provided (is_path false q) (origin_slots false q.origin ++ stepped q.components)) (Some [])))

wild_was : {c : Forest} → IsRespelled c (named_by (codes "_")) → WildWas (at expression_node 0 0) c
wild_was (same m (same n (same k ends (same j ends (same i ends ends))) ends) ends) = inl refl
wild_was (same m (same n (same k ends (renamed r x y (inl h) ends (same i ends ends))) ends) ends) = absurd (no_true (turned no_name ∙ h))
wild_was (same m (same n (same k ends (renamed r x y (inr p) ends (same i ends ends))) ends) ends) = inl (ap named_by (turned p))
wild_was (same m (unqualified q (same j ends (same i ends ends)) ends) ends) = inr (path_none q)
wild_was (same m (unqualified q (renamed r x y (inl h) ends (same i ends ends)) ends) ends) = absurd (no_true (turned no_name ∙ h))
wild_was (same m (unqualified q (renamed r x y (inr p) ends (same i ends ends)) ends) ends) =
    inr (ap (λ z. first_slots (at expression_node 0 0) (qualified_by q z) (spells (qualified_by q z)) an_expression) (turned p) ∙ path_none q)

-- slots by a test, of which there are none
none_follows : (b : Bool) (x y : Slots) → x ≡ None → Follows (if b then x else None) y
none_follows true None y e = tt
none_follows true (Some ss) y e = absurd (no_some ss (turned e))
none_follows false x y e = tt

abbrev is_target : Forest → Bool
is_target c = is_tight (class_of (label_at 0 c)) && leads_to_place c

abbrev expression : Label → Forest → Slots
expression l c = first_slots l c (spells c) an_expression

place_follows : {c d : Forest} (l : Label) → IsRespelled c d → Follows (expression l c) (expression l d) → Follows (target_slots l c) (target_slots l d)
place_follows {c = c} {d = d} l r p = by (is_wildcard l c) refl (is_wildcard l d) refl where
  -- `_` becomes a name
  becomes : Wild l c → is_wildcard l d ≡ false → WildBecomes d → Follows (Some (named (codes "_") ∷ [])) (if is_target d then expression l d else None)
  becomes x g (inl q) = absurd (no_true (turned g ∙ ap₂ is_wildcard x.0 q))
  becomes x g (inr y) =
      subst (λ z. Follows (Some (named (codes "_") ∷ [])) z)
      (turned (ap₂ (λ m z. if is_target z then expression m z else None) x.0 y.2 ∙ ap (λ z. word_slots z y.0) y.1)) (other (codes "_") y.0 none)

  -- what has become `_` was it
  was : Wild l d → is_wildcard l c ≡ false → WildWas (at expression_node 0 0) c → Follows (if is_target c then expression l c else None) (Some (named (codes "_") ∷ []))
  was x e (inl q) = absurd (no_true (turned e ∙ ap₂ is_wildcard x.0 q))
  was x e (inr q) = none_follows (is_target c) (expression l c) (Some (named (codes "_") ∷ [])) (ap (λ m. expression m c) x.0 ∙ q)

  by : (w : Bool) → is_wildcard l c ≡ w → (v : Bool) → is_wildcard l d ≡ v
      → Follows (if w then Some (named (codes "_") ∷ []) else if is_target c then expression l c else None) (if v then Some (named (codes "_") ∷ []) else if is_target d then expression l d else None)
  by true e true g = like_self (named (codes "_") ∷ [])
  by true e false g = let x : Wild l c = wild_is l c e in becomes x g (wild_becomes (subst (λ z. IsRespelled z d) x.1 r))
  by false e true g = let x : Wild l d = wild_is l d g in was x e (wild_was (subst (λ z. IsRespelled c z) x.1 r))
  by false e false g = follows_either (is_target c) (is_target d) (expression l c) None (expression l d) None (ap₂ (λ a b. is_tight a && b) (class_kept r) (leads_kept r)) (λ a. p) (λ a. tt)

-- ---- all trees

leaf_follows : {o p : Forest} (f : Leaf) (l : Label) → IsRespelled o p → Follows (leaf_slots f l o) (leaf_slots f l p)
leaf_follows {o = o} f l r = subst (λ z. Follows (leaf_slots f l o) z) (turned (leaf_kept f l r)) (follows_self (leaf_slots f l o))

same_follows : {c d o p : Forest} (l : Label) → IsRespelled c d → IsRespelled o p → TreesFollow c d → TreesFollow o p → TreesFollow (tree l c o) (tree l d p)
same_follows {c = c} {d = d} {o = o} {p = p} l r q below later = tree_follows l l c d o p firsts (λ k. refl) (λ f. leaf_follows f l q) (λ k e t. below) (end_kept r) (lone_kept r) (place_follows l r (firsts an_expression)) (kind_kept absent 0 q) later q where
  firsts : (s : Sort) → Follows (first_slots l c (spells c) s) (first_slots l d (spells d) s)
  firsts s = by (is_kind type_expression (Some l)) refl where
    by : (z : Bool) → is_kind type_expression (Some l) ≡ z → Follows (first_slots l c (spells c) s) (first_slots l d (spells d) s)
    by true e = subst (λ z. Follows (first_slots z c (spells c) s) (first_slots z d (spells d) s)) (turned (label_is type_expression l e)) (plain_type r below s)
    by false e = node_follows l e r below s

-- an identifier alone is no node
no_row : (s : Sort) (r : Role) (x : Text) → row_of s (ident r x) ≡ None
no_row an_expression r x = refl
no_row s r x = refl

renamed_follows : {c d o p : Forest} (r : Role) (x y : Text) → MayBecome x y → IsRespelled c d → IsRespelled o p → TreesFollow c d → TreesFollow o p → TreesFollow (tree (ident r x) c o) (tree (ident r y) d p)
renamed_follows {c = c} {d = d} {o = o} {p = p} r x y h k q below later =
    tree_follows (ident r x) (ident r y) c d o p (λ s. nowhere s (row_of s (ident r x)) (no_row s r x)) (λ k. refl) (λ f. leaf_renamed f r x y h q) (λ k e t. below) (end_kept k) (lone_kept k)
    (none_follows (is_target c) None (target_slots (ident r y) d) refl) (kind_kept absent 0 q) later q where
      nowhere : (s : Sort) (o : Option Row) → o ≡ None
          → Follows (option_and_then (λ z. if fits (ident r x) c && stands_as s (ident r x) c then (spells c).row z else None) o) (first_slots (ident r y) d (spells d) s)
      nowhere s None e = tt
      nowhere s (Some z) e = absurd (no_some z (turned e))

unqualified_follows : {f g o p : Forest} (q : Path) → IsRespelled f g → IsRespelled o p → TreesFollow f g → TreesFollow o p
    → TreesFollow (tree (kind type_expression) (tree (kind present) (tree (path q) end end) f) o) (tree (kind type_expression) (tree (kind absent) end g) p)
unqualified_follows {f = f} {g = g} {o = o} {p = p} q r k below later =
    tree_follows (kind type_expression) (kind type_expression) (tree (kind present) (tree (path q) end end) f) (tree (kind absent) end g) o p (pathless_type q r below) (λ k. refl) (λ f. leaf_follows f (kind type_expression) k)
    (λ j e t. absurd (no_true (turned t ∙ e))) refl refl tt (kind_kept absent 0 k) later k

-- ---- an assignment that discards its value

abbrev wild : Forest
wild = named_by (codes "_")

abbrev node : Label
node = at expression_node 0 0

-- a name becomes `_`
discarded : (x : Text) → Follows (target_slots node (named_by x)) (target_slots node wild)
discarded x = by (bytes_eq x (codes "_")) (is_name x) where
  by : (z n : Bool) → Follows (if z then Some (named (codes "_") ∷ []) else word_slots n x) (Some (named (codes "_") ∷ []))
  by true n = like_self (named (codes "_") ∷ [])
  by false true = other x (codes "_") none
  by false false = tt

-- and so does one with a path
discarded_path : (q : Path) (x : Text) → Follows (target_slots node (qualified_by q x)) (target_slots node wild)
discarded_path q x =
    follows_joined (followed (followed (followed (provided (is_path false q) (origin_slots false q.origin ++ stepped q.components)) (Some [])) (followed (provided (is_name x) (named x ∷ [])) (Some []))) (Some [])) (Some (named (codes "_") ∷ [])) (Some []) (Some [])
    (follows_joined (followed (followed (provided (is_path false q) (origin_slots false q.origin ++ stepped q.components)) (Some [])) (followed (provided (is_name x) (named x ∷ [])) (Some []))) (Some (named (codes "_") ∷ [])) (Some []) (Some [])
    (path_gone q (followed (provided (is_name x) (named x ∷ [])) (Some [])) (Some (named (codes "_") ∷ [])) (begun (is_name x)) (by (is_name x))) none) none where
      begun : (n : Bool) → Begin (followed (provided n (named x ∷ [])) (Some []))
      begun true = (x, [], refl)
      begun false = tt

      by : (n : Bool) → Follows (followed (provided n (named x ∷ [])) (Some [])) (Some (named (codes "_") ∷ []))
      by true = other x (codes "_") none
      by false = tt

discarded_target : (t : Forest) → IsNamed t → Follows (target_slots node t) (target_slots node wild)
discarded_target t (inl x) = subst (λ z. Follows (target_slots node z) (target_slots node wild)) (turned x.1) (discarded x.0)
discarded_target t (inr x) = subst (λ z. Follows (target_slots node z) (target_slots node wild)) (turned x.2) (discarded_path x.0 x.1)

no_parentheses : (t v : Forest) → IsNamed t → begins_enclosed (tree node t v) ≡ false
no_parentheses t v (inl x) = ap (λ z. begins_enclosed (tree node z v)) x.1
no_parentheses t v (inr x) = ap (λ z. begins_enclosed (tree node z v)) x.2

abbrev behind_target : Row
behind_target = sym is.Equal (own an_expression (sym is.Semicolon nothing))

module _ {a b v w : Forest} (t : Forest) (n : IsNamed t) (x : IsRespelled a b) (attributes_follow : TreesFollow a b) (value : TreesFollow v w) where
  abbrev old : Forest
  old = tree (kind attributes) a (tree node t v)

  abbrev new : Forest
  new = tree (kind attributes) b (tree node wild w)

  apart : are_apart new ≡ are_apart old
  apart = ap₂ (λ y z. not (y && z)) (open_kept x) (turned (no_parentheses t v n))

  discards_row : Follows ((spells old).row (attrs (target behind_target))) ((spells new).row (attrs (target behind_target)))
  discards_row =
      follows_joined ((spells a).all an_attribute) ((spells b).all an_attribute) ((spells (tree node t v)).row (target behind_target)) ((spells (tree node wild w)).row (target behind_target)) (attributes_follow.all an_attribute)
      (subst (λ z. Follows z ((spells (tree node wild w)).row (target behind_target))) (turned (target_is node t v behind_target))
      (follows_joined (target_slots node t) (target_slots node wild) ((spells v).row behind_target) ((spells w).row behind_target) (discarded_target t n) (value.row behind_target refl)))

  discards_first : (s : Sort) → Follows (first_slots (assignment assignment_operator.Equal) old (spells old) s) (first_slots (assignment assignment_operator.Equal) new (spells new) s)
  discards_first a_bare_statement =
      follows_either (are_apart old && true) (are_apart new && true) ((spells old).row (attrs (target behind_target))) None ((spells new).row (attrs (target behind_target))) None (ap (λ z. z && true) apart) (λ e. discards_row) (λ e. tt)
  discards_first s = tt

  discards_follow : {o p : Forest} → IsRespelled o p → TreesFollow o p → TreesFollow (tree (assignment assignment_operator.Equal) old o) (tree (assignment assignment_operator.Equal) new p)
  discards_follow {o = o} {p = p} q later =
      tree_follows (assignment assignment_operator.Equal) (assignment assignment_operator.Equal) old new o p discards_first (λ k. refl) (λ f. leaf_follows f (assignment assignment_operator.Equal) q)
      (λ k e g. absurd (no_true e)) refl refl tt (kind_kept absent 0 q) later q

pub follow : {f g : Forest} → IsRespelled f g → TreesFollow f g
follow ends = none_follow
follow (same l r q) = same_follows l r q (follow r) (follow q)
follow (renamed r x y h k q) = renamed_follows r x y h k q (follow k) (follow q)
follow (unqualified p r q) = unqualified_follows p r q (follow r) (follow q)
follow (discards {target = t} n x y q) = discards_follow t n x (follow x) (follow y) q (follow q)
