-- What reads as a formula, and can be printed, is a formula that can be printed.
use Rattle.std.proofs.Common.{◌≡◌, zero, suc, Bool, true, false, ◌&&◌, if◌then◌else◌, List, [], ◌∷◌, ◌++◌, Option, Some, None, is_some, option_and_then, refl, sym as turned, ap, ◌∙◌, subst}
use Rattle.wesl_tree_base.specs.Pieces.{supers}
use Rattle.wesl_tree_names.specs.Path.{Text, Origin, absolute, relative, from_package}
use Rattle.wesl_tree_syntax.specs.Tree.{kind, at, ident, truth, path, unary, binary, end, tree, reference, present, absent, list, expression_node, literal as literal_kind, parenthesized as parenthesized_kind, type_or_identifier, type_expression}
use Rattle.wesl_tree_syntax.specs.Kinds.{same_kind, same_role}
use Rattle.wesl_tree_syntax.specs.declared.expression.UnaryOperator.TheVariants as unary_operator
use Rattle.wesl_tree_syntax.specs.declared.expression.BinaryOperator.TheVariants as binary_operator
use Rattle.wesl_text_tokens.specs.declared.symbol.Symbol.{Symbol}
use Rattle.wesl_text_tokens.specs.declared.symbol.Symbol.TheVariants as is
use Rattle.wesl_text_form.specs.Slots.{Slot}
use Rattle.wesl_text_form.specs.Names.{is_name, is_path}
use Rattle.wesl_text_form.specs.Operators.{primary, both, either, class_of, is_tight, takes_left, takes_right}
use Rattle.wesl_text_form.specs.Productions.{an_expression, a_bare_expression, a_type, an_argument, an_ident, a_path, Row, nothing, sym, opens, closes, own, leaf, commas, optional}
use Rattle.wesl_text_form.specs.Spelling.{Label, Forest, Slots, spells, followed, provided, named, signed, stepped, origin_slots, leaf_slots, first_slots, fits, stands_as, class_at, is_kind, is_end}
use Rattle.wesl_text_reading.proofs.Filled.{no_true}
use Rattle.wesl_text_reading.proofs.KindsAgain.{kind_is}
use Rattle.wesl_cond_features.specs.Features.{Replies}
use Rattle.wesl_cond_chains.specs.Formulas.{Spot, other, within, negation, conjunction, disjunction, nowhere, type_name, has_arguments, named_as, reading, spots}
use Rattle.wesl_cond_chains.specs.FormulaFaults.{formula_faults}
use Rattle.wesl_cond_chains.proofs.Faultless.{none_before, none_after}
use Rattle.wesl_text_left.proofs.Plain.{are_plain, plain_joined}
use Rattle.wesl_text_left.proofs.Fine.{class, Fine, IsPlain}
use Rattle.std.proofs.lemmas.Bool.{and_parts}
use Rattle.wesl_text_respell.proofs.Units.{where_there}

-- ---- slots that are there

pub both_there : (a b : Slots) → is_some (followed a b) ≡ true → (is_some a ≡ true) × (is_some b ≡ true)
both_there None b h = absurd (no_true h)
both_there (Some ss) None h = absurd (no_true h)
both_there (Some ss) (Some us) h = (refl, refl)

-- slots that are plain where they are there
abbrev WherePlain : Slots → Type 0
WherePlain None = Unit {0}
WherePlain (Some ss) = are_plain ss ≡ true

there_plain : (a : Slots) → WherePlain a → is_some a ≡ true → IsPlain a
there_plain None p h = absurd (no_true h)
there_plain (Some ss) p h = (ss, refl, p)

where_joined : (a b : Slots) → WherePlain a → WherePlain b → WherePlain (followed a b)
where_joined None b p q = tt
where_joined (Some ss) None p q = tt
where_joined (Some ss) (Some us) p q = plain_joined ss us p q

where_either : (b : Bool) (x y : Slots) → WherePlain x → WherePlain y → WherePlain (if b then x else y)
where_either true x y p q = p
where_either false x y p q = q

where_provided : (b : Bool) (ss : List Slot) → are_plain ss ≡ true → WherePlain (provided b ss)
where_provided true ss h = h
where_provided false ss h = tt

-- nothing stands behind the last
pub no_more : (o : Forest) → is_some ((spells o).row nothing) ≡ true → o ≡ end
no_more end h = refl
no_more (tree l c o) h = absurd (no_true h)

no_more_sign : (s : Symbol) (o : Forest) → is_some ((spells o).row (sym s nothing)) ≡ true → o ≡ end
no_more_sign s end h = refl
no_more_sign s (tree l c o) h = absurd (no_true h)

-- ---- names

steps_plain : (ts : List Text) → are_plain (stepped ts) ≡ true
steps_plain [] = refl
steps_plain (t ∷ ts) = steps_plain ts

origin_plain : (o : Origin) → are_plain (origin_slots false o) ≡ true
origin_plain absolute = refl
origin_plain (relative zero) = refl
origin_plain (relative (suc n)) = steps_plain (supers (suc n))
origin_plain (from_package p) = refl

path_plain : (l : Label) (o : Forest) → WherePlain (leaf_slots (a_path false) l o)
path_plain (path p) o = where_provided (is_path false p) (origin_slots false p.origin ++ stepped p.components) (plain_joined (origin_slots false p.origin) (stepped p.components) (origin_plain p.origin) (steps_plain p.components))
path_plain l o = tt

name_plain : (l : Label) (o : Forest) → WherePlain (leaf_slots (an_ident reference) l o)
name_plain (ident q t) o = where_provided (same_role reference q && is_name t) (named t ∷ []) refl
name_plain l o = tt

nothing_plain : (o : Forest) → WherePlain ((spells o).row nothing)
nothing_plain end = refl
nothing_plain (tree l c o) = tt

abbrev list_row : Row
list_row = opens (commas list an_argument (closes nothing))

abbrev name_row : Row
name_row = leaf (an_ident reference) (optional list_row nothing)

abbrev type_row : Row
type_row = optional (leaf (a_path false) nothing) name_row

-- whether there are arguments
abbrev is_there : Forest → Bool
is_there (tree l c o) = is_kind present (Some l)
is_there end = false

-- whether there are those of a name
abbrev lists_behind : Forest → Bool
lists_behind (tree l c o) = is_there o
lists_behind end = false

abbrev lists_in : Forest → Bool
lists_in (tree l c o) = lists_behind o
lists_in end = false

arguments_plain : (o : Forest) → is_there o ≡ false → WherePlain ((spells o).row (optional list_row nothing))
arguments_plain end h = tt
arguments_plain (tree l c o) h =
    where_either (is_kind absent (Some l) && is_end c) ((spells o).row nothing) (if is_kind present (Some l) then followed ((spells c).row list_row) ((spells o).row nothing) else None) (nothing_plain o)
    (subst (λ z. WherePlain (if z then followed ((spells c).row list_row) ((spells o).row nothing) else None)) (turned h) tt)

name_row_plain : (o : Forest) → lists_behind o ≡ false → WherePlain ((spells o).row name_row)
name_row_plain end h = tt
name_row_plain (tree l c o) h =
    where_either (is_end c) (followed (leaf_slots (an_ident reference) l o) ((spells o).row (optional list_row nothing))) None
    (where_joined (leaf_slots (an_ident reference) l o) ((spells o).row (optional list_row nothing)) (name_plain l o) (arguments_plain o h)) tt

path_row_plain : (c : Forest) → WherePlain ((spells c).row (leaf (a_path false) nothing))
path_row_plain end = tt
path_row_plain (tree l c o) =
    where_either (is_end c) (followed (leaf_slots (a_path false) l o) ((spells o).row nothing)) None (where_joined (leaf_slots (a_path false) l o) ((spells o).row nothing) (path_plain l o) (nothing_plain o)) tt

type_plain : (c : Forest) → lists_in c ≡ false → WherePlain ((spells c).row type_row)
type_plain end h = tt
type_plain (tree l c o) h =
    where_either (is_kind absent (Some l) && is_end c) ((spells o).row name_row) (if is_kind present (Some l) then followed ((spells c).row (leaf (a_path false) nothing)) ((spells o).row name_row) else None) (name_row_plain o h)
    (where_either (is_kind present (Some l)) (followed ((spells c).row (leaf (a_path false) nothing)) ((spells o).row name_row)) None
    (where_joined ((spells c).row (leaf (a_path false) nothing)) ((spells o).row name_row) (path_row_plain c) (name_row_plain o h)) tt)

-- what is no list of arguments for the one is none for the other
no_lists : (l : Label) (c o : Forest) → is_some (type_name (tree l c o)) ≡ true → has_arguments (tree l c o) ≡ false → lists_in c ≡ false
no_lists l (tree a b (tree (ident r x) d end)) o n h = refl
no_lists l (tree a b (tree (ident r x) d (tree (kind present) e f))) o n h = absurd (no_true (turned h))
no_lists l (tree a b (tree (ident r x) d (tree m e f))) o n h = refl
no_lists l c o n h = absurd (no_true n)

-- a type as an expression, without arguments
type_there : (c : Forest) → is_some (type_name c) ≡ true → has_arguments c ≡ false → WherePlain (first_slots (kind type_or_identifier) c (spells c) a_bare_expression)
type_there end n h = tt
type_there (tree l c o) n h = where_joined (first_slots l c (spells c) a_type) ((spells o).row nothing) (by l (no_lists l c o n h)) (nothing_plain o) where
  by : (l : Label) → lists_in c ≡ false → WherePlain (first_slots l c (spells c) a_type)
  by (kind type_expression) h = where_either (fits (kind type_expression) c && true) ((spells c).row type_row) None (type_plain c h) tt
  by (at k zero zero) h = tt
  by (at k zero (suc f)) h = tt
  by (at k (suc a) f) h = tt
  by l h = tt

-- ---- operands

-- the first tree is an expression with its span, which can be printed, and so can what is behind it
pub record Operand (c : Forest) (behind : Row) : Type 0 where
  pub label : Label
  pub children : Forest
  pub others : Forest
  pub is : c ≡ tree (at expression_node 0 0) (tree label children end) others
  pub there : is_some (first_slots label children (spells children) a_bare_expression) ≡ true
  pub later : is_some ((spells others).row behind) ≡ true

-- below the node of an expression
node_below : (d o : Forest) (row : Row) → is_some ((spells d).row (own a_bare_expression nothing)) ≡ true → is_some ((spells o).row row) ≡ true → Operand (tree (at expression_node 0 0) d o) row
node_below end o row h g = absurd (no_true h)
node_below (tree l c p) o row h g =
    let x : (is_some (first_slots l c (spells c) a_bare_expression) ≡ true) × (is_some ((spells p).row nothing) ≡ true) = both_there (first_slots l c (spells c) a_bare_expression) ((spells p).row nothing) h in
    record { label = l; children = c; others = o; is = ap (λ z. tree (at expression_node 0 0) (tree l c z) o) (no_more p x.1); there = x.0; later = g }

node_is : (m : Label) (d o : Forest) (row : Row) → is_some (first_slots m d (spells d) an_expression) ≡ true → is_some ((spells o).row row) ≡ true → Operand (tree m d o) row
node_is (at k zero zero) d o row h g = by (same_kind expression_node k) refl h where
  by : (b : Bool) → same_kind expression_node k ≡ b → is_some (option_and_then (λ r. if fits (at k 0 0) d && stands_as an_expression (at k 0 0) d then (spells d).row r else None) (if b then Some (own a_bare_expression nothing) else None)) ≡ true → Operand (tree (at k 0 0) d o) row
  by true e f = subst (λ z. Operand (tree (at z 0 0) d o) row) (kind_is expression_node k e) (node_below d o row f g)
  by false e f = absurd (no_true f)
node_is (at k zero (suc f)) d o row h g = absurd (no_true h)
node_is (at k (suc a) f) d o row h g = absurd (no_true h)
node_is l d o row h g = absurd (no_true h)

pub operand : (c : Forest) (row : Row) → is_some ((spells c).row (own an_expression row)) ≡ true → Operand c row
operand end row h = absurd (no_true h)
operand (tree m d o) row h =
    let x : (is_some (first_slots m d (spells d) an_expression) ≡ true) × (is_some ((spells o).row row) ≡ true) = both_there (first_slots m d (spells d) an_expression) ((spells o).row row) h in
    node_is m d o row x.0 x.1

pub behind_sign : (s : Symbol) (c : Forest) (row : Row) → is_some ((spells c).row (sym s row)) ≡ true → is_some ((spells c).row row) ≡ true
behind_sign s end row h = (both_there (Some (signed s ∷ [])) ((spells end).row row) h).1
behind_sign s (tree l c o) row h = (both_there (Some (signed s ∷ [])) ((spells (tree l c o)).row row) h).1

-- two of them, with a symbol between
record Two (c : Forest) : Type 0 where
  pub first : Label
  pub first_children : Forest
  pub second : Label
  pub second_children : Forest
  pub is : c ≡ tree (at expression_node 0 0) (tree first first_children end) (tree (at expression_node 0 0) (tree second second_children end) end)
  pub first_there : is_some (first_slots first first_children (spells first_children) a_bare_expression) ≡ true
  pub second_there : is_some (first_slots second second_children (spells second_children) a_bare_expression) ≡ true

two : (s : Symbol) (c : Forest) → is_some ((spells c).row (own an_expression (sym s (own an_expression nothing)))) ≡ true → Two c
two s c h = by (operand c (sym s (own an_expression nothing)) h) where
  of : (x : Operand c (sym s (own an_expression nothing))) → Operand x.others nothing → Two c
  of x y = record {
    first = x.label;
    first_children = x.children;
    second = y.label;
    second_children = y.children;
    is = x.is ∙ ap (λ z. tree (at expression_node 0 0) (tree x.label x.children end) z) (y.is ∙ ap (λ z. tree (at expression_node 0 0) (tree y.label y.children end) z) (no_more y.others y.later));
    first_there = x.there;
    second_there = y.there;
  }

  by : Operand c (sym s (own an_expression nothing)) → Two c
  by x = of x (operand x.others nothing (behind_sign s x.others (own an_expression nothing) x.later))

-- ---- what a formula is written as holds together as what it was read from

named_class : (o : Option Text) (b : Bool) (c : Forest) → class (named_as o b c) ≡ primary
named_class None b c = refl
named_class (Some x) true c = refl
named_class (Some x) false c = refl

read_class : (l : Label) (c : Forest) (xs : List (Spot Text)) → class (reading l c xs) ≡ class_of (Some l)
read_class (kind literal_kind) (tree (truth true) end end) xs = refl
read_class (kind literal_kind) (tree (truth false) end end) xs = refl
read_class (kind parenthesized_kind) c (x ∷ []) = refl
read_class (kind type_or_identifier) c xs = named_class (type_name c) (has_arguments c) c
read_class (unary unary_operator.LogicalNegation) c (x ∷ []) = refl
read_class (binary binary_operator.ShortCircuitAnd) c (x ∷ y ∷ []) = refl
read_class (binary binary_operator.ShortCircuitOr) c (x ∷ y ∷ []) = refl
read_class l c xs = refl

-- ---- all trees

module _ (reply : Replies Text) where
  -- an expression with these children
  abbrev Reads : Forest → Type 0
  Reads c = (l : Label) → is_some (first_slots l c (spells c) a_bare_expression) ≡ true → formula_faults reply (reading l c (spots c)) ≡ [] → Fine (reading l c (spots c))

  -- with the children of each node in them
  abbrev AllRead : Forest → Type 0
  AllRead end = Unit {0}
  AllRead (tree m d o) = Reads d × AllRead d × AllRead o

  refused : (l : Label) (c : Forest) → formula_faults reply (other l c) ≡ [] → ⊥
  refused l c e = let z : ⊥ = cc in z

  literal_reads : (c : Forest) (xs : List (Spot Text)) → formula_faults reply (reading (kind literal_kind) c xs) ≡ [] → Fine (reading (kind literal_kind) c xs)
  literal_reads (tree (truth true) end end) xs e = tt
  literal_reads (tree (truth false) end end) xs e = tt
  literal_reads c xs e = absurd (let z : ⊥ = cc in z)

  name_reads : (c : Forest) → is_some (first_slots (kind type_or_identifier) c (spells c) a_bare_expression) ≡ true → formula_faults reply (named_as (type_name c) (has_arguments c) c) ≡ [] → Fine (named_as (type_name c) (has_arguments c) c)
  name_reads c h e = by (type_name c) refl (has_arguments c) refl e where
    by : (o : Option Text) → type_name c ≡ o → (b : Bool) → has_arguments c ≡ b → formula_faults reply (named_as o b c) ≡ [] → Fine (named_as o b c)
    by None n b a e = absurd (refused (kind type_or_identifier) c e)
    by (Some x) n true a e = absurd (let z : ⊥ = cc in z)
    by (Some x) n false a e = there_plain (first_slots (kind type_or_identifier) c (spells c) a_bare_expression) (type_there c (ap is_some n) a) h

  -- the children of an operand
  read_below : (l : Label) (c o : Forest) → AllRead (tree (at expression_node 0 0) (tree l c end) o) → Reads c × AllRead o
  read_below l c o r = (r.1.0, r.2)

  within_reads : (c : Forest) → AllRead c → is_some ((spells c).row (sym is.ParenLeft (own an_expression (sym is.ParenRight nothing)))) ≡ true
      → formula_faults reply (reading (kind parenthesized_kind) c (spots c)) ≡ [] → Fine (reading (kind parenthesized_kind) c (spots c))
  within_reads c r h e = by (operand c (sym is.ParenRight nothing) (behind_sign is.ParenLeft c (own an_expression (sym is.ParenRight nothing)) h)) r e where
    of : (l : Label) (d : Forest) → AllRead (tree (at expression_node 0 0) (tree l d end) end) → is_some (first_slots l d (spells d) a_bare_expression) ≡ true
        → formula_faults reply (reading l d (spots d)) ≡ [] → Fine (within nowhere (reading l d (spots d)))
    of l d r t e = ((refl, refl), (read_below l d end r).0 l t e)

    by : Operand c (sym is.ParenRight nothing) → AllRead c → formula_faults reply (reading (kind parenthesized_kind) c (spots c)) ≡ [] → Fine (reading (kind parenthesized_kind) c (spots c))
    by x r e =
        let q : c ≡ tree (at expression_node 0 0) (tree x.label x.children end) end = x.is ∙ ap (λ z. tree (at expression_node 0 0) (tree x.label x.children end) z) (no_more_sign is.ParenRight x.others x.later) in
        subst (λ z. Fine (reading (kind parenthesized_kind) z (spots z))) (turned q)
        (of x.label x.children (subst AllRead q r) x.there (subst (λ z. formula_faults reply (reading (kind parenthesized_kind) z (spots z)) ≡ []) q e))

  negation_reads : (c : Forest) → AllRead c → is_tight (class_at 0 c) ≡ true → is_some ((spells c).row (sym is.Bang (own an_expression nothing))) ≡ true
      → formula_faults reply (reading (unary unary_operator.LogicalNegation) c (spots c)) ≡ [] → Fine (reading (unary unary_operator.LogicalNegation) c (spots c))
  negation_reads c r k h e = by (operand c nothing (behind_sign is.Bang c (own an_expression nothing) h)) where
    by : Operand c nothing → Fine (reading (unary unary_operator.LogicalNegation) c (spots c))
    by x =
        let q : c ≡ tree (at expression_node 0 0) (tree x.label x.children end) end = x.is ∙ ap (λ z. tree (at expression_node 0 0) (tree x.label x.children end) z) (no_more x.others x.later) in
        subst (λ z. Fine (reading (unary unary_operator.LogicalNegation) z (spots z))) (turned q)
        (of x.label x.children (subst AllRead q r) x.there (subst (λ z. is_tight (class_at 0 z) ≡ true) q k) (subst (λ z. formula_faults reply (reading (unary unary_operator.LogicalNegation) z (spots z)) ≡ []) q e)) where
          of : (l : Label) (d : Forest) → AllRead (tree (at expression_node 0 0) (tree l d end) end) → is_some (first_slots l d (spells d) a_bare_expression) ≡ true → is_tight (class_of (Some l)) ≡ true
              → formula_faults reply (reading l d (spots d)) ≡ [] → Fine (negation nowhere (reading l d (spots d)))
          of l d r t k e = ((refl, refl), ap is_tight (read_class l d (spots d)) ∙ k, (read_below l d end r).0 l t e)

  conjunction_reads : (c : Forest) → AllRead c → takes_left both (class_at 0 c) ≡ true → takes_right both (class_at 1 c) ≡ true → Two c
      → formula_faults reply (reading (binary binary_operator.ShortCircuitAnd) c (spots c)) ≡ [] → Fine (reading (binary binary_operator.ShortCircuitAnd) c (spots c))
  conjunction_reads c r a b x e =
      subst (λ z. Fine (reading (binary binary_operator.ShortCircuitAnd) z (spots z))) (turned x.is)
      (of x.first x.second x.first_children x.second_children (subst AllRead x.is r) x.first_there x.second_there (subst (λ z. takes_left both (class_at 0 z) ≡ true) x.is a) (subst (λ z. takes_right both (class_at 1 z) ≡ true) x.is b)
      (subst (λ z. formula_faults reply (reading (binary binary_operator.ShortCircuitAnd) z (spots z)) ≡ []) x.is e)) where
        of : (l m : Label) (d f : Forest) → AllRead (tree (at expression_node 0 0) (tree l d end) (tree (at expression_node 0 0) (tree m f end) end))
            → is_some (first_slots l d (spells d) a_bare_expression) ≡ true → is_some (first_slots m f (spells f) a_bare_expression) ≡ true
            → takes_left both (class_of (Some l)) ≡ true → takes_right both (class_of (Some m)) ≡ true
            → formula_faults reply (reading l d (spots d)) ++ formula_faults reply (reading m f (spots f)) ≡ []
            → Fine (conjunction nowhere (reading l d (spots d)) nowhere (reading m f (spots f)))
        of l m d f r t u a b e = (
          (refl, refl),
          (refl, refl),
          ap (takes_left both) (read_class l d (spots d)) ∙ a,
          ap (takes_right both) (read_class m f (spots f)) ∙ b,
          r.1.0 l t (none_before (formula_faults reply (reading l d (spots d))) (formula_faults reply (reading m f (spots f))) e),
          r.2.1.0 m u (none_after (formula_faults reply (reading l d (spots d))) (formula_faults reply (reading m f (spots f))) e),
        )

  disjunction_reads : (c : Forest) → AllRead c → takes_left either (class_at 0 c) ≡ true → takes_right either (class_at 1 c) ≡ true → Two c
      → formula_faults reply (reading (binary binary_operator.ShortCircuitOr) c (spots c)) ≡ [] → Fine (reading (binary binary_operator.ShortCircuitOr) c (spots c))
  disjunction_reads c r a b x e =
      subst (λ z. Fine (reading (binary binary_operator.ShortCircuitOr) z (spots z))) (turned x.is)
      (of x.first x.second x.first_children x.second_children (subst AllRead x.is r) x.first_there x.second_there (subst (λ z. takes_left either (class_at 0 z) ≡ true) x.is a) (subst (λ z. takes_right either (class_at 1 z) ≡ true) x.is b)
      (subst (λ z. formula_faults reply (reading (binary binary_operator.ShortCircuitOr) z (spots z)) ≡ []) x.is e)) where
        of : (l m : Label) (d f : Forest) → AllRead (tree (at expression_node 0 0) (tree l d end) (tree (at expression_node 0 0) (tree m f end) end))
            → is_some (first_slots l d (spells d) a_bare_expression) ≡ true → is_some (first_slots m f (spells f) a_bare_expression) ≡ true
            → takes_left either (class_of (Some l)) ≡ true → takes_right either (class_of (Some m)) ≡ true
            → formula_faults reply (reading l d (spots d)) ++ formula_faults reply (reading m f (spots f)) ≡ []
            → Fine (disjunction nowhere (reading l d (spots d)) nowhere (reading m f (spots f)))
        of l m d f r t u a b e = (
          (refl, refl),
          (refl, refl),
          ap (takes_left either) (read_class l d (spots d)) ∙ a,
          ap (takes_right either) (read_class m f (spots f)) ∙ b,
          r.1.0 l t (none_before (formula_faults reply (reading l d (spots d))) (formula_faults reply (reading m f (spots f))) e),
          r.2.1.0 m u (none_after (formula_faults reply (reading l d (spots d))) (formula_faults reply (reading m f (spots f))) e),
        )

  reads : (c : Forest) → AllRead c → Reads c
  reads c r (kind literal_kind) h e = literal_reads c (spots c) e
  reads c r (kind parenthesized_kind) h e = within_reads c r h e
  reads c r (kind type_or_identifier) h e = name_reads c h e
  reads c r (unary unary_operator.LogicalNegation) h e =
      let x : ((is_tight (class_at 0 c) && true) ≡ true) × (is_some ((spells c).row (sym is.Bang (own an_expression nothing))) ≡ true) = where_there (is_tight (class_at 0 c) && true) ((spells c).row (sym is.Bang (own an_expression nothing))) h in
      negation_reads c r (and_parts (is_tight (class_at 0 c)) true x.0).0 x.1 e
  reads c r (binary binary_operator.ShortCircuitAnd) h e =
      let row : Slots = (spells c).row (own an_expression (sym is.AndAnd (own an_expression nothing))) in
      let x : (((takes_left both (class_at 0 c) && takes_right both (class_at 1 c)) && true) ≡ true) × (is_some row ≡ true) = where_there ((takes_left both (class_at 0 c) && takes_right both (class_at 1 c)) && true) row h in
      let y : (takes_left both (class_at 0 c) ≡ true) × (takes_right both (class_at 1 c) ≡ true) = and_parts (takes_left both (class_at 0 c)) (takes_right both (class_at 1 c)) (and_parts (takes_left both (class_at 0 c) && takes_right both (class_at 1 c)) true x.0).0 in
      conjunction_reads c r y.0 y.1 (two is.AndAnd c x.1) e
  reads c r (binary binary_operator.ShortCircuitOr) h e =
      let row : Slots = (spells c).row (own an_expression (sym is.OrOr (own an_expression nothing))) in
      let x : (((takes_left either (class_at 0 c) && takes_right either (class_at 1 c)) && true) ≡ true) × (is_some row ≡ true) = where_there ((takes_left either (class_at 0 c) && takes_right either (class_at 1 c)) && true) row h in
      let y : (takes_left either (class_at 0 c) ≡ true) × (takes_right either (class_at 1 c) ≡ true) = and_parts (takes_left either (class_at 0 c)) (takes_right either (class_at 1 c)) (and_parts (takes_left either (class_at 0 c) && takes_right either (class_at 1 c)) true x.0).0 in
      disjunction_reads c r y.0 y.1 (two is.OrOr c x.1) e
  reads c r l h e = absurd (refused l c e)

  all_read : (c : Forest) → AllRead c
  all_read end = tt
  all_read (tree m d o) = (reads d (all_read d), all_read d, all_read o)

  -- an expression that can be printed and reads as a formula without a fault
  pub read_fine : (l : Label) (c : Forest) → is_some (first_slots l c (spells c) a_bare_expression) ≡ true → formula_faults reply (reading l c (spots c)) ≡ [] → Fine (reading l c (spots c))
  read_fine l c h e = reads c (all_read c) l h e
