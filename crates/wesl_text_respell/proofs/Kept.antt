-- What is asked of trees beside their rows is the same of trees with other names.
use Rattle.std.proofs.Common.{◌≡◌, ℕ, zero, suc, false, not, ◌&&◌, ◌||◌, Some, refl, sym as turned, inl, inr, ap, ap₂, ◌∙◌, codes}
use Rattle.wesl_tree_syntax.specs.Tree.{Kind, kind, at, ident, unary, binary, assignment, end, tree, absent, attributes, expression_node, custom, type_or_identifier, type_expression, named_component, indexing, parenthesized, increment, decrement, declaration, switch_clause, for_loop, workgroup_size, default_case, override_kind, let_kind, var_kind}
use Rattle.wesl_tree_syntax.specs.declared.statement.AssignmentOperator.TheVariants as assignment_operator
use Rattle.wesl_text_form.specs.Operators.{primary, same_class, class_of, operator_class, is_tight, takes_left, takes_right, is_place_operator}
use Rattle.wesl_text_form.specs.Productions.{Sort, a_bare_statement}
use Rattle.wesl_text_form.specs.Spelling.{Label, Forest, label_at, below_first, from_place, is_kind, is_end, class_at, leads_to_place, ends_open, begins_enclosed, are_apart, is_target_at, is_empty_at, is_absent_at, is_simple, is_simple_at, fits, stands_as, is_lone_default}
use Rattle.wesl_text_reading.proofs.Filled.{no_true}
use Rattle.wesl_text_respell.specs.Respelled.{named_by, IsNamed, IsRespelled, ends, same, renamed, unqualified, discards}
use Rattle.wesl_text_reading.proofs.Targets.{open_last}

-- the trees from a place on
place_kept : {c d : Forest} (n : ℕ) → IsRespelled c d → IsRespelled (from_place n c) (from_place n d)
place_kept n ends = ends
place_kept zero (same l c o) = same l c o
place_kept zero (renamed r x y h c o) = renamed r x y h c o
place_kept zero (unqualified q c o) = unqualified q c o
place_kept zero (discards n a v o) = discards n a v o
place_kept (suc n) (same l c o) = place_kept n o
place_kept (suc n) (renamed r x y h c o) = place_kept n o
place_kept (suc n) (unqualified q c o) = place_kept n o
place_kept (suc n) (discards m a v o) = place_kept n o

pub end_kept : {c d : Forest} → IsRespelled c d → is_end d ≡ is_end c
end_kept ends = refl
end_kept (same l c o) = refl
end_kept (renamed r x y h c o) = refl
end_kept (unqualified q c o) = refl
end_kept (discards n a v o) = refl

-- ---- kinds and classes

pub kind_kept : {c d : Forest} (k : Kind) (n : ℕ) → IsRespelled c d → is_kind k (label_at n d) ≡ is_kind k (label_at n c)
kind_kept k n ends = refl
kind_kept k zero (same l c o) = refl
kind_kept k zero (renamed r x y h c o) = refl
kind_kept k zero (unqualified q c o) = refl
kind_kept k zero (discards n a v o) = refl
kind_kept k (suc n) (same l c o) = kind_kept k n o
kind_kept k (suc n) (renamed r x y h c o) = kind_kept k n o
kind_kept k (suc n) (unqualified q c o) = kind_kept k n o
kind_kept k (suc n) (discards m a v o) = kind_kept k n o

pub class_kept : {c d : Forest} → IsRespelled c d → class_of (label_at 0 d) ≡ class_of (label_at 0 c)
class_kept ends = refl
class_kept (same l c o) = refl
class_kept (renamed r x y h c o) = refl
class_kept (unqualified q c o) = refl
class_kept (discards n a v o) = refl

class_below : {c d : Forest} → IsRespelled c d → class_of (label_at 0 (below_first d)) ≡ class_of (label_at 0 (below_first c))
class_below ends = refl
class_below (same l c o) = class_kept c
class_below (renamed r x y h c o) = class_kept c
class_below (unqualified q c o) = refl
class_below (discards n a v o) = refl

class_there : {c d : Forest} (n : ℕ) → IsRespelled c d → class_at n d ≡ class_at n c
class_there n r = class_below (place_kept n r)

-- ---- places, attributes and parentheses

pub leads_kept : {c d : Forest} → IsRespelled c d → leads_to_place d ≡ leads_to_place c
leads_kept ends = refl
leads_kept (renamed r x y h c o) = refl
leads_kept (unqualified q c o) = refl
leads_kept (discards n a v o) = refl
leads_kept (same (at k s e) c o) = leads_kept c
leads_kept (same (kind type_or_identifier) c o) = refl
leads_kept (same (kind named_component) c o) = leads_kept c
leads_kept (same (kind indexing) c o) = leads_kept c
leads_kept (same (kind parenthesized) c o) = leads_kept c
leads_kept (same (unary o) c p) = ap (λ z. is_place_operator o && z) (leads_kept c)
leads_kept (same l c o) = refl

enclosed_kept : {c d : Forest} → IsRespelled c d → begins_enclosed d ≡ begins_enclosed c
enclosed_kept ends = refl
enclosed_kept (renamed r x y h c o) = refl
enclosed_kept (unqualified q c o) = refl
enclosed_kept (discards n a v o) = refl
enclosed_kept (same (at k s e) c o) = enclosed_kept c
enclosed_kept (same (kind named_component) c o) = enclosed_kept c
enclosed_kept (same (kind indexing) c o) = enclosed_kept c
enclosed_kept (same (kind parenthesized) c o) = refl
enclosed_kept (same l c o) = refl

open_from : {c d o p : Forest} (l m : Label) → IsRespelled c d → IsRespelled o p → ends_open p ≡ ends_open o → ends_open (tree m d p) ≡ ends_open (tree l c o)
open_from l m (same (kind custom) (same n b (same (kind absent) ends ends)) ends) ends h = refl
open_from l m (same (kind custom) (renamed n x y g b (same (kind absent) ends ends)) ends) ends h = refl
open_from l m (same (kind custom) (unqualified n b (same (kind absent) ends ends)) ends) ends h = refl
open_from l m (same (kind custom) (discards n b v (same (kind absent) ends ends)) ends) ends h = refl
open_from l m c o h = h

pub open_kept : {c d : Forest} → IsRespelled c d → ends_open d ≡ ends_open c
open_kept ends = refl
open_kept (same l c o) = open_from l l c o (open_kept o)
open_kept (renamed r x y h c o) = open_from (ident r x) (ident r y) c o (open_kept o)
open_kept (unqualified q c o) = open_kept o
open_kept (discards n a v o) = open_kept o

-- a name that stands first has no bearing
open_named : (t o : Forest) → IsNamed t → ends_open (tree (at expression_node 0 0) t o) ≡ ends_open o
open_named t o (inl x) = ap (λ z. ends_open (tree (at expression_node 0 0) z o)) x.1
open_named t o (inr x) = ap (λ z. ends_open (tree (at expression_node 0 0) z o)) x.2

open_discards : {v w : Forest} (a b t u : Forest) → IsNamed t → IsNamed u → IsRespelled v w → ends_open (tree (kind attributes) b (tree (at expression_node 0 0) u w)) ≡ ends_open (tree (kind attributes) a (tree (at expression_node 0 0) t v))
open_discards {v = v} {w = w} a b t u n m r =
    open_last (kind attributes) b (at expression_node 0 0) u w ∙ (open_named u w m ∙ (open_kept r ∙ turned (open_last (kind attributes) a (at expression_node 0 0) t v ∙ open_named t v n)))

open_below : {c d : Forest} → IsRespelled c d → ends_open (below_first d) ≡ ends_open (below_first c)
open_below ends = refl
open_below (same l c o) = open_kept c
open_below (renamed r x y h c o) = open_kept c
open_below (unqualified q c o) = open_kept c
open_below (discards {own = a} {target = t} {new_own = b} n x v o) = open_discards a b t (named_by (codes "_")) n (inl (codes "_", refl)) v

apart_kept : {c d : Forest} → IsRespelled c d → are_apart d ≡ are_apart c
apart_kept r = ap₂ (λ a b. not (a && b)) (open_below r) (enclosed_kept (place_kept 1 r))

target_kept : {c d : Forest} (n : ℕ) → IsRespelled c d → is_target_at n d ≡ is_target_at n c
target_kept n r = ap₂ (λ a b. is_tight a && b) (class_there n r) (leads_kept (place_kept n r))

-- ---- lists, and statements that are simple

empty_below : {c d : Forest} → IsRespelled c d → is_end (below_first d) ≡ is_end (below_first c)
empty_below ends = refl
empty_below (same l c o) = end_kept c
empty_below (renamed r x y h c o) = end_kept c
empty_below (unqualified q c o) = refl
empty_below (discards n a v o) = refl

simple_kept : {c d : Forest} → IsRespelled c d → is_simple (label_at 0 d) ≡ is_simple (label_at 0 c)
simple_kept ends = refl
simple_kept (same l c o) = refl
simple_kept (renamed r x y h c o) = refl
simple_kept (unqualified q c o) = refl
simple_kept (discards n a v o) = refl

simple_below : {c d : Forest} → IsRespelled c d → is_simple (label_at 0 (below_first d)) ≡ is_simple (label_at 0 (below_first c))
simple_below ends = refl
simple_below (same l c o) = simple_kept c
simple_below (renamed r x y h c o) = simple_kept c
simple_below (unqualified q c o) = refl
simple_below (discards n a v o) = refl

simple_within : {c d : Forest} → IsRespelled c d → is_simple (label_at 0 (below_first (below_first d))) ≡ is_simple (label_at 0 (below_first (below_first c)))
simple_within ends = refl
simple_within (same l c o) = simple_below c
simple_within (renamed r x y h c o) = simple_below c
simple_within (unqualified q c o) = refl
simple_within (discards n a v o) = simple_kept a

simple_there : {c d : Forest} (n : ℕ) → IsRespelled c d → is_simple_at n d ≡ is_simple_at n c
simple_there n r = ap₂ (λ a b. a || b) (kind_kept absent n r) (simple_within (place_kept n r))

pub lone_kept : {c d : Forest} → IsRespelled c d → is_lone_default d ≡ is_lone_default c
lone_kept (same (kind default_case) ends ends) = refl
lone_kept ends = refl
lone_kept (renamed r x y h c o) = refl
lone_kept (unqualified q c o) = refl
lone_kept (discards n a v o) = refl
lone_kept (same l c o) = refl

-- ---- whether children fit

-- but those of a type, whose arguments are seen through
pub fits_kept : {c d : Forest} (l : Label) → is_kind type_expression (Some l) ≡ false → IsRespelled c d → fits l d ≡ fits l c
fits_kept (unary o) t r = ap is_tight (class_there 0 r)
fits_kept (binary o) t r = ap₂ (λ a b. takes_left (operator_class o) a && takes_right (operator_class o) b) (class_there 0 r) (class_there 1 r)
fits_kept (assignment assignment_operator.Equal) t r = apart_kept r
fits_kept (assignment o) t r = ap₂ (λ a b. a && b) (target_kept 1 r) (apart_kept r)
fits_kept (kind named_component) t r = ap (same_class primary) (class_there 0 r)
fits_kept (kind indexing) t r = ap (same_class primary) (class_there 0 r)
fits_kept (kind increment) t r = ap₂ (λ a b. a && b) (target_kept 1 r) (apart_kept r)
fits_kept (kind decrement) t r = ap₂ (λ a b. a && b) (target_kept 1 r) (apart_kept r)
fits_kept (kind declaration) t r = ap₂ (λ a b. a || b) (ap₂ (λ a b. not a || b) (kind_kept absent 4 r) (kind_kept var_kind 1 r)) (kind_kept override_kind 1 r)
fits_kept (kind type_expression) t r = absurd (no_true (turned t))
fits_kept (kind workgroup_size) t r = ap₂ (λ a b. not a || b) (kind_kept absent 1 r) (kind_kept absent 2 r)
fits_kept (kind switch_clause) t r = ap not (empty_below (place_kept 1 r))
fits_kept (kind for_loop) t r = ap₂ (λ a b. a && b) (simple_there 1 r) (simple_there 3 r)
fits_kept l t r = refl

pub stands_kept : {c d : Forest} (s : Sort) (l : Label) → IsRespelled c d → stands_as s l d ≡ stands_as s l c
stands_kept a_bare_statement (kind declaration) r = ap not (kind_kept override_kind 1 r)
stands_kept s (kind declaration) r = ap not (kind_kept let_kind 1 r)
stands_kept s l r = refl

-- a type, whose arguments are no type
label_from : (n : ℕ) (c : Forest) → label_at 0 (from_place n c) ≡ label_at n c
label_from n end = refl
label_from zero (tree l c o) = refl
label_from (suc n) (tree l c o) = label_from n o

arguments_kept : {c d : Forest} → IsRespelled c d → is_kind type_expression (label_at 0 c) ≡ false → is_empty_at 0 (below_first d) ≡ is_empty_at 0 (below_first c)
arguments_kept ends t = refl
arguments_kept (same l c o) t = empty_below (place_kept 0 c)
arguments_kept (renamed r x y h c o) t = empty_below (place_kept 0 c)
arguments_kept (unqualified q c o) t = absurd (no_true (turned t))
arguments_kept (discards n a v o) t = end_kept a

pub type_kept : {c d : Forest} (n : ℕ) → IsRespelled c d → is_kind type_expression (label_at n c) ≡ false
    → (is_absent_at n d || not (is_empty_at 0 (below_first (from_place n d)))) ≡ (is_absent_at n c || not (is_empty_at 0 (below_first (from_place n c))))
type_kept {c = c} n r t = ap₂ (λ a b. a || not b) (kind_kept absent n r) (arguments_kept (place_kept n r) (ap (is_kind type_expression) (label_from n c) ∙ t))
