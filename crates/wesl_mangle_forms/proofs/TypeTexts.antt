-- Lists of texts with a mark between each two, and the texts of lists of nodes.
use Rattle.std.proofs.Common.{◌≡◌, ◌<◌, ◌≤◌, ◌+◌, ℕ, zero, suc, nat_lt, Bool, true, false, Option, Some, None, rules, tests, ◌&&◌, List, [], ◌∷◌, ◌++◌, length, get_or, map, take, drop, refl, ap, sym, ◌∙◌, arith, append_assoc, add-one, drop-cons, subst}
use mathlib.Core.List.{map-map}
use Rattle.std.proofs.lemmas.List.{take_all, take_more, map-append, append-nil, length-map, length-take}
use Rattle.std.proofs.lemmas.List.Concat.{flat_map-append}
use Rattle.std.specs.List.{join_by, flat_map, list_all}
use Rattle.std.specs.Global.{Box, Vec}
use Rattle.wesl_tree_names.specs.Path.{Text}
use Rattle.wesl_tree_names.specs.declared.names.Ident.{Ident}
use Rattle.wesl_tree_names.specs.declared.path.ModulePath.{ModulePath}
use Rattle.wesl_tree_syntax.specs.Tree.{Label, Forest, Tree, end, tree, kind, list, literal, type_or_identifier, reference, type_expression, branch, before, forest_of, forest_below, tree_below}
use Rattle.wesl_tree_syntax.specs.View.{argument_view, type_view, listed, optional, boxed_path, ident_tree, literal_tree, expression_view, expression_step, call_step, argument_step, type_step}
use Rattle.wesl_tree_syntax.specs.declared.expression.Expression.{Expression}
use Rattle.wesl_tree_syntax.specs.declared.expression.Expression as made
use Rattle.wesl_tree_syntax.specs.declared.expression.Literal.{Literal}
use Rattle.wesl_tree_syntax.specs.declared.expression.Literal.TheVariants as literals
use Rattle.wesl_tree_syntax.specs.declared.expression.TemplateArg.{TemplateArg, out-TemplateArg}
use Rattle.wesl_tree_syntax.specs.declared.expression.Expression.TheFolds.{fold-roll-TypeExpression}
use Rattle.wesl_tree_syntax.specs.declared.expression.Expression.TheViews.{roll-out-TypeExpression}
use Rattle.wesl_tree_syntax.specs.declared.expression.TypeExpression.{TypeExpression, out-TypeExpression, roll-TypeExpression}
use Rattle.wesl_mangle_forms.specs.TypeText.{opening, between, closing, bracketed, mark_before, texts_in, tree_text, is_literal_or_type, is_normal, is_normal_type}
use Rattle.wesl_mangle_forms.specs.Written.{AddsText}
use Rattle.wesl_mangle_forms.specs.declared.writer.Writer.{Writer}
use Rattle.wesl_mangle_forms.proofs.Written.{then, worded}
use Rattle.wesl_tree_syntax.proofs.Views.{view_argument, view_literal, view_name}
use Rattle.std.proofs.lemmas.Bool.{and_parts}

-- one more text at the end
pub join-last : (sep x : Text) (ts : List Text) (t : Text) → (x ++ flat_map (λ y. sep ++ y) ts) ++ (sep ++ t) ≡ x ++ flat_map (λ y. sep ++ y) (ts ++ t ∷ [])
join-last sep x ts t =
    let more = λ (y : Text). sep ++ y in
    append_assoc x (flat_map more ts) (sep ++ t)
    ∙ ap (λ (ys : Text). x ++ (flat_map more ts ++ ys)) (sym (append-nil (sep ++ t)))
    ∙ ap (λ (ys : Text). x ++ ys) (sym (flat_map-append more ts (t ∷ [])))

joined-last : (ts : List Text) (t : Text) (n : ℕ) → n ≡ length ts → join_by (λ x. x) between ts ++ (mark_before n ++ t) ≡ join_by (λ x. x) between (ts ++ t ∷ [])
joined-last [] t zero e = sym (append-nil t)
joined-last [] t (suc n) e = absurd (omega arith)
joined-last (x ∷ ts) t zero e = absurd (omega arith)
joined-last (x ∷ ts) t (suc n) e = join-last between x ts t

pub joined-more : {A : Type 0} (f : A → Text) (xs : List A) (i : ℕ) (a d : A) → i < length xs → a ≡ get_or xs i d
    → join_by (λ x. x) between (map f (take i xs)) ++ (mark_before i ++ f a) ≡ join_by (λ x. x) between (map f (take (i + 1) xs))
joined-more {A} f xs i a d l e =
    let t : take (i + 1) xs ≡ take i xs ++ a ∷ [] = take_more xs i d l ∙ ap (λ (x : A). take i xs ++ x ∷ []) (sym e) in
    let m : map f (take (i + 1) xs) ≡ map f (take i xs) ++ f a ∷ [] = ap (map f) t ∙ map-append f (take i xs) (a ∷ []) in
    let n = length-map (take i xs) f in
    let k = length-take i xs in
    joined-last (map f (take i xs)) (f a) i (omega (arith, n, k, l)) ∙ ap (join_by (λ (x : Text). x) between) (sym m)

module _ {A : Type 0} (view : A → Tree) where
  pub texts_in-map : (names : List Text) (xs : List A) → texts_in names (forest_of (map view xs)) ≡ map (λ a. tree_text names (view a)) xs
  texts_in-map names [] = refl
  texts_in-map names (x ∷ xs) = ap (λ ts. tree_text names (view x) ∷ ts) (texts_in-map names xs)

  pub below_next : (n : ℕ) (xs : List A) (i : ℕ) (x d : A) → i < length xs → x ≡ get_or xs i d
      → forest_below n (forest_of (map view (drop i xs))) ≡ (tree_below n (view x) && forest_below n (forest_of (map view (drop (i + 1) xs))))
  below_next n xs i x d h is = rw (drop-cons xs i d h, ← is, add-one) refl

pub map-twice : {A B C : Type 0} (f : B → C) (g : A → B) (xs : List A) → map (λ x. f (g x)) xs ≡ map f (map g xs)
map-twice f g [] = refl
map-twice f g (x ∷ xs) = ap (λ ys. f (g x) ∷ ys) (map-twice f g xs)

-- an argument is written as its expression
pub argument-text : (names : List Text) (a : TemplateArg) → tree_text names (expression_view (out-TemplateArg a).expression.node) ≡ tree_text names (argument_view a)
argument-text names a = ap (tree_text names) (sym (view_argument a))

normal-cons : (a : TemplateArg) (f : Forest) → is_normal (before (argument_view a) f) ≡ (is_normal (argument_view a).children && is_normal f)
normal-cons a f = let P : Tree → Type 0 = λ t. is_normal (before t f) ≡ (is_normal t.children && is_normal f) in subst P (sym (view_argument a)) refl

pub normal_next : (xs : List TemplateArg) (i : ℕ) (x d : TemplateArg) → i < length xs → x ≡ get_or xs i d
    → is_normal (forest_of (map argument_view (drop i xs))) ≡ (is_normal (argument_view x).children && is_normal (forest_of (map argument_view (drop (i + 1) xs))))
normal_next xs i x d h is =
    let e : drop i xs ≡ x ∷ drop (i + 1) xs = rw (drop-cons xs i d h, ← is, add-one) refl in
    ap (λ (ys : List TemplateArg). is_normal (forest_of (map argument_view ys))) e ∙ normal-cons x (forest_of (map argument_view (drop (i + 1) xs)))

-- Lists of texts that are being written.

-- a mark and one text more, after what stood before
pub one-more : {A : Type 0} (f : A → Text) (xs : List A) (i : ℕ) (a d : A) → i < length xs → a ≡ get_or xs i d → {u v w x : Writer}
    → AddsText u v (opening ++ join_by (λ t. t) between (map f (take i xs))) → AddsText v w (mark_before i) → AddsText w x (f a) → AddsText u x (opening ++ join_by (λ t. t) between (map f (take (i + 1) xs)))
one-more f xs i a d l is written mark one =
    let joined : Text = join_by (λ (t : Text). t) between (map f (take i xs)) in
    worded
    (append_assoc (opening ++ joined) (mark_before i) (f a) ∙ append_assoc opening joined (mark_before i ++ f a) ∙ ap (λ (t : Text). opening ++ t) (joined-more f xs i a d l is))
    (then (then written mark) one)

-- the whole list in brackets
pub all-of-it : {A : Type 0} (f : A → Text) (xs ys : List A) (i : ℕ) (ts : List Text) → length xs ≤ i → xs ≡ ys → map f ys ≡ ts → {u v w : Writer}
    → AddsText u v (opening ++ join_by (λ t. t) between (map f (take i xs))) → AddsText v w closing → AddsText u w (bracketed ts)
all-of-it f xs ys i ts l same seen written last =
    let e : map f (take i xs) ≡ ts = ap (map f) (take_all i xs l ∙ same) ∙ seen in
    worded
    (ap (λ (us : List Text). (opening ++ join_by (λ (t : Text). t) between us) ++ closing) e ∙ append_assoc opening (join_by (λ (t : Text). t) between ts) closing)
    (then written last)

pub all_next : {A : Type 0} (view : A → Tree) (p : Tree → Bool) (xs : List A) (i : ℕ) (x d : A) → i < length xs → x ≡ get_or xs i d
    → list_all p (map view (drop i xs)) ≡ (p (view x) && list_all p (map view (drop (i + 1) xs)))
all_next view p xs i x d h is = rw (drop-cons xs i d h, ← is, add-one) refl

-- One type.

abbrev type_tree : Option (Box ModulePath) → Ident → Option (Vec TemplateArg) → Tree
type_tree p i o = branch type_expression (optional boxed_path p ∷ ident_tree reference i ∷ optional (listed argument_view list) o ∷ [])

view_type_of : (p : Option (Box ModulePath)) (i : Ident) (o : Option (Vec TemplateArg)) → type_view (roll-TypeExpression (record { path = p; ident = i; template_args = o })) ≡ type_tree p i o
view_type_of p i None = fold-roll-TypeExpression Tree Tree Tree Tree expression_step call_step argument_step type_step (record { path = p; ident = i; template_args = None })
view_type_of p i (Some v) = fold-roll-TypeExpression Tree Tree Tree Tree expression_step call_step argument_step type_step (record { path = p; ident = i; template_args = Some v }) ∙ simp map-map

pub view_type : (t : TypeExpression) → type_view t ≡ type_tree (out-TypeExpression t).path (out-TypeExpression t).ident (out-TypeExpression t).template_args
view_type t = ap type_view (sym (roll-out-TypeExpression t)) ∙ view_type_of (out-TypeExpression t).path (out-TypeExpression t).ident (out-TypeExpression t).template_args

below-ident : (n : ℕ) (p : Option (Box ModulePath)) (i : Ident) (o : Option (Vec TemplateArg)) → tree_below n (type_tree p i o) ≡ true → nat_lt i.0 n ≡ true
below-ident n None i o h = (and_parts _ _ (and_parts _ _ h).0).0
below-ident n (Some p) i o h = (and_parts _ _ (and_parts _ _ h).0).0

text-alone : (names : List Text) (p : Option (Box ModulePath)) (i : Ident) → get_or names i.0 [] ≡ tree_text names (type_tree p i None)
text-alone names None i = sym (append-nil _)
text-alone names (Some p) i = sym (append-nil _)

text-with : (names : List Text) (p : Option (Box ModulePath)) (i : Ident) (v : Vec TemplateArg) → get_or names i.0 [] ++ tree_text names (listed argument_view list v) ≡ tree_text names (type_tree p i (Some v))
text-with names None i v = refl
text-with names (Some p) i v = refl

module _ (t : TypeExpression) where
  pub type-ident : (n : ℕ) → tree_below n (type_view t) ≡ true → (out-TypeExpression t).ident.0 < n
  type-ident n h =
      let e = below-ident n (out-TypeExpression t).path (out-TypeExpression t).ident (out-TypeExpression t).template_args (sym (ap (tree_below n) (view_type t)) ∙ h) in search (rules, tests)

  pub type-text : (names : List Text) → (out-TypeExpression t).template_args ≡ None → get_or names (out-TypeExpression t).ident.0 [] ≡ tree_text names (type_view t)
  type-text names none = rw (view_type t, none) (text-alone names (out-TypeExpression t).path (out-TypeExpression t).ident)

  module _ (v : Vec TemplateArg) (some : (out-TypeExpression t).template_args ≡ Some v) where
    pub type-texts : (names : List Text) → get_or names (out-TypeExpression t).ident.0 [] ++ tree_text names (listed argument_view list v) ≡ tree_text names (type_view t)
    type-texts names =
        text-with names (out-TypeExpression t).path (out-TypeExpression t).ident v
        ∙ sym (ap (tree_text names) (view_type t ∙ ap (type_tree (out-TypeExpression t).path (out-TypeExpression t).ident) some))

-- What an argument may be.

pub literal-text : (names : List Text) (e : Expression) (l : Literal) → e ≡ made.Literal l → tree_text names (literal_tree l) ≡ tree_text names (expression_view e)
literal-text names e l is = sym (ap (tree_text names) (ap expression_view is ∙ view_literal l))

module _ (e : Expression) (t : TypeExpression) (is : e ≡ made.TypeOrIdentifier t) where
  inner : expression_view e ≡ branch type_or_identifier (type_view t ∷ [])
  inner = ap expression_view is ∙ view_name t

  pub inner-text : (names : List Text) → tree_text names (type_view t) ≡ tree_text names (expression_view e)
  inner-text names = sym (ap (tree_text names) inner)

-- Whether types are normal.

and-end : (b : Bool) → b ≡ (b && true)
and-end true = refl
and-end false = refl

alone : (p : Option (Box ModulePath)) (i : Ident) → true ≡ is_normal_type (type_tree p i None)
alone None i = refl
alone (Some p) i = refl

with-arguments : (p : Option (Box ModulePath)) (i : Ident) (v : Vec TemplateArg) → is_normal_type (listed argument_view list v) ≡ is_normal_type (type_tree p i (Some v))
with-arguments None i v = and-end _ ∙ and-end _
with-arguments (Some p) i v = and-end _ ∙ and-end _

pub normal-alone : (t : TypeExpression) → (out-TypeExpression t).template_args ≡ None → true ≡ is_normal_type (type_view t)
normal-alone t none = rw (view_type t, none) (alone (out-TypeExpression t).path (out-TypeExpression t).ident)

pub normal-with : (t : TypeExpression) (v : Vec TemplateArg) → (out-TypeExpression t).template_args ≡ Some v → is_normal_type (listed argument_view list v) ≡ is_normal_type (type_view t)
normal-with t v some =
    with-arguments (out-TypeExpression t).path (out-TypeExpression t).ident v
    ∙ sym (ap is_normal_type (view_type t ∙ ap (type_tree (out-TypeExpression t).path (out-TypeExpression t).ident) some))

-- an argument's expression is a literal or a type, and normal
abbrev pub fits : Expression → Bool
fits e = is_literal_or_type (expression_view e).label && is_normal (expression_view e).children

abbrev fits-tree : Tree → Bool
fits-tree u = is_literal_or_type u.label && is_normal u.children

literal-fits : (l : Literal) → true ≡ fits-tree (branch literal (literal_tree l ∷ []))
literal-fits (literals.Bool b) = refl
literal-fits (literals.Text s) = refl

pub normal-literal : (e : Expression) (l : Literal) → e ≡ made.Literal l → true ≡ fits e
normal-literal e l is = literal-fits l ∙ sym (ap fits-tree (ap expression_view is ∙ view_literal l))

type-fits : (u : Tree) → u.label ≡ kind type_expression → is_normal_type u ≡ is_normal (tree u.label u.children end)
type-fits u e = and-end (is_normal u.children) ∙ sym (ap (λ (l : Label). is_normal (tree l u.children end)) e)

pub normal-inner : (e : Expression) (t : TypeExpression) → e ≡ made.TypeOrIdentifier t → is_normal_type (type_view t) ≡ fits e
normal-inner e t is = type-fits (type_view t) (ap (λ (u : Tree). u.label) (view_type t)) ∙ sym (ap fits-tree (ap expression_view is ∙ view_name t))
