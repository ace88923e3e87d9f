-- How the reading of an expression goes on, part by part.
use Rattle.std.proofs.Common.{◌≡◌, ℕ, zero, suc, List, [], ◌∷◌, Bool, true, false, Option, Some, None, refl, sym, ap, ◌∙◌}
use Rattle.std.specs.Option.{option_and_then}
use Rattle.wesl_tree_names.specs.Path.{Text}
use Rattle.wesl_tree_syntax.specs.declared.expression.BinaryOperator.{BinaryOperator}
use Rattle.wesl_tree_syntax.specs.declared.expression.UnaryOperator.{UnaryOperator}
use Rattle.wesl_tree_syntax.specs.Tree.{TreeOf, LabelOf, kind, at, ident, text, texts, truth, path, unary, binary, assignment, space, access, respell_label, named_component, indexing, before, end, leaf as tree_leaf}
use Rattle.wesl_text_tokens.specs.Tokens.{Token, name, number, symbol, open_list, close_list}
use Rattle.wesl_text_tokens.specs.declared.symbol.Symbol.TheVariants as is
use Rattle.wesl_text_form.specs.Operators.{Class, class_of, operator_class, takes_right}
use Rattle.wesl_text_form.specs.Productions.{a_name, an_expression}
use Rattle.wesl_text_form.specs.Slots.{behind_token}
use Rattle.wesl_text_reading.specs.FirstTokens.{behind_first, unary_first}
use Rattle.wesl_text_reading.specs.Leaves.{Read, after, read_leaf}
use Rattle.wesl_text_reading.specs.Reading.{any, at_level, begins_post, class_in, expression, next_operator, node_of, within_levels}
use Rattle.wesl_text_read.specs.Levels.{bare_at, deeper, operand_at, operation_at, operations_at, post_at, posts_at, prefixed_at}

pub after-one : {A B C : Type 0} (r : Read A) (f : A → B) (k : B → List Token → Read C) → after r (λ x us. k (f x) us) ≡ after (after r (λ x us. Some (f x, us))) k
after-one None f k = refl
after-one (Some x) f k = refl

pub then-one : {B C : Type 0} (o : Option (List Token)) (x : B) (k : B → List Token → Read C) → option_and_then (λ vs. k x vs) o ≡ after (option_and_then (λ vs. Some (x, vs)) o) k
then-one None x k = refl
then-one (Some vs) x k = refl

pub after-closed : {A B C : Type 0} (r : Read A) (f : A → B) (g : List Token → Option (List Token)) (k : B → List Token → Read C) → after r (λ x us. option_and_then (λ vs. k (f x) vs) (g us)) ≡ after (after r (λ x us. option_and_then (λ vs. Some (f x, vs)) (g us))) k
after-closed None f g k = refl
after-closed (Some x) f g k = then-one (g x.1) (f x.0) k

-- ---- levels

pub one-level : (l n : ℕ) (p : Class → Bool) (ts : List Token) → l ≡ suc n → at_level l p an_expression ts ≡ within_levels l (after (operand_at n ts) (λ e us. operations_at n p n e us))
one-level l n p ts is = rw is refl

-- ---- operations

pub no-operation : (n m : ℕ) (p : Class → Bool) (e : TreeOf Text) (ts : List Token) → next_operator p (class_in e) ts ≡ None → operations_at n p m e ts ≡ Some (e, ts)
no-operation n zero p e ts h = ap (λ (o : Option BinaryOperator). elim o as (λ _. Read (TreeOf Text)) [ None ↦ Some (e, ts) | Some q ↦ None ]) h
no-operation n (suc m) p e ts h =
    ap (λ (o : Option BinaryOperator). elim o as (λ _. Read (TreeOf Text)) [ None ↦ Some (e, ts) | Some q ↦ after (deeper n (takes_right (operator_class q)) (behind_first ts)) (λ r us. operations_at n p m (expression (node_of (binary q) (before e (before r end)))) us) ]) h

pub no-room : (n m : ℕ) (p : Class → Bool) (e : TreeOf Text) (ts : List Token) (o : BinaryOperator) → m ≡ 0 → next_operator p (class_in e) ts ≡ Some o → operations_at n p m e ts ≡ None
no-room n m p e ts o none h = ap (λ z. operations_at n p z e ts) none ∙ ap (λ (o : Option BinaryOperator). elim o as (λ _. Read (TreeOf Text)) [ None ↦ Some (e, ts) | Some q ↦ None ]) h

pub one-operation : (n m k : ℕ) (p : Class → Bool) (e : TreeOf Text) (ts : List Token) (o : BinaryOperator) → m ≡ suc k → next_operator p (class_in e) ts ≡ Some o → operations_at n p m e ts ≡ after (operation_at n o e ts) (λ d us. operations_at n p k d us)
one-operation n m k p e ts o is h =
    ap (λ z. operations_at n p z e ts) is
    ∙ (ap (λ (o : Option BinaryOperator). elim o as (λ _. Read (TreeOf Text)) [ None ↦ Some (e, ts) | Some q ↦ after (deeper n (takes_right (operator_class q)) (behind_first ts)) (λ r us. operations_at n p k (expression (node_of (binary q) (before e (before r end)))) us) ]) h
    ∙ after-one (deeper n (takes_right (operator_class o)) (behind_first ts)) (λ r. expression (node_of (binary o) (before e (before r end)))) (λ d us. operations_at n p k d us))

-- ---- operands

pub prefixed-operand : (n : ℕ) (ts : List Token) (o : UnaryOperator) → unary_first ts ≡ Some o → operand_at n ts ≡ prefixed_at n o ts
prefixed-operand n ts o h = ap (λ (z : Option UnaryOperator). elim z as (λ _. Read (TreeOf Text)) [ None ↦ after (bare_at n ts) (λ t us. posts_at n n (expression t) us) | Some q ↦ prefixed_at n q ts ]) h

pub bare-operand : (n : ℕ) (ts : List Token) → unary_first ts ≡ None → operand_at n ts ≡ after (bare_at n ts) (λ t us. posts_at n n (expression t) us)
bare-operand n ts h = ap (λ (z : Option UnaryOperator). elim z as (λ _. Read (TreeOf Text)) [ None ↦ after (bare_at n ts) (λ t us. posts_at n n (expression t) us) | Some q ↦ prefixed_at n q ts ]) h

pub no-post : (n m : ℕ) (e : TreeOf Text) (ts : List Token) → begins_post ts ≡ false → posts_at n m e ts ≡ Some (e, ts)
no-post n zero e ts h = rw h refl
no-post n (suc m) e [] h = refl
no-post n (suc m) e (name t ∷ ts) h = refl
no-post n (suc m) e (number t ∷ ts) h = refl
no-post n (suc m) e (symbol is.ParenLeft ∷ ts) h = refl
no-post n (suc m) e (symbol is.ParenRight ∷ ts) h = refl
no-post n (suc m) e (symbol is.BracketLeft ∷ ts) h = cc
no-post n (suc m) e (symbol is.BracketRight ∷ ts) h = refl
no-post n (suc m) e (symbol is.BraceLeft ∷ ts) h = refl
no-post n (suc m) e (symbol is.BraceRight ∷ ts) h = refl
no-post n (suc m) e (symbol is.Less ∷ ts) h = refl
no-post n (suc m) e (symbol is.Greater ∷ ts) h = refl
no-post n (suc m) e (symbol is.At ∷ ts) h = refl
no-post n (suc m) e (symbol is.Comma ∷ ts) h = refl
no-post n (suc m) e (symbol is.Period ∷ ts) h = cc
no-post n (suc m) e (symbol is.Semicolon ∷ ts) h = refl
no-post n (suc m) e (symbol is.Colon ∷ ts) h = refl
no-post n (suc m) e (symbol is.Equal ∷ ts) h = refl
no-post n (suc m) e (symbol is.Plus ∷ ts) h = refl
no-post n (suc m) e (symbol is.Minus ∷ ts) h = refl
no-post n (suc m) e (symbol is.Star ∷ ts) h = refl
no-post n (suc m) e (symbol is.Slash ∷ ts) h = refl
no-post n (suc m) e (symbol is.Percent ∷ ts) h = refl
no-post n (suc m) e (symbol is.And ∷ ts) h = refl
no-post n (suc m) e (symbol is.Or ∷ ts) h = refl
no-post n (suc m) e (symbol is.Xor ∷ ts) h = refl
no-post n (suc m) e (symbol is.Bang ∷ ts) h = refl
no-post n (suc m) e (symbol is.Tilde ∷ ts) h = refl
no-post n (suc m) e (symbol is.ColonColon ∷ ts) h = refl
no-post n (suc m) e (symbol is.Arrow ∷ ts) h = refl
no-post n (suc m) e (symbol is.PlusPlus ∷ ts) h = refl
no-post n (suc m) e (symbol is.MinusMinus ∷ ts) h = refl
no-post n (suc m) e (symbol is.AndAnd ∷ ts) h = refl
no-post n (suc m) e (symbol is.OrOr ∷ ts) h = refl
no-post n (suc m) e (symbol is.EqualEqual ∷ ts) h = refl
no-post n (suc m) e (symbol is.NotEqual ∷ ts) h = refl
no-post n (suc m) e (symbol is.LessEqual ∷ ts) h = refl
no-post n (suc m) e (symbol is.GreaterEqual ∷ ts) h = refl
no-post n (suc m) e (symbol is.ShiftLeft ∷ ts) h = refl
no-post n (suc m) e (symbol is.ShiftRight ∷ ts) h = refl
no-post n (suc m) e (symbol is.PlusEqual ∷ ts) h = refl
no-post n (suc m) e (symbol is.MinusEqual ∷ ts) h = refl
no-post n (suc m) e (symbol is.StarEqual ∷ ts) h = refl
no-post n (suc m) e (symbol is.SlashEqual ∷ ts) h = refl
no-post n (suc m) e (symbol is.PercentEqual ∷ ts) h = refl
no-post n (suc m) e (symbol is.AndEqual ∷ ts) h = refl
no-post n (suc m) e (symbol is.OrEqual ∷ ts) h = refl
no-post n (suc m) e (symbol is.XorEqual ∷ ts) h = refl
no-post n (suc m) e (symbol is.ShiftLeftEqual ∷ ts) h = refl
no-post n (suc m) e (symbol is.ShiftRightEqual ∷ ts) h = refl
no-post n (suc m) e (open_list ∷ ts) h = refl
no-post n (suc m) e (close_list ∷ ts) h = refl

pub no-room-behind : (n m : ℕ) (e : TreeOf Text) (ts : List Token) → m ≡ 0 → begins_post ts ≡ true → posts_at n m e ts ≡ None
no-room-behind n m e ts none h = rw (none, h) refl

post-more : (n m : ℕ) (e : TreeOf Text) (ts : List Token) → begins_post ts ≡ true → posts_at n (suc m) e ts ≡ after (post_at n e ts) (λ d us. posts_at n m d us)
post-more n m e [] h = cc
post-more n m e (name t ∷ ts) h = cc
post-more n m e (number t ∷ ts) h = cc
post-more n m e (symbol is.ParenLeft ∷ ts) h = cc
post-more n m e (symbol is.ParenRight ∷ ts) h = cc
post-more n m e (symbol is.BracketLeft ∷ ts) h = after-closed (deeper n any ts) (λ i. expression (node_of (kind indexing) (before e (before i end)))) (behind_token (symbol is.BracketRight)) (λ d us. posts_at n m d us)
post-more n m e (symbol is.BracketRight ∷ ts) h = cc
post-more n m e (symbol is.BraceLeft ∷ ts) h = cc
post-more n m e (symbol is.BraceRight ∷ ts) h = cc
post-more n m e (symbol is.Less ∷ ts) h = cc
post-more n m e (symbol is.Greater ∷ ts) h = cc
post-more n m e (symbol is.At ∷ ts) h = cc
post-more n m e (symbol is.Comma ∷ ts) h = cc
post-more n m e (symbol is.Period ∷ ts) h = after-one (read_leaf a_name ts) (λ l. expression (node_of (kind named_component) (before e (before (tree_leaf l) end)))) (λ d us. posts_at n m d us)
post-more n m e (symbol is.Semicolon ∷ ts) h = cc
post-more n m e (symbol is.Colon ∷ ts) h = cc
post-more n m e (symbol is.Equal ∷ ts) h = cc
post-more n m e (symbol is.Plus ∷ ts) h = cc
post-more n m e (symbol is.Minus ∷ ts) h = cc
post-more n m e (symbol is.Star ∷ ts) h = cc
post-more n m e (symbol is.Slash ∷ ts) h = cc
post-more n m e (symbol is.Percent ∷ ts) h = cc
post-more n m e (symbol is.And ∷ ts) h = cc
post-more n m e (symbol is.Or ∷ ts) h = cc
post-more n m e (symbol is.Xor ∷ ts) h = cc
post-more n m e (symbol is.Bang ∷ ts) h = cc
post-more n m e (symbol is.Tilde ∷ ts) h = cc
post-more n m e (symbol is.ColonColon ∷ ts) h = cc
post-more n m e (symbol is.Arrow ∷ ts) h = cc
post-more n m e (symbol is.PlusPlus ∷ ts) h = cc
post-more n m e (symbol is.MinusMinus ∷ ts) h = cc
post-more n m e (symbol is.AndAnd ∷ ts) h = cc
post-more n m e (symbol is.OrOr ∷ ts) h = cc
post-more n m e (symbol is.EqualEqual ∷ ts) h = cc
post-more n m e (symbol is.NotEqual ∷ ts) h = cc
post-more n m e (symbol is.LessEqual ∷ ts) h = cc
post-more n m e (symbol is.GreaterEqual ∷ ts) h = cc
post-more n m e (symbol is.ShiftLeft ∷ ts) h = cc
post-more n m e (symbol is.ShiftRight ∷ ts) h = cc
post-more n m e (symbol is.PlusEqual ∷ ts) h = cc
post-more n m e (symbol is.MinusEqual ∷ ts) h = cc
post-more n m e (symbol is.StarEqual ∷ ts) h = cc
post-more n m e (symbol is.SlashEqual ∷ ts) h = cc
post-more n m e (symbol is.PercentEqual ∷ ts) h = cc
post-more n m e (symbol is.AndEqual ∷ ts) h = cc
post-more n m e (symbol is.OrEqual ∷ ts) h = cc
post-more n m e (symbol is.XorEqual ∷ ts) h = cc
post-more n m e (symbol is.ShiftLeftEqual ∷ ts) h = cc
post-more n m e (symbol is.ShiftRightEqual ∷ ts) h = cc
post-more n m e (open_list ∷ ts) h = cc
post-more n m e (close_list ∷ ts) h = cc

pub one-post : (n m k : ℕ) (e : TreeOf Text) (ts : List Token) → m ≡ suc k → begins_post ts ≡ true → posts_at n m e ts ≡ after (post_at n e ts) (λ d us. posts_at n k d us)
one-post n m k e ts is h = rw is (post-more n k e ts h)

-- ---- classes

pub class-respell : (f : ℕ → Text) (l : LabelOf ℕ) → class_of (Some (respell_label f l)) ≡ class_of (Some l)
class-respell f (kind k) = refl
class-respell f (at k s e) = refl
class-respell f (ident r i) = refl
class-respell f (text x) = refl
class-respell f (texts xs) = refl
class-respell f (truth b) = refl
class-respell f (unary o) = refl
class-respell f (binary o) = refl
class-respell f (assignment o) = refl
class-respell f (space s) = refl
class-respell f (access a) = refl
class-respell f (path p) = refl
