-- What goes on behind an expression, step by step.
use Rattle.std.proofs.Common.{◌≡◌, ℕ, suc, List, Bool, true, false, Option, Some, None, refl, sym, ap, ◌∙◌, subst}
use Rattle.wesl_tree_names.specs.Path.{Text}
use Rattle.wesl_tree_syntax.specs.Tree.{TreeOf, respell}
use Rattle.wesl_tree_syntax.specs.Unit.{name_in}
use Rattle.wesl_tree_syntax.specs.View.{expression_tree, expression_view}
use Rattle.wesl_tree_syntax.specs.declared.expression.BinaryOperator.{BinaryOperator}
use Rattle.wesl_tree_syntax.specs.declared.expression.Expression.{Expression}
use Rattle.wesl_tree_syntax.specs.declared.span.Spanned.{Spanned}
use Rattle.wesl_text_tokens.specs.Tokens.{Token}
use Rattle.wesl_text_form.specs.Spelling.{label_at}
use Rattle.wesl_text_form.specs.Operators.{Class, class_of}
use Rattle.wesl_text_reading.specs.Leaves.{Read, after}
use Rattle.wesl_text_reading.specs.Reading.{begins_post, next_operator}
use Rattle.wesl_text_read.specs.Leads.{Leads, Refuses, ahead}
use Rattle.wesl_text_read.specs.Levels.{operation_at, operations_at, post_at, posts_at}
use Rattle.wesl_text_read.specs.declared.reader.Reader.{Reader}
use Rattle.wesl_text_read.proofs.Leading.{nothing_there, seen, stay, next, under}
use Rattle.wesl_text_read.proofs.Levels.{class-respell, no-operation, no-post, no-room, no-room-behind, one-operation, one-post}

-- operations of a first expression have come to those of another
abbrev pub Chains : (Class → Bool) → ℕ → Spanned Expression → Spanned Expression → Reader → Reader → Type 0
Chains p room first left old new =
    Leads
    (λ ns. operations_at old.levels p old.levels (respell (name_in ns) (expression_tree first)) (ahead old))
    (λ ns. operations_at old.levels p room (respell (name_in ns) (expression_tree left)) (ahead new))
    old new

module _ (p : Class → Bool) (first left : Spanned Expression) (c : Class) (is_class : c ≡ class_of (Some (expression_view left.node).label)) where
  next-of : (ns : List Text) (o : Option BinaryOperator) (ts : List Token) → next_operator p c ts ≡ o → next_operator p (class_of (label_at 0 (respell (name_in ns) (expression_tree left)).children)) ts ≡ o
  next-of ns o ts h = ap (λ d. next_operator p d ts) (class-respell (name_in ns) (expression_view left.node).label ∙ sym is_class) ∙ h

  pub chained : {s m e : Reader} (room k : ℕ) (o : BinaryOperator) (made : Spanned Expression)
      → room ≡ suc k → next_operator p c (ahead m) ≡ Some o → Chains p room first left s m
      → Leads (λ ns. operation_at m.levels o (respell (name_in ns) (expression_tree left)) (ahead m)) (λ ns. Some (respell (name_in ns) (expression_tree made), ahead e)) m e
      → Chains p k first made s e
  chained {s} {m} {e} room k o made is follows inv op =
      let placed = subst (λ n. Leads (λ ns. operation_at n o (respell (name_in ns) (expression_tree left)) (ahead m)) (λ ns. Some (respell (name_in ns) (expression_tree made), ahead e)) m e) inv.levels op in
      next inv (seen (λ ns. one-operation s.levels room k p (respell (name_in ns) (expression_tree left)) (ahead m) o is (next-of ns (Some o) (ahead m) follows)) (λ ns. refl)
      (under (λ ns (r : Read (TreeOf Text)). after r (λ d us. operations_at s.levels p k d us)) (λ ns. refl) placed))

  pub chain_ends : {s m : Reader} (room : ℕ) → next_operator p c (ahead m) ≡ None → Chains p room first left s m
      → Leads (λ ns. operations_at s.levels p s.levels (respell (name_in ns) (expression_tree first)) (ahead s)) (λ ns. Some (respell (name_in ns) (expression_tree left), ahead m)) s m
  chain_ends {s} {m} room follows inv = next inv (seen (λ ns. no-operation s.levels room p (respell (name_in ns) (expression_tree left)) (ahead m) (next-of ns None (ahead m) follows)) (λ ns. refl) stay)

  pub chain_breaks : {s m e : Reader} (room : ℕ) (o : BinaryOperator) → room ≡ 0 → next_operator p c (ahead m) ≡ Some o → Chains p room first left s m → Refuses m e
      → Leads (λ ns. operations_at s.levels p s.levels (respell (name_in ns) (expression_tree first)) (ahead s)) (λ ns. Some (respell (name_in ns) (expression_tree left), ahead e)) s e
  chain_breaks {s} {m} {e} room o none follows inv wrong = next inv (nothing_there wrong (λ ns. no-room s.levels room p (respell (name_in ns) (expression_tree left)) (ahead m) o none (next-of ns (Some o) (ahead m) follows)))

-- the same of `.` and `[..]`
abbrev pub Posts : ℕ → Spanned Expression → Spanned Expression → Reader → Reader → Type 0
Posts room first base old new =
    Leads
    (λ ns. posts_at old.levels old.levels (respell (name_in ns) (expression_tree first)) (ahead old))
    (λ ns. posts_at old.levels room (respell (name_in ns) (expression_tree base)) (ahead new))
    old new

module _ (first base : Spanned Expression) where
  pub posted : {s m e : Reader} (room k : ℕ) (made : Spanned Expression)
      → room ≡ suc k → begins_post (ahead m) ≡ true → Posts room first base s m
      → Leads (λ ns. post_at m.levels (respell (name_in ns) (expression_tree base)) (ahead m)) (λ ns. Some (respell (name_in ns) (expression_tree made), ahead e)) m e
      → Posts k first made s e
  posted {s} {m} {e} room k made is follows inv op =
      let placed = subst (λ n. Leads (λ ns. post_at n (respell (name_in ns) (expression_tree base)) (ahead m)) (λ ns. Some (respell (name_in ns) (expression_tree made), ahead e)) m e) inv.levels op in
      next inv (seen (λ ns. one-post s.levels room k (respell (name_in ns) (expression_tree base)) (ahead m) is follows) (λ ns. refl)
      (under (λ ns (r : Read (TreeOf Text)). after r (λ d us. posts_at s.levels k d us)) (λ ns. refl) placed))

  pub posts_end : {s m : Reader} (room : ℕ) → begins_post (ahead m) ≡ false → Posts room first base s m
      → Leads (λ ns. posts_at s.levels s.levels (respell (name_in ns) (expression_tree first)) (ahead s)) (λ ns. Some (respell (name_in ns) (expression_tree base), ahead m)) s m
  posts_end {s} {m} room follows inv = next inv (seen (λ ns. no-post s.levels room (respell (name_in ns) (expression_tree base)) (ahead m) follows) (λ ns. refl) stay)

  pub posts_break : {s m e : Reader} (room : ℕ) → room ≡ 0 → begins_post (ahead m) ≡ true → Posts room first base s m → Refuses m e
      → Leads (λ ns. posts_at s.levels s.levels (respell (name_in ns) (expression_tree first)) (ahead s)) (λ ns. Some (respell (name_in ns) (expression_tree base), ahead e)) s e
  posts_break {s} {m} {e} room none follows inv wrong = next inv (nothing_there wrong (λ ns. no-room-behind s.levels room (respell (name_in ns) (expression_tree base)) (ahead m) none follows))
