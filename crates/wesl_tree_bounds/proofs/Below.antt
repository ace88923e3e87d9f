-- A list of nodes, one node after the other.
use Rattle.std.proofs.Common.{◌≡◌, ℕ, ◌+◌, ◌<◌, ◌≤◌, Bool, ◌&&◌, List, length, get_or, map, drop, refl, sym, ap, ◌∙◌, add-one, true, false, drop-cons}
use Rattle.std.proofs.lemmas.List.{drop_all}
use Rattle.wesl_tree_syntax.specs.Tree.{Kind, Tree, forest_of, forest_below, tree_below}
use Rattle.wesl_tree_syntax.specs.View.{placed}
use Rattle.wesl_tree_syntax.specs.declared.span.Spanned.{Spanned}
use mathlib.Core.Bool.{and-false, and-true}

-- by a name that attributes of the sources can cite
pub and_true : (b : Bool) → (b && true) ≡ b
and_true b = and-true b

module _ {A : Type 0} (view : A → Tree) (n : ℕ) where
  abbrev pub all_below : List A → Bool
  all_below xs = forest_below n (forest_of (map view xs))

  pub below_next : (xs : List A) (i : ℕ) (x : A) → i < length xs → x ≡ get_or xs i x → all_below (drop i xs) ≡ tree_below n (view x) && all_below (drop (i + 1) xs)
  below_next xs i x h is = rw (drop-cons xs i x h, ← is, add-one) refl

  -- past a node that lies below
  pub next_below : (xs : List A) (i : ℕ) (x : A) → i < length xs → x ≡ get_or xs i x → tree_below n (view x) ≡ true → all_below xs ≡ all_below (drop i xs) → all_below xs ≡ all_below (drop (i + 1) xs)
  next_below xs i x h is below seen = seen ∙ below_next xs i x h is ∙ ap (λ b. b && all_below (drop (i + 1) xs)) below

  -- at a node that does not
  pub not_below : (xs ys : List A) (i : ℕ) (x : A) → i < length xs → x ≡ get_or xs i x → xs ≡ ys → tree_below n (view x) ≡ false → all_below xs ≡ all_below (drop i xs) → false ≡ all_below ys
  not_below xs ys i x h is e outside seen = sym (sym (ap all_below e) ∙ seen ∙ below_next xs i x h is ∙ ap (λ b. b && all_below (drop (i + 1) xs)) outside)

  -- past the last
  pub end_below : (xs ys : List A) (i : ℕ) → length xs ≤ i → xs ≡ ys → all_below xs ≡ all_below (drop i xs) → true ≡ all_below ys
  end_below xs ys i h e seen = sym (sym (ap all_below e) ∙ seen ∙ ap all_below (drop_all i xs h))

-- a node with its span lies below where it does
pub placed_below : {A : Type 0} (view : A → Tree) (k : Kind) (n : ℕ) (x : Spanned A) → tree_below n (placed view k x) ≡ tree_below n (view x.node)
placed_below view k n x = and-true (tree_below n (view x.node))

pub ruleset steps = (and-true, and-false)

-- a test past one that holds, and past one that does not
pub past_true : (a b : Bool) → a ≡ true → (a && b) ≡ b
past_true true b h = refl
past_true false b h = cc

pub past_false : (a b : Bool) → a ≡ false → (a && b) ≡ false
past_false true b h = cc
past_false false b h = refl

-- four tests, as trees join them and as code does
pub four : (a b c d : Bool) → (a && (b && (c && (d && true)))) ≡ (((a && b) && c) && d)
four true true true d = and-true d
four true true false d = refl
four true false c d = refl
four false b c d = refl
