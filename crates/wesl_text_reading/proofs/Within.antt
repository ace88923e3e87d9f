-- Trees that are nested at most so deep.
use Rattle.std.proofs.Common.{◌≡◌, ◌≤◌, ℕ, zero, suc, Bool, true, false, if◌then◌else◌, nat_le, List, Some, None, arith}
use Rattle.std.proofs.Math.Nat.{max-le}
use Rattle.wesl_tree_names.specs.Path.{Text}
use Rattle.wesl_tree_syntax.specs.Tree.{TreeOf, before, end, tree}
use Rattle.wesl_text_tokens.specs.Tokens.{Token}
use Rattle.wesl_text_form.specs.Spelling.{Label, Forest}
use Rattle.wesl_text_form.specs.Says.{is_level, levels}
use Rattle.wesl_text_reading.specs.Leaves.{Read, where_so}
use Rattle.wesl_text_reading.specs.Reading.{within_levels}
use Rattle.wesl_text_reading.proofs.Filled.{no_some}

-- trees with at most n levels
abbrev pub Within : ℕ → Forest → Type 0
Within n end = Unit {0}
Within n (tree l c o) = (elim (is_level l) as (λ _. Type 0) [ false ↦ Within n c | true ↦ elim n as (λ _. Type 0) [ zero ↦ ⊥ | suc m ↦ Within m c ] ]) × Within n o

-- what is below a label, where it is a level or none
abbrev pub Under : Bool → ℕ → Forest → Type 0
Under b n c = elim b as (λ _. Type 0) [ false ↦ Within n c | true ↦ elim n as (λ _. Type 0) [ zero ↦ ⊥ | suc m ↦ Within m c ] ]

pub within_more : (f : Forest) (n : ℕ) → Within n f → Within (suc n) f
within_more end n w = tt
within_more (tree l c o) n w = (at (is_level l) n (λ m x. within_more c m x) w.0, within_more o n w.1) where
  at : (b : Bool) (m : ℕ) → ((k : ℕ) → Within k c → Within (suc k) c) → Under b m c → Under b (suc m) c
  at false m more x = more m x
  at true zero more x = absurd x
  at true (suc m) more x = more m x

pub within_below : (l : Label) (c o : Forest) (n : ℕ) → Within n (tree l c o) → Within n c
within_below l c o n w = at (is_level l) n w.0 where
  at : (b : Bool) (m : ℕ) → Under b m c → Within m c
  at false m x = x
  at true zero x = absurd x
  at true (suc m) x = within_more c m x

-- trees have no more levels than they are within
pub levels_at_most : (f : Forest) (n : ℕ) → Within n f → levels f ≤ n
levels_at_most end n w = omega arith
levels_at_most (tree l c o) n w = max-le (at (λ m x. levels_at_most c m x) (is_level l) n w.0) (levels_at_most o n w.1) where
  at : ((m : ℕ) → Within m c → levels c ≤ m) → (b : Bool) (m : ℕ) → Under b m c → (if b then suc (levels c) else levels c) ≤ m
  at below false m x = below m x
  at below true zero x = absurd x
  at below true (suc m) x = let h : levels c ≤ m = below m x in omega (arith, h)

-- what is read with at most so many levels is read
pub within_read : (n : ℕ) (r : Read (TreeOf Text)) (x : TreeOf Text × List Token) → within_levels n r ≡ Some x → r ≡ Some x
within_read n None x h = h
within_read n (Some y) x h = by (nat_le (levels (before y.0 end)) n) h where
  by : (b : Bool) → where_so b y.0 y.1 ≡ Some x → let r : Read (TreeOf Text) = Some y in r ≡ Some x
  by false g = absurd (no_some x g)
  by true g = g
