-- The walk opens the blocks of the module, and no others.
use Rattle.std.proofs.Common.{◌≡◌, ℕ, zero, suc, ◌+◌, ◌≤◌, List, [], ◌∷◌, ◌++◌, length, refl, sym, ap, ◌∙◌, arith, append_assoc, append-nil, length-append}
use Rattle.wesl_tree_syntax.specs.Tree.{Label, Forest, end, tree, kind, at, ident, text, texts, truth, unary, binary, assignment, space, access, path}
use Rattle.wesl_scope_occurrences.specs.Occurrences.{Node, node_of, here_in, after_field, opened_by, blocks_in, shape_of}
use Rattle.wesl_scope_occurrences.specs.Outer.{outers_of, outers_from}
use Rattle.wesl_scope_occurrences.specs.Walk.{State, Fields, numbers_at, opening, closed, stepped, or_found, walk}
use Rattle.wesl_scope_occurrences.proofs.Joined.{opens_few}

pub few_length : (n q b : ℕ) → n ≤ 2 → length (outers_of n q b) ≡ n
few_length zero q b h = refl
few_length (suc zero) q b h = refl
few_length (suc (suc zero)) q b h = refl
few_length (suc (suc (suc n))) q b h = absurd (omega arith)

pub opened_few : (l : Label) → opened_by l ≤ 2
opened_few (kind k) = opens_few (shape_of k)
opened_few (ident r x) = omega arith
opened_few (at k i j) = omega arith
opened_few (text v) = omega arith
opened_few (texts v) = omega arith
opened_few (truth v) = omega arith
opened_few (unary v) = omega arith
opened_few (binary v) = omega arith
opened_few (assignment v) = omega arith
opened_few (space v) = omega arith
opened_few (access v) = omega arith
opened_few (path v) = omega arith

pub opening_outers : (n b : ℕ) (s : State) → (opening n b s).outer ≡ s.outer ++ outers_of n (length s.outer) b
opening_outers zero b s = sym (append-nil s.outer)
opening_outers (suc zero) b s = refl
opening_outers (suc (suc n)) b s = append_assoc s.outer (b ∷ []) (length s.outer ∷ [])

closed_outer : (ps : List ℕ) (s : State) → (closed ps s).outer ≡ s.outer
closed_outer [] s = refl
closed_outer (p ∷ ps) s = refl

-- as many blocks as open, each with the one round it
record Opens (fs : Fields) (s : State) (f : Forest) : Type 0 where
  many : length (outers_from fs.node (length s.outer) f) ≡ blocks_in f
  outers : (walk fs s f).outer ≡ s.outer ++ outers_from fs.node (length s.outer) f

abbrev OpensAll : Forest → Type 0
OpensAll f = (fs : Fields) (s : State) → Opens fs s f

-- a tree that is no identifier, and those after it
module _ (l : Label) (children others : Forest) (fs : Fields) (s : State) (inner : OpensAll children) (after : OpensAll others) where
  abbrev q : ℕ
  q = length s.outer

  abbrev n : ℕ
  n = opened_by l

  abbrev fields : Fields
  fields = record { node = node_of l children (numbers_at q) (here_in fs.node); named = [] }

  abbrev own : List ℕ
  own = outers_of n q (here_in fs.node).block

  abbrev s0 : State
  s0 = opening n (here_in fs.node).block s

  abbrev s1 : State
  s1 = walk fields s0 children

  outer0 : s0.outer ≡ s.outer ++ own
  outer0 = opening_outers n (here_in fs.node).block s

  length0 : length s0.outer ≡ q + n
  length0 = omega (arith, ap length outer0, length-append s.outer own, few_length n q (here_in fs.node).block (opened_few l))

  abbrev below : List ℕ
  below = outers_from fields.node (q + n) children

  below_is : outers_from fields.node (length s0.outer) children ≡ below
  below_is = ap (λ k. outers_from fields.node k children) length0

  outer1 : s1.outer ≡ s.outer ++ (own ++ below)
  outer1 = (inner fields s0).outers ∙ (ap (λ xs. s0.outer ++ xs) below_is ∙ (ap (λ xs. xs ++ below) outer0 ∙ append_assoc s.outer own below))

  below_many : length below ≡ blocks_in children
  below_many = ap length (sym below_is) ∙ (inner fields s0).many

  length1 : length s1.outer ≡ q + n + blocks_in children
  length1 =
      omega (arith, ap length outer1, length-append s.outer (own ++ below), length-append own below, few_length n q (here_in fs.node).block (opened_few l), below_many)

  abbrev next : Fields
  next = stepped fs l (length s.found)

  abbrev later : List ℕ
  later = outers_from (after_field fs.node) (q + n + blocks_in children) others

  later_is : outers_from next.node (length s1.outer) others ≡ later
  later_is = ap (λ k. outers_from (after_field fs.node) k others) length1

  later_many : length later ≡ blocks_in others
  later_many = ap length (sym later_is) ∙ (after next s1).many

  outer2 : (walk next s1 others).outer ≡ s.outer ++ (own ++ (below ++ later))
  outer2 =
      (after next s1).outers
      ∙ (ap (λ xs. s1.outer ++ xs) later_is
      ∙ (ap (λ xs. xs ++ later) outer1
      ∙ (append_assoc s.outer (own ++ below) later ∙ ap (λ xs. s.outer ++ xs) (append_assoc own below later))))

  all_many : length (own ++ (below ++ later)) ≡ n + blocks_in children + blocks_in others
  all_many =
      omega (arith, length-append own (below ++ later), length-append below later, few_length n q (here_in fs.node).block (opened_few l), below_many, later_many)

opens_all : (f : Forest) → OpensAll f
opens_all end fs s = record { many = refl; outers = closed_outer fs.named s ∙ sym (append-nil s.outer) }
opens_all (tree (ident r x) children others) fs s =
    let inner : State = walk (record { node = node_of (ident r x) children (numbers_at (length s.outer)) (here_in fs.node); named = [] }) s children in
    let t : State = or_found (ident r x) fs.node s inner in
    let h = opens_all others (stepped fs (ident r x) (length s.found)) t in
    record { many = h.many; outers = h.outers }
opens_all (tree (kind k) children others) fs s = record { many = all_many (kind k) children others fs s (opens_all children) (opens_all others); outers = outer2 (kind k) children others fs s (opens_all children) (opens_all others) }
opens_all (tree (at k i j) children others) fs s = record { many = all_many (at k i j) children others fs s (opens_all children) (opens_all others); outers = outer2 (at k i j) children others fs s (opens_all children) (opens_all others) }
opens_all (tree (text v) children others) fs s = record { many = all_many (text v) children others fs s (opens_all children) (opens_all others); outers = outer2 (text v) children others fs s (opens_all children) (opens_all others) }
opens_all (tree (texts v) children others) fs s = record { many = all_many (texts v) children others fs s (opens_all children) (opens_all others); outers = outer2 (texts v) children others fs s (opens_all children) (opens_all others) }
opens_all (tree (truth v) children others) fs s = record { many = all_many (truth v) children others fs s (opens_all children) (opens_all others); outers = outer2 (truth v) children others fs s (opens_all children) (opens_all others) }
opens_all (tree (unary v) children others) fs s = record { many = all_many (unary v) children others fs s (opens_all children) (opens_all others); outers = outer2 (unary v) children others fs s (opens_all children) (opens_all others) }
opens_all (tree (binary v) children others) fs s = record { many = all_many (binary v) children others fs s (opens_all children) (opens_all others); outers = outer2 (binary v) children others fs s (opens_all children) (opens_all others) }
opens_all (tree (assignment v) children others) fs s = record { many = all_many (assignment v) children others fs s (opens_all children) (opens_all others); outers = outer2 (assignment v) children others fs s (opens_all children) (opens_all others) }
opens_all (tree (space v) children others) fs s = record { many = all_many (space v) children others fs s (opens_all children) (opens_all others); outers = outer2 (space v) children others fs s (opens_all children) (opens_all others) }
opens_all (tree (access v) children others) fs s = record { many = all_many (access v) children others fs s (opens_all children) (opens_all others); outers = outer2 (access v) children others fs s (opens_all children) (opens_all others) }
opens_all (tree (path v) children others) fs s = record { many = all_many (path v) children others fs s (opens_all children) (opens_all others); outers = outer2 (path v) children others fs s (opens_all children) (opens_all others) }

pub walk_outers : (f : Forest) (fs : Fields) (s : State) → (walk fs s f).outer ≡ s.outer ++ outers_from fs.node (length s.outer) f
walk_outers f fs s = (opens_all f fs s).outers

pub outers_many : (f : Forest) (node : Node ℕ) (outer : List ℕ) → length (outers_from node (length outer) f) ≡ blocks_in f
outers_many f node outer = (opens_all f (record { node = node; named = [] }) (record { found = []; outer = outer })).many
