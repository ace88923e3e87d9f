-- Bodies and clauses, part by part.
use Rattle.std.proofs.Common.{◌≡◌, ℕ, suc, List, [], ◌∷◌, length, Bool, true, false, not, ◌&&◌, Option, Some, None, refl, ap, ◌∙◌, subst}
use Rattle.std.specs.Option.{option_and_then}
use Rattle.wesl_tree_names.specs.Path.{Text}
use Rattle.wesl_tree_syntax.specs.Tree.{Forest, Kind, Tree, TreeOf, attributes, before, branch, compound, end, kind, list, respell, respell_forest, statements, switch_clause, tree}
use Rattle.wesl_tree_syntax.specs.Unit.{name_in}
use Rattle.wesl_text_tokens.specs.declared.symbol.Symbol.TheVariants as is
use Rattle.wesl_text_tokens.specs.Tokens.{Token, name, symbol}
use Rattle.wesl_text_form.specs.Slots.{behind_token}
use Rattle.wesl_text_form.specs.Spelling.{Forest as SpelledForest, fits, is_end, stands_as}
use Rattle.wesl_text_form.specs.Productions.{Row, Sort, a_body, a_clause, a_statement, an_attribute, attrs, inside, may_sym, nothing, own, run, says, sym as sign}
use Rattle.wesl_text_reading.specs.Leaves.{Read, after, where_so}
use Rattle.wesl_text_reading.specs.Reading.{Reader as TreeReader, all_of, and_others, any, at_level, attributes_first, begins_child, node, node_of, read_part, read_row, read_selectors}
use Rattle.wesl_text_read.specs.declared.reader.Reader.{Reader}
use Rattle.wesl_text_read.specs.Attributes.{run_at}
use Rattle.wesl_text_read.specs.Leads.{Leads, Reads, Skips, ahead}
use Rattle.wesl_text_read.specs.Levels.{inner}
use Rattle.wesl_text_read.specs.Parts.{row_at}
use Rattle.wesl_text_read.proofs.Leading.{next, seen, under}
use Rattle.wesl_text_read.proofs.Rows.{RowLeads}
use Rattle.wesl_text_read_statements.specs.Statements.{block_at, block_row, lower_statements_at, some_selectors_at, within}

-- ---- levels

pub body-level : (l n : ℕ) (ts : List Token) → l ≡ suc n → inner l a_body ts ≡ node (inner n) a_body ts
body-level l n ts same = rw same refl

pub clause-level : (l n : ℕ) (ts : List Token) → l ≡ suc n → inner l a_clause ts ≡ node (inner n) a_clause ts
clause-level l n ts same = rw same refl

pub lower-level : (l n : ℕ) (ts : List Token) → l ≡ suc n → at_level l any a_statement ts ≡ inner n a_statement ts
lower-level l n ts same = rw same refl

-- ---- bodies

abbrev pub body_row : Row
body_row = attrs (sign is.BraceLeft (run statements a_statement (sign is.BraceRight nothing)))

pub body_made : {s e : Reader} (n : ℕ) (f : Forest) → RowLeads n body_row f s e → Leads (λ _. node (inner n) a_body (ahead s)) (λ ns. Some (node_of (kind compound) (respell_forest (name_in ns) f), ahead e)) s e
body_made {s} {e} n f p = under (λ ns (r : Read SpelledForest). after r (λ g us. Some (node_of (kind compound) g, us))) (λ ns. refl) p

-- ---- bodies of loops without their `}`

-- trees before others
abbrev pub and_both : TreeOf Text → TreeOf Text → SpelledForest → List Token → Read SpelledForest
and_both x y f us = Some (before x (before y f), us)

both-others : (x y : TreeOf Text) (r : Read SpelledForest) → and_others x (and_others y r) ≡ after r (and_both x y)
both-others x y None = refl
both-others x y (Some z) = refl

module _ (child : Sort → TreeReader) where
  abbrev rows_in : Row → List Token → Read SpelledForest
  rows_in row ts = read_row child (read_part child) row ts

  abbrev block : SpelledForest → List Token → Read (TreeOf Text)
  block f us = Some (node_of (kind compound) f, us)

  abbrev as_attributes : SpelledForest → List Token → Read (TreeOf Text)
  as_attributes f us = Some (node_of (kind attributes) f, us)

  -- the statements of a block
  abbrev as_statements : SpelledForest → List Token → Read (TreeOf Text)
  as_statements f us = Some (node_of (kind statements) f, us)

  abbrev run_statements : List Token → Read SpelledForest
  run_statements us = all_of (begins_child child a_statement) (child a_statement) (length us) us

  abbrev block_of : TreeOf Text → TreeOf Text → List Token → Read (TreeOf Text)
  block_of x y us = Some (branch compound (x ∷ y ∷ []), us)

  run-by : (x : TreeOf Text) (r : Read SpelledForest) → after (and_others x (after r (λ f us. and_others (node_of (kind statements) f) (let g : Read SpelledForest = Some (end, us) in g)))) block ≡ after (after r as_statements) (block_of x)
  run-by x None = refl
  run-by x (Some y) = refl

  open-by : (x : TreeOf Text) (o : Option (List Token))
      → after (and_others x (option_and_then (rows_in (run statements a_statement nothing)) o)) block ≡ option_and_then (λ vs. after (after (run_statements vs) as_statements) (block_of x)) o
  open-by x None = refl
  open-by x (Some us) = run-by x (run_statements us)

  block-by : (r : Read SpelledForest)
      → after (after r (λ f us. and_others (node_of (kind attributes) f) (option_and_then (rows_in (run statements a_statement nothing)) (behind_token (symbol is.BraceLeft) us)))) block
      ≡ after (after r as_attributes) (λ x us. option_and_then (λ vs. after (after (run_statements vs) as_statements) (block_of x)) (behind_token (symbol is.BraceLeft) us))
  block-by None = refl
  block-by (Some x) = open-by (node_of (kind attributes) x.0) (behind_token (symbol is.BraceLeft) x.1)

  -- a block behind a word, with attributes before it
  module _ (w : Text) (row : Row) where
    abbrev pub behind_word : TreeOf Text → Option (List Token) → Read SpelledForest
    behind_word x o = option_and_then (λ vs. after (after (rows_in block_row vs) block) (λ y ws. after (rows_in row ws) (and_both x y))) o

    inside-by : (x : TreeOf Text) (r : Read SpelledForest) → and_others x (after r (λ f us. and_others (node_of (kind compound) f) (rows_in row us))) ≡ after (after r block) (λ y ws. after (rows_in row ws) (and_both x y))
    inside-by x None = refl
    inside-by x (Some y) = both-others x (node_of (kind compound) y.0) (rows_in row y.1)

    word-by : (x : TreeOf Text) (o : Option (List Token)) → and_others x (option_and_then (rows_in (inside compound block_row row)) o) ≡ behind_word x o
    word-by x None = refl
    word-by x (Some us) = inside-by x (rows_in block_row us)

    held-by : (r : Read SpelledForest)
        → after r (λ f us. and_others (node_of (kind attributes) f) (option_and_then (rows_in (inside compound block_row row)) (behind_token (name w) us)))
        ≡ after (after r as_attributes) (λ x us. behind_word x (behind_token (name w) us))
    held-by None = refl
    held-by (Some x) = word-by (node_of (kind attributes) x.0) (behind_token (name w) x.1)

    held-read : (ts : List Token) → rows_in (attrs (says w (inside compound block_row row))) ts ≡ after (after (attributes_first child ts) as_attributes) (λ x us. behind_word x (behind_token (name w) us))
    held-read ts = held-by (attributes_first child ts)

block-read : (n : ℕ) (ts : List Token)
    → block_at n ts ≡ after (run_at n attributes an_attribute ts) (λ x us. option_and_then (λ vs. after (lower_statements_at n vs) (λ y ws. Some (branch compound (x ∷ y ∷ []), ws))) (behind_token (symbol is.BraceLeft) us))
block-read n ts = block-by (within n) (attributes_first (within n) ts)

pub block_made : {s m k e : Reader} (a v : Tree) → Reads (run_at s.levels attributes an_attribute) a s m → Skips (behind_token (symbol is.BraceLeft)) m k → Reads (lower_statements_at k.levels) v k e → Reads (block_at s.levels) (branch compound (a ∷ v ∷ [])) s e
block_made {s} {m} {k} {e} a v first skip read =
    let here : Reads (lower_statements_at s.levels) v k e = subst (λ (l : ℕ). Reads (lower_statements_at l) v k e) (skip.levels ∙ first.levels) read in
    let K : TreeOf Text → TreeOf Text → List Token → Read (TreeOf Text) = λ x y us. Some (branch compound (x ∷ y ∷ []), us) in
    let O : TreeOf Text → Option (List Token) → Read (TreeOf Text) = λ x o. option_and_then (λ vs. after (lower_statements_at s.levels vs) (K x)) o in
    seen (λ ns. block-read s.levels (ahead s)) (λ ns. refl)
    (next (under (λ ns (r : Read (TreeOf Text)). after r (λ x us. O x (behind_token (symbol is.BraceLeft) us))) (λ ns. refl) first)
    (next (under (λ ns (o : Option (List Token)). O (respell (name_in ns) a) o) (λ ns. refl) skip)
    (under (λ ns (r : Read (TreeOf Text)). after r (K (respell (name_in ns) a))) (λ ns. refl) here)))

-- attributes, a word, such a body and the parts of a row, as the children of a node
pub held_made : {s m k j e : Reader} (w : Text) (row : Row) (a b : Tree) (f : Forest) (x : Kind)
    → Reads (run_at s.levels attributes an_attribute) a s m → Skips (behind_token (name w)) m k → Reads (block_at k.levels) b k j → (j.levels ≡ s.levels → RowLeads s.levels row f j e)
    → ((ws : List Token) → read_row (within s.levels) (read_part (within s.levels)) row ws ≡ row_at s.levels row ws)
    → Leads (λ _. after (read_row (within s.levels) (read_part (within s.levels)) (attrs (says w (inside compound block_row row))) (ahead s)) (λ g us. Some (node_of (kind x) g, us)))
    (λ ns. Some (node_of (kind x) (respell_forest (name_in ns) (before a (before b f))), ahead e)) s e
held_made {s} {m} {k} {j} {e} w row a b f x first skip read last same =
    let n = s.levels in
    let here : Reads (block_at n) b k j = subst (λ (l : ℕ). Reads (block_at l) b k j) (skip.levels ∙ first.levels) read in
    let rest : RowLeads n row f j e = last (read.levels ∙ (skip.levels ∙ first.levels)) in
    let N : Read SpelledForest → Read (TreeOf Text) = λ r. after r (λ g us. Some (node_of (kind x) g, us)) in
    let B : TreeOf Text → TreeOf Text → List Token → Read SpelledForest = λ y z ws. after (read_row (within n) (read_part (within n)) row ws) (and_both y z) in
    seen (λ ns. ap N (held-read (within n) w row (ahead s))) (λ ns. refl)
    (next (under (λ ns (r : Read (TreeOf Text)). N (after r (λ y us. behind_word (within n) w row y (behind_token (name w) us)))) (λ ns. refl) first)
    (next (under (λ ns (o : Option (List Token)). N (behind_word (within n) w row (respell (name_in ns) a) o)) (λ ns. refl) skip)
    (next (under (λ ns (r : Read (TreeOf Text)). N (after r (B (respell (name_in ns) a)))) (λ ns. refl) here)
    (seen (λ ns. ap (λ r. N (after r (and_both (respell (name_in ns) a) (respell (name_in ns) b)))) (same (ahead j))) (λ ns. refl)
    (under (λ ns (r : Read SpelledForest). N (after r (and_both (respell (name_in ns) a) (respell (name_in ns) b)))) (λ ns. refl) rest)))))

-- ---- clauses

abbrev pub clause_end : Row
clause_end = may_sym is.Colon (own a_body nothing)

-- a clause of these parts
abbrev pub clause_of : TreeOf Text → TreeOf Text → SpelledForest → List Token → Read (TreeOf Text)
clause_of a l f us = Some (node_of (kind switch_clause) (before a (before l f)), us)

module _ (child : Sort → TreeReader) where
  abbrev clause_rest : List Token → Read SpelledForest
  clause_rest vs = read_row child (read_part child) clause_end vs

  abbrev fitting : SpelledForest → List Token → Read (TreeOf Text)
  fitting f us = where_so (fits (kind switch_clause) f && stands_as a_clause (kind switch_clause) f) (node_of (kind switch_clause) f) us

  abbrev behind_selectors : TreeOf Text → TreeOf Text → List Token → Read (TreeOf Text)
  behind_selectors a l vs = after (clause_rest vs) (clause_of a l)

  unfit-by : (a : TreeOf Text) (r : Read SpelledForest) → after (and_others a (and_others (node_of (kind list) end) r)) fitting ≡ None
  unfit-by a None = refl
  unfit-by a (Some x) = refl

  fit-by : (a l : TreeOf Text) (f : SpelledForest) (r : Read SpelledForest) → is_end l.children ≡ false → after (and_others a (and_others l r)) fitting ≡ after r (clause_of a l)
  fit-by a l f None h = refl
  fit-by a l f (Some x) h = ap (λ (b : Bool). where_so (not b && true) (node_of (kind switch_clause) (before a (before l x.0))) x.1) h

  some-by : (a : TreeOf Text) (g : SpelledForest) (vs : List Token)
      → after (and_others a (and_others (node_of (kind list) g) (clause_rest vs))) fitting ≡ after (where_so (not (is_end g)) (node_of (kind list) g) vs) (behind_selectors a)
  some-by a end vs = unfit-by a (clause_rest vs)
  some-by a (tree l c o) vs = fit-by a (node_of (kind list) (tree l c o)) end (clause_rest vs) refl

  selectors-by : (a : TreeOf Text) (r : Read SpelledForest)
      → after (and_others a (after r (λ g vs. and_others (node_of (kind list) g) (clause_rest vs)))) fitting
      ≡ after (after (after r (λ g vs. Some (node_of (kind list) g, vs))) (λ t vs. where_so (not (is_end t.children)) t vs)) (behind_selectors a)
  selectors-by a None = refl
  selectors-by a (Some x) = some-by a x.0 x.1

  -- the selectors of a clause
  abbrev some_of : List Token → Read (TreeOf Text)
  some_of us = after (after (read_selectors child us) (λ g vs. Some (node_of (kind list) g, vs))) (λ t vs. where_so (not (is_end t.children)) t vs)

  clause-by : (r : Read SpelledForest)
      → after (after r (λ f us. and_others (node_of (kind attributes) f) (after (read_selectors child us) (λ g vs. and_others (node_of (kind list) g) (clause_rest vs))))) fitting
      ≡ after (after r (λ f us. Some (node_of (kind attributes) f, us))) (λ a us. after (some_of us) (behind_selectors a))
  clause-by None = refl
  clause-by (Some x) = selectors-by (node_of (kind attributes) x.0) (read_selectors child x.1)

  clause-read : (ts : List Token) → node child a_clause ts ≡ after (after (attributes_first child ts) (λ f us. Some (node_of (kind attributes) f, us))) (λ a us. after (some_of us) (behind_selectors a))
  clause-read ts = clause-by (attributes_first child ts)

pub clause_parts : {s m n e : Reader} (a l : Tree) (f : Forest)
    → Reads (run_at s.levels attributes an_attribute) a s m → Reads (some_selectors_at m.levels) l m n → RowLeads s.levels clause_end f n e
    → Reads (node (inner s.levels) a_clause) (record { label = kind switch_clause; children = before a (before l f) }) s e
clause_parts {s} {m} {n} {e} a l f first read last =
    let here : Reads (some_selectors_at s.levels) l m n = subst (λ (k : ℕ). Reads (some_selectors_at k) l m n) first.levels read in
    let F : List Text → Read (TreeOf Text) → Read (TreeOf Text) = λ ns r. after r (λ x us. after (some_selectors_at s.levels us) (λ y vs. after (row_at s.levels clause_end vs) (clause_of x y))) in
    let G : List Text → Read (TreeOf Text) → Read (TreeOf Text) = λ ns r. after r (λ y vs. after (row_at s.levels clause_end vs) (clause_of (respell (name_in ns) a) y)) in
    let H : List Text → Read SpelledForest → Read (TreeOf Text) = λ ns r. after r (clause_of (respell (name_in ns) a) (respell (name_in ns) l)) in
    seen (λ ns. clause-read (inner s.levels) (ahead s)) (λ ns. refl)
    (next (under F (λ ns. refl) first) (next (under G (λ ns. refl) here) (under H (λ ns. refl) last)))
