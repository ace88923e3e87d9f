-- Statements and bodies are read at each number of levels.
use Rattle.std.proofs.Common.{◌≡◌, ℕ, zero, suc, true, not, ◌&&◌, List, Some, refl, sym as turned, ap, ◌∙◌, subst, codes}
use Rattle.wesl_tree_syntax.specs.Tree.{kind, at, end, tree, statement_node, compound, switch_clause}
use Rattle.wesl_text_tokens.specs.declared.symbol.Symbol.TheVariants as is
use Rattle.wesl_text_tokens.specs.Tokens.{Token}
use Rattle.wesl_text_form.specs.Productions.{Sort, an_expression, an_attribute, a_call, a_kind, a_type, a_body, an_if, an_else_if, an_else, a_clause, a_continuing, a_statement, a_bare_statement, Row, nothing, sym, own, optional, attrs, row_of}
use Rattle.wesl_text_form.specs.Spelling.{Label, Forest, spells, first_slots, fits, stands_as}
use Rattle.wesl_text_reading.specs.FirstTokens.{begins_word, begins_sort}
use Rattle.wesl_text_reading.specs.Reading.{Reader, node_of, any, behind_attributes, begins_child, read_row, read_part, ranked, at_level, reading}
use Rattle.wesl_text_reading.proofs.Filled.{fill}
use Rattle.wesl_text_reading.proofs.Takes.{first_parts}
use Rattle.wesl_text_reading.proofs.Within.{Within, within_below, within_more}
use Rattle.wesl_text_reading.proofs.RowReads.{Rest}
use Rattle.wesl_text_reading.proofs.Chains.{Ends, nothing_row}
use Rattle.wesl_text_reading.proofs.Operands.{Ended, own_first}
use Rattle.wesl_text_reading.proofs.Complete.{ReadsSort, node_by, expression_reads, type_reads_at, call_reads_at}
use Rattle.wesl_text_reading.proofs.Runs.{Unopened, attribute_reads_at}
use Rattle.wesl_text_reading.proofs.KindsRead.{NoList, kind_reads_at}
use Rattle.wesl_text_reading.proofs.Targets.{ReadsParted, attributes_parted}
use Rattle.wesl_text_reading.proofs.Selectors.{selector_reads_at}
use Rattle.wesl_text_reading.proofs.Blocks.{block_row, body_is, break_if_reads_at}
use Rattle.wesl_text_reading.proofs.Starts.{Goes}
use Rattle.wesl_text_reading.proofs.Branches.{if_reads, else_if_reads, else_reads}
use Rattle.wesl_text_reading.proofs.Clauses.{clause_is, clause_reads}
use Rattle.wesl_text_reading.proofs.ForParts.{statement_is}
use Rattle.wesl_text_reading.proofs.Statements.{Stands, Bodies}
use Rattle.wesl_text_reading.proofs.BareStatements.{Stated, bare_statement_reads}
use Rattle.wesl_text_reading.proofs.Bodies.{EndingBlocks, body_reads, block_reads, ending_stops, break_stops, ending_reads}
use Rattle.wesl_text_reading.proofs.Deeper.{behind_deeper}

-- what reads the nodes in a statement and in a declaration
abbrev pub inner : ℕ → Sort → Reader
inner n s ts = ranked (at_level n any) 4 s ts

-- and in what a loop ends with
abbrev outer : ℕ → Sort → Reader
outer n s ts = ranked (at_level n any) 3 s ts

pub inner_attributes : (n : ℕ) → ReadsSort (inner n) n an_attribute Unopened (inner n an_attribute)
inner_attributes n l c ts us h w e = attribute_reads_at n l c ts us h w e

pub inner_parted : (n : ℕ) → ReadsParted (inner n) n (inner n an_attribute)
inner_parted n l c ts us h w e = attributes_parted n l c ts us h w e

pub inner_expressions : (n : ℕ) → ReadsSort (inner n) n an_expression Ended (inner n an_expression)
inner_expressions n l c ts us h w e = expression_reads n l c ts us h w e

pub inner_kinds : (n : ℕ) → ReadsSort (inner n) n a_kind NoList (inner n a_kind)
inner_kinds n l c ts us h w e = kind_reads_at n l c ts us h w e

pub inner_types : (n : ℕ) → ReadsSort (inner n) n a_type Ends (inner n a_type)
inner_types n l c ts us h w e = type_reads_at n l c ts us h w e

inner_calls : (n : ℕ) → ReadsSort (inner n) n a_call (λ us. Unit {0}) (inner n a_call)
inner_calls n l c ts us h w e = call_reads_at n l c ts us h w e

abbrev StatedAt : ℕ → Label → Forest → List Token → List Token → Type 0
StatedAt n l c ts us = Stated (inner n) n (inner_attributes n) (inner_parted n) (inner_expressions n) (inner_kinds n) (inner_types n) (inner_calls n) l c ts us

stated_at : (n : ℕ) (l : Label) (c : Forest) (ts us : List Token) → fill (first_slots l c (spells c) a_bare_statement) ts ≡ Some us → Within n (tree l c end) → StatedAt n l c ts us
stated_at n l c ts us h w = bare_statement_reads (inner n) n (inner_attributes n) (inner_parted n) (inner_expressions n) (inner_kinds n) (inner_types n) (inner_calls n) l c ts us h w

-- a statement begins with what statements go on with, behind its attributes
begun_at : (n : ℕ) (l : Label) (c : Forest) (ts us : List Token) → fill (first_slots l c (spells c) a_statement) ts ≡ Some us → Within n (tree l c end) → (vs : List Token) × (behind_attributes (reading n) ts ≡ vs) × Goes vs
begun_at n l c ts us h w =
    let x : (r : Row) × (row_of a_statement l ≡ Some r) × ((fits l c && stands_as a_statement l c) ≡ true) × (fill ((spells c).row r) ts ≡ Some us) = first_parts l c (spells c) a_statement ts us h in
    let y : (j : Label) × (d : Forest) × (o : Forest) × (vs : List Token) × (c ≡ tree j d o) × (fill (first_slots j d (spells d) a_bare_statement) ts ≡ Some vs) × (fill ((spells o).row nothing) vs ≡ Some us)
    = own_first c a_bare_statement nothing ts us (subst (λ z. fill ((spells c).row z) ts ≡ Some us) (turned (statement_is l x.0 x.1).1) x.3) in
    let s : StatedAt n y.0 y.1 ts y.3 = stated_at n y.0 y.1 ts y.3 y.5 ((subst (λ z. Within n z) y.4 (within_below l c end n w)).0, tt) in
    (s.0.0, s.0.1, s.0.3)

starts_at : (n : ℕ) (l : Label) (c : Forest) (ts us : List Token) → fill (first_slots l c (spells c) a_statement) ts ≡ Some us → Within n (tree l c end) → begins_child (reading n) a_statement ts ≡ true
starts_at n l c ts us h w = let b : (vs : List Token) × (behind_attributes (reading n) ts ≡ vs) × Goes vs = begun_at n l c ts us h w in ap (λ z. begins_sort a_statement z) b.1 ∙ ap not b.2.0

next_at : (n : ℕ) (l : Label) (c : Forest) (ts us : List Token) → fill (first_slots l c (spells c) a_statement) ts ≡ Some us → Within n (tree l c end) → Stands (reading n) ts
next_at n l c ts us h w = let b : (vs : List Token) × (behind_attributes (reading n) ts ≡ vs) × Goes vs = begun_at n l c ts us h w in ap (λ z. begins_word (codes "else") z) b.1 ∙ b.2.1

-- ---- what is promised at a number of levels

abbrev pub BodiesAt : ℕ → Type 0
BodiesAt n = (l : Label) (c : Forest) (ts us : List Token) → fill (first_slots l c (spells c) a_body) ts ≡ Some us → Within n (tree l c end) → reading n a_body ts ≡ Some (node_of l c, us)

abbrev pub StatementsAt : ℕ → Type 0
StatementsAt n = (l : Label) (c : Forest) (ts us : List Token) → fill (first_slots l c (spells c) a_statement) ts ≡ Some us → Within n (tree l c end) → Stands (reading n) us → reading n a_statement ts ≡ Some (node_of l c, us)

abbrev pub ClausesAt : ℕ → Type 0
ClausesAt n = (l : Label) (c : Forest) (ts us : List Token) → fill (first_slots l c (spells c) a_clause) ts ≡ Some us → Within n (tree l c end) → reading n a_clause ts ≡ Some (node_of l c, us)

abbrev pub EndingsAt : ℕ → Type 0
EndingsAt n = (l : Label) (c : Forest) (ts us : List Token) → fill (first_slots l c (spells c) a_continuing) ts ≡ Some us → Within n (tree l c end) → reading n a_continuing ts ≡ Some (node_of l c, us)

abbrev BlocksAt : ℕ → Type 0
BlocksAt n = (c : Forest) (ts vs : List Token) → fill ((spells c).row (attrs (block_row nothing))) ts ≡ Some vs → Within n (tree (kind compound) c end)
    → Rest (inner n) (read_part (inner n)) n (Stands (inner n)) (optional (own a_continuing nothing) (sym is.BraceRight nothing)) vs → read_row (inner n) (read_part (inner n)) (attrs (block_row nothing)) ts ≡ Some (c, vs)

pub ifs_at : (n : ℕ) → BodiesAt n → (l : Label) (c : Forest) (ts us : List Token) → fill (first_slots l c (spells c) an_if) ts ≡ Some us → Within n (tree l c end) → reading n an_if ts ≡ Some (node_of l c, us)
ifs_at n bodies l c ts us h w =
    if_reads (ranked (at_level n any) 2) n (λ l c ts us h w e. attribute_reads_at n l c ts us h w e) (λ l c ts us h w e. expression_reads n l c ts us h w e) (λ l c ts us h w e. bodies l c ts us h w) l c ts us h w tt

pub else_ifs_at : (n : ℕ) → BodiesAt n → (l : Label) (c : Forest) (ts us : List Token) → fill (first_slots l c (spells c) an_else_if) ts ≡ Some us → Within n (tree l c end) → reading n an_else_if ts ≡ Some (node_of l c, us)
else_ifs_at n bodies l c ts us h w =
    else_if_reads (ranked (at_level n any) 2) n (λ l c ts us h w e. attribute_reads_at n l c ts us h w e) (λ l c ts us h w e. expression_reads n l c ts us h w e) (λ l c ts us h w e. bodies l c ts us h w) l c ts us h w tt

pub elses_at : (n : ℕ) → BodiesAt n → (l : Label) (c : Forest) (ts us : List Token) → fill (first_slots l c (spells c) an_else) ts ≡ Some us → Within n (tree l c end) → reading n an_else ts ≡ Some (node_of l c, us)
elses_at n bodies l c ts us h w =
    else_reads (ranked (at_level n any) 2) n (λ l c ts us h w e. attribute_reads_at n l c ts us h w e) (λ l c ts us h w e. expression_reads n l c ts us h w e) (λ l c ts us h w e. bodies l c ts us h w) l c ts us h w tt

all_bodies : (n : ℕ) → BodiesAt n → ClausesAt n → EndingsAt n → BlocksAt n → Bodies (inner n) n
all_bodies n bodies clauses endings blocks = record {
  bodies = λ l c ts us h w e. bodies l c ts us h w;
  ifs = λ l c ts us h w e. ifs_at n bodies l c ts us h w;
  else_ifs = λ l c ts us h w e. else_ifs_at n bodies l c ts us h w;
  elses = λ l c ts us h w e. elses_at n bodies l c ts us h w;
  clauses = λ l c ts us h w e. clauses l c ts us h w;
  endings = λ l c ts us h w e. endings l c ts us h w;
  blocks = blocks;
}

statements_at : (n : ℕ) → Bodies (inner n) n → StatementsAt n
statements_at n b l c ts us h w e =
    node_by (ranked (at_level n any) 5) n a_statement l (at statement_node 0 0) c (own a_bare_statement nothing) (Stands (reading n)) ts us h refl (statement_is l)
    ((λ l c ts vs g v more. (stated_at n l c ts vs g v).1 b (subst (Stands (reading n)) (turned (nothing_row more.0 vs more.1 more.2).1) more.4)), tt)
    (within_below l c end n w) e

-- ---- the steps

body_within : (n : ℕ) (l : Label) (c : Forest) (ts us : List Token) → fill (first_slots l c (spells c) a_body) ts ≡ Some us → Within n (tree l c end) → Within n (tree (kind compound) c end)
body_within n l c ts us h w =
    let x : (r : Row) × (row_of a_body l ≡ Some r) × ((fits l c && stands_as a_body l c) ≡ true) × (fill ((spells c).row r) ts ≡ Some us) = first_parts l c (spells c) a_body ts us h in
    subst (λ z. Within n (tree z c end)) (body_is l x.0 x.1).0 w

clause_within : (n : ℕ) (l : Label) (c : Forest) (ts us : List Token) → fill (first_slots l c (spells c) a_clause) ts ≡ Some us → Within n (tree l c end) → Within n (tree (kind switch_clause) c end)
clause_within n l c ts us h w =
    let x : (r : Row) × (row_of a_clause l ≡ Some r) × ((fits l c && stands_as a_clause l c) ≡ true) × (fill ((spells c).row r) ts ≡ Some us) = first_parts l c (spells c) a_clause ts us h in
    subst (λ z. Within n (tree z c end)) (clause_is l x.0 x.1).0 w

bodies_above : (m : ℕ) → StatementsAt m → BodiesAt (suc m)
bodies_above m s l c ts us h w =
    body_reads (ranked (at_level m any) 6) (ranked (at_level m any) 6) m (λ l c ts us h w e. attribute_reads_at m l c ts us h w e) (λ l c ts us h w e. s l c ts us h w e) (λ l c ts us h w. starts_at m l c ts us h w) (λ l c ts us h w. next_at m l c ts us h w)
    l c ts us h (body_within (suc m) l c ts us h w).0

clauses_above : (m : ℕ) → BodiesAt m → ClausesAt (suc m)
clauses_above m b l c ts us h w =
    clause_reads (ranked (at_level m any) 6) m (λ l c ts us h w e. attribute_reads_at m l c ts us h w e) (λ l c ts us h w e. b l c ts us h w) (λ l c ts us h w e. selector_reads_at m l c ts us h w e)
    l c ts us h (clause_within (suc m) l c ts us h w).0

-- attributes one level further up, and statements that begin there
attributes_above : (m : ℕ) (l : Label) (c : Forest) (ts us : List Token) → fill (first_slots l c (spells c) an_attribute) ts ≡ Some us → Within m (tree l c end) → Unopened us → reading (suc m) an_attribute ts ≡ Some (node_of l c, us)
attributes_above m l c ts us h w e = attribute_reads_at (suc m) l c ts us h (within_more (tree l c end) m w) e

starts_above : (m : ℕ) (l : Label) (c : Forest) (ts us : List Token) → fill (first_slots l c (spells c) a_statement) ts ≡ Some us → Within m (tree l c end) → begins_child (reading (suc m)) a_statement ts ≡ true
starts_above m l c ts us h w = starts_at (suc m) l c ts us h (within_more (tree l c end) m w)

-- the statements of a loop, and those of what it ends with
blocks_above : (m : ℕ) → StatementsAt m → BlocksAt (suc m)
blocks_above m s c ts vs h w more =
    block_reads (inner (suc m)) (reading m) m (λ l c ts us h w e. attributes_above m l c ts us h w e) (λ l c ts us h w e. s l c ts us h w e) (λ l c ts us h w. starts_above m l c ts us h w) (λ l c ts us h w. next_at m l c ts us h w) c ts vs h w.0
    (ending_stops (inner (suc m)) (reading m) (suc m) (inner_attributes (suc m)) (λ us. behind_deeper m us) more.0 vs more.1 more.2 more.3)

ending_blocks_above : (m : ℕ) → StatementsAt m → EndingBlocks (outer (suc m)) (suc m)
ending_blocks_above m s c ts vs h w more =
    block_reads (outer (suc m)) (reading m) m (λ l c ts us h w e. attributes_above m l c ts us h w e) (λ l c ts us h w e. s l c ts us h w e) (λ l c ts us h w. starts_above m l c ts us h w) (λ l c ts us h w. next_at m l c ts us h w) c ts vs h w.0
    (break_stops (outer (suc m)) (reading m) (suc m) (λ l c ts us h w e. attribute_reads_at (suc m) l c ts us h w e) (λ us. behind_deeper m us) (λ l c ts us h w e. expression_reads (suc m) l c ts us h w e) more.0 vs more.1 more.2 more.3)

endings_at : (n : ℕ) → EndingBlocks (outer n) n → EndingsAt n
endings_at n blocks l c ts us h w =
    ending_reads (outer n) n (λ l c ts us h w e. attribute_reads_at n l c ts us h w e) (λ l c ts us h w e. expression_reads n l c ts us h w e) (λ l c ts us h w e. break_if_reads_at n l c ts us h w e) blocks l c ts us h w tt

abbrev pub LevelsAt : ℕ → Type 0
LevelsAt n = BodiesAt n × ClausesAt n × EndingsAt n × StatementsAt n

none_at : LevelsAt 0
none_at =
    let bodies : BodiesAt 0 = λ l c ts us h w. absurd (body_within 0 l c ts us h w).0 in
    let clauses : ClausesAt 0 = λ l c ts us h w. absurd (clause_within 0 l c ts us h w).0 in
    let endings : EndingsAt 0 = endings_at 0 (λ c ts vs h w more. absurd w.0) in
    (bodies, clauses, endings, statements_at 0 (all_bodies 0 bodies clauses endings (λ c ts vs h w more. absurd w.0)))

one_above : (m : ℕ) → LevelsAt m → LevelsAt (suc m)
one_above m p =
    let bodies : BodiesAt (suc m) = bodies_above m p.3 in
    let clauses : ClausesAt (suc m) = clauses_above m p.0 in
    let endings : EndingsAt (suc m) = endings_at (suc m) (ending_blocks_above m p.3) in
    (bodies, clauses, endings, statements_at (suc m) (all_bodies (suc m) bodies clauses endings (blocks_above m p.3)))

pub levels_at : (n : ℕ) → LevelsAt n
levels_at zero = none_at
levels_at (suc m) = one_above m (levels_at m)

-- a statement without its span
pub bare_statements_at : (n : ℕ) (l : Label) (c : Forest) (ts us : List Token) → fill (first_slots l c (spells c) a_bare_statement) ts ≡ Some us → Within n (tree l c end) → Stands (reading n) us → reading n a_bare_statement ts ≡ Some (node_of l c, us)
bare_statements_at zero l c ts us h w e = (stated_at 0 l c ts us h w).1 (all_bodies 0 none_at.0 none_at.1 none_at.2 (λ c ts vs h w more. absurd w.0)) e
bare_statements_at (suc m) l c ts us h w e = let p : LevelsAt (suc m) = levels_at (suc m) in (stated_at (suc m) l c ts us h w).1 (all_bodies (suc m) p.0 p.1 p.2 (blocks_above m (levels_at m).3)) e
