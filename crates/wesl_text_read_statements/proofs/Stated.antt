-- Statements by their kinds.
use Rattle.std.proofs.Common.{◌≡◌, ℕ, List, [], ◌∷◌, true, if◌then◌else◌, Option, Some, None, codes, refl, sym, ap, ◌∙◌, subst}
use mathlib.Core.Path.{fun_ext}
use Rattle.std.specs.Option.{option_and_then}
use Rattle.wesl_tree_names.specs.Path.{Text}
use Rattle.wesl_tree_syntax.specs.Tree.{Forest, Kind, Tree, TreeOf, assignment, at, attributes, before, branch, call_statement, clauses, compound_statement, continuing, declaration, decrement, end, for_loop, if_statement, increment, kind, list, loop, respell, statement_node, switch, while_loop}
use Rattle.wesl_tree_syntax.specs.Unit.{name_in}
use Rattle.wesl_tree_syntax.specs.View.{statement_tree, statement_view}
use Rattle.wesl_tree_syntax.specs.declared.span.Spanned.{Spanned}
use Rattle.wesl_tree_syntax.specs.declared.statement.Statement.{Statement}
use Rattle.wesl_tree_syntax.specs.declared.statement.AssignmentOperator.TheVariants as assignment_operator
use Rattle.wesl_text_tokens.specs.declared.symbol.Symbol.TheVariants as is
use Rattle.wesl_text_tokens.specs.Tokens.{Token, name}
use Rattle.wesl_text_form.specs.Slots.{behind_token}
use Rattle.wesl_text_form.specs.Spelling.{Forest as SpelledForest, Label, is_simple}
use Rattle.wesl_text_form.specs.Productions.{Row, Sort, a_bare_statement, a_body, a_break_if, a_clause, a_continuing, a_statement, an_attribute, an_else, an_else_if, an_expression, an_if, attrs, nothing, optional, own, run, says, sym as sign}
use Rattle.wesl_text_reading.specs.FirstTokens.{label_behind_expression, statement_label}
use Rattle.wesl_text_reading.specs.Leaves.{Read, after, where_so}
use Rattle.wesl_text_reading.specs.Reading.{Reader as TreeReader, and_others, behind_attributes, label_first, label_of_statement, node_of, read_node, read_part, read_row, without_end}
use Rattle.wesl_text_read.specs.declared.reader.Reader.{Reader}
use Rattle.wesl_text_read.specs.Leads.{Leads, Reads, Skips, ahead, names_of}
use Rattle.wesl_text_read.specs.Attributes.{run_at}
use Rattle.wesl_text_read.specs.Levels.{inner}
use Rattle.wesl_text_read.specs.Parts.{row_at}
use Rattle.wesl_text_read.proofs.Leading.{begins_itself, next, seen, under}
use Rattle.wesl_text_read.proofs.Rows.{RowLeads}
use Rattle.wesl_text_read_simple.specs.Starts.{StatementBegins}
use Rattle.wesl_text_read_statements.specs.Statements.{TellsBehind, block_at, statement_at, within}
use Rattle.wesl_text_read_statements.proofs.Bodies.{held_made}
use Rattle.wesl_text_read_statements.proofs.ForLoop.{for-read, for_row}

-- ---- rows

abbrev pub if_row : Row
if_row = attrs (own an_if (run list an_else_if (optional (own an_else nothing) nothing)))

abbrev pub switch_row : Row
switch_row = attrs (says (codes "switch") (own an_expression (attrs (sign is.BraceLeft (run clauses a_clause (sign is.BraceRight nothing))))))

abbrev pub while_row : Row
while_row = attrs (says (codes "while") (own an_expression (own a_body nothing)))

-- ---- the nodes that stand in a statement

abbrev by_label : ℕ → List Token → Option Label → Read (TreeOf Text)
by_label n ts l = read_node (within n) (read_row (within n) (read_part (within n))) a_bare_statement l ts

-- a part of `for` with this label
abbrev part_as : (Sort → TreeReader) → List Token → Label → Read (TreeOf Text)
part_as child ts l = if is_simple (Some l) then after (read_node child (λ row. read_row child (λ t us. None) (without_end child row)) a_bare_statement (Some l) ts) (λ t us. Some (node_of (at statement_node 0 0) (before t end), us)) else None

abbrev part_by : (Sort → TreeReader) → List Token → Option Label → Read (TreeOf Text)
part_by child ts o = elim o as (λ _. Read (TreeOf Text)) [ None ↦ None | Some l ↦ part_as child ts l ]

-- a simple statement is read so in each place
one-within : (n : ℕ) (ts : List Token) (l : Label) → part_as (within n) ts l ≡ part_as (inner n) ts l
one-within n ts (kind declaration) = refl
one-within n ts (kind increment) = refl
one-within n ts (kind decrement) = refl
one-within n ts (kind call_statement) = refl
one-within n ts (kind k) = refl
one-within n ts (assignment assignment_operator.Equal) = refl
one-within n ts (assignment o) = refl
one-within n ts l = refl

parts-within : (n : ℕ) (ts : List Token) (o : Option Label) → part_by (within n) ts o ≡ part_by (inner n) ts o
parts-within n ts None = refl
parts-within n ts (Some l) = one-within n ts l

part-within : (n : ℕ) (ts : List Token) → read_part (within n) a_statement ts ≡ read_part (inner n) a_statement ts
part-within n ts = parts-within n ts (label_first (inner n) a_bare_statement ts)

-- ---- what stands in each kind

-- `for`, where this reads its parts
abbrev for_with : ℕ → List Token → (List Token → Read (TreeOf Text)) → Read (TreeOf Text)
for_with n ts part = read_node (inner n) (read_row (inner n) (λ x us. part us)) a_bare_statement (Some (kind for_loop)) ts

for-read-within : (n : ℕ) (ts : List Token) → statement_at n for_loop ts ≡ read_node (inner n) (row_at n) a_bare_statement (Some (kind for_loop)) ts
for-read-within n ts = ap (for_with n ts) (fun_ext (part-within n))

compound-by : (r : Read (TreeOf Text)) → after (after r (λ t us. and_others t (let f : Read SpelledForest = Some (end, us) in f))) (λ f us. where_so true (node_of (kind compound_statement) f) us) ≡ after r (λ t us. let q : Read (TreeOf Text) = Some (branch compound_statement (t ∷ []), us) in q)
compound-by None = refl
compound-by (Some x) = refl

compound-within : (n : ℕ) (ts : List Token) → by_label n ts (Some (kind compound_statement)) ≡ after (inner n a_body ts) (λ t us. Some (branch compound_statement (t ∷ []), us))
compound-within n ts = compound-by (inner n a_body ts)

-- ---- statements by their labels

label-known : (child : Sort → TreeReader) (us : List Token) (l : Label) → statement_label us ≡ Some l → label_of_statement child us ≡ Some l
label-known child us l h = ap (λ (o : Option Label). elim o as (λ _. Option Label) [ None ↦ option_and_then (λ x. label_behind_expression x.1) (child an_expression us) | Some l ↦ Some l ]) h

-- what stands behind the attributes tells the kind
module _ {s m : Reader} (behind : List Token) (k : Kind) (h : statement_label behind ≡ Some (kind k)) (told : TellsBehind behind s m) where
  abbrev stated_by : List Token × List Token → Read (TreeOf Text)
  stated_by y = by_label s.levels y.1 (label_of_statement (within s.levels) y.0)

  kind_told : Leads (λ _. inner s.levels a_bare_statement (ahead s)) (λ _. by_label s.levels (ahead m) (Some (kind k))) s m
  kind_told =
      seen (λ ns. refl) (λ ns. ap (λ o. by_label s.levels (ahead m) o) (label-known (within s.levels) behind (kind k) h))
      (under (λ ns (o : Option (List Token × List Token)). option_and_then stated_by o) (λ ns. refl) told)

  pub kind_stated : {e : Reader} (t : Tree) → Reads (statement_at m.levels k) t m e → Reads (inner s.levels a_bare_statement) t s e
  kind_stated {e} t read =
      let here : Reads (statement_at s.levels k) t m e = subst (λ (l : ℕ). Reads (statement_at l k) t m e) told.levels read in
      next kind_told here

pub compound_stated : {s m e : Reader} (behind : List Token) (t : Tree) → statement_label behind ≡ Some (kind compound_statement) → TellsBehind behind s m → Reads (inner m.levels a_body) t m e → Reads (inner s.levels a_bare_statement) (branch compound_statement (t ∷ [])) s e
compound_stated {s} {m} {e} behind t h told read =
    let here : Reads (inner s.levels a_body) t m e = subst (λ (l : ℕ). Reads (inner l a_body) t m e) told.levels read in
    next (seen (λ ns. refl) (λ ns. compound-within s.levels (ahead m)) (kind_told behind compound_statement h told))
    (under (λ ns (r : Read (TreeOf Text)). after r (λ t us. let q : Read (TreeOf Text) = Some (branch compound_statement (t ∷ []), us) in q)) (λ ns. refl) here)

-- ---- other statements

told-as : (x y u v : List Token) → ◌≡◌ {A = Option (List Token × List Token)} (Some (x, u)) (Some (y, v)) → (x ≡ y) × (u ≡ v)
told-as x y u v h = (
  ap (λ (o : Option (List Token × List Token)). elim o as (λ _. List Token) [ None ↦ x | Some z ↦ z.0 ]) h,
  ap (λ (o : Option (List Token × List Token)). elim o as (λ _. List Token) [ None ↦ u | Some z ↦ z.1 ]) h,
)

module _ {s m : Reader} (behind : List Token) (told : TellsBehind behind s m) where
  -- what was told is so of what is ahead now
  pub still_behind : (l : Option Label) → l ≡ statement_label behind → StatementBegins l m
  still_behind l h clear =
      let told_here = told-as (behind_attributes (inner s.levels) (ahead s)) behind (ahead s) (ahead m) (told.read clear (names_of m) (begins_itself (names_of m))) in
      h ∙ ap statement_label
      (sym (subst (λ (n : ℕ). behind_attributes (inner n) (ahead m) ≡ behind) (sym told.levels) (subst (λ z. behind_attributes (inner s.levels) z ≡ behind) told_here.1 told_here.0)))

  pub simple_stated : {e : Reader} (t : Tree) → Reads (inner m.levels a_bare_statement) t m e → Reads (inner s.levels a_bare_statement) t s e
  simple_stated {e} t read =
      let here : Reads (inner s.levels a_bare_statement) t m e = subst (λ (l : ℕ). Reads (inner l a_bare_statement) t m e) told.levels read in
      let F : List Token × List Token → Read (TreeOf Text) = λ y. inner s.levels a_bare_statement y.1 in
      next (under (λ ns (o : Option (List Token × List Token)). option_and_then F o) (λ ns. refl) told) here

-- ---- statements of a kind, by the parts of their rows

abbrev made_of : Kind → Forest → Tree
made_of k f = record { label = kind k; children = f }

abbrev of_kind : Kind → SpelledForest → List Token → Read (TreeOf Text)
of_kind k g us = Some (node_of (kind k) g, us)

module _ {s e : Reader} (n : ℕ) (f : Forest) where
  pub if_stated : RowLeads n if_row f s e → Reads (statement_at n if_statement) (made_of if_statement f) s e
  if_stated p = seen (λ ns. refl) (λ ns. refl) (under (λ ns (r : Read SpelledForest). after r (of_kind if_statement)) (λ ns. refl) p)

  pub switch_stated : RowLeads n switch_row f s e → Reads (statement_at n switch) (made_of switch f) s e
  switch_stated p = seen (λ ns. refl) (λ ns. refl) (under (λ ns (r : Read SpelledForest). after r (of_kind switch)) (λ ns. refl) p)

  pub while_stated : RowLeads n while_row f s e → Reads (statement_at n while_loop) (made_of while_loop f) s e
  while_stated p = seen (λ ns. refl) (λ ns. refl) (under (λ ns (r : Read SpelledForest). after r (of_kind while_loop)) (λ ns. refl) p)

  pub for_stated : RowLeads n for_row f s e → Reads (statement_at n for_loop) (made_of for_loop f) s e
  for_stated p =
      seen (λ ns. for-read-within n (ahead s) ∙ for-read (inner n) (ahead s)) (λ ns. refl)
      (under (λ ns (r : Read SpelledForest). after r (of_kind for_loop)) (λ ns. refl) p)

-- what is behind the body of a loop, and behind that of `continuing`
abbrev pub loop_end : Row
loop_end = optional (own a_continuing nothing) (sign is.BraceRight nothing)

abbrev pub continuing_end : Row
continuing_end = optional (own a_break_if nothing) (sign is.BraceRight nothing)

pub loop_stated : {s m k j e : Reader} (a b : Tree) (f : Forest)
    → Reads (run_at s.levels attributes an_attribute) a s m → Skips (behind_token (name (codes "loop"))) m k → Reads (block_at k.levels) b k j → (j.levels ≡ s.levels → RowLeads s.levels loop_end f j e)
    → Reads (statement_at s.levels loop) (made_of loop (before a (before b f))) s e
loop_stated {s} {m} {k} {j} {e} a b f first skip read last = held_made (codes "loop") loop_end a b f loop first skip read last (λ ws. refl)

pub continuing_stated : {s m k j e : Reader} (a b : Tree) (f : Forest)
    → Reads (run_at s.levels attributes an_attribute) a s m → Skips (behind_token (name (codes "continuing"))) m k → Reads (block_at k.levels) b k j → (j.levels ≡ s.levels → RowLeads s.levels continuing_end f j e)
    → Reads (inner s.levels a_continuing) (made_of continuing (before a (before b f))) s e
continuing_stated {s} {m} {k} {j} {e} a b f first skip read last = held_made (codes "continuing") continuing_end a b f continuing first skip read last (λ ws. refl)

-- ---- with spans

span-by : (r : Read (TreeOf Text)) → after (after r (λ t us. and_others t (let f : Read SpelledForest = Some (end, us) in f))) (λ f us. where_so true (node_of (at statement_node 0 0) f) us) ≡ after r (λ t us. Some (node_of (at statement_node 0 0) (before t end), us))
span-by None = refl
span-by (Some x) = refl

span-read : (n : ℕ) (ts : List Token) → inner n a_statement ts ≡ after (inner n a_bare_statement ts) (λ t us. Some (node_of (at statement_node 0 0) (before t end), us))
span-read n ts = span-by (inner n a_bare_statement ts)

-- a statement with its span
pub statement_placed : {s e : Reader} (node_made : Statement) (made : Spanned Statement) → Reads (inner s.levels a_bare_statement) (statement_view node_made) s e → made.node ≡ node_made → Reads (inner s.levels a_statement) (statement_tree made) s e
statement_placed {s} {e} node_made made read same =
    let F : List Text → Read (TreeOf Text) → Read (TreeOf Text) = λ ns r. after r (λ t us. Some (node_of (at statement_node 0 0) (before t end), us)) in
    seen (λ ns. span-read s.levels (ahead s)) (λ ns. ap (λ z. let r : Read (TreeOf Text) = Some (node_of (at statement_node 0 0) (before (respell (name_in ns) (statement_view z)) end), ahead e) in r) (sym same)) (under F (λ ns. refl) read)
