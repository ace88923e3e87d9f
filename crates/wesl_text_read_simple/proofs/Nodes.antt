-- Statements and declarations whose first token tells what they are.
use Rattle.std.proofs.Common.{◌≡◌, ◌&&◌, ℕ, List, Bool, true, Option, Some, None, refl, sym as turned, ap, ◌∙◌}
use Rattle.std.specs.Option.{option_and_then}
use Rattle.wesl_tree_names.specs.Path.{Text}
use Rattle.wesl_tree_syntax.specs.Tree.{Forest as TreeForest, Kind, Tree, TreeOf, kind, respell}
use Rattle.wesl_tree_syntax.specs.Unit.{name_in}
use Rattle.wesl_text_tokens.specs.declared.symbol.Symbol.TheVariants as is
use Rattle.wesl_text_tokens.specs.Tokens.{Token, symbol}
use Rattle.wesl_text_form.specs.Slots.{behind_token}
use Rattle.wesl_text_form.specs.Productions.{Row, Sort, a_bare_declaration, a_bare_statement, an_expression, row_of}
use Rattle.wesl_text_form.specs.Spelling.{Forest, Label, fits, stands_as}
use Rattle.wesl_text_reading.specs.FirstTokens.{declaration_label, label_behind_expression, statement_label}
use Rattle.wesl_text_reading.specs.Leaves.{Read, after, where_so}
use Rattle.wesl_text_reading.specs.Reading.{ForestReader, Reader as TreeReader, any, at_level, behind_attributes, label_of_statement, node_of, ranked, read_node, read_part, read_row}
use Rattle.wesl_text_read.specs.declared.reader.Reader.{Reader}
use Rattle.wesl_text_read.specs.Leads.{Leads, Reads, Skips, ahead}
use Rattle.wesl_text_read.specs.Levels.{inner}
use Rattle.wesl_text_read.specs.Parts.{row_at}
use Rattle.wesl_text_read.proofs.After.{after-same}
use Rattle.wesl_text_read.proofs.Leading.{next, seen, under}
use Rattle.wesl_text_read.proofs.Rows.{RowLeads}
use Rattle.wesl_text_read_ahead.proofs.Behind.{in_fault}
use Rattle.wesl_text_read_simple.specs.Starts.{DeclarationBegins, StatementBegins}
use Rattle.wesl_text_read_simple.proofs.Ended.{then_end}

-- the nodes below a statement and a declaration of so many levels
abbrev pub below : ℕ → Sort → TreeReader
below n = ranked (at_level n any) 4

abbrev pub below_rows : ℕ → Row → ForestReader
below_rows n = read_row (below n) (read_part (below n))

-- a test of the children of a node
abbrev pub Always : Sort → Kind → Type 0
Always s k = (f : Forest) → (fits (kind k) f && stands_as s (kind k) f) ≡ true

-- a node of a kind
abbrev pub kind_node : Kind → Forest → TreeOf Text
kind_node k f = node_of (kind k) f

module _ (child : Sort → TreeReader) (rows : Row → ForestReader) (s : Sort) (l : Label) (row : Row) (ts : List Token) (is : row_of s l ≡ Some row) where
  pub label-node : read_node child rows s (Some l) ts ≡ after (rows row ts) (λ f us. where_so (fits l f && stands_as s l f) (node_of l f) us)
  label-node = ap (λ (o : Option Row). option_and_then (λ r. after (rows r ts) (λ f us. where_so (fits l f && stands_as s l f) (node_of l f) us)) o) is

  pub label-node-always : ((f : Forest) → (fits l f && stands_as s l f) ≡ true) → read_node child rows s (Some l) ts ≡ after (rows row ts) (λ f us. Some (node_of l f, us))
  label-node-always always =
      label-node
      ∙ after-same (rows row ts) (λ f us. where_so (fits l f && stands_as s l f) (node_of l f) us) (λ f us. Some (node_of l f, us))
      (λ f us. ap (λ (b : Bool). where_so b (node_of l f) us) (always f))

-- the label that the first token behind attributes tells
pub told-statement : (child : Sort → TreeReader) (l : Label) (us : List Token) → Some l ≡ statement_label us → label_of_statement child us ≡ Some l
told-statement child l us h = ap (λ (o : Option Label). elim o as (λ _. Option Label) [ None ↦ option_and_then (λ x. label_behind_expression x.1) (child an_expression us) | Some m ↦ Some m ]) (turned h)

pub statement-node : (n : ℕ) (l : Label) (ts : List Token) → Some l ≡ statement_label (behind_attributes (inner n) ts) → inner n a_bare_statement ts ≡ read_node (below n) (below_rows n) a_bare_statement (Some l) ts
statement-node n l ts h = ap (λ (o : Option Label). read_node (below n) (below_rows n) a_bare_statement o ts) (told-statement (below n) l (behind_attributes (below n) ts) h)

pub declaration-node : (n : ℕ) (l : Label) (ts : List Token) → Some l ≡ declaration_label (behind_attributes (inner n) ts) → inner n a_bare_declaration ts ≡ read_node (below n) (below_rows n) a_bare_declaration (Some l) ts
declaration-node n l ts h = ap (λ (o : Option Label). read_node (below n) (below_rows n) a_bare_declaration o ts) (turned h)

-- ---- readers

module _ {s e : Reader} (k : Kind) (row : Row) (f : TreeForest) where
  -- The row of a statement is read, and so is the statement: `same` is had by computation.
  pub statement_read : row_of {I = Text} a_bare_statement (kind k) ≡ Some row → Always a_bare_statement k → ((ts : List Token) → below_rows s.levels row ts ≡ row_at s.levels row ts)
      → StatementBegins (Some (kind k)) s → RowLeads s.levels row f s e → Reads (inner s.levels a_bare_statement) (record { label = kind k; children = f }) s e
  statement_read is always same begins p =
      in_fault p (λ clear.
      seen
      (λ ns. statement-node s.levels (kind k) (ahead s) (begins clear)
      ∙ (label-node-always (below s.levels) (below_rows s.levels) a_bare_statement (kind k) row (ahead s) is always
      ∙ ap (λ (r : Read Forest). after r (λ g us. Some (kind_node k g, us))) (same (ahead s))))
      (λ ns. refl)
      (under (λ ns (r : Read Forest). after r (λ g us. Some (kind_node k g, us))) (λ ns. refl) p))

  pub declaration_read : row_of {I = Text} a_bare_declaration (kind k) ≡ Some row → Always a_bare_declaration k → ((ts : List Token) → below_rows s.levels row ts ≡ row_at s.levels row ts)
      → DeclarationBegins (Some (kind k)) s → RowLeads s.levels row f s e → Reads (inner s.levels a_bare_declaration) (record { label = kind k; children = f }) s e
  declaration_read is always same begins p =
      in_fault p (λ clear.
      seen
      (λ ns. declaration-node s.levels (kind k) (ahead s) (begins clear)
      ∙ (label-node-always (below s.levels) (below_rows s.levels) a_bare_declaration (kind k) row (ahead s) is always
      ∙ ap (λ (r : Read Forest). after r (λ g us. Some (kind_node k g, us))) (same (ahead s))))
      (λ ns. refl)
      (under (λ ns (r : Read Forest). after r (λ g us. Some (kind_node k g, us))) (λ ns. refl) p))

-- what is read, and `;` behind it
pub end_read : {f : List Text → Read (TreeOf Text)} {s m e : Reader} (t : Tree) → Leads f (λ ns. Some (respell (name_in ns) t, ahead m)) s m → Skips (behind_token (symbol is.Semicolon)) m e
    → Leads (λ ns. after (f ns) then_end) (λ ns. Some (respell (name_in ns) t, ahead e)) s e
end_read {f} {s} {m} {e} t p q =
    next (under (λ ns (r : Read (TreeOf Text)). after r then_end) (λ ns. refl) p)
    (under (λ ns (o : Option (List Token)). option_and_then (λ vs. let r : Read (TreeOf Text) = Some (respell (name_in ns) t, vs) in r) o) (λ ns. refl) q)
