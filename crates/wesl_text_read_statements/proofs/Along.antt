-- The parts of a row, each at the levels of the reader that comes to it.
use Rattle.std.proofs.Common.{◌≡◌, ℕ, Option, Some, None, IfNone, IfSome, List, [], ◌∷◌, true, refl, sym, ◌∙◌, subst}
use Rattle.std.specs.Box.{box_value}
use Rattle.std.specs.Global.{Box}
use Rattle.wesl_tree_names.specs.Path.{Text}
use Rattle.wesl_tree_syntax.specs.Tree.{Forest, Kind, Tree, before, branch, end, kind, present, respell}
use Rattle.wesl_tree_syntax.specs.Unit.{name_in}
use Rattle.wesl_tree_syntax.specs.View.{optional as option_view, statement_tree}
use Rattle.wesl_tree_syntax.specs.declared.span.Spanned.{Spanned}
use Rattle.wesl_tree_syntax.specs.declared.statement.Statement.{Statement}
use Rattle.wesl_text_tokens.specs.declared.symbol.Symbol.{Symbol}
use Rattle.wesl_text_tokens.specs.Tokens.{Token, name, symbol}
use Rattle.wesl_text_form.specs.Slots.{behind_if_there, behind_token}
use Rattle.wesl_text_form.specs.Spelling.{Forest as SpelledForest}
use Rattle.wesl_text_form.specs.Productions.{Row, Sort, a_statement, may_sym, nothing, optional, own, run, says, sym as sign, unended}
use Rattle.wesl_text_reading.specs.FirstTokens.{begins_part}
use Rattle.wesl_text_reading.specs.Leaves.{Read, after}
use Rattle.wesl_text_reading.specs.Reading.{node_of, read_part}
use Rattle.wesl_text_read.specs.declared.reader.Fault.TheVariants as faults
use Rattle.wesl_text_read.specs.declared.reader.Reader.{Reader}
use Rattle.wesl_text_read.specs.Attributes.{run_at}
use Rattle.wesl_text_read.specs.Leads.{Leads, Reads, Skips, Stops, ahead}
use Rattle.wesl_text_read.specs.Levels.{inner}
use Rattle.wesl_text_read.specs.Parts.{may_at, row_at}
use Rattle.wesl_text_read.proofs.Leading.{next, seen, under, wants_memory}
use Rattle.wesl_text_read.proofs.Rows.{RowLeads, may_there, row_ends, row_may, row_optional, row_own, row_run, row_says, row_sign, row_unended}
use Rattle.wesl_text_read_statements.specs.Statements.{boxed_statement}

-- the trees of a row are read
pub record RowRead (n : ℕ) (row : Row) (f : Forest) (s e : Reader) : Type 0 where
  pub leads : RowLeads n row f s e

pub along_ends : {s : Reader} {n : ℕ} → RowRead n nothing end s s
along_ends {s} {n} = record { leads = row_ends n }

pub along_sign : {s m e : Reader} {n : ℕ} {x : Symbol} {row : Row} {f : Forest} → s.levels ≡ n → Skips (behind_token (symbol x)) s m → (m.levels ≡ n → RowRead n row f m e) → RowRead n (sign x row) f s e
along_sign {s} {m} {e} {n} {x} {row} {f} level skip more = record { leads = row_sign n x row f skip (more (skip.levels ∙ level)).leads }

pub along_says : {s m e : Reader} {n : ℕ} {w : Text} {row : Row} {f : Forest} → s.levels ≡ n → Skips (behind_token (name w)) s m → (m.levels ≡ n → RowRead n row f m e) → RowRead n (says w row) f s e
along_says {s} {m} {e} {n} {w} {row} {f} level skip more = record { leads = row_says n w row f skip (more (skip.levels ∙ level)).leads }

pub along_may : {s m e : Reader} {n : ℕ} {x : Symbol} {row : Row} {f : Forest} → s.levels ≡ n → Skips (λ ts. Some (behind_if_there (symbol x) ts)) s m → (m.levels ≡ n → RowRead n row f m e) → RowRead n (may_sym x row) f s e
along_may {s} {m} {e} {n} {x} {row} {f} level skip more = record { leads = row_may n x row f skip (more (skip.levels ∙ level)).leads }

pub along_own : {s m e : Reader} {n : ℕ} {x : Sort} {row : Row} (t : Tree) {g : Forest} → s.levels ≡ n → Reads (inner s.levels x) t s m → (m.levels ≡ n → RowRead n row g m e) → RowRead n (own x row) (before t g) s e
along_own {s} {m} {e} {n} {x} {row} t {g} level read more =
    record { leads = row_own n x row t g (subst (λ (l : ℕ). Reads (inner l x) t s m) level read) (more (read.levels ∙ level)).leads }

pub along_run : {s m e : Reader} {n : ℕ} {k : Kind} {x : Sort} {row : Row} (t : Tree) {g : Forest} → s.levels ≡ n → Reads (run_at s.levels k x) t s m → (m.levels ≡ n → RowRead n row g m e) → RowRead n (run k x row) (before t g) s e
along_run {s} {m} {e} {n} {k} {x} {row} t {g} level read more =
    record { leads = row_run n k x row t g (subst (λ (l : ℕ). Reads (run_at l k x) t s m) level read) (more (read.levels ∙ level)).leads }

pub along_optional : {s m e : Reader} {n : ℕ} {ins row : Row} (t : Tree) {g : Forest} → s.levels ≡ n → Reads (may_at s.levels ins) t s m → (m.levels ≡ n → RowRead n row g m e) → RowRead n (optional ins row) (before t g) s e
along_optional {s} {m} {e} {n} {ins} {row} t {g} level read more =
    record { leads = row_optional n ins row t g (subst (λ (l : ℕ). Reads (may_at l ins) t s m) level read) (more (read.levels ∙ level)).leads }

-- a node of its row, whatever stands in it
pub node_read : {s e : Reader} {n : ℕ} {row : Row} {f : Forest} (x : Sort) (k : Kind) → ((ts : List Token) → inner n x ts ≡ after (row_at n row ts) (λ g us. Some (node_of (kind k) g, us))) → RowRead n row f s e → Reads (inner n x) (record { label = kind k; children = f }) s e
node_read {s} {e} {n} {row} {f} x k is p = seen (λ ns. is (ahead s)) (λ ns. refl) (under (λ ns (r : Read SpelledForest). after r (λ g us. Some (node_of (kind k) g, us))) (λ ns. refl) p.leads)

-- ---- parts of `for`

part-there : {s e : Reader} (x : Spanned Statement) → begins_part (ahead s) ≡ true → Reads (read_part (inner s.levels) a_statement) (statement_tree x) s e → Reads (may_at s.levels (unended a_statement nothing)) (branch present (statement_tree x ∷ [])) s e
part-there {s} {e} x h read =
    may_there s.levels (unended a_statement nothing) (before (statement_tree x) end) h
    (row_unended s.levels a_statement nothing (statement_tree x) end read (row_ends s.levels))

pub part_boxed : {s m e : Reader} (x : Spanned Statement) (o : Option (Box (Spanned Statement))) → begins_part (ahead s) ≡ true → Reads (read_part (inner s.levels) a_statement) (statement_tree x) s m
    → IfSome o (λ b. (box_value b ≡ x) × (e ≡ m)) → IfNone o (Stops faults.Memory m e)
    → Reads (may_at s.levels (unended a_statement nothing)) (option_view boxed_statement o) s e
part_boxed {s} {m} {e} x None h read same refused = next (part-there x h read) (wants_memory refused)
part_boxed {s} {m} {e} x (Some b) h read same refused =
    subst (λ z. Reads (may_at s.levels (unended a_statement nothing)) (option_view boxed_statement (Some b)) s z) (sym same.1)
    (subst (λ z. Leads (λ _. may_at s.levels (unended a_statement nothing) (ahead s)) (λ ns. Some (respell (name_in ns) (branch present (statement_tree z ∷ [])), ahead m)) s m) (sym same.0)
    (part-there x h read))
