-- Rows and nodes, each read with the levels that the reader has.
use Rattle.std.proofs.Common.{◌≡◌, ℕ, List, true, Some, None, refl, sym, ap, subst}
use Rattle.wesl_tree_names.specs.Path.{Text}
use Rattle.wesl_tree_syntax.specs.Tree.{Forest, Kind, Label, Tree, TreeOf, at, before, end, kind, leaf as tree_leaf, respell}
use Rattle.wesl_tree_syntax.specs.Unit.{name_in}
use Rattle.wesl_tree_syntax.specs.View.{placed}
use Rattle.wesl_tree_syntax.specs.declared.span.Spanned.{Spanned}
use Rattle.wesl_text_tokens.specs.declared.symbol.Symbol.{Symbol}
use Rattle.wesl_text_tokens.specs.Tokens.{Token, name, symbol}
use Rattle.wesl_text_form.specs.Slots.{behind_if_there, behind_token}
use Rattle.wesl_text_form.specs.Productions.{Leaf, Row, Sort, leaf, may_sym, nothing, optional, own, run, says, sym as sign}
use Rattle.wesl_text_form.specs.Spelling.{Forest as SpelledForest}
use Rattle.wesl_text_reading.specs.Leaves.{Read, after, read_leaf, where_so}
use Rattle.wesl_text_reading.specs.Reading.{Reader as TreeReader, and_others, node_of}
use Rattle.wesl_text_read.specs.declared.reader.Reader.{Reader}
use Rattle.wesl_text_read.specs.Attributes.{run_at}
use Rattle.wesl_text_read.specs.Leads.{Reads, ReadsLabel, Skips, ahead}
use Rattle.wesl_text_read.specs.Levels.{inner}
use Rattle.wesl_text_read.specs.Parts.{may_at, row_at}
use Rattle.wesl_text_read.proofs.Leading.{seen, under}
use Rattle.wesl_text_read.proofs.Rows.{RowLeads, row_ends, row_leaf, row_may, row_optional, row_own, row_run, row_says, row_sign}

-- ---- rows

-- the trees of a row are read
abbrev pub RowReads : Row → Forest → Reader → Reader → Type 0
RowReads row f s e = RowLeads s.levels row f s e

pub with_levels : {m e : Reader} (n : ℕ) (row : Row) (f : Forest) → m.levels ≡ n → RowReads row f m e → RowLeads n row f m e
with_levels {m} {e} n row f same q = subst (λ l. RowLeads l row f m e) same q

pub reads_end : {s : Reader} → RowReads nothing end s s
reads_end {s} = row_ends s.levels

pub reads_sign : {s m e : Reader} (x : Symbol) (row : Row) (f : Forest) → Skips (behind_token (symbol x)) s m → RowReads row f m e → RowReads (sign x row) f s e
reads_sign {s} {m} {e} x row f p q = row_sign s.levels x row f p (with_levels s.levels row f p.levels q)

pub reads_may : {s m e : Reader} (x : Symbol) (row : Row) (f : Forest) → Skips (λ ts. Some (behind_if_there (symbol x) ts)) s m → RowReads row f m e → RowReads (may_sym x row) f s e
reads_may {s} {m} {e} x row f p q = row_may s.levels x row f p (with_levels s.levels row f p.levels q)

pub reads_says : {s m e : Reader} (w : Text) (row : Row) (f : Forest) → Skips (behind_token (name w)) s m → RowReads row f m e → RowReads (says w row) f s e
reads_says {s} {m} {e} w row f p q = row_says s.levels w row f p (with_levels s.levels row f p.levels q)

pub reads_own : {s m e : Reader} (x : Sort) (row : Row) (t : Tree) (g : Forest) → Reads (inner s.levels x) t s m → RowReads row g m e → RowReads (own x row) (before t g) s e
reads_own {s} {m} {e} x row t g p q = row_own s.levels x row t g p (with_levels s.levels row g p.levels q)

pub reads_leaf : {s m e : Reader} (f : Leaf) (row : Row) (l : Label) (g : Forest) → ReadsLabel (read_leaf f) l s m → RowReads row g m e → RowReads (leaf f row) (before (tree_leaf l) g) s e
reads_leaf {s} {m} {e} f row l g p q = row_leaf s.levels f row l g p (with_levels s.levels row g p.levels q)

pub reads_run : {s m e : Reader} (k : Kind) (x : Sort) (row : Row) (t : Tree) (g : Forest) → Reads (run_at s.levels k x) t s m → RowReads row g m e → RowReads (run k x row) (before t g) s e
reads_run {s} {m} {e} k x row t g p q = row_run s.levels k x row t g p (with_levels s.levels row g p.levels q)

pub reads_optional : {s m e : Reader} (ins row : Row) (t : Tree) (g : Forest) → Reads (may_at s.levels ins) t s m → RowReads row g m e → RowReads (optional ins row) (before t g) s e
reads_optional {s} {m} {e} ins row t g p q = row_optional s.levels ins row t g p (with_levels s.levels row g p.levels q)

-- ---- nodes

-- a node of the trees of its row, where nothing else is asked of them
pub node_reads : {s e : Reader} (f : ℕ → TreeReader) (k : Kind) (row : Row) (g : Forest) → ((n : ℕ) (ts : List Token) → f n ts ≡ after (row_at n row ts) (λ h us. Some (node_of (kind k) h, us)))
    → RowReads row g s e → Reads (f s.levels) (record { label = kind k; children = g }) s e
node_reads {s} {e} f k row g same p =
    let F : List Text → Read SpelledForest → Read (TreeOf Text) = λ ns r. after r (λ h us. Some (node_of (kind k) h, us)) in
    seen (λ ns. same s.levels (ahead s)) (λ ns. refl) (under F (λ ns. refl) p)

-- ---- spans

pub spanned-by : (k : Kind) (r : Read (TreeOf Text)) → after (after r (λ t us. and_others t (let f : Read SpelledForest = Some (end, us) in f))) (λ f us. where_so true (node_of (at k 0 0) f) us) ≡ after r (λ t us. Some (node_of (at k 0 0) (before t end), us))
spanned-by k None = refl
spanned-by k (Some x) = refl

-- a node with its span
pub placed_reads : {A : Type 0} {s e : Reader} (view : A → Tree) (k : Kind) (whole bare : TreeReader) (node : A) (made : Spanned A)
    → ((ts : List Token) → whole ts ≡ after (bare ts) (λ t us. Some (node_of (at k 0 0) (before t end), us)))
    → Reads bare (view node) s e → made.node ≡ node → Reads whole (placed view k made) s e
placed_reads {A} {s} {e} view k whole bare node made same read is =
    let F : List Text → Read (TreeOf Text) → Read (TreeOf Text) = λ ns r. after r (λ t us. Some (node_of (at k 0 0) (before t end), us)) in
    seen (λ ns. same (ahead s)) (λ ns. ap (λ z. let r : Read (TreeOf Text) = Some (node_of (at k 0 0) (before (respell (name_in ns) (view z)) end), ahead e) in r) (sym is)) (under F (λ ns. refl) read)
