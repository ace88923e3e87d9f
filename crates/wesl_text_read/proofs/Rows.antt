-- The parts of a row, read one after the other.
use Rattle.std.proofs.Common.{◌≡◌, ℕ, List, [], ◌∷◌, length, Bool, true, false, Option, Some, None, refl, sym, ap, ◌∙◌, subst}
use Rattle.std.specs.Option.{option_and_then}
use Rattle.wesl_tree_names.specs.Path.{Text}
use Rattle.wesl_tree_syntax.specs.Tree.{Forest, Kind, Label, Tree, TreeOf, absent, before, branch, end, kind, leaf as tree_leaf, list, present, respell, respell_forest, respell_label}
use Rattle.wesl_tree_syntax.specs.Unit.{name_in}
use Rattle.wesl_text_tokens.specs.declared.symbol.Symbol.{Symbol}
use Rattle.wesl_text_tokens.specs.Tokens.{Token, close_list, name, open_list, symbol}
use Rattle.wesl_text_form.specs.Slots.{behind_if_there, behind_token}
use Rattle.wesl_text_form.specs.Productions.{Leaf, Row, Sort, closes, commas, inside, leaf, may_sym, nothing, opens, optional, own, run, says, selectors, sym as sign, target, unended}
use Rattle.wesl_text_form.specs.Spelling.{Forest as SpelledForest, Label as SpelledLabel}
use Rattle.wesl_text_reading.specs.Leaves.{Read, after, read_leaf}
use Rattle.wesl_text_reading.specs.Reading.{all_of, and_others, begins_child, begins_row, node_of, read_part, read_selectors, read_target, separate_of}
use Rattle.wesl_text_read.specs.declared.reader.Reader.{Reader}
use Rattle.wesl_text_read.specs.Leads.{Leads, Reads, ReadsLabel, Skips, ahead}
use Rattle.wesl_text_read.specs.Attributes.{run_at}
use Rattle.wesl_text_read.specs.Levels.{inner}
use Rattle.wesl_text_read.specs.Parts.{commas_at, may_at, row_at}
use Rattle.wesl_text_read.proofs.Leading.{next, seen, stay, under}
use Rattle.wesl_text_read.proofs.Levels.{after-one}

-- the trees of a row are read
abbrev pub RowLeads : ℕ → Row → Forest → Reader → Reader → Type 0
RowLeads n row f s e = Leads (λ _. row_at n row (ahead s)) (λ ns. Some (respell_forest (name_in ns) f, ahead e)) s e

pub row_ends : {s : Reader} (n : ℕ) → RowLeads n nothing end s s
row_ends {s} n = stay

pub row_sign : {s m e : Reader} (n : ℕ) (x : Symbol) (row : Row) (f : Forest) → Skips (behind_token (symbol x)) s m → RowLeads n row f m e → RowLeads n (sign x row) f s e
row_sign {s} {m} {e} n x row f p q = next (under (λ ns (o : Option (List Token)). option_and_then (row_at n row) o) (λ ns. refl) p) q

pub row_says : {s m e : Reader} (n : ℕ) (w : Text) (row : Row) (f : Forest) → Skips (behind_token (name w)) s m → RowLeads n row f m e → RowLeads n (says w row) f s e
row_says {s} {m} {e} n w row f p q = next (under (λ ns (o : Option (List Token)). option_and_then (row_at n row) o) (λ ns. refl) p) q

pub row_opens : {s m e : Reader} (n : ℕ) (row : Row) (f : Forest) → Skips (behind_token open_list) s m → RowLeads n row f m e → RowLeads n (opens row) f s e
row_opens {s} {m} {e} n row f p q = next (under (λ ns (o : Option (List Token)). option_and_then (row_at n row) o) (λ ns. refl) p) q

pub row_closes : {s m e : Reader} (n : ℕ) (row : Row) (f : Forest) → Skips (behind_token close_list) s m → RowLeads n row f m e → RowLeads n (closes row) f s e
row_closes {s} {m} {e} n row f p q = next (under (λ ns (o : Option (List Token)). option_and_then (row_at n row) o) (λ ns. refl) p) q

-- one tree, and what is behind it
abbrev pub AfterTree : ℕ → Row → Read (TreeOf Text) → Read SpelledForest
AfterTree n row r = after r (λ t us. and_others t (row_at n row us))

after_tree : {f : List Text → Read (TreeOf Text)} {s m e : Reader} (n : ℕ) (row : Row) (t : Tree) (g : Forest) → Leads f (λ ns. Some (respell (name_in ns) t, ahead m)) s m → RowLeads n row g m e → Leads (λ ns. AfterTree n row (f ns)) (λ ns. Some (respell_forest (name_in ns) (before t g), ahead e)) s e
after_tree {f} {s} {m} {e} n row t g p q =
    next (under (λ ns (r : Read (TreeOf Text)). AfterTree n row r) (λ ns. refl) p)
    (under (λ ns (r : Read SpelledForest). and_others (respell (name_in ns) t) r) (λ ns. refl) q)

pub row_commas : {s m e : Reader} (n : ℕ) (k : Kind) (x : Sort) (row : Row) (t : Tree) (g : Forest) → Reads (commas_at n k x) t s m → RowLeads n row g m e → RowLeads n (commas k x row) (before t g) s e
row_commas {s} {m} {e} n k x row t g p q =
    seen (λ ns. after-one (separate_of (begins_child (inner n) x) (inner n x) (length (ahead s)) (ahead s)) (node_of (kind k)) (λ u us. and_others u (row_at n row us))) (λ ns. refl) (after_tree n row t g p q)

pub row_run : {s m e : Reader} (n : ℕ) (k : Kind) (x : Sort) (row : Row) (t : Tree) (g : Forest) → Reads (run_at n k x) t s m → RowLeads n row g m e → RowLeads n (run k x row) (before t g) s e
row_run {s} {m} {e} n k x row t g p q =
    seen (λ ns. after-one (all_of (begins_child (inner n) x) (inner n x) (length (ahead s)) (ahead s)) (node_of (kind k)) (λ u us. and_others u (row_at n row us))) (λ ns. refl) (after_tree n row t g p q)

pub row_unended : {s m e : Reader} (n : ℕ) (x : Sort) (row : Row) (t : Tree) (g : Forest) → Reads (read_part (inner n) x) t s m → RowLeads n row g m e → RowLeads n (unended x row) (before t g) s e
row_unended {s} {m} {e} n x row t g p q = after_tree n row t g p q

pub row_target : {s m e : Reader} (n : ℕ) (row : Row) (t : Tree) (g : Forest) → Reads (read_target (inner n)) t s m → RowLeads n row g m e → RowLeads n (target row) (before t g) s e
row_target {s} {m} {e} n row t g p q = after_tree n row t g p q

-- trees below one of this kind
below_tree : {h : List Text → Read SpelledForest} {s m e : Reader} (n : ℕ) (k : Kind) (row : Row) (f g : Forest) → Leads h (λ ns. Some (respell_forest (name_in ns) f, ahead m)) s m → RowLeads n row g m e
    → Leads (λ ns. after (h ns) (λ f us. and_others (node_of (kind k) f) (row_at n row us))) (λ ns. Some (respell_forest (name_in ns) (before (record { label = kind k; children = f }) g), ahead e)) s e
below_tree {h} {s} {m} {e} n k row f g p q =
    next (under (λ ns (r : Read SpelledForest). after r (λ f us. and_others (node_of (kind k) f) (row_at n row us))) (λ ns. refl) p)
    (under (λ ns (r : Read SpelledForest). and_others (node_of (kind k) (respell_forest (name_in ns) f)) r) (λ ns. refl) q)

pub row_inside : {s m e : Reader} (n : ℕ) (k : Kind) (ins row : Row) (f g : Forest) → RowLeads n ins f s m → RowLeads n row g m e → RowLeads n (inside k ins row) (before (record { label = kind k; children = f }) g) s e
row_inside {s} {m} {e} n k ins row f g p q = below_tree n k row f g p q

-- the selectors of a clause
pub row_selectors : {s m e : Reader} (n : ℕ) (row : Row) (f g : Forest) → Leads (λ _. read_selectors (inner n) (ahead s)) (λ ns. Some (respell_forest (name_in ns) f, ahead m)) s m → RowLeads n row g m e
    → RowLeads n (selectors row) (before (record { label = kind list; children = f }) g) s e
row_selectors {s} {m} {e} n row f g p q = below_tree n list row f g p q

pub row_own : {s m e : Reader} (n : ℕ) (x : Sort) (row : Row) (t : Tree) (g : Forest) → Reads (inner n x) t s m → RowLeads n row g m e → RowLeads n (own x row) (before t g) s e
row_own {s} {m} {e} n x row t g p q = after_tree n row t g p q

pub row_leaf : {s m e : Reader} (n : ℕ) (f : Leaf) (row : Row) (l : Label) (g : Forest) → ReadsLabel (read_leaf f) l s m → RowLeads n row g m e → RowLeads n (leaf f row) (before (tree_leaf l) g) s e
row_leaf {s} {m} {e} n f row l g p q =
    next (under (λ ns (r : Read SpelledLabel). after r (λ x us. and_others (tree_leaf x) (row_at n row us))) (λ ns. refl) p)
    (under (λ ns (r : Read SpelledForest). and_others (tree_leaf (respell_label (name_in ns) l)) r) (λ ns. refl) q)

pub row_may : {s m e : Reader} (n : ℕ) (x : Symbol) (row : Row) (f : Forest) → Skips (λ ts. Some (behind_if_there (symbol x) ts)) s m → RowLeads n row f m e → RowLeads n (may_sym x row) f s e
row_may {s} {m} {e} n x row f p q = next (under (λ ns (o : Option (List Token)). option_and_then (row_at n row) o) (λ ns. refl) p) q

optional-by : (n : ℕ) (ins row : Row) (ts : List Token) (b : Bool)
    → elim b as (λ _. Read SpelledForest) [ false ↦ and_others (branch absent []) (row_at n row ts) | true ↦ after (row_at n ins ts) (λ f us. and_others (node_of (kind present) f) (row_at n row us)) ]
    ≡ AfterTree n row (elim b as (λ _. Read (TreeOf Text)) [ false ↦ Some (tree_leaf (kind absent), ts) | true ↦ after (row_at n ins ts) (λ f us. Some (node_of (kind present) f, us)) ])
optional-by n ins row ts false = refl
optional-by n ins row ts true = after-one (row_at n ins ts) (node_of (kind present)) (λ t us. and_others t (row_at n row us))

pub row_optional : {s m e : Reader} (n : ℕ) (ins row : Row) (t : Tree) (g : Forest) → Reads (may_at n ins) t s m → RowLeads n row g m e → RowLeads n (optional ins row) (before t g) s e
row_optional {s} {m} {e} n ins row t g p q = seen (λ ns. optional-by n ins row (ahead s) (begins_row (inner n) ins (ahead s))) (λ ns. refl) (after_tree n row t g p q)

-- a part that need not stand, where it stands
pub may_there : {s e : Reader} (n : ℕ) (ins : Row) (f : Forest) → begins_row (inner n) ins (ahead s) ≡ true → RowLeads n ins f s e → Reads (may_at n ins) (record { label = kind present; children = f }) s e
may_there {s} {e} n ins f h p =
    seen (λ ns. ap (λ (b : Bool). elim b as (λ _. Read (TreeOf Text)) [ false ↦ Some (tree_leaf (kind absent), ahead s) | true ↦ after (row_at n ins (ahead s)) (λ f us. Some (node_of (kind present) f, us)) ]) h) (λ ns. refl)
    (under (λ ns (r : Read SpelledForest). after r (λ f us. Some (node_of (kind present) f, us))) (λ ns. refl) p)

-- and where it does not
pub may_not : {s : Reader} (n : ℕ) (ins : Row) → begins_row (inner n) ins (ahead s) ≡ false → Reads (may_at n ins) (tree_leaf (kind absent)) s s
may_not {s} n ins h = seen (λ ns. ap (λ (b : Bool). elim b as (λ _. Read (TreeOf Text)) [ false ↦ Some (tree_leaf (kind absent), ahead s) | true ↦ after (row_at n ins (ahead s)) (λ f us. Some (node_of (kind present) f, us)) ]) h) (λ ns. refl) stay
