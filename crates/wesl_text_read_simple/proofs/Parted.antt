-- The parts of a row, each with the levels of the reader that it is read from.
use Rattle.std.proofs.Common.{◌≡◌, ℕ, List, true, false, not, Bool, Some, refl, sym, ap, subst}
use Rattle.wesl_tree_names.specs.Path.{Text}
use Rattle.wesl_tree_syntax.specs.Tree.{Forest, Kind, Label, Tree, TreeOf, before, end, leaf as tree_leaf, respell_forest}
use Rattle.wesl_tree_syntax.specs.Unit.{name_in}
use Rattle.wesl_text_tokens.specs.declared.symbol.Symbol.{Symbol}
use Rattle.wesl_text_tokens.specs.declared.symbol.Symbol.TheVariants as is
use Rattle.wesl_text_tokens.specs.Tokens.{close_list, name, open_list, symbol}
use Rattle.wesl_text_form.specs.Slots.{behind_token}
use Rattle.wesl_text_form.specs.Productions.{Leaf, Row, Sort, closes, leaf, may_sym, nothing, opens, optional, own, run, says, sym as sign}
use Rattle.wesl_text_form.specs.Spelling.{Forest as SpelledForest}
use Rattle.wesl_text_reading.specs.Leaves.{Read, after, read_leaf, where_so}
use Rattle.wesl_text_read.specs.declared.reader.Reader.{Reader}
use Rattle.wesl_text_read.specs.Attributes.{run_at}
use Rattle.wesl_text_read.specs.First.{behind_comma}
use Rattle.wesl_text_read.specs.Leads.{Leads, Reads, ReadsLabel, Refuses, Skips, Tells, ahead}
use Rattle.wesl_text_read.specs.Levels.{inner}
use Rattle.wesl_text_read.specs.Parts.{may_at, row_at}
use Rattle.wesl_text_read.proofs.Leading.{next, nothing_there, seen, stay, under}
use Rattle.wesl_text_read.proofs.Rows.{RowLeads, row_closes, row_leaf, row_may, row_opens, row_optional, row_own, row_run, row_says, row_sign}
use Rattle.wesl_text_read.proofs.WordLists.{may_comma}

same_levels : {m e : Reader} (row : Row) (n : ℕ) (f : Forest) → m.levels ≡ n → RowLeads m.levels row f m e → RowLeads n row f m e
same_levels {m} {e} row n f is q = subst (λ (l : ℕ). RowLeads l row f m e) is q

-- nothing is left of a row
pub part_ends : {s : Reader} → RowLeads s.levels nothing end s s
part_ends {s} = stay

module _ {s m e : Reader} (row : Row) where
  pub part_sign : (x : Symbol) (f : Forest) → Skips (behind_token (symbol x)) s m → RowLeads m.levels row f m e → RowLeads s.levels (sign x row) f s e
  part_sign x f p q = row_sign s.levels x row f p (same_levels row s.levels f p.levels q)

  pub part_says : (w : Text) (f : Forest) → Skips (behind_token (name w)) s m → RowLeads m.levels row f m e → RowLeads s.levels (says w row) f s e
  part_says w f p q = row_says s.levels w row f p (same_levels row s.levels f p.levels q)

  pub part_opens : (f : Forest) → Skips (behind_token open_list) s m → RowLeads m.levels row f m e → RowLeads s.levels (opens row) f s e
  part_opens f p q = row_opens s.levels row f p (same_levels row s.levels f p.levels q)

  pub part_closes : (f : Forest) → Skips (behind_token close_list) s m → RowLeads m.levels row f m e → RowLeads s.levels (closes row) f s e
  part_closes f p q = row_closes s.levels row f p (same_levels row s.levels f p.levels q)

  -- a comma that need not stand
  pub part_comma : (b : Bool) (f : Forest) → Tells behind_comma b s m → RowLeads m.levels row f m e → RowLeads s.levels (may_sym is.Comma row) f s e
  part_comma b f p q = row_may s.levels is.Comma row f (may_comma b p) (same_levels row s.levels f p.levels q)

  pub part_own : (x : Sort) (t : Tree) (g : Forest) → Reads (inner s.levels x) t s m → RowLeads m.levels row g m e → RowLeads s.levels (own x row) (before t g) s e
  part_own x t g p q = row_own s.levels x row t g p (same_levels row s.levels g p.levels q)

  pub part_leaf : (f : Leaf) (l : Label) (g : Forest) → ReadsLabel (read_leaf f) l s m → RowLeads m.levels row g m e → RowLeads s.levels (leaf f row) (before (tree_leaf l) g) s e
  part_leaf f l g p q = row_leaf s.levels f row l g p (same_levels row s.levels g p.levels q)

  pub part_run : (k : Kind) (x : Sort) (t : Tree) (g : Forest) → Reads (run_at s.levels k x) t s m → RowLeads m.levels row g m e → RowLeads s.levels (run k x row) (before t g) s e
  part_run k x t g p q = row_run s.levels k x row t g p (same_levels row s.levels g p.levels q)

  pub part_optional : (ins : Row) (t : Tree) (g : Forest) → Reads (may_at s.levels ins) t s m → RowLeads m.levels row g m e → RowLeads s.levels (optional ins row) (before t g) s e
  part_optional ins t g p q = row_optional s.levels ins row t g p (same_levels row s.levels g p.levels q)

-- what is read of a row is tested, and is made into a tree
pub tested : {s m k : Reader} (row : Row) (f : Forest) (made : SpelledForest → TreeOf Text) (test : SpelledForest → Bool) (b : Bool)
    → ((ns : List Text) → b ≡ test (respell_forest (name_in ns) f))
    → (not b ≡ true → Refuses m k) → (not b ≡ false → k ≡ m)
    → RowLeads s.levels row f s m
    → Leads (λ _. after (row_at s.levels row (ahead s)) (λ g us. where_so (test g) (made g) us)) (λ ns. Some (made (respell_forest (name_in ns) f), ahead k)) s k
tested {s} {m} {k} row f made test true is refused same p =
    let F : List Text → Read SpelledForest → Read (TreeOf Text) = λ ns r. after r (λ g us. where_so (test g) (made g) us) in
    subst (λ z. Leads (λ _. after (row_at s.levels row (ahead s)) (λ g us. where_so (test g) (made g) us)) (λ ns. Some (made (respell_forest (name_in ns) f), ahead z)) s z) (sym (same refl))
    (seen (λ ns. refl) (λ ns. ap (λ c. where_so c (made (respell_forest (name_in ns) f)) (ahead m)) (sym (is ns))) (under F (λ ns. refl) p))
tested {s} {m} {k} row f made test false is refused same p =
    let F : List Text → Read SpelledForest → Read (TreeOf Text) = λ ns r. after r (λ g us. where_so (test g) (made g) us) in
    next (under F (λ ns. refl) p) (nothing_there (refused refl) (λ ns. ap (λ c. where_so c (made (respell_forest (name_in ns) f)) (ahead m)) (sym (is ns))))
