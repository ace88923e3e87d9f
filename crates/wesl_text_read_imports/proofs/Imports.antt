-- Imports, part by part.
use Rattle.std.proofs.Common.{◌≡◌, ℕ, zero, suc, List, [], ◌∷◌, Bool, true, false, ◌||◌, if◌then◌else◌, Some, None, String, Vec, Global, codes, refl, sym, ap, ◌∙◌, subst, rules}
use Rattle.wesl_tree_names.specs.Path.{Text}
use Rattle.wesl_tree_syntax.specs.Tree.{Tree, TreeOf, absent, before, binder, branch, end, ident, import_collection, import_entry, import_item, kind, leaf as tree_leaf, list, present, respell, texts, word}
use Rattle.wesl_tree_syntax.specs.Unit.{name_in}
use Rattle.wesl_tree_syntax.specs.View.{content_view, entry_view, names_tree}
use Rattle.wesl_tree_syntax.specs.declared.import.ImportContent.{ImportContent, the_lemmas}
use Rattle.wesl_tree_syntax.specs.declared.import.Import.{roll-Import}
use Rattle.wesl_text_tokens.specs.declared.symbol.Symbol.TheVariants as is
use Rattle.wesl_text_tokens.specs.Tokens.{Token, name, symbol}
use Rattle.wesl_text_form.specs.Slots.{behind_token, same_token}
use Rattle.wesl_text_form.specs.Names.{is_free}
use Rattle.wesl_text_form.specs.Spelling.{Forest, Label}
use Rattle.wesl_text_form.specs.Productions.{Row, a_content, an_entry, an_ident, an_item, commas, leaf, nothing, optional, own, says, steps, sym as sign}
use Rattle.wesl_text_reading.specs.FirstTokens.{begins_name, begins_sign, begins_word}
use Rattle.wesl_text_reading.specs.Leaves.{Read, after, are_free, item_role_by, read_leaf, step_words, where_so}
use Rattle.wesl_text_reading.specs.Reading.{and_others, any, at_level, begins_child, node, node_of, ranked, read_node, read_part, read_row}
use Rattle.wesl_text_read.specs.declared.reader.Reader.{Reader}
use Rattle.wesl_text_read.specs.First.{read_steps}
use Rattle.wesl_text_read.specs.Leads.{Leads, Reads, ReadsLabel, ReadsTexts, Skips, ahead}
use Rattle.wesl_text_read.specs.Levels.{inner}
use Rattle.wesl_text_read.specs.Parts.{ReadsRow, row_at}
use Rattle.wesl_text_read.proofs.Leading.{next, seen, under}
use Rattle.wesl_text_read.proofs.Paths.{sign-is}
use Rattle.wesl_text_read_imports.proofs.Closed.{Closes}
use Rattle.wesl_text_read_imports.proofs.Parts.{RowReads, node_reads, reads_end, reads_leaf, reads_own, reads_says}

-- ---- trees

pub made_entry : (p : Vec (String Global) Global) (c : ImportContent) → entry_view (roll-Import (record { path = p; content = c })) ≡ branch import_entry (names_tree p ∷ content_view c ∷ [])
made_entry p c = search (rules, the_lemmas)

-- ---- items and collections

abbrev as_row : Row
as_row = says (codes "as") (leaf (an_ident binder) nothing)

abbrev item_row : Row
item_row = leaf an_item (optional as_row nothing)

abbrev pub collection_row : Row
collection_row = sign is.BraceLeft (commas list an_entry (sign is.BraceRight nothing))

module _ (n : ℕ) (ts : List Token) where
  -- what an import brings in, by whether `{` comes first
  abbrev content_by : Bool → Read (TreeOf Text)
  content_by b = read_node (ranked (at_level n any) 0) (read_row (ranked (at_level n any) 0) (read_part (ranked (at_level n any) 0))) a_content (Some (kind (if b then import_collection else import_item))) ts

  content-collection : begins_sign is.BraceLeft ts ≡ true → inner n a_content ts ≡ after (row_at n collection_row ts) (λ f us. Some (node_of (kind import_collection) f, us))
  content-collection h = ap content_by h

  content-item : begins_sign is.BraceLeft ts ≡ false → inner n a_content ts ≡ after (row_at n item_row ts) (λ f us. Some (node_of (kind import_item) f, us))
  content-item h = ap content_by h

pub collection_read : {s e : Reader} (t : Tree) → begins_sign is.BraceLeft (ahead s) ≡ true → ReadsRow collection_row t s e → Reads (inner s.levels a_content) (branch import_collection (t ∷ [])) s e
collection_read {s} {e} t h read =
    let F : List Text → Read Forest → Read (TreeOf Text) = λ ns r. after r (λ f us. Some (node_of (kind import_collection) f, us)) in
    seen (λ ns. content-collection s.levels (ahead s) h) (λ ns. refl) (under F (λ ns. refl) read)

-- an identifier in the role of what an import brings in, by what stands behind it
abbrev as_item : Bool → Label → Label
as_item renamed (ident r t) = ident (if renamed then word else binder) t
as_item renamed l = l

item-free : (b : Bool) (t : Text) (ts : List Token) → where_so b (ident (item_role_by ts) t) ts ≡ after (where_so b (ident word t) ts) (λ l us. let r : Read Label = Some (as_item (begins_word (codes "as") us) l, us) in r)
item-free true t ts = refl
item-free false t ts = refl

item-leaf : (ts : List Token) → read_leaf an_item ts ≡ after (read_leaf (an_ident word) ts) (λ l us. Some (as_item (begins_word (codes "as") us) l, us))
item-leaf (name t ∷ ts) = item-free (is_free t) t ts
item-leaf ts = refl

module _ (n : ℕ) where
  -- what is behind an item, by whether it gets a new name
  abbrev item_by : Bool → Label → List Token → Read (TreeOf Text)
  item_by b l us =
      after (and_others (tree_leaf (as_item b l)) (elim b as (λ _. Read Forest) [
        | false ↦ and_others (branch absent []) (Some (end, us))
        | true ↦ after (row_at n as_row us) (λ f vs. and_others (node_of (kind present) f) (Some (end, vs)))
      ])) (λ f vs. Some (node_of (kind import_item) f, vs))

  item-parts : (r : Read Label) → after (after (after r (λ l us. let x : Read Label = Some (as_item (begins_word (codes "as") us) l, us) in x)) (λ l us. and_others (tree_leaf l) (row_at n (optional as_row nothing) us))) (λ f us. Some (node_of (kind import_item) f, us))
      ≡ after r (λ l us. item_by (begins_word (codes "as") us) l us)
  item-parts None = refl
  item-parts (Some x) = refl

  item-read : (ts : List Token) → begins_sign is.BraceLeft ts ≡ false → inner n a_content ts ≡ after (read_leaf (an_ident word) ts) (λ l us. item_by (begins_word (codes "as") us) l us)
  item-read ts h =
      content-item n ts h
      ∙ (ap (λ (r : Read Label). after (after r (λ l us. and_others (tree_leaf l) (row_at n (optional as_row nothing) us))) (λ f us. Some (node_of (kind import_item) f, us))) (item-leaf ts)
      ∙ item-parts (read_leaf (an_ident word) ts))

pub item_alone : {s m : Reader} (i : ℕ) → begins_sign is.BraceLeft (ahead s) ≡ false → ReadsLabel (read_leaf (an_ident word)) (ident word i) s m → begins_word (codes "as") (ahead m) ≡ false
    → Reads (inner s.levels a_content) (branch import_item (tree_leaf (ident binder i) ∷ tree_leaf (kind absent) ∷ [])) s m
item_alone {s} {m} i h read alone =
    let F : List Text → Read Label → Read (TreeOf Text) = λ ns r. after r (λ l us. item_by s.levels (begins_word (codes "as") us) l us) in
    seen (λ ns. item-read s.levels (ahead s) h) (λ ns. ap (λ b. item_by s.levels b (ident word (name_in ns i)) (ahead m)) alone) (under F (λ ns. refl) read)

pub item_renamed : {s m k e : Reader} (i j : ℕ) → begins_sign is.BraceLeft (ahead s) ≡ false → ReadsLabel (read_leaf (an_ident word)) (ident word i) s m → begins_word (codes "as") (ahead m) ≡ true
    → Skips (behind_token (name (codes "as"))) m k → ReadsLabel (read_leaf (an_ident binder)) (ident binder j) k e
    → Reads (inner s.levels a_content) (branch import_item (tree_leaf (ident word i) ∷ branch present (tree_leaf (ident binder j) ∷ []) ∷ [])) s e
item_renamed {s} {m} {k} {e} i j h read renamed skip binds =
    let F : List Text → Read Label → Read (TreeOf Text) = λ ns r. after r (λ l us. item_by s.levels (begins_word (codes "as") us) l us) in
    let G : List Text → Read Forest → Read (TreeOf Text) = λ ns r. after (and_others (tree_leaf (ident word (name_in ns i))) (after r (λ f vs. and_others (node_of (kind present) f) (Some (end, vs))))) (λ f vs. Some (node_of (kind import_item) f, vs)) in
    let row : RowReads as_row (before (tree_leaf (ident binder j)) end) m e = reads_says (codes "as") (leaf (an_ident binder) nothing) (before (tree_leaf (ident binder j)) end) skip (reads_leaf (an_ident binder) nothing (ident binder j) end binds reads_end) in
    next
    (seen (λ ns. item-read s.levels (ahead s) h) (λ ns. ap (λ b. item_by s.levels b (ident word (name_in ns i)) (ahead m)) renamed ∙ ap (λ l. G ns (row_at l as_row (ahead m))) (sym read.levels)) (under F (λ ns. refl) read))
    (under G (λ ns. refl) row)

-- ---- entries

steps-free : (b : Bool) (xs : List Text) (ts : List Token) → where_so b (texts xs) ts ≡ after (where_so b xs ts) (λ ys us. let r : Read Label = Some (texts ys, us) in r)
steps-free true xs ts = refl
steps-free false xs ts = refl

pub steps_read : {s e : Reader} (xs : List Text) → ReadsTexts read_steps xs s e → ReadsLabel (read_leaf steps) (texts xs) s e
steps_read {s} {e} xs read =
    let F : List Text → Read (List Text) → Read Label = λ ns r. after r (λ ys us. Some (texts ys, us)) in
    seen (λ ns. steps-free (are_free (step_words (ahead s)).0) (step_words (ahead s)).0 (step_words (ahead s)).1) (λ ns. refl) (under F (λ ns. refl) read)

entry-level : (l n : ℕ) (ts : List Token) → l ≡ suc n → inner l an_entry ts ≡ node (inner n) an_entry ts
entry-level l n ts h = ap (λ m. inner m an_entry ts) h

-- an entry, with one level less in it
pub entry_read : {s m e : Reader} (l : ℕ) (xs : List Text) (t : Tree) → l ≡ suc s.levels → ReadsTexts read_steps xs s m → Reads (inner m.levels a_content) t m e
    → Leads {A = TreeOf Text × List Token} (λ _. inner l an_entry (ahead s)) (λ ns. Some (respell (name_in ns) (branch import_entry (tree_leaf (texts xs) ∷ t ∷ [])), ahead e)) s e
entry_read {s} {m} {e} l xs t h path content =
    seen (λ ns. entry-level l s.levels (ahead s) h) (λ ns. refl)
    (node_reads (λ n. node (inner n) an_entry) import_entry (leaf steps (own a_content nothing)) (before (tree_leaf (texts xs)) (before t end)) (λ n ts. refl)
    (reads_leaf steps (own a_content nothing) (texts xs) (before t end) (steps_read xs path) (reads_own a_content nothing t end content reads_end)))

entry-begins : (b : Token) (ts : List Token) → same_token (symbol is.BraceRight) b ≡ true → begins_name (b ∷ ts) || begins_sign is.BraceLeft (b ∷ ts) ≡ false
entry-begins b ts h = subst (λ z. begins_name (z ∷ ts) || begins_sign is.BraceLeft (z ∷ ts) ≡ false) (sym (sign-is is.BraceRight b h)) refl

entry-apart : (n : ℕ) (ts : List Token) → begins_sign is.BraceRight ts ≡ true → begins_child (inner n) an_entry ts ≡ false
entry-apart n [] h = refl
entry-apart n (b ∷ ts) h = entry-begins b ts h

entry-refused : (n : ℕ) (ts : List Token) → begins_child (inner n) an_entry ts ≡ false → inner n an_entry ts ≡ None
entry-refused zero ts h = refl
entry-refused (suc n) (name t ∷ ts) h = cc
entry-refused (suc n) (symbol is.BraceLeft ∷ ts) h = cc
entry-refused (suc n) ts h = refl

pub entries_close : Closes is.BraceRight an_entry
entries_close = record { apart = entry-apart; refused = λ n ts h k. entry-refused n ts h }
