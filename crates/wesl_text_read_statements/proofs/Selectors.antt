-- The selectors of a clause, part by part.
use Rattle.std.proofs.Common.{◌≡◌, ℕ, List, [], ◌∷◌, length, map, Bool, true, false, not, ◌==◌, if◌then◌else◌, Option, Some, None, codes, refl, sym, ap, ◌∙◌, subst, arith}
use Rattle.std.specs.Option.{option_and_then}
use Rattle.wesl_tree_names.specs.Path.{Text}
use Rattle.wesl_tree_syntax.specs.Tree.{Tree, TreeOf, branch, default_case, end, expression_case, forest_of, kind, list, respell, respell_forest}
use Rattle.wesl_tree_syntax.specs.Unit.{name_in}
use Rattle.wesl_tree_syntax.specs.View.{selector_view}
use Rattle.wesl_tree_syntax.specs.declared.statement.CaseSelector.{CaseSelector}
use Rattle.wesl_tree_syntax.specs.declared.statement.CaseSelector.TheVariants as selector
use Rattle.wesl_text_tokens.specs.Tokens.{Token, name}
use Rattle.wesl_text_form.specs.Slots.{behind_token}
use Rattle.wesl_text_form.specs.Spelling.{Forest, is_end}
use Rattle.wesl_text_form.specs.Productions.{a_selector, an_expression}
use Rattle.wesl_text_reading.specs.FirstTokens.{begins_word, behind_first}
use Rattle.wesl_text_reading.specs.Leaves.{Read, after, where_so}
use Rattle.wesl_text_reading.specs.Reading.{and_others, any, at_level, begins_child, lone_default, node_of, read_node, read_part, read_row, separate_of}
use Rattle.wesl_text_read.specs.declared.reader.Reader.{Reader}
use Rattle.wesl_text_read.specs.Leads.{Keeps, Leads, Reads, Refuses, Skips, ahead}
use Rattle.wesl_text_read.specs.Levels.{inner}
use Rattle.wesl_text_read.specs.Parts.{commas_at}
use Rattle.wesl_text_read.proofs.First.{token-behind}
use Rattle.wesl_text_read.proofs.Leading.{keeping, next, nothing_there, once_clear, seen, under}
use Rattle.wesl_text_read_statements.specs.Statements.{selectors_at, some_selectors_at}
use Rattle.wesl_text_read.proofs.Attributes.{inside}

-- ---- one selector

abbrev selector_by : ℕ → List Token → Bool → Read (TreeOf Text)
selector_by n ts b = read_node (inside n) (read_row (inside n) (read_part (inside n))) a_selector (Some (kind (if b then default_case else expression_case))) ts

default-read : (n : ℕ) (ts : List Token) → begins_word (codes "default") ts ≡ true → inner n a_selector ts ≡ Some (branch default_case [], behind_first ts)
default-read n ts h =
    ap (selector_by n ts) h
    ∙ ap (λ (o : Option (List Token)). after (option_and_then (λ us. let r : Read Forest = Some (end, us) in r) o) (λ f us. where_so true (node_of (kind default_case) f) us)) (token-behind (name (codes "default")) ts h)

expression-by : (r : Read (TreeOf Text)) → after (after r (λ t us. and_others t (let f : Read Forest = Some (end, us) in f))) (λ f us. where_so true (node_of (kind expression_case) f) us) ≡ after r (λ t us. let q : Read (TreeOf Text) = Some (branch expression_case (t ∷ []), us) in q)
expression-by None = refl
expression-by (Some x) = refl

expression-read : (n : ℕ) (ts : List Token) → begins_word (codes "default") ts ≡ false → inner n a_selector ts ≡ after (at_level n any an_expression ts) (λ t us. Some (branch expression_case (t ∷ []), us))
expression-read n ts h = ap (selector_by n ts) h ∙ expression-by (at_level n any an_expression ts)

pub default_selected : {s e : Reader} → begins_word (codes "default") (ahead s) ≡ true → Skips (λ ts. Some (behind_first ts)) s e → Reads (inner s.levels a_selector) (branch default_case []) s e
default_selected {s} {e} h skip =
    let F : List Text → Option (List Token) → Read (TreeOf Text) = λ ns o. option_and_then (λ us. Some (branch default_case [], us)) o in
    seen (λ ns. default-read s.levels (ahead s) h) (λ ns. refl) (under F (λ ns. refl) skip)

pub expression_selected : {s e : Reader} (t : Tree) → begins_word (codes "default") (ahead s) ≡ false → Reads (at_level s.levels any an_expression) t s e → Reads (inner s.levels a_selector) (branch expression_case (t ∷ [])) s e
expression_selected {s} {e} t h read =
    seen (λ ns. expression-read s.levels (ahead s) h) (λ ns. refl)
    (under (λ ns (r : Read (TreeOf Text)). after r (λ t us. let q : Read (TreeOf Text) = Some (branch expression_case (t ∷ []), us) in q)) (λ ns. refl) read)

-- ---- all of them

-- what is read behind `case`
abbrev cases : ℕ → List Token → Read Forest
cases n us = separate_of (begins_child (inner n) a_selector) (inner n a_selector) (length us) us

abbrev listed_by : Read Forest → Read (TreeOf Text)
listed_by r = after r (λ f us. Some (node_of (kind list) f, us))

abbrev selectors_by : ℕ → List Token → Bool → Read (TreeOf Text)
selectors_by n ts b = listed_by (if b then Some (lone_default (inner n), behind_first ts) else option_and_then (cases n) (behind_token (name (codes "case")) ts))

pub lone_selected : {s m e : Reader} (items : List CaseSelector) → begins_word (codes "default") (ahead s) ≡ true → Skips (λ ts. Some (behind_first ts)) s m → (e.fault ≡ None → items ≡ selector.Default ∷ []) → Keeps m e
    → Reads (selectors_at s.levels) (record { label = kind list; children = forest_of (map selector_view items) }) s e
lone_selected {s} {m} {e} items h skip put kept =
    let F : List Text → Option (List Token) → Read (TreeOf Text) = λ ns o. option_and_then (λ us. Some (branch list (branch default_case [] ∷ []), us)) o in
    let K : List Text → List CaseSelector → Read (TreeOf Text) = λ ns xs. Some (respell (name_in ns) (record { label = kind list; children = forest_of (map selector_view xs) }), ahead e) in
    seen (λ ns. ap (selectors_by s.levels (ahead s)) h) (λ ns. refl)
    (next (under F (λ ns. refl) skip) (once_clear (λ clear ns. ap (K ns) (sym (put clear))) (keeping (λ z ns. F ns (Some (ahead z))) kept)))

pub cases_selected : {s m e : Reader} (t : Tree) → begins_word (codes "default") (ahead s) ≡ false → Skips (behind_token (name (codes "case"))) s m → Reads (commas_at m.levels list a_selector) t m e → Reads (selectors_at s.levels) t s e
cases_selected {s} {m} {e} t h skip read =
    let here : Reads (commas_at s.levels list a_selector) t m e = subst (λ (l : ℕ). Reads (commas_at l list a_selector) t m e) skip.levels read in
    seen (λ ns. ap (selectors_by s.levels (ahead s)) h) (λ ns. refl)
    (next (under (λ ns (o : Option (List Token)). listed_by (option_and_then (cases s.levels) o)) (λ ns. refl) skip) here)

-- ---- one at least

none-there : (f : ℕ → Text) (items : List CaseSelector) → true ≡ (length items == 0) → is_end (respell_forest f (forest_of (map selector_view items))) ≡ true
none-there f [] h = refl
none-there f (x ∷ xs) h = absurd (grind arith)

some-there : (f : ℕ → Text) (items : List CaseSelector) → false ≡ (length items == 0) → is_end (respell_forest f (forest_of (map selector_view items))) ≡ false
some-there f [] h = cc
some-there f (x ∷ xs) h = refl

abbrev list_tree : List CaseSelector → Tree
list_tree items = record { label = kind list; children = forest_of (map selector_view items) }

abbrev where_some : Reader → List CaseSelector → List Text → Bool → Read (TreeOf Text)
where_some m items ns b = where_so (not b) (respell (name_in ns) (list_tree items)) (ahead m)

tested : {s m : Reader} (items : List CaseSelector) → Reads (selectors_at s.levels) (list_tree items) s m → Leads (λ _. some_selectors_at s.levels (ahead s)) (λ ns. where_some m items ns (is_end (respell_forest (name_in ns) (forest_of (map selector_view items))))) s m
tested {s} {m} items p = under (λ ns (r : Read (TreeOf Text)). after r (λ t us. where_so (not (is_end t.children)) t us)) (λ ns. refl) p

pub some_selected : {s m e : Reader} (items : List CaseSelector) (b : Bool) → b ≡ (length items == 0) → Reads (selectors_at s.levels) (list_tree items) s m → (b ≡ true → Refuses m e) → (b ≡ false → e ≡ m) → Reads (some_selectors_at s.levels) (list_tree items) s e
some_selected {s} {m} {e} items true h read refused same = next (tested items read) (nothing_there (refused refl) (λ ns. ap (where_some m items ns) (none-there (name_in ns) items h)))
some_selected {s} {m} {e} items false h read refused same =
    subst (λ z. Reads (some_selectors_at s.levels) (list_tree items) s z) (sym (same refl))
    (seen (λ ns. refl) (λ ns. ap (where_some m items ns) (some-there (name_in ns) items h)) (tested items read))
