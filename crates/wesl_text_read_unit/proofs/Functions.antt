-- Functions, part by part.
use Rattle.std.proofs.Common.{◌≡◌, ℕ, zero, suc, List, [], ◌∷◌, Bool, true, false, not, Option, Some, None, refl, sym, ap, ◌∙◌, subst}
use Rattle.std.specs.Option.{option_and_then}
use Rattle.wesl_tree_names.specs.Path.{Text}
use Rattle.wesl_tree_syntax.specs.Tree.{Forest as NumberForest, Kind, Tree, TreeOf, absent, attributes, before, branch, compound, end, kind, present, respell, statements, tree}
use Rattle.wesl_tree_syntax.specs.Unit.{name_in}
use Rattle.wesl_text_tokens.specs.declared.symbol.Symbol.TheVariants as is
use Rattle.wesl_text_tokens.specs.Tokens.{Token, name}
use Rattle.wesl_text_form.specs.Spelling.{Forest, is_absent_at}
use Rattle.wesl_text_form.specs.Productions.{Row, a_body, a_statement, a_type, arrow, attrs, inside, nothing, optional, own, run, sym as sign}
use Rattle.wesl_text_reading.specs.FirstTokens.{begins_name, begins_sign, behind_first}
use Rattle.wesl_text_reading.specs.Leaves.{Read, after, where_so}
use Rattle.wesl_text_reading.specs.Reading.{and_others, attributes_first, node_of}
use Rattle.wesl_text_read.specs.declared.reader.Reader.{Reader}
use Rattle.wesl_text_read.specs.Leads.{Reads, Skips, ahead}
use Rattle.wesl_text_read.specs.Levels.{inner}
use Rattle.wesl_text_read.specs.Parts.{row_at}
use Rattle.wesl_text_read.proofs.Leading.{next, seen, under}
use Rattle.wesl_text_read.proofs.Rows.{row_inside}
use Rattle.wesl_text_read_imports.proofs.Parts.{RowReads, with_levels}
use Rattle.wesl_text_read_unit.specs.Results.{ReadsPair, result_at, result_row}
use Rattle.wesl_text_read_unit.proofs.Members.{no-attributes}

-- ---- what is not read

type-unnamed : (n : ℕ) (ts : List Token) → begins_name ts ≡ false → inner n a_type ts ≡ None
type-unnamed n (name t ∷ ts) h = cc
type-unnamed n ts h = refl

-- a body, behind its attributes
abbrev body_by : ℕ → Read Forest → Read (TreeOf Text)
body_by n r =
    after (after r (λ f us. and_others (node_of (kind attributes) f) (row_at n (sign is.BraceLeft (run statements a_statement (sign is.BraceRight nothing))) us)))
    (λ f us. where_so true (node_of (kind compound) f) us)

body-named : (n : ℕ) (ts : List Token) → begins_name ts ≡ true → inner n a_body ts ≡ None
body-named zero ts h = refl
body-named (suc n) (name t ∷ ts) h = ap (body_by n) (no-attributes (inner n) (name t ∷ ts) refl)
body-named (suc n) ts h = cc

-- ---- results

abbrev pub body_row : Row
body_row = optional (own a_type nothing) (own a_body nothing)

-- a tree behind others
abbrev behind_all : Forest → TreeOf Text → Forest
behind_all end t = before t end
behind_all (tree l children others) t = tree l children (behind_all others t)

module _ (n : ℕ) where
  -- what was read of a result, and a body behind it
  abbrev with_body : Read Forest → Read Forest
  with_body r = after r (λ f us. after (inner n a_body us) (λ b vs. Some (behind_all f b, vs)))

  absent-body : (r : Read (TreeOf Text))
      → after (and_others (branch absent []) (after r (λ t us. and_others t (let f : Read Forest = Some (end, us) in f)))) (λ f us. where_so (is_absent_at 0 f) (before (branch attributes []) f) us)
      ≡ after r (λ b vs. Some (before (branch attributes []) (before (branch absent []) (before b end)), vs))
  absent-body None = refl
  absent-body (Some x) = refl

  present-body : (f : Forest) (r : Read (TreeOf Text))
      → after (and_others (node_of (kind present) f) (after r (λ t us. and_others t (let g : Read Forest = Some (end, us) in g)))) (λ g us. where_so (is_absent_at 0 g) (before (branch attributes []) g) us)
      ≡ None
  present-body f None = refl
  present-body f (Some x) = refl

  present-none : (r : Read Forest)
      → after (after r (λ f us. and_others (node_of (kind present) f) (row_at n (own a_body nothing) us))) (λ g us. where_so (is_absent_at 0 g) (before (branch attributes []) g) us) ≡ None
  present-none None = refl
  present-none (Some x) = present-body x.0 (inner n a_body x.1)

  no-arrow : (ts : List Token) (b : Bool) → begins_name ts ≡ b
      → after (elim b as (λ _. Read Forest) [
        | false ↦ and_others (branch absent []) (row_at n (own a_body nothing) ts)
        | true ↦ after (row_at n (own a_type nothing) ts) (λ f us. and_others (node_of (kind present) f) (row_at n (own a_body nothing) us))
      ]) (λ g us. where_so (is_absent_at 0 g) (before (branch attributes []) g) us)
      ≡ with_body (Some (before (branch attributes []) (before (branch absent []) end), ts))
  no-arrow ts false h = absent-body (inner n a_body ts)
  no-arrow ts true h =
      present-none (row_at n (own a_type nothing) ts)
      ∙ sym (ap (λ (r : Read (TreeOf Text)). after r (λ b vs. let g : Read Forest = Some (before (branch attributes []) (before (branch absent []) (before b end)), vs) in g)) (body-named n ts h))

  -- a type that must be there, and a body behind it
  typed-body : (a f : Forest) (r : Read (TreeOf Text))
      → after (and_others (node_of (kind attributes) a) (and_others (node_of (kind present) f) (after r (λ t us. and_others t (let g : Read Forest = Some (end, us) in g))))) (λ g us. where_so (not (is_absent_at 1 g)) g us)
      ≡ after r (λ b vs. Some (before (node_of (kind attributes) a) (before (node_of (kind present) f) (before b end)), vs))
  typed-body a f None = refl
  typed-body a f (Some x) = refl

  untyped-body : (a : Forest) (r : Read (TreeOf Text))
      → after (and_others (node_of (kind attributes) a) (and_others (branch absent []) (after r (λ t us. and_others t (let g : Read Forest = Some (end, us) in g))))) (λ g us. where_so (not (is_absent_at 1 g)) g us) ≡ None
  untyped-body a None = refl
  untyped-body a (Some x) = refl

  typed-read : (a : Forest) (r : Read Forest)
      → after (and_others (node_of (kind attributes) a) (after r (λ f us. and_others (node_of (kind present) f) (row_at n (own a_body nothing) us)))) (λ g us. where_so (not (is_absent_at 1 g)) g us)
      ≡ with_body (and_others (node_of (kind attributes) a) (after r (λ f us. and_others (node_of (kind present) f) (Some (end, us)))))
  typed-read a None = refl
  typed-read a (Some x) = typed-body a x.0 (inner n a_body x.1)

  type-by : (a : Forest) (us : List Token) (b : Bool) → begins_name us ≡ b
      → after (and_others (node_of (kind attributes) a) (elim b as (λ _. Read Forest) [
        | false ↦ and_others (branch absent []) (row_at n (own a_body nothing) us)
        | true ↦ after (row_at n (own a_type nothing) us) (λ f vs. and_others (node_of (kind present) f) (row_at n (own a_body nothing) vs))
      ])) (λ g vs. where_so (not (is_absent_at 1 g)) g vs)
      ≡ with_body (and_others (node_of (kind attributes) a) (row_at n (inside present (own a_type nothing) nothing) us))
  type-by a us true h = typed-read a (row_at n (own a_type nothing) us)
  type-by a us false h =
      untyped-body a (inner n a_body us)
      ∙ sym (ap (λ (r : Read (TreeOf Text)). with_body (and_others (node_of (kind attributes) a) (after (after r (λ t vs. and_others t (let g : Read Forest = Some (end, vs) in g))) (λ f vs. and_others (node_of (kind present) f) (Some (end, vs)))))) (type-unnamed n us h))

  attributed-type : (r : Read Forest)
      → after (after r (λ a us. and_others (node_of (kind attributes) a) (row_at n body_row us))) (λ g vs. where_so (not (is_absent_at 1 g)) g vs)
      ≡ with_body (after r (λ a us. and_others (node_of (kind attributes) a) (row_at n (inside present (own a_type nothing) nothing) us)))
  attributed-type None = refl
  attributed-type (Some x) = type-by x.0 x.1 (begins_name x.1) refl

  arrow-by : (ts : List Token) (b : Bool) → begins_sign is.Arrow ts ≡ b
      → elim b as (λ _. Read Forest) [
        | false ↦ after (row_at n body_row ts) (λ f us. where_so (is_absent_at 0 f) (before (branch attributes []) f) us)
        | true ↦ after (row_at n (attrs body_row) (behind_first ts)) (λ f us. where_so (not (is_absent_at 1 f)) f us)
      ]
      ≡ with_body (elim b as (λ _. Read Forest) [ false ↦ Some (before (branch attributes []) (before (branch absent []) end), ts) | true ↦ row_at n result_row (behind_first ts) ])
  arrow-by ts false h = no-arrow ts (begins_name ts) refl
  arrow-by ts true h = attributed-type (attributes_first (inner n) (behind_first ts))

  arrow-read : (ts : List Token) → row_at n (arrow (attrs body_row)) ts ≡ with_body (result_at n ts)
  arrow-read ts = arrow-by ts (begins_sign is.Arrow ts) refl

-- ---- readers

pub reads_inside : {s m e : Reader} (k : Kind) (ins row : Row) (f g : NumberForest) → RowReads ins f s m → RowReads row g m e → RowReads (inside k ins row) (before (record { label = kind k; children = f }) g) s e
reads_inside {s} {m} {e} k ins row f g p q = row_inside s.levels k ins row f g p (with_levels s.levels row g p.levels q)

pub result_read : {s m e : Reader} (t u : Tree) → begins_sign is.Arrow (ahead s) ≡ true → Skips (λ ts. Some (behind_first ts)) s m → RowReads result_row (before t (before u end)) m e → ReadsPair result_at t u s e
result_read {s} {m} {e} t u h skip row =
    let F : List Text → Option (List Token) → Read Forest = λ ns o. option_and_then (row_at s.levels result_row) o in
    seen (λ ns. ap (λ (b : Bool). elim b as (λ _. Read Forest) [ false ↦ Some (before (branch attributes []) (before (branch absent []) end), ahead s) | true ↦ row_at s.levels result_row (behind_first (ahead s)) ]) h) (λ ns. refl)
    (next (under F (λ ns. refl) skip) (with_levels s.levels result_row (before t (before u end)) skip.levels row))

pub reads_result : {s m e : Reader} (t u b : Tree) → ReadsPair result_at t u s m → Reads (inner m.levels a_body) b m e → RowReads (arrow (attrs body_row)) (before t (before u (before b end))) s e
reads_result {s} {m} {e} t u b result body =
    let F : List Text → Read Forest → Read Forest = λ ns r. with_body s.levels r in
    let G : List Text → Read (TreeOf Text) → Read Forest = λ ns r. after r (λ x vs. Some (before (respell (name_in ns) t) (before (respell (name_in ns) u) (before x end)), vs)) in
    let here : Reads (inner s.levels a_body) b m e = subst (λ (l : ℕ). Reads (inner l a_body) b m e) result.levels body in
    seen (λ ns. arrow-read s.levels (ahead s)) (λ ns. refl) (next (under F (λ ns. refl) result) (under G (λ ns. refl) here))
