-- What declarations of variables begin with, part by part.
use Rattle.std.proofs.Common.{◌≡◌, ℕ, List, [], ◌∷◌, Option, Some, codes, refl, ap, subst}
use Rattle.std.specs.Option.{option_and_then}
use Rattle.wesl_tree_names.specs.Path.{Text}
use Rattle.wesl_tree_syntax.specs.Tree.{Tree, TreeOf, access, branch, end, forest_of, kind, leaf as tree_leaf, space, var_kind}
use Rattle.wesl_tree_syntax.specs.declared.declaration.AccessMode.{AccessMode}
use Rattle.wesl_tree_syntax.specs.declared.declaration.AccessMode.TheVariants as accesses
use Rattle.wesl_tree_syntax.specs.declared.declaration.AddressSpace.{AddressSpace}
use Rattle.wesl_tree_syntax.specs.declared.declaration.AddressSpace.TheVariants as spaces
use Rattle.wesl_text_tokens.specs.declared.symbol.Symbol.TheVariants as is
use Rattle.wesl_text_tokens.specs.Tokens.{Token, name, number, symbol, open_list, close_list}
use Rattle.wesl_text_form.specs.Operators.{access_word, space_word}
use Rattle.wesl_text_form.specs.Productions.{Row, Sort, a_kind, a_space, an_access, closes, may_sym, nothing, opens, optional, own, sym}
use Rattle.wesl_text_form.specs.Spelling.{Forest}
use Rattle.wesl_text_reading.specs.FirstTokens.{behind_first}
use Rattle.wesl_text_reading.specs.Leaves.{Read, after}
use Rattle.wesl_text_reading.specs.Reading.{ForestReader, Reader as TreeReader, any, at_level, node, node_of, ranked, read_part, read_row}
use Rattle.wesl_text_read.specs.declared.reader.Reader.{Reader}
use Rattle.wesl_text_read.specs.First.{word_first}
use Rattle.wesl_text_read.specs.Leads.{Leads, Reads, Skips, ahead}
use Rattle.wesl_text_read.specs.Levels.{inner}
use Rattle.wesl_text_read.specs.Parts.{may_at}
use Rattle.wesl_text_read.proofs.Leading.{next, seen, stay, under}
use Rattle.wesl_text_read.proofs.Rows.{row_ends, row_optional}
use Rattle.wesl_text_read_simple.specs.Words.{kind_at}
use Rattle.wesl_text_read.proofs.Attributes.{inside}

-- the memory of a variable in its template list, and an access mode behind a comma
abbrev pub memory_row : Row
memory_row = opens (own a_space (may_sym is.Comma (closes nothing)))

abbrev pub access_row : Row
access_row = sym is.Comma (own an_access nothing)

first-word : (t : Text) (ts : List Token) → word_first ts ≡ Some t → ts ≡ name t ∷ behind_first ts
first-word t [] h = cc
first-word t (name u ∷ ts) h = let same : u ≡ t = cc in ap (λ z. name z ∷ ts) same
first-word t (number u ∷ ts) h = cc
first-word t (symbol a ∷ ts) h = cc
first-word t (open_list ∷ ts) h = cc
first-word t (close_list ∷ ts) h = cc

module _ (child : Sort → TreeReader) where
  abbrev rows : Row → ForestReader
  rows = read_row child (read_part child)

  var-read : (us : List Token) → node child a_kind (name (codes "var") ∷ us) ≡ after (rows (optional memory_row nothing) us) (λ f vs. Some (node_of (kind var_kind) f, vs))
  var-read us = refl

  space-read : (x : AddressSpace) (us : List Token) → node child a_space (name (space_word x) ∷ us) ≡ after (rows (optional access_row nothing) us) (λ f vs. Some (node_of (space x) f, vs))
  space-read spaces.Function us = refl
  space-read spaces.Private us = refl
  space-read spaces.Workgroup us = refl
  space-read spaces.Uniform us = refl
  space-read spaces.Storage us = refl
  space-read spaces.Handle us = refl

  access-read : (x : AccessMode) (us : List Token) → node child an_access (name (access_word x) ∷ us) ≡ Some (tree_leaf (access x), us)
  access-read accesses.Read us = refl
  access-read accesses.Write us = refl
  access-read accesses.ReadWrite us = refl

-- ---- readers

-- the nodes in a kind, and in a space
abbrev in_kind : ℕ → Sort → TreeReader
in_kind n = ranked (at_level n any) 2

abbrev in_space : ℕ → Sort → TreeReader
in_space n = ranked (at_level n any) 1

module _ {s m : Reader} (skip : Skips (λ ts. Some (behind_first ts)) s m) where
  -- the tokens are one word and those that are left
  behind_word : (t : Text) → word_first (ahead s) ≡ Some t → (f : List Token → Read (TreeOf Text)) → Leads (λ _. f (ahead s)) (λ _. f (name t ∷ ahead m)) s m
  behind_word t h f =
      seen (λ ns. ap f (first-word t (ahead s) h)) (λ ns. refl)
      (under (λ ns (o : Option (List Token)). option_and_then (λ us. f (name t ∷ us)) o) (λ ns. refl) skip)

  pub kind_begins : {e : Reader} (t : Text) (made : Tree) → word_first (ahead s) ≡ Some t → Reads (kind_at m.levels t) made m e → Reads (inner s.levels a_kind) made s e
  kind_begins {e} t made h read =
      let here : Reads (kind_at s.levels t) made m e = subst (λ (l : ℕ). Reads (kind_at l t) made m e) skip.levels read in
      next (behind_word t h (inner s.levels a_kind)) here

  pub space_begins : {e : Reader} (x : AddressSpace) (t : Tree) → word_first (ahead s) ≡ Some (space_word x) → Reads (may_at m.levels access_row) t m e
      → Reads (inner s.levels a_space) (record { label = space x; children = forest_of (t ∷ []) }) s e
  space_begins {e} x t h read =
      let here : Reads (may_at s.levels access_row) t m e = subst (λ (l : ℕ). Reads (may_at l access_row) t m e) skip.levels read in
      next (behind_word (space_word x) h (inner s.levels a_space))
      (seen (λ ns. space-read (in_space s.levels) x (ahead m)) (λ ns. refl)
      (under (λ ns (r : Read Forest). after r (λ f vs. Some (node_of (space x) f, vs))) (λ ns. refl) (row_optional s.levels access_row nothing t end here (row_ends s.levels))))

  pub access_there : (x : AccessMode) → word_first (ahead s) ≡ Some (access_word x) → Reads (inner s.levels an_access) (tree_leaf (access x)) s m
  access_there x h =
      next (behind_word (access_word x) h (inner s.levels an_access)) (seen (λ ns. access-read (inside s.levels) x (ahead m)) (λ ns. refl) stay)

-- the memory of a variable behind its word
pub var_read : {s e : Reader} (t : Tree) → Reads (may_at s.levels memory_row) t s e → Reads (kind_at s.levels (codes "var")) (branch var_kind (t ∷ [])) s e
var_read {s} {e} t p =
    seen (λ ns. var-read (in_kind s.levels) (ahead s)) (λ ns. refl)
    (under (λ ns (r : Read Forest). after r (λ f vs. Some (node_of (kind var_kind) f, vs))) (λ ns. refl) (row_optional s.levels memory_row nothing t end p (row_ends s.levels)))
