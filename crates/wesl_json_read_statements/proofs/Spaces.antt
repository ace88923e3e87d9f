-- The members of a variable with an address space, and without one.
use Rattle.std.proofs.Common.{◌≡◌, ◌∙◌, List, [], ◌∷◌, ◌++◌, Bool, true, false, if◌then◌else◌, Option, Some, None, option_and_then, option_map, codes, refl, ap, subst, sym}
use Rattle.std.specs.Option.{is_some}
use Rattle.serde_json.specs.Data.{Data}
use Rattle.serde_json.specs.Find.{get}
use Rattle.wesl_tree_names.specs.Path.{Text}
use Rattle.wesl_tree_syntax.specs.Tree.{Tree, absent, access, attributes, before, binder, branch, declaration, end, kind, leaf as leaf_tree, present, space, var_kind}
use Rattle.wesl_tree_syntax.specs.View.{access_tree}
use Rattle.wesl_tree_syntax.specs.declared.declaration.AccessMode.{AccessMode}
use Rattle.wesl_tree_syntax.specs.declared.declaration.AddressSpace.{AddressSpace}
use Rattle.wesl_json_form.specs.Nodes.{declared, space_row}
use Rattle.wesl_json_form.specs.Place.{Field, field, fields}
use Rattle.wesl_json_form.specs.Pointer.{key}
use Rattle.wesl_json_form.specs.Reading.{extra_keys, known_keys, word_in}
use Rattle.wesl_json_form.specs.Schema.{Row, SpelledLabel, a_span, a_text, a_type, an_attribute, an_expression, an_ident, chosen, fixed, inner, leaf, list_of, marked, may, node, nothing, one_of}
use Rattle.wesl_json_form.specs.Words.{access_words, space_words}
use Rattle.wesl_json_read.specs.Faults.{IsAtRoot, LocatesInside, LocatesRow, LocatesText}
use Rattle.wesl_json_read.specs.Forms.{word_at}
use Rattle.wesl_json_read.specs.Noted.{IsThere, IsTold, Lacks, Never, Notes, NotesMay}
use Rattle.wesl_json_read.specs.Numbers.{ReadsMay, ReadsRows}
use Rattle.wesl_json_read.specs.declared.reader.Reader.{Reader}
use Rattle.wesl_json_read.proofs.Noting.{NotesRow, both, may_next, no_more, unchanged, weaker, wrong_at}
use Rattle.wesl_json_read.proofs.Places.{leaf-under, look_field, root, row-text, text-lacks, text-under}
use Rattle.wesl_json_read.proofs.Steps.{leaf-reads, may-there, none-then}
use Rattle.wesl_json_read.proofs.Wheres.{where-absent-then, where-there-then}
use Rattle.wesl_json_read_statements.proofs.Members.{plain-access, plain-space}
use Rattle.wesl_json_read_statements.specs.Forms.{declared_worded}
use Rattle.wesl_json_read_statements.specs.Noted.{NotesSpace}
use Rattle.wesl_json_read_statements.specs.declared.words.DeclaredWord.TheVariants as declareds

abbrev access_row : Row
access_row = may (codes "access") (leaf (one_of access_words)) nothing

pub no-member : (o : Option Data) → is_some o ≡ false → o ≡ None
no-member None h = refl
no-member (Some v) h = cc

a-member : (o : Option Data) → is_some o ≡ true → (v : Data) × (o ≡ Some v)
a-member None h = cc
a-member (Some v) h = (v, refl)

same-label : (o : Option SpelledLabel) → o ≡ option_map (λ l. l) o
same-label None = refl
same-label (Some l) = refl

abbrev var_keys : Bool → Bool → List Text
var_keys spans b = extra_keys spans a_span ++ codes "k" ∷ (codes "attrs" ∷ ((((if b then codes "space" ∷ (codes "access" ∷ []) else []) ++ []) ++ (codes "name" ∷ (codes "ty" ∷ (codes "init" ∷ [])))) ++ []))

module _ (spans : Bool) where
  pub var-keys : (d : Data) → get (codes "space") d ≡ None → known_keys (declared_worded spans declareds.Var) d ≡ extra_keys spans a_span ++ codes "k" ∷ codes "attrs" ∷ codes "name" ∷ codes "ty" ∷ codes "init" ∷ []
  var-keys d h = ap (λ o. var_keys spans (is_some o)) h

  pub space-keys : (d : Data) → is_some (get (codes "space") d) ≡ true → known_keys (declared_worded spans declareds.Var) d ≡ extra_keys spans a_span ++ codes "k" ∷ codes "attrs" ∷ codes "space" ∷ codes "access" ∷ codes "name" ∷ codes "ty" ∷ codes "init" ∷ []
  space-keys d h = ap (var_keys spans) h

-- the row of a variable, but for its span
abbrev var_row : Row
var_row = marked (codes "k") (codes "var") (inner (fixed (kind declaration)) (declared var_kind space_row) nothing)

abbrev space_fields : Bool → List Field
space_fields b = if b then field (codes "space") true (leaf (one_of space_words)) ∷ (field (codes "access") false (leaf (one_of access_words)) ∷ []) else field (codes "space") false (leaf a_text) ∷ []

abbrev var_fields : Bool → List Field
var_fields b = field (codes "k") true (leaf (one_of ((codes "var", kind present) ∷ []))) ∷ (field (codes "attrs") false (list_of attributes an_attribute) ∷ (((space_fields b ++ []) ++ (field (codes "name") true (leaf (an_ident binder)) ∷ (field (codes "ty") false (node a_type) ∷ (field (codes "init") false (node an_expression) ∷ [])))) ++ []))

pub var-fields : (d : Data) → get (codes "space") d ≡ None → fields var_row d ≡ var_fields false
var-fields d h = ap (λ o. var_fields (is_some o)) h

pub space-fields : (d : Data) → is_some (get (codes "space") d) ≡ true → fields var_row d ≡ var_fields true
space-fields d h = ap var_fields h

-- ---- what is noted of them

pub space_is : (d v : Data) {x : AddressSpace} {r s : Reader} → get (codes "space") d ≡ Some v → word_in space_words v ≡ Some (space x) → r ≡ s → NotesSpace d x s r
space_is d v {x} {r} {s} found is same =
    subst (λ z. NotesSpace d x s z) (sym same) (unchanged {P = λ _ old new. (new ≡ old) × (word_at space_words (codes "space") d ≡ Some (space x))} {T = λ _. LocatesText (word_in space_words) (codes "space") d} (λ a. (refl, ap (option_and_then (word_in space_words)) found ∙ is)))

pub unknown_space : (d v : Data) {x : AddressSpace} {r s m e : Reader} → IsThere s (codes "space") d v → word_in space_words v ≡ None → r ≡ s → Notes Never (λ _. IsAtRoot) r m → IsTold (key (codes "space")) m e → NotesSpace d x s e
unknown_space d v there none same wrong told =
    wrong_at there.clear same wrong told (λ i o at_root under. text-under (word_in space_words) (codes "space") d v i o there.found (root (λ place. (place ≡ []) × (word_in space_words v ≡ None)) i at_root (refl, none)) under)

pub space_lacks : (d : Data) {x : AddressSpace} {s e : Reader} → Notes Never (λ _. Lacks (codes "space") d) s e → NotesSpace d x s e
space_lacks d {x} n = weaker {Q = λ _ old new. (new ≡ old) × (word_at space_words (codes "space") d ≡ Some (space x))} (λ a b never. absurd never) (λ y h. text-lacks (word_in space_words) (codes "space") d y h.1 h.0) n

pub access_is : (d v : Data) {x : AccessMode} {s : Reader} → IsThere s (codes "access") d v → word_in access_words v ≡ Some (access x) → NotesMay (codes "access") (leaf (one_of access_words)) d (branch present (access_tree x ∷ [])) s s
access_is d v {x} {s} there is =
    unchanged {P = λ spans. ReadsMay spans (codes "access") (leaf (one_of access_words)) d (branch present (access_tree x ∷ []))} {T = λ spans. LocatesInside spans (codes "access") (leaf (one_of access_words)) d}
    (λ a. may-there (codes "access") (leaf (one_of access_words)) d v (access_tree x) a a there.found (leaf-reads (word_in access_words) (one_of access_words) (λ l. l) v (access x) (access x) a (λ u. same-label (word_in access_words u)) (plain-access x) is))

pub unknown_access : (d v : Data) {t : Tree} {s m e : Reader} → IsThere s (codes "access") d v → word_in access_words v ≡ None → Notes Never (λ _. IsAtRoot) s m → IsTold (key (codes "access")) m e → NotesMay (codes "access") (leaf (one_of access_words)) d t s e
unknown_access d v {t} {s} there none wrong told =
    wrong_at there.clear refl wrong told (λ i o at_root under. leaf-under s.spans (word_in access_words) (codes "access") (one_of access_words) d v i o there.found (λ u h. h) (root (λ place. (place ≡ []) × (word_in access_words v ≡ None)) i at_root (refl, none)) under)

module _ {whole : Bool → Row} {d : Data} where
  pub no_space : {s : Reader} → get (codes "space") d ≡ None → NotesRow whole d space_row (before (leaf_tree (kind absent)) end) s s
  no_space {s} absent_is = record { noted = unchanged {P = λ spans. ReadsRows spans space_row d (before (leaf_tree (kind absent)) end)} {T = λ spans. LocatesRow spans (whole spans) d} (λ a. where-absent-then s.spans (codes "space") (chosen (codes "space") space_words) access_row nothing d end a a absent_is (none-then d a)) }

  pub space_next : {x : AddressSpace} {t : Tree} {s m e : Reader} → is_some (get (codes "space") d) ≡ true → look_field (codes "space") (whole s.spans) d ≡ Some (field (codes "space") true (leaf (one_of space_words))) → look_field (codes "access") (whole m.spans) d ≡ Some (field (codes "access") false (leaf (one_of access_words))) → NotesSpace d x s m → NotesMay (codes "access") (leaf (one_of access_words)) d t m e → NotesRow whole d space_row (before (branch present (record { label = space x; children = before t end } ∷ [])) end) s e
  space_next {x} {t} {s} {m} {e} there space_at access_at p q =
      let found = a-member (get (codes "space") d) there in
      let inside : NotesRow whole d access_row (before t end) m e = may_next access_at q no_more in
      record {
        noted = both {P = λ _ a b. (b ≡ a) × (word_at space_words (codes "space") d ≡ Some (space x))} {T = λ spans. LocatesRow spans (whole spans) d} {Q = λ spans. ReadsRows spans access_row d (before t end)}
            (λ a b c y z. where-there-then s.spans (codes "space") (chosen (codes "space") space_words) access_row nothing d found.0 (space x) (space x) (before t end) end a c c found.1 (plain-space x) y.1 (subst (λ n. ReadsRows s.spans access_row d (before t end) n c) y.0 z) (none-then d c))
            (weaker (λ a b y. y) (λ y h. row-text s.spans (whole s.spans) (word_in space_words) (codes "space") (one_of space_words) d y space_at (λ u w. w) h) p)
            inside.noted;
      }
