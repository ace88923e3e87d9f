-- What is read of texts and of names by their numbers.
use Rattle.std.proofs.Common.{◌≡◌, ◌∙◌, [], ◌∷◌, Bool, Some, None, String, Global, option_map, refl, ap, string_bytes, subst, sym}
use Rattle.serde_json.specs.Data.{Data}
use Rattle.wesl_tree_names.specs.Path.{Text}
use Rattle.wesl_tree_names.specs.declared.errors.Error as error
use Rattle.wesl_tree_names.specs.declared.names.Ident.{Ident}
use Rattle.wesl_tree_syntax.specs.Tree.{Role, absent, branch, ident, kind, reference, text, type_expression}
use Rattle.wesl_tree_syntax.specs.View.{ident_tree, text_tree}
use Rattle.wesl_json_form.specs.Nodes.{short_type, whole_form}
use Rattle.wesl_json_form.specs.Place.{IsBroken, IsWrongLeaf}
use Rattle.wesl_json_form.specs.Reading.{leaf_label, name_in}
use Rattle.wesl_json_form.specs.Schema.{an_ident, leaf, leaf_of}
use Rattle.wesl_json_read.specs.Faults.{IsAtRoot, LocatesHere, LocatesPlain}
use Rattle.wesl_json_read.specs.Noted.{Never, Notes, NotesForm, NotesName}
use Rattle.wesl_json_read.specs.Numbers.{Reads}
use Rattle.wesl_json_read.specs.Texts.{NotesText, text_leaf, text_read}
use Rattle.wesl_json_read.specs.declared.leaves.TextKind.{TextKind}
use Rattle.wesl_json_read.specs.declared.leaves.TextKind.TheVariants as kinds
use Rattle.wesl_json_read.specs.declared.reader.Reader.{Reader}
use Rattle.wesl_json_read.proofs.Members.{form-ident}
use Rattle.wesl_json_read.proofs.Noting.{weaker}
use Rattle.wesl_json_read.proofs.Places.{IfPlace-more, memory, root}
use Rattle.wesl_json_read.proofs.Rows.{plain-text}
use Rattle.wesl_json_read.proofs.Steps.{leaf-reads}

agree : (k : TextKind) (v : Data) → leaf_label (text_leaf k) v ≡ option_map text (text_read k v)
agree kinds.Name v = refl
agree kinds.Literal v = refl
agree kinds.Any v = refl

wrong_text : (spans : Bool) (k : TextKind) (v : Data) → text_read k v ≡ None → IsWrongLeaf (whole_form spans) (text_leaf k) v
wrong_text spans kinds.Name v none = ap (option_map text) none
wrong_text spans kinds.Literal v none = ap (option_map text) none
wrong_text spans kinds.Any v none = ap (option_map text) none

pub text_is : (k : TextKind) (d : Data) (x : String Global) {s e : Reader} (t : Text) → text_read k d ≡ Some t → Notes (λ _ old new. (new ≡ old) × (string_bytes x ≡ t)) (λ _ y. y ≡ error.Memory) s e → NotesText k d x s e
text_is k d x t found own =
    weaker {Q = λ _ old new. (new ≡ old) × (text_read k d ≡ Some (string_bytes x))} (λ a b is. (is.0, found ∙ ap Some (sym is.1))) (λ y is. memory (λ place. (place ≡ []) × (text_read k d ≡ None)) y is) own

pub no_text : (k : TextKind) (d : Data) (x : String Global) {s e : Reader} → text_read k d ≡ None → Notes Never (λ _. IsAtRoot) s e → NotesText k d x s e
no_text k d x none wrong = weaker {Q = λ _ old new. (new ≡ old) × (text_read k d ≡ Some (string_bytes x))} (λ a b never. absurd never) (λ y is. root (λ place. (place ≡ []) × (text_read k d ≡ None)) y is (refl, none)) wrong

-- a text, as a leaf
pub text_form : (k : TextKind) (d : Data) (x : String Global) {s e : Reader} → NotesText k d x s e → NotesForm (leaf (text_leaf k)) d (text_tree x) s e
text_form k d x {s} n =
    weaker {Q = λ spans. Reads spans (leaf (text_leaf k)) d (text_tree x)}
    (λ a b is. subst (λ z. Reads s.spans (leaf (text_leaf k)) d (text_tree x) a z) (sym is.0) (leaf-reads (text_read k) (text_leaf k) text d (string_bytes x) (text (string_bytes x)) a (agree k) (plain-text (string_bytes x)) is.1))
    (λ y h. IfPlace-more (λ place. (place ≡ []) × (text_read k d ≡ None)) (IsBroken (whole_form s.spans) (leaf (text_leaf k)) d) y (λ place w. ([], w.0, wrong_text s.spans k d w.1)) h) n

-- the number of a name, in a role
pub in_role : (r : Role) {d : Data} {i : Ident} {s e : Reader} → NotesName d i s e → NotesForm (leaf (an_ident r)) d (ident_tree r i) s e
in_role r {d} {i} {s} {e} n =
    weaker {Q = λ spans. Reads spans (leaf (an_ident r)) d (ident_tree r i)} (λ a b h. record { form = form-ident s.spans r d h.0 i.0 a b h.1 h.2 })
    (λ x h. IfPlace-more (λ place. (place ≡ []) × (name_in d ≡ None)) (IsBroken (whole_form s.spans) (leaf (an_ident r)) d) x (λ place w. ([], w.0, ap (option_map (ident r)) w.1)) h) n

-- a value that is no name is no type by its name alone
pub plain_place : (d : Data) (x : error.Error) → LocatesHere (name_in d) x → LocatesPlain d x
plain_place d x h =
    IfPlace-more (λ place. (place ≡ []) × (name_in d ≡ None)) (λ place. (place ≡ []) × (short_type d ≡ None)) x
    (λ place w. (w.0, ap (option_map (λ y. branch type_expression (leaf_of (kind absent) ∷ leaf_of (ident reference y) ∷ leaf_of (kind absent) ∷ []))) w.1)) h
