-- Members and parameters: where lists of them end.
use Rattle.std.proofs.Common.{◌≡◌, ℕ, zero, suc, List, [], ◌∷◌, length, Bool, true, false, if◌then◌else◌, Some, None, refl, sym, ap, subst}
use Rattle.wesl_tree_names.specs.Path.{Text}
use Rattle.wesl_tree_syntax.specs.Tree.{TreeOf, at, attributes, binder, end, kind, member, member_node, parameter}
use Rattle.wesl_text_tokens.specs.declared.symbol.Symbol.{Symbol}
use Rattle.wesl_text_tokens.specs.declared.symbol.Symbol.TheVariants as is
use Rattle.wesl_text_tokens.specs.Tokens.{Token, name, symbol}
use Rattle.wesl_text_form.specs.Slots.{same_token}
use Rattle.wesl_text_form.specs.Spelling.{Forest}
use Rattle.wesl_text_form.specs.Productions.{Row, Sort, a_member, a_name, a_parameter, a_type, an_attribute, an_ident, leaf, own, sym as sign, nothing}
use Rattle.wesl_text_reading.specs.FirstTokens.{begins_name, begins_sign}
use Rattle.wesl_text_reading.specs.Leaves.{Read, after, where_so}
use Rattle.wesl_text_reading.specs.Reading.{Reader as TreeReader, all_of, and_others, attributes_first, begins_child, behind_attributes, node_of}
use Rattle.wesl_text_read.specs.Levels.{inner}
use Rattle.wesl_text_read.specs.Parts.{row_at}
use Rattle.wesl_text_read.proofs.Paths.{sign-is}
use Rattle.wesl_text_read_ahead.proofs.Behind.{behind_them}
use Rattle.wesl_text_read_imports.proofs.Closed.{Closes}

-- ---- attributes

no-run : (one : TreeReader) (m : ℕ) (ts : List Token) → begins_sign is.At ts ≡ false → all_of (begins_sign is.At) one m ts ≡ Some (end, ts)
no-run one zero ts h = ap (λ (c : Bool). let r : Read Forest = if c then None else Some (end, ts) in r) h
no-run one (suc m) ts h = ap (λ (c : Bool). elim c as (λ _. Read Forest) [ false ↦ Some (end, ts) | true ↦ after (one ts) (λ t us. and_others t (all_of (begins_sign is.At) one m us)) ]) h

-- where no `@` comes first there are no attributes
pub no-attributes : (child : Sort → TreeReader) (ts : List Token) → begins_sign is.At ts ≡ false → attributes_first child ts ≡ Some (end, ts)
no-attributes child ts h = no-run (child an_attribute) (length ts) ts h

pub behind-none : (child : Sort → TreeReader) (ts : List Token) → begins_sign is.At ts ≡ false → behind_attributes child ts ≡ ts
behind-none child ts h = ap behind_them (no-attributes child ts h)

-- ---- lists of members and of parameters

apart-by : (n : ℕ) (u : Token) (ts : List Token) (z : Symbol) → begins_sign is.At (symbol z ∷ ts) ≡ false → same_token (symbol z) u ≡ true → begins_name (behind_attributes (inner n) (u ∷ ts)) ≡ false
apart-by n u ts z plain h =
    subst (λ t. begins_name (behind_attributes (inner n) (t ∷ ts)) ≡ false) (sym (sign-is z u h))
    (ap begins_name (behind-none (inner n) (symbol z ∷ ts) plain))

member-apart : (n : ℕ) (ts : List Token) → begins_sign is.BraceRight ts ≡ true → begins_child (inner n) a_member ts ≡ false
member-apart n [] h = cc
member-apart n (u ∷ ts) h = apart-by n u ts is.BraceRight refl h

parameter-apart : (n : ℕ) (ts : List Token) → begins_sign is.ParenRight ts ≡ true → begins_child (inner n) a_parameter ts ≡ false
parameter-apart n [] h = cc
parameter-apart n (u ∷ ts) h = apart-by n u ts is.ParenRight refl h

unnamed-by : (row : List Token → Read Forest) → ((us : List Token) → begins_name us ≡ false → row us ≡ None) → (r : Read Forest) → begins_name (behind_them r) ≡ false
    → after r (λ f us. and_others (node_of (kind attributes) f) (row us)) ≡ None
unnamed-by row none None h = refl
unnamed-by row none (Some x) h = ap (λ (r : Read Forest). and_others (node_of (kind attributes) x.0) r) (none x.1 h)

abbrev typed_row : Row
typed_row = sign is.Colon (own a_type nothing)

name-none : (n : ℕ) (us : List Token) → begins_name us ≡ false → row_at n (leaf a_name typed_row) us ≡ None
name-none n (name t ∷ us) h = cc
name-none n us h = refl

binder-none : (n : ℕ) (us : List Token) → begins_name us ≡ false → row_at n (leaf (an_ident binder) typed_row) us ≡ None
binder-none n (name t ∷ us) h = cc
binder-none n us h = refl

abbrev member_of : Read Forest → Read (TreeOf Text)
member_of r =
    after (after (after r (λ f us. where_so true (node_of (kind member) f) us)) (λ t us. and_others t (Some (end, us))))
    (λ f us. where_so true (node_of (at member_node 0 0) f) us)

abbrev parameter_of : Read Forest → Read (TreeOf Text)
parameter_of r = after r (λ f us. where_so true (node_of (kind parameter) f) us)

member-refused : (n : ℕ) (ts : List Token) → begins_child (inner n) a_member ts ≡ false → inner n a_member ts ≡ None
member-refused n ts h = ap member_of (unnamed-by (row_at n (leaf a_name typed_row)) (name-none n) (attributes_first (inner n) ts) h)

parameter-refused : (n : ℕ) (ts : List Token) → begins_child (inner n) a_parameter ts ≡ false → inner n a_parameter ts ≡ None
parameter-refused n ts h = ap parameter_of (unnamed-by (row_at n (leaf (an_ident binder) typed_row)) (binder-none n) (attributes_first (inner n) ts) h)

pub members_close : Closes is.BraceRight a_member
members_close = record { apart = member-apart; refused = λ n ts h k. member-refused n ts h }

pub parameters_close : Closes is.ParenRight a_parameter
parameters_close = record { apart = parameter-apart; refused = λ n ts h k. parameter-refused n ts h }
