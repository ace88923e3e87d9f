-- What comes first, and what is behind it.
use Rattle.std.proofs.Common.{◌≡◌, List, [], ◌∷◌, Bool, true, false, if◌then◌else◌, Option, Some, None, refl, sym, ap, ◌∙◌, subst}
use denote.Enum.Bare.{sameb}
use Rattle.wesl_tree_names.specs.Path.{Text}
use Rattle.wesl_tree_syntax.specs.Tree.{Role, ident, text}
use Rattle.wesl_text_tokens.specs.contracts.symbol.Symbol as symbols
use Rattle.wesl_text_tokens.specs.declared.symbol.Symbol.{Symbol}
use Rattle.wesl_text_tokens.specs.Tokens.{Token, name, number, symbol, open_list, close_list}
use Rattle.wesl_text_form.specs.Slots.{behind_token, behind_if_there, comes_first}
use Rattle.wesl_text_form.specs.Names.{is_free}
use Rattle.wesl_text_form.specs.Spelling.{Label}
use Rattle.wesl_text_form.specs.Productions.{a_name, an_ident}
use Rattle.wesl_text_reading.specs.FirstTokens.{begins_sign, behind_first, binary_first, binary_of, unary_first, unary_of}
use Rattle.wesl_text_reading.specs.Leaves.{after, read_leaf, where_so}
use Rattle.wesl_text_read.specs.First.{read_free, sign_first, word_first}

-- ---- what is behind a token

pub token-behind : (t : Token) (ts : List Token) → comes_first t ts ≡ true → behind_token t ts ≡ Some (behind_first ts)
token-behind t [] h = cc
token-behind t (u ∷ us) h = ap (λ b. if b then Some us else None) h

pub no-token-behind : (t : Token) (ts : List Token) → comes_first t ts ≡ false → behind_token t ts ≡ None
no-token-behind t [] h = refl
no-token-behind t (u ∷ us) h = ap (λ b. if b then Some us else None) h

pub token-behind-if : (t : Token) (ts : List Token) → comes_first t ts ≡ true → behind_if_there t ts ≡ behind_first ts
token-behind-if t [] h = cc
token-behind-if t (u ∷ us) h = ap (λ b. if b then us else u ∷ us) h

pub no-token-behind-if : (t : Token) (ts : List Token) → comes_first t ts ≡ false → behind_if_there t ts ≡ ts
no-token-behind-if t [] h = refl
no-token-behind-if t (u ∷ us) h = ap (λ b. if b then us else u ∷ us) h

-- ---- names

pub word-free : (t : Text) (ts : List Token) → word_first ts ≡ Some t → is_free t ≡ true → read_free ts ≡ Some (t, behind_first ts)
word-free t [] h free = cc
word-free t (name u ∷ ts) h free = let e : u ≡ t = cc in rw e (ap (λ b. where_so b t ts) free)
word-free t (number u ∷ ts) h free = cc
word-free t (symbol a ∷ ts) h free = cc
word-free t (open_list ∷ ts) h free = cc
word-free t (close_list ∷ ts) h free = cc

pub word-taken : (t : Text) (ts : List Token) → word_first ts ≡ Some t → is_free t ≡ false → read_free ts ≡ None
word-taken t [] h free = cc
word-taken t (name u ∷ ts) h free = let e : u ≡ t = cc in rw e (ap (λ b. where_so b t ts) free)
word-taken t (number u ∷ ts) h free = cc
word-taken t (symbol a ∷ ts) h free = cc
word-taken t (open_list ∷ ts) h free = cc
word-taken t (close_list ∷ ts) h free = cc

where-ident : (b : Bool) (r : Role) (t : Text) (ts : List Token) → where_so {A = Label} b (ident r t) ts ≡ after (where_so b t ts) (λ u us. Some (ident r u, us))
where-ident true r t ts = refl
where-ident false r t ts = refl

where-text : (b : Bool) (t : Text) (ts : List Token) → where_so {A = Label} b (text t) ts ≡ after (where_so b t ts) (λ u us. Some (text u, us))
where-text true t ts = refl
where-text false t ts = refl

pub ident-free : (r : Role) (ts : List Token) → read_leaf (an_ident r) ts ≡ after (read_free ts) (λ t us. Some (ident r t, us))
ident-free r [] = refl
ident-free r (name u ∷ ts) = where-ident (is_free u) r u ts
ident-free r (number u ∷ ts) = refl
ident-free r (symbol a ∷ ts) = refl
ident-free r (open_list ∷ ts) = refl
ident-free r (close_list ∷ ts) = refl

pub name-free : (ts : List Token) → read_leaf a_name ts ≡ after (read_free ts) (λ t us. Some (text t, us))
name-free [] = refl
name-free (name u ∷ ts) = where-text (is_free u) u ts
name-free (number u ∷ ts) = refl
name-free (symbol a ∷ ts) = refl
name-free (open_list ∷ ts) = refl
name-free (close_list ∷ ts) = refl
