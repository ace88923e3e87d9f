-- Names that get numbers.
use Rattle.std.proofs.Common.{◌≡◌, ℕ, List, [], ◌∷◌, ◌++◌, Bool, true, false, if◌then◌else◌, bytes_eq, Option, Some, None, slice_get, refl, sym, ap, ◌∙◌, subst, arith}
use Rattle.std.specs.List.{list_any}
use Rattle.std.proofs.lemmas.List.{append-nil, get_or_append_left}
use Rattle.std.proofs.lemmas.Option.{get_or_from_slice_get, slice_get_within}
use Rattle.std.specs.Prelude.{IfSome, length}
use Rattle.wesl_tree_names.specs.Path.{Text}
use Rattle.wesl_tree_interner.specs.Interned.{with_text}
use Rattle.wesl_tree_syntax.specs.Tree.{Role, ident, text}
use Rattle.wesl_tree_syntax.specs.Unit.{name_in}
use Rattle.wesl_text_tokens.specs.Tokens.{Token}
use Rattle.wesl_text_form.specs.Spelling.{Label}
use Rattle.wesl_text_form.specs.Productions.{a_name, an_ident}
use Rattle.wesl_text_reading.specs.Leaves.{Read, after, read_leaf}
use Rattle.wesl_text_read.specs.First.{read_free}
use Rattle.wesl_text_read.specs.Leads.{Begins, Leads, Makes, Numbers, ReadsLabel, ReadsText, Refuses, ahead, is_memory, names_of}
use Rattle.wesl_text_read.proofs.First.{ident-free, name-free}
use Rattle.wesl_text_read.proofs.Leading.{begins_itself, next, nothing_there, seen, under}
use Rattle.wesl_text_read.specs.declared.reader.Reader.{Reader}

-- a name has its number in each table that its own begins
pub named-later : (xs ns : List Text) (i : ℕ) (t : Text) → slice_get xs i ≡ Some t → Begins xs ns → name_in ns i ≡ t
named-later xs ns i t held b =
    ap (λ z. name_in z i) b.1 ∙ (get_or_append_left xs b.0 [] i (slice_get_within xs i t held) ∙ get_or_from_slice_get xs i t [] held)

with-begins : (b : Bool) (xs : List Text) (t : Text) → Begins xs (if b then xs else xs ++ t ∷ [])
with-begins true xs t = begins_itself xs
with-begins false xs t = (t ∷ [], refl)

pub numbered : (t : Text) (i : ℕ) (s e : Reader) → ahead e ≡ ahead s → e.fault ≡ s.fault → e.levels ≡ s.levels → names_of e ≡ with_text (names_of s) t → slice_get (names_of e) i ≡ Some t → Numbers t i s e
numbered t i s e same fault levels names held = record {
  read = λ clear ns b. (let F : Text → Read Text = λ z. Some (z, ahead s) in let G : List Token → Read Text = λ z. Some (name_in ns i, z) in ap F (sym (named-later (names_of e) ns i t held b)) ∙ ap G (sym same));
  refused = λ none. subst (λ o. IfSome o (λ f. is_memory f ≡ false → (ns : List Text) → Begins (names_of e) ns → ◌≡◌ {A = Read Text} (Some (t, ahead s)) None)) (sym (fault ∙ none)) tt;
  kept = λ x is. fault ∙ is;
  begins = subst (λ z. Begins (names_of s) z) (sym names) (with-begins (list_any (bytes_eq t) (names_of s)) (names_of s) t);
  levels = levels;
  fewer = let is : length (ahead e) ≡ length (ahead s) = ap (λ z. length z) same in omega arith;
}

pub ident_numbered : (r : Role) (t : Text) (i : ℕ) (s m e : Reader) → ReadsText read_free t s m → Numbers t i m e → ReadsLabel (read_leaf (an_ident r)) (ident r i) s e
ident_numbered r t i s m e p q =
    let F : List Text → Read Text → Read Label = λ ns o. after o (λ u us. Some (ident r u, us)) in
    seen (λ ns. ident-free r (ahead s)) (λ ns. refl) (next (under F (λ ns. refl) p) (under F (λ ns. refl) q))

pub no_ident : (r : Role) (i : ℕ) (s e : Reader) → Refuses s e → read_free (ahead s) ≡ None → ReadsLabel (read_leaf (an_ident r)) (ident r i) s e
no_ident r i s e refused none = nothing_there refused (λ ns. ident-free r (ahead s) ∙ ap (λ o. after o (λ u us. Some (ident r u, us))) none)

pub name_made : (t x : Text) (s m e : Reader) → ReadsText read_free t s m → Makes t x m e → ReadsLabel (read_leaf a_name) (text x) s e
name_made t x s m e p q =
    let F : List Text → Read Text → Read Label = λ ns o. after o (λ u us. Some (text u, us)) in
    seen (λ ns. name-free (ahead s)) (λ ns. refl) (next (under F (λ ns. refl) p) (under F (λ ns. refl) q))

pub no_name : (x : Text) (s e : Reader) → Refuses s e → read_free (ahead s) ≡ None → ReadsLabel (read_leaf a_name) (text x) s e
no_name x s e refused none = nothing_there refused (λ ns. name-free (ahead s) ∙ ap (λ o. after o (λ u us. Some (text u, us))) none)
