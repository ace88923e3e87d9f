-- A text and the path that it says.
use Rattle.std.proofs.Common.{◌≡◌, ◌<◌, ◌⊎◌, ℕ, zero, suc, Bool, true, false, not, ◌&&◌, if◌then◌else◌, List, [], ◌∷◌, ◌++◌, length, Option, Some, None, option_map, refl, ap, sym, ◌∙◌, subst, inl, inr, arith, append_assoc}
use Rattle.std.proofs.lemmas.Bool.{false≢true}
use Rattle.std.proofs.lemmas.List.Splits.{join_with_byte-slice_split}
use Rattle.std.proofs.lemmas.Slice.Eq.{bytes_eq-Decides}
use Rattle.std.specs.List.{join_with_byte}
use Rattle.std.specs.Str.{bytes_eq}
use lib.Chars.{codes}
use Rattle.wesl_tree_names.specs.Path.{Text, Origin, absolute, relative, from_package, Path}
use Rattle.wesl_tree_base.specs.Pieces.{colon, cut, is_empty, paired, pieces, is_package_name, supers, joined}
use Rattle.wesl_tree_names.specs.PathText.{are_components, path_with, after_super, path_of_pieces, parsed_pieces, parse, origin_pieces, to_text}
use Rattle.wesl_tree_names.specs.PathLaws.{RoundTrip}
use Rattle.wesl_tree_base.proofs.Pieces.{cut-split}

pub no-path : {A B : Type 0} (x : A) → None ≡ Some x → B
no-path x h = absurd (cc)

pub if-some : {A : Type 0} (b : Bool) (x y : Option A) (p : A) → (if b then x else y) ≡ Some p → ((b ≡ true) × (x ≡ Some p)) ⊎ ((b ≡ false) × (y ≡ Some p))
if-some true x y p h = inl (refl, h)
if-some false x y p h = inr (refl, h)

-- ---- from the text to its pieces, and back

glue-cut : (t : Text) → join_with_byte 58 (cut colon t) ≡ t
glue-cut t = ap (join_with_byte 58) (sym (cut-split 58 t)) ∙ join_with_byte-slice_split 58 t

joined-cons : (t : Text) (us : List Text) → 0 < length us → joined (t ∷ us) ≡ t ++ codes "::" ++ joined us
joined-cons t [] h = absurd (omega arith)
joined-cons t (u ∷ us) h = refl

glue-gap : (t : Text) (ts : List Text) → 0 < length ts → join_with_byte 58 (t ∷ [] ∷ ts) ≡ t ++ codes "::" ++ join_with_byte 58 ts
glue-gap t [] h = absurd (omega arith)
glue-gap t (u ∷ us) h = sym (append_assoc t (codes "::") (join_with_byte 58 (u ∷ us)))

pub option-cons : (t : Text) (o : Option (List Text)) (us : List Text) → option_map (λ vs. t ∷ vs) o ≡ Some us → (vs : List Text) × (o ≡ Some vs) × (t ∷ vs ≡ us)
option-cons t None us h = no-path us h
option-cons t (Some vs) us h = (vs, refl, cc)

pub empty-is : (t : Text) → is_empty t ≡ true → t ≡ []
empty-is [] h = refl
empty-is (x ∷ t) h = absurd (false≢true h)

second-true : (a b : Bool) → (a && b) ≡ true → b ≡ true
second-true true b h = h
second-true false b h = absurd (false≢true h)

-- the pieces of some parts: there are some, and joined they are what the parts are, glued
abbrev Glued : List Text → List Text → Type 0
Glued ts us = (0 < length ts) × (0 < length us) × (joined us ≡ join_with_byte 58 ts)

glued-pair : (t gap : Text) (ts us vs : List Text) → gap ≡ [] → t ∷ vs ≡ us → Glued ts vs → Glued (t ∷ gap ∷ ts) us
glued-pair t gap ts us vs e f g = (
  omega arith,
  subst (λ ws. 0 < length ws) f (omega arith),
  ap joined (sym f) ∙ joined-cons t vs g.1 ∙ ap (λ (u : Text). t ++ codes "::" ++ u) g.2 ∙ sym (glue-gap t ts g.0) ∙ ap (λ (u : Text). join_with_byte 58 (t ∷ u ∷ ts)) (sym e),
)

paired-glued : (ts us : List Text) → paired ts ≡ Some us → Glued ts us
paired-glued [] us h = no-path us h
paired-glued (t ∷ []) us h = elim (if-some (is_empty t) None (Some (t ∷ [])) us h) [
  | inl w ↦ no-path us w.1
  | inr w ↦ let e : t ∷ [] ≡ us = cc in (omega arith, subst (λ ws. 0 < length ws) e (omega arith), ap joined (sym e))
]
paired-glued (t ∷ gap ∷ ts) us h = elim (if-some (not (is_empty t) && is_empty gap) (option_map (λ vs. t ∷ vs) (paired ts)) None us h) [
  | inl w ↦
      let o = option-cons t (paired ts) us w.1 in
      glued-pair t gap ts us o.0 (empty-is gap (second-true (not (is_empty t)) (is_empty gap) w.0)) o.2 (paired-glued ts o.0 o.1)
  | inr w ↦ no-path us w.1
]

joined-pieces : (t : Text) (us : List Text) → pieces t ≡ Some us → joined us ≡ t
joined-pieces t us h = (paired-glued (cut colon t) us h).2 ∙ glue-cut t

-- ---- from the pieces to the path, and back

abbrev spelled : Path → List Text
spelled p = origin_pieces p.origin ++ p.components

with-spelled : (o : Origin) (ts : List Text) (p : Path) → path_with o ts ≡ Some p → spelled p ≡ origin_pieces o ++ ts
with-spelled o ts p h = elim (if-some (are_components ts) (Some (record { origin = o; components = ts })) None p h) [
  | inl w ↦ let e : record { origin = o; components = ts } ≡ p = cc in ap spelled (sym e)
  | inr w ↦ no-path p w.1
]

supers-front : (n : ℕ) (ts : List Text) → supers n ++ codes "super" ∷ ts ≡ codes "super" ∷ (supers n ++ ts)
supers-front zero ts = refl
supers-front (suc n) ts = ap (λ us. codes "super" ∷ us) (supers-front n ts)

after_super-spelled : (n : ℕ) (ts : List Text) (p : Path) → after_super (suc n) ts ≡ Some p → spelled p ≡ codes "super" ∷ (supers n ++ ts)
after_super-spelled n [] p h = with-spelled (relative (suc n)) [] p h
after_super-spelled n (t ∷ ts) p h = elim (if-some (bytes_eq t (codes "super")) (after_super (suc (suc n)) ts) (path_with (relative (suc n)) (t ∷ ts)) p h) [
  | inl w ↦
      after_super-spelled (suc n) ts p w.1
      ∙ ap (λ us. codes "super" ∷ us) (sym (supers-front n ts))
      ∙ ap (λ (u : Text). codes "super" ∷ (supers n ++ u ∷ ts)) (sym ((bytes_eq-Decides t (codes "super")).0 w.0))
  | inr w ↦ with-spelled (relative (suc n)) (t ∷ ts) p w.1
]

first-is : (t u : Text) (ts : List Text) → bytes_eq t u ≡ true → u ∷ ts ≡ t ∷ ts
first-is t u ts h = ap (λ (v : Text). v ∷ ts) (sym ((bytes_eq-Decides t u).0 h))

path_of_pieces-spelled : (ts : List Text) (p : Path) → path_of_pieces ts ≡ Some p → spelled p ≡ ts
path_of_pieces-spelled [] p h = no-path p h
path_of_pieces-spelled (t ∷ ts) p h = elim (if-some (bytes_eq t (codes "package")) _ _ p h) [
  | inl w ↦ with-spelled absolute ts p w.1 ∙ first-is t (codes "package") ts w.0
  | inr w ↦ elim (if-some (bytes_eq t (codes "self")) _ _ p w.1) [
    | inl v ↦ with-spelled (relative 0) ts p v.1 ∙ first-is t (codes "self") ts v.0
    | inr v ↦ elim (if-some (bytes_eq t (codes "super")) _ _ p v.1) [
      | inl u ↦ after_super-spelled 0 ts p u.1 ∙ first-is t (codes "super") ts u.0
      | inr u ↦ elim (if-some (is_package_name t) _ _ p u.1) [
        | inl n ↦ with-spelled (from_package t) ts p n.1
        | inr n ↦ no-path p n.1
      ]
    ]
  ]
]

parsed-spelled : (o : Option (List Text)) (p : Path) → parsed_pieces o ≡ Some p → o ≡ Some (spelled p)
parsed-spelled None p h = no-path p h
parsed-spelled (Some ts) p h = ap Some (sym (path_of_pieces-spelled ts p h))

-- ---- the laws

pub text-same : (t : Text) (p : Path) → parse t ≡ Some p → to_text p ≡ t
text-same t p h = joined-pieces t (spelled p) (parsed-spelled (pieces t) p h)

pub text-read_back : (t : Text) (p : Path) → parse t ≡ Some p → parse (to_text p) ≡ Some p
text-read_back t p h = ap parse (text-same t p h) ∙ h

pub round_trip_holds : RoundTrip
round_trip_holds = record { same_text = text-same; read_back = text-read_back }
