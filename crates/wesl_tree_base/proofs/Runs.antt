-- The pieces of a text, told from the parts between its colons one after another.
use Rattle.std.proofs.Common.{◌≡◌, Bool, true, false, not, ◌&&◌, List, [], ◌∷◌, ◌++◌, Option, Some, None, option_map, refl, ap, sym, ◌∙◌, if◌then◌else◌, append-nil, append_assoc, eqb, length, arith}
use Rattle.std.specs.Bool.{beq}
use Rattle.std.proofs.lemmas.Bool.{false≢true}
use Rattle.std.proofs.lemmas.Bool.Decides.{nat_tests}
use Rattle.wesl_tree_base.specs.Pieces.{Text}
use Rattle.wesl_tree_base.specs.Pieces.{is_empty, paired}

-- the pieces that the parts are; after a piece an empty part comes, or the end
abbrev pub pieces_from : Bool → List Text → Option (List Text)
pieces_from true [] = Some []
pieces_from false [] = None
pieces_from true (t ∷ ts) = if is_empty t then pieces_from false ts else None
pieces_from false (t ∷ ts) = if is_empty t then None else option_map (λ us. t ∷ us) (pieces_from true ts)

gap-step : (t : Text) (a b : Bool) (r : Option (List Text)) → (if a then None else option_map (λ us. t ∷ us) (if b then r else None)) ≡ (if not a && b then option_map (λ us. t ∷ us) r else None)
gap-step t true b r = refl
gap-step t false true r = refl
gap-step t false false r = refl

pub pieces_from-start : (ts : List Text) → pieces_from false ts ≡ paired ts
pieces_from-start [] = refl
pieces_from-start (t ∷ []) = refl
pieces_from-start (t ∷ gap ∷ ts) = rw (pieces_from-start ts) (gap-step t (is_empty t) (is_empty gap) (paired ts))

same-option : {A : Type 0} (o : Option A) → option_map (λ x. x) o ≡ o
same-option None = refl
same-option (Some x) = refl

pub pieces_from-started : (ts : List Text) → option_map (λ us. [] ++ us) (pieces_from false ts) ≡ paired ts
pieces_from-started ts = same-option (pieces_from false ts) ∙ pieces_from-start ts

is_empty-length : (t : Text) → eqb (length t) 0 ≡ is_empty t
is_empty-length [] = refl
is_empty-length (x ∷ t) = grind (arith, nat_tests)

-- a test of a part, as the code makes it
same-test : (t : Text) (b e : Bool) → e ≡ eqb (length t) 0 → not (beq e b) ≡ false → is_empty t ≡ b
same-test t true true h k = sym (h ∙ is_empty-length t)
same-test t false false h k = sym (h ∙ is_empty-length t)
same-test t true false h k = absurd (false≢true (sym k))
same-test t false true h k = absurd (false≢true (sym k))

other-test : (t : Text) (b e : Bool) → e ≡ eqb (length t) 0 → not (beq e b) ≡ true → is_empty t ≡ not b
other-test t true true h k = absurd (false≢true k)
other-test t false false h k = absurd (false≢true k)
other-test t true false h k = sym (h ∙ is_empty-length t)
other-test t false true h k = sym (h ∙ is_empty-length t)

after-more : (us : List Text) (t : Text) (o : Option (List Text)) → option_map (λ vs. (us ++ t ∷ []) ++ vs) o ≡ option_map (λ vs. us ++ vs) (option_map (λ vs. t ∷ vs) o)
after-more us t None = refl
after-more us t (Some vs) = ap Some (append_assoc us (t ∷ []) vs)

-- a part that may stand there
takes : (b : Bool) (us : List Text) (t : Text) (ts : List Text) → is_empty t ≡ b
    → option_map (λ vs. (if b then us else us ++ t ∷ []) ++ vs) (pieces_from (not b) ts) ≡ option_map (λ vs. us ++ vs) (pieces_from b (t ∷ ts))
takes true us t ts e = rw e refl
takes false us t ts e = rw e (after-more us t (pieces_from true ts))

-- and one that may not
refuses : (b : Bool) (us : List Text) (t : Text) (ts : List Text) → is_empty t ≡ not b → option_map (λ vs. us ++ vs) (pieces_from b (t ∷ ts)) ≡ None
refuses true us t ts e = rw e refl
refuses false us t ts e = rw e refl

-- one turn of the loop, and the two ways out
pub pieces_from-turn : (b e : Bool) (us us' : List Text) (t : Text) (ts : List Text) (r : Option (List Text)) → e ≡ eqb (length t) 0 → not (beq e b) ≡ false
    → us' ≡ (if b then us else us ++ t ∷ []) → option_map (λ vs. us ++ vs) (pieces_from b (t ∷ ts)) ≡ r → option_map (λ vs. us' ++ vs) (pieces_from (not b) ts) ≡ r
pieces_from-turn b e us us' t ts r h k l m = ap (λ (xs : List Text). option_map (λ vs. xs ++ vs) (pieces_from (not b) ts)) l ∙ takes b us t ts (same-test t b e h k) ∙ m

pub pieces_from-stop : (b e : Bool) (us : List Text) (t : Text) (ts : List Text) (r : Option (List Text)) → e ≡ eqb (length t) 0 → not (beq e b) ≡ true
    → option_map (λ vs. us ++ vs) (pieces_from b (t ∷ ts)) ≡ r → None ≡ r
pieces_from-stop b e us t ts r h k m = sym (refuses b us t ts (other-test t b e h k)) ∙ m

pub pieces_from-end : (b : Bool) (us : List Text) (r : Option (List Text)) → option_map (λ vs. us ++ vs) (pieces_from b []) ≡ r → (if b then Some us else None) ≡ r
pieces_from-end true us r m = ap Some (sym (append-nil us)) ∙ m
pieces_from-end false us r m = m
