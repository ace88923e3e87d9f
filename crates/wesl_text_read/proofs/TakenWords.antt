-- The words that begin with a byte, of two lists: a word that begins so is in both or in neither.
use Rattle.std.proofs.Common.{◌≡◌, List, [], ◌∷◌, ◌++◌, Bool, true, false, not, ◌&&◌, ◌||◌, ℕ, ◌≤◌, length, get_or, nat_eq, arith, codes, refl, sym, ap, subst, ◌∙◌, true≢false, eq-eqb}
use Rattle.std.proofs.lemmas.Slice.Eq.{bytes_eq-Decides}
use Rattle.std.specs.Str.{bytes_eq}
use Rattle.wesl_tree_names.specs.Path.{Text}
use Rattle.wesl_text_form.specs.Names.{begins_private, is_among, is_free, keywords, reserved_words}
use Rattle.wesl_text_read.specs.TakenWords.{AreTakenWords}
use Rattle.std.proofs.lemmas.Bool.{and_parts}

-- whether a word begins otherwise
abbrev pub begins_otherwise : ℕ → Text → Bool
begins_otherwise b [] = true
begins_otherwise b (a ∷ t) = not (nat_eq a b)

-- whether those of the first words that begin with a byte are among the others
abbrev pub covers : ℕ → List Text → List Text → Bool
covers b [] ws = true
covers b (u ∷ us) ws = (begins_otherwise b u || is_among ws u) && covers b us ws

among-so : (b : ℕ) (t : Text) (ws : List Text) → (begins_otherwise b (b ∷ t) || is_among ws (b ∷ t)) ≡ true → is_among ws (b ∷ t) ≡ true
among-so b t ws h = sym (ap (λ (z : Bool). not z || is_among ws (b ∷ t)) (eq-eqb b b refl)) ∙ h

among-covered : (b : ℕ) (us ws : List Text) → covers b us ws ≡ true → (t : Text) → is_among us (b ∷ t) ≡ true → is_among ws (b ∷ t) ≡ true
among-covered b [] ws h t e = absurd (true≢false (sym e))
among-covered b (u ∷ us) ws h t e = by (bytes_eq (b ∷ t) u) refl e (among-covered b us ws (and_parts (begins_otherwise b u || is_among ws u) (covers b us ws) h).1 t)
  where
    by : (p : Bool) → bytes_eq (b ∷ t) u ≡ p → (p || is_among us (b ∷ t)) ≡ true → (is_among us (b ∷ t) ≡ true → is_among ws (b ∷ t) ≡ true) → is_among ws (b ∷ t) ≡ true
    by true q d rest = among-so b t ws (subst (λ v. (begins_otherwise b v || is_among ws v) ≡ true) (sym ((bytes_eq-Decides (b ∷ t) u).0 q)) (and_parts (begins_otherwise b u || is_among ws u) (covers b us ws) h).0)
    by false q d rest = rest d

as-true : (p q : Bool) → (p ≡ true → q ≡ true) → (q ≡ true → p ≡ true) → p ≡ q
as-true true q f g = sym (f refl)
as-true false true f g = g refl
as-true false false f g = refl

among-both : (us ws : List Text) (t : Text) → is_among (us ++ ws) t ≡ (is_among us t || is_among ws t)
among-both [] ws t = refl
among-both (u ∷ us) ws t = by (bytes_eq t u) (among-both us ws t)
  where
    by : (p : Bool) → is_among (us ++ ws) t ≡ (is_among us t || is_among ws t) → (p || is_among (us ++ ws) t) ≡ ((p || is_among us t) || is_among ws t)
    by true h = refl
    by false h = h

-- and_parts questions are answered by computing
pub taken : (b : ℕ) (ws : List Text) → covers b ws (keywords ++ reserved_words) ≡ true → covers b (keywords ++ reserved_words) ws ≡ true → AreTakenWords b ws
unfolding AreTakenWords
taken b ws f g t =
    as-true (is_among ws (b ∷ t)) (is_among (keywords ++ reserved_words) (b ∷ t)) (among-covered b ws (keywords ++ reserved_words) f t) (among-covered b (keywords ++ reserved_words) ws g t)
    ∙ among-both keywords reserved_words (b ∷ t)

free-first : (bs : Text) (ws : List Text) → 1 ≤ length bs → AreTakenWords (get_or bs 0 0) ws → bytes_eq bs (codes "_") ≡ false → begins_private bs ≡ false → not (is_among ws bs) ≡ is_free bs
unfolding AreTakenWords
free-first [] ws l h p q = absurd (omega (arith, l))
free-first (b ∷ t) ws l h p q =
    ap not (h t)
    ∙ sym (ap (λ (z : Bool). not (z || begins_private (b ∷ t) || is_among keywords (b ∷ t) || is_among reserved_words (b ∷ t))) p
    ∙ ap (λ (z : Bool). not (z || is_among keywords (b ∷ t) || is_among reserved_words (b ∷ t))) q)

-- a word is free where it is none of those that begin as it does
pub free-by-first : (bs w : Text) (ws : List Text) → bs ≡ w → 1 ≤ length bs → AreTakenWords (get_or bs 0 0) ws → bytes_eq w (codes "_") ≡ false → begins_private w ≡ false → not (is_among ws w) ≡ is_free w
free-by-first bs w ws e l h = subst (λ v. bytes_eq v (codes "_") ≡ false → begins_private v ≡ false → not (is_among ws v) ≡ is_free v) e (free-first bs ws l h)
