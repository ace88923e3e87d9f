-- What is read of paths is said.
use Rattle.std.proofs.Common.{◌≡◌, ℕ, zero, suc, Bool, true, false, if◌then◌else◌, List, [], ◌∷◌, ◌++◌, Option, Some, None, option_and_then, refl, sym as turned, ap, ◌∙◌, subst, codes, bytes_eq}
use Rattle.std.proofs.lemmas.Slice.Eq.{bytes_eq-Decides}
use Rattle.wesl_tree_base.specs.Pieces.{cut, slash, supers}
use Rattle.wesl_tree_names.specs.Path.{Text, Path, Origin, absolute, relative, from_package}
use Rattle.wesl_tree_syntax.specs.Tree.{path}
use Rattle.wesl_text_tokens.specs.declared.symbol.Symbol.TheVariants as is
use Rattle.wesl_text_tokens.specs.Tokens.{Token, name, symbol}
use Rattle.wesl_text_form.specs.Slots.{Slot, left}
use Rattle.wesl_text_form.specs.Names.{is_word, is_free, are_words, are_names, is_path, is_origin}
use Rattle.wesl_text_form.specs.Productions.{a_path}
use Rattle.wesl_text_form.specs.Spelling.{Label, Forest, package_words, named, signed, parted, stepped, origin_slots}
use Rattle.wesl_text_reading.specs.Leaves.{are_free, step_words, slashed_behind, first_text, free_path, super_path, path_of, path_behind, where_path, read_leaf}
use Rattle.wesl_text_reading.specs.FirstTokens.{begins_path}
use Rattle.wesl_text_sound.specs.Laws.{AreTokens}
use Rattle.wesl_text_reading.proofs.Filled.{no_some, of_some, no_true, left_joined}
use Rattle.wesl_text_reading.proofs.Attributes.{cut_filled}
use Rattle.wesl_text_sound.proofs.TakenApart.{with_rest}
use Rattle.wesl_text_sound.proofs.Words.{word_lacks}
use Rattle.wesl_text_sound.proofs.LeavesSaid.{LeafSaid, StepsSaid, name_then, when_provided, cut_one, cut_two, steps_said, free_names}
use Rattle.std.proofs.lemmas.Bool.{and_from, and_parts}

-- ---- the words that a path begins with

-- words with `/` between, which a text has
abbrev Slashed : Text → List Token → Text × List Token → Type 0
Slashed t ts x = (are_words (cut slash x.0) ≡ true) × (left (parted is.Slash (cut slash x.0)) (name t ∷ ts) ≡ Some x.1)

slashed_said : (t : Text) (ts : List Token) → is_word t ≡ true → AreTokens ts → Slashed t ts (slashed_behind t ts)
slashed_said t (symbol is.Slash ∷ name u ∷ ts) w a = by (slashed_behind u ts) (slashed_said u ts a.1.0 a.1.1) where
  by : (x : Text × List Token) → Slashed u ts x → Slashed t (symbol is.Slash ∷ name u ∷ ts) (t ++ slash ∷ x.0, x.1)
  by x h = at (cut_filled slash x.0) where
    two : cut slash (t ++ slash ∷ x.0) ≡ t ∷ cut slash x.0
    two = cut_two slash t x.0 (word_lacks t w).1 refl

    at : ((p : Text) × (ps : List Text) × (cut slash x.0 ≡ p ∷ ps)) → Slashed t (symbol is.Slash ∷ name u ∷ ts) (t ++ slash ∷ x.0, x.1)
    at c = (
      ap are_words two ∙ and_from (is_word t) (are_words (cut slash x.0)) w h.0,
      ap (λ z. left (parted is.Slash z) (name t ∷ symbol is.Slash ∷ name u ∷ ts)) (two ∙ ap (λ z. t ∷ z) c.2)
          ∙ name_then t (signed is.Slash ∷ parted is.Slash (c.0 ∷ c.1)) (symbol is.Slash ∷ name u ∷ ts) x.1 (ap (λ z. left (parted is.Slash z) (name u ∷ ts)) (turned c.2) ∙ h.1),
    )
slashed_said t ts w a = (
  ap are_words (cut_one slash t (word_lacks t w).1) ∙ and_from (is_word t) true w refl,
  ap (λ z. left (parted is.Slash z) (name t ∷ ts)) (cut_one slash t (word_lacks t w).1) ∙ name_then t [] ts ts refl,
)

-- the first words of a path
abbrev Begins : Bool → List Token → Text × List Token → Type 0
Begins slashes ts x = (are_words (package_words slashes x.0) ≡ true) × (left (parted is.Slash (package_words slashes x.0)) ts ≡ Some x.1) × AreTokens x.1

slashed_rest : (t : Text) (ts : List Token) → AreTokens ts → AreTokens (slashed_behind t ts).1
slashed_rest t (symbol is.Slash ∷ name u ∷ ts) a = slashed_rest u ts a.1.1
slashed_rest t ts a = a

first_said : (slashes : Bool) (t : Text) (ts : List Token) → is_word t ≡ true → AreTokens ts → Begins slashes (name t ∷ ts) (first_text slashes (name t ∷ ts))
first_said true t ts w a = let x : Slashed t ts (slashed_behind t ts) = slashed_said t ts w a in (x.0, x.1, slashed_rest t ts a)
first_said false t ts w a = (and_from (is_word t) true w refl, name_then t [] ts ts refl, a)

-- ---- origins

-- a path with these slots, which may be written
abbrev PathIs : Bool → List Slot → Path → Type 0
PathIs slashes ss p = (is_path slashes p ≡ true) × (ss ≡ origin_slots slashes p.origin ++ stepped p.components)

free_parts : (o : Origin) (ws : List Text) (p : Path) → free_path o ws ≡ Some p → (are_free ws ≡ true) × (record { origin = o; components = ws } ≡ p)
free_parts o ws p h = at (are_free ws) h where
  at : (b : Bool) → (if b then Some (record { origin = o; components = ws }) else None) ≡ Some p → (b ≡ true) × (record { origin = o; components = ws } ≡ p)
  at true g = (refl, of_some _ p g)
  at false g = absurd (no_some p g)

free_is : (slashes : Bool) (o : Origin) (ws : List Text) (p : Path) → is_origin slashes o ≡ true → are_words ws ≡ true → free_path o ws ≡ Some p → PathIs slashes (origin_slots slashes o ++ stepped ws) p
free_is slashes o ws p i w h =
    let x : (are_free ws ≡ true) × (record { origin = o; components = ws } ≡ p) = free_parts o ws p h in
    subst (λ z. PathIs slashes (origin_slots slashes o ++ stepped ws) z) x.1 (and_from (is_origin slashes o) (are_names ws) i (free_names ws w x.0), refl)

stepped_joined : (a b : List Text) → stepped (a ++ b) ≡ stepped a ++ stepped b
stepped_joined [] b = refl
stepped_joined (t ∷ a) b = ap (λ z. named t ∷ signed is.ColonColon ∷ z) (stepped_joined a b)

one_more : (n : ℕ) (ws : List Text) → supers n ++ codes "super" ∷ ws ≡ codes "super" ∷ (supers n ++ ws)
one_more zero ws = refl
one_more (suc n) ws = ap (λ z. codes "super" ∷ z) (one_more n ws)

super_is : (slashes : Bool) (n : ℕ) (ws : List Text) (p : Path) → are_words ws ≡ true → super_path (suc n) ws ≡ Some p → PathIs slashes (stepped (supers (suc n) ++ ws)) p
super_is slashes n [] p w h = subst (λ z. PathIs slashes z p) (turned (stepped_joined (supers (suc n)) [])) (free_is slashes (relative (suc n)) [] p refl refl h)
super_is slashes n (t ∷ ws) p w h = at (λ k. super_is slashes (suc n) ws p (and_parts (is_word t) (are_words ws) w).1 k) (bytes_eq t (codes "super")) refl h where
  at : (super_path (suc (suc n)) ws ≡ Some p → PathIs slashes (stepped (supers (suc (suc n)) ++ ws)) p) → (b : Bool) → bytes_eq t (codes "super") ≡ b
      → elim b as (λ _. Option Path) [ true ↦ super_path (suc (suc n)) ws | false ↦ free_path (relative (suc n)) (t ∷ ws) ] ≡ Some p → PathIs slashes (stepped (supers (suc n) ++ t ∷ ws)) p
  at deeper true e g = subst (λ z. PathIs slashes (stepped z) p) (turned (ap (λ z. supers (suc n) ++ z ∷ ws) ((bytes_eq-Decides t (codes "super")).0 e) ∙ one_more (suc n) ws)) (deeper g)
  at deeper false e g = subst (λ z. PathIs slashes z p) (turned (stepped_joined (supers (suc n)) (t ∷ ws))) (free_is slashes (relative (suc n)) (t ∷ ws) p refl w g)

-- the slots of the first words of a path, and of those behind
abbrev all_slots : Bool → Text → List Text → List Slot
all_slots slashes t ws = (parted is.Slash (package_words slashes t) ++ signed is.ColonColon ∷ []) ++ stepped ws

-- a word of its own
word_alone : (slashes : Bool) (w : Text) → cut slash w ≡ w ∷ [] → package_words slashes w ≡ w ∷ []
word_alone true w h = h
word_alone false w h = refl

package_free : (slashes : Bool) (t : Text) → are_words (package_words slashes t) ≡ true → are_free (package_words slashes t) ≡ true → is_origin slashes (from_package t) ≡ true
package_free true t w f = free_names (cut slash t) w f
package_free false t w f = and_from (is_word t) (is_free t) (and_parts (is_word t) true w).0 (and_parts (is_free t) true f).0

path_is : (slashes : Bool) (t : Text) (ws : List Text) (p : Path) → are_words (package_words slashes t) ≡ true → are_words ws ≡ true → path_of slashes t ws ≡ Some p → PathIs slashes (all_slots slashes t ws) p
path_is slashes t ws p f w h = by (bytes_eq t (codes "package")) (bytes_eq t (codes "self")) (bytes_eq t (codes "super")) (are_free (package_words slashes t)) refl refl refl refl h where
  -- the slots where the first word is one of these
  alone : (u : Text) → cut slash u ≡ u ∷ [] → bytes_eq t u ≡ true → (named u ∷ signed is.ColonColon ∷ []) ++ stepped ws ≡ all_slots slashes t ws
  alone u c e = turned (ap (λ z. all_slots slashes z ws) ((bytes_eq-Decides t u).0 e) ∙ ap (λ z. (parted is.Slash z ++ signed is.ColonColon ∷ []) ++ stepped ws) (word_alone slashes u c))

  by : (a b c d : Bool) → bytes_eq t (codes "package") ≡ a → bytes_eq t (codes "self") ≡ b → bytes_eq t (codes "super") ≡ c → are_free (package_words slashes t) ≡ d
      → (if a then free_path absolute ws else if b then free_path (relative 0) ws else if c then super_path 1 ws else if d then free_path (from_package t) ws else None) ≡ Some p → PathIs slashes (all_slots slashes t ws) p
  by true b c d e1 e2 e3 e4 g = subst (λ z. PathIs slashes z p) (alone (codes "package") refl e1) (free_is slashes absolute ws p refl w g)
  by false true c d e1 e2 e3 e4 g = subst (λ z. PathIs slashes z p) (alone (codes "self") refl e2) (free_is slashes (relative 0) ws p refl w g)
  by false false true d e1 e2 e3 e4 g = subst (λ z. PathIs slashes z p) (alone (codes "super") refl e3) (super_is slashes 0 ws p w g)
  by false false false true e1 e2 e3 e4 g = free_is slashes (from_package t) ws p (package_free slashes t f e4) w g
  by false false false false e1 e2 e3 e4 g = absurd (no_some p g)

-- ---- the whole path

-- slots, `::`, and slots
slots_then : (a b : List Slot) (ts vs us : List Token) → left a ts ≡ Some (symbol is.ColonColon ∷ vs) → left b vs ≡ Some us → left ((a ++ signed is.ColonColon ∷ []) ++ b) ts ≡ Some us
slots_then a b ts vs us h g =
    left_joined (a ++ signed is.ColonColon ∷ []) b ts
    ∙ (ap (λ z. option_and_then (left b) z) (left_joined a (signed is.ColonColon ∷ []) ts ∙ ap (λ z. option_and_then (left (signed is.ColonColon ∷ [])) z) h) ∙ g)

behind_said : (slashes : Bool) (o : Forest) (ts : List Token) (q : Text) (us : List Token) (x : Label × List Token) → Begins slashes ts (q, us) → path_behind slashes q us ≡ Some x → LeafSaid (a_path slashes) o ts x
behind_said slashes o ts q (symbol is.ColonColon ∷ vs) x b h = by (path_of slashes q (step_words vs).0) refl h where
  steps : StepsSaid vs (step_words vs)
  steps = steps_said vs b.2.1

  by : (r : Option Path) → path_of slashes q (step_words vs).0 ≡ r → where_path r (step_words vs).1 ≡ Some x → LeafSaid (a_path slashes) o ts x
  by None e g = absurd (no_some x g)
  by (Some p) e g =
      let y : PathIs slashes (all_slots slashes q (step_words vs).0) p = path_is slashes q (step_words vs).0 p b.0 steps.0 e in
      subst (λ z. LeafSaid (a_path slashes) o ts z) (of_some (with_rest (path p) (step_words vs).1) x g)
      (when_provided (is_path slashes p) (origin_slots slashes p.origin ++ stepped p.components) ts (step_words vs).1 y.0
      (ap (λ ss. left ss ts) (turned y.1) ∙ slots_then (parted is.Slash (package_words slashes q)) (stepped (step_words vs).0) ts vs (step_words vs).1 b.1 steps.1))
behind_said slashes o ts q us x b h = absurd (no_some x h)

-- a path that begins with a word
pub path_said : (slashes : Bool) (o : Forest) (ts : List Token) (x : Label × List Token) → AreTokens ts → begins_path slashes ts ≡ true → read_leaf (a_path slashes) ts ≡ Some x → LeafSaid (a_path slashes) o ts x
path_said slashes o (name t ∷ ts) x a e h =
    behind_said slashes o (name t ∷ ts) (first_text slashes (name t ∷ ts)).0 (first_text slashes (name t ∷ ts)).1 x (first_said slashes t ts a.0 a.1) h
path_said slashes o ts x a e h = absurd (no_true e)
