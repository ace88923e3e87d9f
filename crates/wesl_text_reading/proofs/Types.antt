-- Names, paths and types are read.
use Rattle.std.proofs.Common.{◌≡◌, ℕ, zero, suc, Bool, true, false, not, ◌&&◌, ◌||◌, if◌then◌else◌, List, [], ◌∷◌, ◌++◌, Option, Some, None, option_and_then, refl, sym as turned, ap, ◌∙◌, codes, bytes_eq}
use Rattle.std.proofs.lemmas.Slice.Eq.{bytes_eq-Decides}
use Rattle.wesl_tree_base.specs.Pieces.{supers}
use Rattle.wesl_tree_names.specs.Path.{Text, Path, Origin, absolute, relative, from_package}
use Rattle.wesl_tree_syntax.specs.Tree.{kind, path}
use Rattle.wesl_text_tokens.specs.declared.symbol.Symbol.TheVariants as is
use Rattle.wesl_text_tokens.specs.Tokens.{Token, name, symbol}
use Rattle.wesl_text_form.specs.Slots.{Slot, must, behind_token, left}
use Rattle.wesl_text_form.specs.Names.{is_word, is_free, is_name, are_names, is_path, is_origin}
use Rattle.wesl_text_form.specs.Productions.{a_path}
use Rattle.wesl_text_form.specs.Spelling.{Label, Forest, named, signed, stepped, origin_slots, leaf_slots}
use Rattle.wesl_text_reading.specs.Leaves.{are_free, step_words, free_path, super_path, path_of, where_path, read_leaf}
use Rattle.wesl_text_reading.specs.FirstTokens.{begins_name, begins_sign, behind_first}
use Rattle.wesl_text_reading.proofs.Filled.{no_some, of_some, no_true, fill, stands}
use Rattle.wesl_text_reading.proofs.Takes.{where_true}
use Rattle.std.proofs.lemmas.Bool.{and_parts}

-- ---- names that may be used

-- names are free words
pub names_free : (ts : List Text) → are_names ts ≡ true → are_free ts ≡ true
names_free [] h = refl
names_free (t ∷ ts) h =
    let x : (is_name t ≡ true) × (are_names ts ≡ true) = and_parts (is_name t) (are_names ts) h in
    let y : (is_word t ≡ true) × (is_free t ≡ true) = and_parts (is_word t) (is_free t) x.0 in
    ap (λ z. z && are_free ts) y.1 ∙ names_free ts x.1

-- a free word is none of these
pub not_free : (t u : Text) → is_free t ≡ true → is_free u ≡ false → bytes_eq t u ≡ false
not_free t u h k = at (bytes_eq t u) refl where
  at : (b : Bool) → bytes_eq t u ≡ b → b ≡ false
  at false e = refl
  at true e = absurd (no_true (turned k ∙ (ap is_free (turned ((bytes_eq-Decides t u).0 e)) ∙ h)))

-- ---- tokens behind one another

-- a token that must stand, and others
pub must_first : (t : Token) (ss : List Slot) (ts vs : List Token) → left (must t ∷ ss) ts ≡ Some vs → (ws : List Token) × (ts ≡ t ∷ ws) × (left ss ws ≡ Some vs)
must_first t ss ts vs h = at (behind_token t ts) refl h where
  at : (o : Option (List Token)) → behind_token t ts ≡ o → option_and_then (left ss) o ≡ Some vs → (ws : List Token) × (ts ≡ t ∷ ws) × (left ss ws ≡ Some vs)
  at None e g = absurd (no_some vs g)
  at (Some ws) e g = (ws, stands t ts ws e, g)

-- tokens before which no further step stands: no word with `::` behind it
abbrev pub no_step : List Token → Bool
no_step ts = not (begins_name ts && begins_sign is.ColonColon (behind_first ts))

pub no_steps : (ts : List Token) → no_step ts ≡ true → step_words ts ≡ ([], ts)
no_steps (name t ∷ symbol is.ColonColon ∷ ts) h = absurd (no_true h)
no_steps ts h = refl

pub steps_read : (ws : List Text) (ts vs : List Token) → left (stepped ws) ts ≡ Some vs → no_step vs ≡ true → step_words ts ≡ (ws, vs)
steps_read [] ts vs h e = let q : ts ≡ vs = of_some ts vs h in no_steps ts (ap no_step q ∙ e) ∙ ap (λ z. let x : List Text × List Token = ([], z) in x) q
steps_read (w ∷ ws) ts vs h e =
    let x : (us : List Token) × (ts ≡ name w ∷ us) × (left (signed is.ColonColon ∷ stepped ws) us ≡ Some vs) = must_first (name w) (signed is.ColonColon ∷ stepped ws) ts vs h in
    let y : (us : List Token) × (x.0 ≡ symbol is.ColonColon ∷ us) × (left (stepped ws) us ≡ Some vs) = must_first (symbol is.ColonColon) (stepped ws) x.0 vs x.2 in
    ap step_words (x.1 ∙ ap (λ z. name w ∷ z) y.1) ∙ ap (λ z. let p : List Text × List Token = (w ∷ z.0, z.1) in p) (steps_read ws y.0 vs y.2 e)

-- ---- paths without slashes

pub free_is : (o : Origin) (ws : List Text) → are_free ws ≡ true → free_path o ws ≡ Some (record { origin = o; components = ws })
free_is o ws h = ap (λ b. if b then Some (record { origin = o; components = ws }) else None) h

-- one more for each
abbrev up : ℕ → ℕ → ℕ
up zero m = m
up (suc n) m = up n (suc m)

up_suc : (n m : ℕ) → up n (suc m) ≡ suc (up n m)
up_suc zero m = refl
up_suc (suc n) m = up_suc n (suc m)

pub up_one : (n : ℕ) → up n 1 ≡ suc n
up_one n = up_suc n 0 ∙ ap (λ z. suc z) (none n) where
  none : (n : ℕ) → up n 0 ≡ n
  none zero = refl
  none (suc n) = up_suc n 0 ∙ ap (λ z. suc z) (none n)

-- more words `super`, and names
pub supers_read : (n m : ℕ) (ws : List Text) → are_free ws ≡ true → super_path m (supers n ++ ws) ≡ Some (record { origin = relative (up n m); components = ws })
supers_read (suc n) m ws h = supers_read n (suc m) ws h
supers_read zero m [] h = refl
supers_read zero m (w ∷ ws) h =
    ap (λ b. elim b as (λ _. Option Path) [ true ↦ super_path (suc m) ws | false ↦ free_path (relative m) (w ∷ ws) ]) (not_free w (codes "super") (and_parts (is_free w) (are_free ws) h).0 refl)
    ∙ free_is (relative m) (w ∷ ws) h

-- the word that a path begins with, and those of its origin behind it
abbrev pub origin_word : Origin → Text
origin_word absolute = codes "package"
origin_word (relative zero) = codes "self"
origin_word (relative (suc n)) = codes "super"
origin_word (from_package p) = p

abbrev pub origin_rest : Origin → List Text
origin_rest (relative (suc n)) = supers n
origin_rest _ = []

origin_is : (o : Origin) → origin_slots false o ≡ named (origin_word o) ∷ signed is.ColonColon ∷ stepped (origin_rest o)
origin_is absolute = refl
origin_is (relative zero) = refl
origin_is (relative (suc n)) = refl
origin_is (from_package p) = refl

pub stepped_joined : (ws us : List Text) → stepped ws ++ stepped us ≡ stepped (ws ++ us)
stepped_joined [] us = refl
stepped_joined (w ∷ ws) us = ap (λ z. named w ∷ signed is.ColonColon ∷ z) (stepped_joined ws us)

-- words are the path whose they are
path_again : (p : Path) → is_path false p ≡ true → path_of false (origin_word p.origin) (origin_rest p.origin ++ p.components) ≡ Some p
path_again p h = by p.origin p.components (and_parts (is_origin false p.origin) (are_names p.components) h).0 (names_free p.components (and_parts (is_origin false p.origin) (are_names p.components) h).1) where
  by : (o : Origin) (ws : List Text) → is_origin false o ≡ true → are_free ws ≡ true → path_of false (origin_word o) (origin_rest o ++ ws) ≡ Some (record { origin = o; components = ws })
  by absolute ws g f = free_is absolute ws f
  by (relative zero) ws g f = free_is (relative 0) ws f
  by (relative (suc n)) ws g f = supers_read n 1 ws f ∙ ap (λ z. Some (record { origin = relative z; components = ws })) (up_one n)
  by (from_package q) ws g f =
      let free : is_free q ≡ true = (and_parts (is_word q) (is_free q) g).1 in
      ap (λ b. if b then free_path absolute ws else if bytes_eq q (codes "self") then free_path (relative 0) ws else if bytes_eq q (codes "super") then super_path 1 ws else if are_free (q ∷ []) then free_path (from_package q) ws else None) (not_free q (codes "package") free refl)
      ∙ (ap (λ b. if b then free_path (relative 0) ws else if bytes_eq q (codes "super") then super_path 1 ws else if are_free (q ∷ []) then free_path (from_package q) ws else None) (not_free q (codes "self") free refl)
      ∙ (ap (λ b. if b then super_path 1 ws else if are_free (q ∷ []) then free_path (from_package q) ws else None) (not_free q (codes "super") free refl)
      ∙ (ap (λ b. if b then free_path (from_package q) ws else None) (ap (λ z. z && true) free) ∙ free_is (from_package q) ws f)))

-- the tokens of a path begin with its first word and `::`, and others of its words follow
pub path_tokens : (p : Path) (ts vs : List Token) → left (origin_slots false p.origin ++ stepped p.components) ts ≡ Some vs
    → (us : List Token) × (ts ≡ name (origin_word p.origin) ∷ symbol is.ColonColon ∷ us) × (left (stepped (origin_rest p.origin ++ p.components)) us ≡ Some vs)
path_tokens p ts vs h =
    let e : origin_slots false p.origin ++ stepped p.components ≡ named (origin_word p.origin) ∷ signed is.ColonColon ∷ stepped (origin_rest p.origin ++ p.components)
    = ap (λ z. z ++ stepped p.components) (origin_is p.origin) ∙ ap (λ z. named (origin_word p.origin) ∷ signed is.ColonColon ∷ z) (stepped_joined (origin_rest p.origin) p.components) in
    let x : (us : List Token) × (ts ≡ name (origin_word p.origin) ∷ us) × (left (signed is.ColonColon ∷ stepped (origin_rest p.origin ++ p.components)) us ≡ Some vs)
    = must_first (name (origin_word p.origin)) (signed is.ColonColon ∷ stepped (origin_rest p.origin ++ p.components)) ts vs (ap (λ z. left z ts) (turned e) ∙ h) in
    let y : (us : List Token) × (x.0 ≡ symbol is.ColonColon ∷ us) × (left (stepped (origin_rest p.origin ++ p.components)) us ≡ Some vs)
    = must_first (symbol is.ColonColon) (stepped (origin_rest p.origin ++ p.components)) x.0 vs x.2 in
    (y.0, x.1 ∙ ap (λ z. name (origin_word p.origin) ∷ z) y.1, y.2)

-- a path is read
pub path_reads : (l : Label) (o : Forest) (ts vs : List Token) → fill (leaf_slots (a_path false) l o) ts ≡ Some vs → no_step vs ≡ true → read_leaf (a_path false) ts ≡ Some (l, vs)
path_reads (path p) o ts vs h e =
    let x : (is_path false p ≡ true) × (left (origin_slots false p.origin ++ stepped p.components) ts ≡ Some vs) = where_true (is_path false p) (Some (origin_slots false p.origin ++ stepped p.components)) ts vs h in
    let y : (us : List Token) × (ts ≡ name (origin_word p.origin) ∷ symbol is.ColonColon ∷ us) × (left (stepped (origin_rest p.origin ++ p.components)) us ≡ Some vs) = path_tokens p ts vs x.1 in
    ap (λ z. read_leaf (a_path false) z) y.1
    ∙ (ap (λ z. where_path (path_of false (origin_word p.origin) z.0) z.1) (steps_read (origin_rest p.origin ++ p.components) y.0 vs y.2 e)
    ∙ ap (λ z. where_path z vs) (path_again p x.0))
path_reads (kind k) o ts vs h e = absurd (no_some vs h)
path_reads l o ts vs h e = absurd (no_some vs h)

-- a free word is no literal
pub free_no_literal : (t : Text) → is_free t ≡ true → (bytes_eq t (codes "true") || bytes_eq t (codes "false")) ≡ false
free_no_literal t f = ap (λ b. b || bytes_eq t (codes "false")) (not_free t (codes "true") f refl) ∙ not_free t (codes "false") f refl

-- no word of an origin is a literal
pub no_literal : (p : Path) → is_path false p ≡ true → (bytes_eq (origin_word p.origin) (codes "true") || bytes_eq (origin_word p.origin) (codes "false")) ≡ false
no_literal p h = by p.origin (and_parts (is_origin false p.origin) (are_names p.components) h).0 where
  by : (o : Origin) → is_origin false o ≡ true → (bytes_eq (origin_word o) (codes "true") || bytes_eq (origin_word o) (codes "false")) ≡ false
  by absolute g = refl
  by (relative zero) g = refl
  by (relative (suc n)) g = refl
  by (from_package q) g = free_no_literal q (and_parts (is_word q) (is_free q) g).1
