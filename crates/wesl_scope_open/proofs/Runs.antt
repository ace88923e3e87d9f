-- What references read over events, beside plain scoping over identifiers.
use Rattle.std.proofs.Common.{◌≡◌, ℕ, ◌<◌, ◌≤◌, Bool, true, false, ◌||◌, ◌&&◌, Option, Some, None, List, [], ◌∷◌, ◌++◌, map, refl, sym, ◌∙◌, ap, ap₂, arith, ◌⊎◌, inl, inr}
use Rattle.std.specs.Prelude.{bytes_eq, nat_le, if◌then◌else◌}
use Rattle.std.specs.Option.{option_or}
use Rattle.std.specs.List.{find, list_any}
use Rattle.std.proofs.lemmas.Bool.Decides.{leb_tells}
use Rattle.std.proofs.lemmas.Slice.Eq.{bytes_eq-Decides}
use Rattle.wesl_tree_names.specs.Path.{Text}
use Rattle.wesl_scope_occurrences.specs.Occurrences.{Block, Standing, parameter, local, reference, Occurrence}
use Rattle.wesl_scope_occurrences.specs.Walk.{Here}
use Rattle.wesl_scope_occurrences.specs.Events.{EventOf, meets, ends}
use Rattle.wesl_scope_open.specs.Scopes.{Key, is_visible, binds, binder_of, meaning, key_of}
use Rattle.wesl_scope_open.specs.Open.{Readings, Open, stepped, after, of_block, or_module, read_in, key_met, number_of, by_number}
use mathlib.Core.Bool.{and-false}

abbrev pub Every : {X : Type 0} → (X → Type 0) → List X → Type 0
Every P [] = Unit {0}
Every P (x ∷ xs) = P x × Every P xs

pub every_append : {X : Type 0} (P : X → Type 0) (xs ys : List X) → Every P xs → Every P ys → Every P (xs ++ ys)
every_append P [] ys h k = k
every_append P (x ∷ xs) ys h k = (h.0, every_append P xs ys h.1 k)

pub every_so : {X : Type 0} (P Q : X → Type 0) → ((x : X) → P x → Q x) → (xs : List X) → Every P xs → Every Q xs
every_so P Q f [] h = tt
every_so P Q f (x ∷ xs) h = (f x h.0, every_so P Q f xs h.1)

pub append_again : {X : Type 0} (xs ys zs : List X) → (xs ++ ys) ++ zs ≡ xs ++ (ys ++ zs)
append_again [] ys zs = refl
append_again (x ∷ xs) ys zs = ap (λ ws. x ∷ ws) (append_again xs ys zs)

pub map_append : {X Y : Type 0} (f : X → Y) (xs ys : List X) → map f (xs ++ ys) ≡ map f xs ++ map f ys
map_append f [] ys = refl
map_append f (x ∷ xs) ys = ap (λ zs. f x ∷ zs) (map_append f xs ys)

abbrev pub Found : Type 0
Found = Occurrence Text

-- whether a block holds a visible binder of the name at a place, by these identifiers
abbrev pub shows : List Found → Block → Text → ℕ → Bool
shows os w n x = list_any (binds w n x) os

-- the first block outwards, but for the module's, that passes the test
abbrev pub first_in : (Block → Bool) → Block → Option ℕ
first_in t [] = None
first_in t (k ∷ up) = if t (k ∷ up) then Some k else first_in t up

-- what an identifier means by plain scoping
abbrev pub key_at : List Found → Found → Key
key_at all o = by_number (key_of all o)

-- ---- what is read at events
-- what an identifier means, and the block of a function that another name is read as in its place
abbrev pub Sight : Type 0
Sight = Key × Option ℕ

-- what the name n is read as where a reference without a path or a local name stands
abbrev pub read_at : Text → Open → Here → Standing → Option ℕ
read_at n s here (reference None) = read_in here (s.reads n)
read_at n s here (local e) = s.reads n
read_at n s here _ = None

abbrev pub sight : Text → (Text → Bool) → Open → EventOf Text → List Sight
sight n known s (meets here r x) = (key_met known s here r x, read_at n s here r) ∷ []
sight n known s _ = []

abbrev pub sights : Text → (Text → Bool) → Open → List (EventOf Text) → List Sight
sights n known s [] = []
sights n known s (e ∷ es) = sight n known s e ++ sights n known (stepped s e) es

-- the first block outwards from an identifier that shows the name n there
abbrev pub shown_at : Text → List Found → Found → Standing → Option ℕ
shown_at n all o (reference None) = first_in (λ w. shows all w n o.place) o.block
shown_at n all o (local e) = first_in (λ w. shows all w n o.place) o.block
shown_at n all o _ = None

abbrev pub sight_at : Text → List Found → Found → Sight
sight_at n all o = (key_at all o, shown_at n all o o.role)

-- no name is read as of a later block than this one
abbrev pub ReadWithin : Readings → ℕ → Type 0
ReadWithin v b = (n : Text) (c : ℕ) → v n ≡ Some c → c ≤ b

-- a name becomes visible in the block of its declaration where none is read as of a later one
abbrev pub DeclaresWithin : Readings → EventOf Text → Type 0
DeclaresWithin v (meets here parameter x) = ReadWithin v here.block
DeclaresWithin v (ends here x) = ReadWithin v here.block
DeclaresWithin v _ = Unit {0}

abbrev pub AllWithin : Open → List (EventOf Text) → Type 0
AllWithin s [] = Unit {0}
AllWithin s (e ∷ es) = DeclaresWithin s.reads e × AllWithin (stepped s e) es

pub within_append : (s : Open) (es fs : List (EventOf Text)) → AllWithin s es → AllWithin (after s es) fs → AllWithin s (es ++ fs)
within_append s [] fs h k = k
within_append s (e ∷ es) fs h k = (h.0, within_append (stepped s e) es fs h.1 k)

-- ---- lists of binders
pub none_shows : (os : List Found) (w : Block) (n : Text) (x : ℕ) → Every (λ o. binds w n x o ≡ false) os → shows os w n x ≡ false
none_shows [] w n x h = refl
none_shows (o ∷ os) w n x h = ap₂ (λ a b. a || b) h.0 (none_shows os w n x h.1)

pub same_shows : (os : List Found) (w : Block) (n : Text) (x y : ℕ) → Every (λ o. binds w n x o ≡ binds w n y o) os → shows os w n x ≡ shows os w n y
same_shows [] w n x y h = refl
same_shows (o ∷ os) w n x y h = ap₂ (λ a b. a || b) h.0 (same_shows os w n x y h.1)

pub or_again : (a b c : Bool) → ((a || b) || c) ≡ (a || (b || c))
or_again true b c = refl
or_again false b c = refl

pub shows_append : (os us : List Found) (w : Block) (n : Text) (x : ℕ) → shows (os ++ us) w n x ≡ (shows os w n x || shows us w n x)
shows_append [] us w n x = refl
shows_append (o ∷ os) us w n x = ap (λ b. binds w n x o || b) (shows_append os us w n x) ∙ sym (or_again (binds w n x o) (shows os w n x) (shows us w n x))

pub not_le : (a b : ℕ) → b < a → nat_le a b ≡ false
not_le a b h = by (leb_tells a b)
  where
    by : ((nat_le a b ≡ true) × (a ≤ b)) ⊎ ((nat_le a b ≡ false) × (b < a)) → nat_le a b ≡ false
    by (inl k) = let l = k.1 in absurd (omega (arith, h, l))
    by (inr k) = k.0

pub is_le : (a b : ℕ) → a ≤ b → nat_le a b ≡ true
is_le a b h = by (leb_tells a b)
  where
    by : ((nat_le a b ≡ true) × (a ≤ b)) ⊎ ((nat_le a b ≡ false) × (b < a)) → nat_le a b ≡ true
    by (inl k) = k.0
    by (inr k) = let l = k.1 in absurd (omega (arith, h, l))

-- blocks that differ
pub apart : (c w : Block) → (c ≡ w → ⊥) → bytes_eq c w ≡ false
apart c w d = by (bytes_eq c w) refl
  where
    by : (t : Bool) → bytes_eq c w ≡ t → bytes_eq c w ≡ false
    by true e = absurd (d ((bytes_eq-Decides c w).0 e))
    by false e = e

pub elsewhere : (v : Bool) (m n : Text) (c w : Block) → (c ≡ w → ⊥) → (v && (bytes_eq m n && bytes_eq c w)) ≡ false
elsewhere v m n c w d = ap (λ t. v && (bytes_eq m n && t)) (apart c w d) ∙ (ap (λ t. v && t) (and-false (bytes_eq m n)) ∙ and-false v)

-- ---- what an identifier means, by the first block that shows its name
found_key : (os : List Found) (b : Block) (n : Text) (x : ℕ) (rest : Option Found)
    → by_number (meaning n (option_or (find (binds b n x) os) rest)) ≡ (if shows os b n x then of_block (number_of b) n else by_number (meaning n rest))
found_key [] b n x rest = refl
found_key (o ∷ os) b n x rest = by (binds b n x o) refl (found_key os b n x rest)
  where
    in_it : (v m : Bool) → (v && (m && bytes_eq o.block b)) ≡ true → o.block ≡ b
    in_it true true e = (bytes_eq-Decides o.block b).0 e
    in_it true false e = absurd (let z : ⊥ = cc in z)
    in_it false m e = absurd (let z : ⊥ = cc in z)

    by : (t : Bool) → binds b n x o ≡ t
        → by_number (meaning n (option_or (find (binds b n x) os) rest)) ≡ (if shows os b n x then of_block (number_of b) n else by_number (meaning n rest))
        → by_number (meaning n (option_or (find (binds b n x) (o ∷ os)) rest)) ≡ (if shows (o ∷ os) b n x then of_block (number_of b) n else by_number (meaning n rest))
    by true e ih = let f = in_it (is_visible x o.role) (bytes_eq o.name n) e in rw (e, f) refl
    by false e ih = rw (e, ih) refl

pub key_read : (all : List Found) (n : Text) (x : ℕ) (d : Bool) → shows all [] n x ≡ d → (b : Block) → by_number (meaning n (binder_of all n x b)) ≡ or_module d n (first_in (λ w. shows all w n x) b)
key_read all n x d e [] =
    ap by_number (whole (find (binds [] n x) all)) ∙ (found_key all [] n x None ∙ (ap (λ t. if t then of_block 0 n else by_number (meaning n None)) e ∙ declared d))
  where
    whole : (o : Option Found) → meaning n o ≡ meaning n (option_or o None)
    whole None = refl
    whole (Some o) = refl

    declared : (t : Bool) → (if t then of_block 0 n else by_number (meaning n None)) ≡ or_module t n None
    declared true = refl
    declared false = refl
key_read all n x d e (k ∷ up) =
    found_key all (k ∷ up) n x (binder_of all n x up) ∙ (ap (λ y. if shows all (k ∷ up) n x then of_block k n else y) (key_read all n x d e up) ∙ first (shows all (k ∷ up) n x))
  where
    first : (t : Bool) → (if t then of_block k n else or_module d n (first_in (λ w. shows all w n x) up)) ≡ or_module d n (if t then Some k else first_in (λ w. shows all w n x) up)
    first true = refl
    first false = refl
