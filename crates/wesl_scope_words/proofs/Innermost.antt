-- A word is read as a declaration in scope of the innermost block that holds one that is spelled so.
use Rattle.std.proofs.Common.{◌≡◌, ◌<◌, ℕ, zero, suc, Bool, true, false, cond, ◌&&◌, ◌||◌, List, [], ◌∷◌, ◌++◌, length, map, refl, sym, ap, ap₂, ◌∙◌, subst, arith, Option, None, Some}
use Rattle.std.specs.Prelude.{bytes_eq, slice_index_or}
use Rattle.std.specs.List.{Contains, filter, cons_option, find, flat_map, list_any}
use Rattle.std.specs.Option.{is_some, option_map, option_or}
use Rattle.std.proofs.lemmas.Bool.{and_parts}
use Rattle.std.proofs.lemmas.List.{map-append}
use Rattle.std.proofs.lemmas.Slice.Eq.{bytes_eq-Decides}
use Rattle.wesl_tree_names.specs.Path.{Text}
use Rattle.wesl_tree_syntax.specs.Unit.{UnitView, spelled, trees_of}
use Rattle.wesl_scope_occurrences.specs.Occurrences.{Block, Occurrence, occurrences}
use Rattle.wesl_scope_open.specs.Scopes.{binder_of, binds, is_visible}
use Rattle.wesl_scope_words.specs.Captured.{WordClashOf, captured, read_as, spoken, told}
use Rattle.wesl_scope_words.specs.Innermost.{EachInScopeIsTold, EachIsInnermost, has_in_scope, is_within, said_by, said_in}

-- ---- truth values
swapped : (v n e : Bool) → (v && (n && e)) ≡ (n && (v && e))
swapped true n e = refl
swapped false true e = refl
swapped false false e = refl

split_or : (v n e w : Bool) → ((v && (n && e)) || (n && (v && w))) ≡ (n && (v && (e || w)))
split_or true true e w = refl
split_or true false e w = refl
split_or false true e w = refl
split_or false false e w = refl

crossed : (a b c d : Bool) → ((a || b) || (c || d)) ≡ ((a || c) || (b || d))
crossed true b c d = refl
crossed false true true d = refl
crossed false true false d = refl
crossed false false c d = refl

or_true : (a b : Bool) → b ≡ true → (a || b) ≡ true
or_true true b h = refl
or_true false b h = h

-- ---- searches
module _ {X : Type 0} (p : X → Bool) where
  found_passes : (xs : List X) (x : X) → find p xs ≡ Some x → p x ≡ true
  found_passes [] x e = cc
  found_passes (y ∷ xs) x e = by (p y) refl e (found_passes xs x)
    where
      by : (t : Bool) → p y ≡ t → cond t (Some y) (find p xs) ≡ Some x → (find p xs ≡ Some x → p x ≡ true) → p x ≡ true
      by true h f r = let z : y ≡ x = cc in ap p (sym z) ∙ h
      by false h f r = r f

  found_there : (xs : List X) (x : X) → find p xs ≡ Some x → Contains xs x
  found_there [] x e = absurd (let z : ⊥ = cc in z)
  found_there (y ∷ xs) x e = by (p y) e (found_there xs x)
    where
      by : (t : Bool) → cond t (Some y) (find p xs) ≡ Some x → (find p xs ≡ Some x → Contains xs x) → Contains (y ∷ xs) x
      by true f r = let z : y ≡ x = cc in (0, omega arith, z)
      by false f r = let c = r f in (suc c.0, (let l = c.1 in omega (arith, l)), c.2)

  passed_over : (xs : List X) → find p xs ≡ None → (k : ℕ) (d : X) → k < length xs → p (slice_index_or xs k d) ≡ false
  passed_over [] e k d l = absurd (omega (arith, l))
  passed_over (y ∷ xs) e k d l = by (p y) refl e k l (passed_over xs)
    where
      by : (t : Bool) → p y ≡ t → cond t (Some y) (find p xs) ≡ None → (k : ℕ) → k < length (y ∷ xs) → (find p xs ≡ None → (k : ℕ) (d : X) → k < length xs → p (slice_index_or xs k d) ≡ false) → p (slice_index_or (y ∷ xs) k d) ≡ false
      by true h f k m more = absurd (let z : ⊥ = cc in z)
      by false h f zero m more = h
      by false h f (suc k) m more = more f k d (omega (arith, m))

  found_any : (xs : List X) → is_some (find p xs) ≡ list_any p xs
  found_any [] = refl
  found_any (y ∷ xs) = by (p y) (found_any xs)
    where
      by : (t : Bool) → is_some (find p xs) ≡ list_any p xs → is_some (cond t (Some y) (find p xs)) ≡ (t || list_any p xs)
      by true e = refl
      by false e = e

  any_or : (g h : X → Bool) → ((x : X) → (p x || g x) ≡ h x) → (xs : List X) → (list_any p xs || list_any g xs) ≡ list_any h xs
  any_or g h e [] = refl
  any_or g h e (x ∷ xs) = crossed (p x) (list_any p xs) (g x) (list_any g xs) ∙ ap₂ (λ a b. a || b) (e x) (any_or g h e xs)

  any_same : (g : X → Bool) → ((x : X) → p x ≡ g x) → (xs : List X) → list_any p xs ≡ list_any g xs
  any_same g e [] = refl
  any_same g e (x ∷ xs) = ap₂ (λ a b. a || b) (e x) (any_same g e xs)

some_or : {X : Type 0} (a b : Option X) → is_some (option_or a b) ≡ (is_some a || is_some b)
some_or None b = refl
some_or (Some x) b = refl

-- ---- one word at one place
module _ (all : List (Occurrence Text)) (w : Text) (p : ℕ) where
  -- whether o is spelled so and in scope at a place of block b
  abbrev is_meant : Block → Occurrence Text → Bool
  is_meant b o = bytes_eq o.name w && (is_visible p o.role && is_within o.block b)

  -- of a block itself, and of those round it
  in_whole : (o : Occurrence Text) → binds [] w p o ≡ is_meant [] o
  in_whole o = swapped (is_visible p o.role) (bytes_eq o.name w) (bytes_eq o.block [])

  in_block : (k : ℕ) (outer : Block) (o : Occurrence Text) → (binds (k ∷ outer) w p o || is_meant outer o) ≡ is_meant (k ∷ outer) o
  in_block k outer o = split_or (is_visible p o.role) (bytes_eq o.name w) (bytes_eq o.block (k ∷ outer)) (is_within o.block outer)

  -- it means a declaration where one is
  pub found_meant : (b : Block) → is_some (binder_of all w p b) ≡ list_any (is_meant b) all
  found_meant [] = found_any (binds [] w p) all ∙ any_same (binds [] w p) (is_meant []) in_whole all
  found_meant (k ∷ outer) =
      some_or (find (binds (k ∷ outer) w p) all) (binder_of all w p outer)
      ∙ (ap₂ (λ a b. a || b) (found_any (binds (k ∷ outer) w p) all) (found_meant outer)
      ∙ any_or (binds (k ∷ outer) w p) (is_meant outer) (is_meant (k ∷ outer)) (in_block k outer) all)

  pub record Innermost (block : Block) (b : Occurrence Text) : Type 0 where
    pub there : Contains all b
    pub in_scope : is_meant block b ≡ true
    pub innermost : (k : ℕ) (d : Occurrence Text) → k < length all → is_meant block (slice_index_or all k d) ≡ true → is_within (slice_index_or all k d).block b.block ≡ true

  its_block : (block : Block) (o : Occurrence Text) → binds block w p o ≡ true → o.block ≡ block
  its_block block o h =
      let rest = (and_parts (is_visible p o.role) (bytes_eq o.name w && bytes_eq o.block block) h).1 in
      (bytes_eq-Decides o.block block).0 (and_parts (bytes_eq o.name w) (bytes_eq o.block block) rest).1

  within : (block : Block) (o : Occurrence Text) → is_meant block o ≡ true → is_within o.block block ≡ true
  within block o h =
      let rest = (and_parts (bytes_eq o.name w) (is_visible p o.role && is_within o.block block) h).1 in
      (and_parts (is_visible p o.role) (is_within o.block block) rest).1

  -- found in the block itself
  found_here : (block : Block) (b : Occurrence Text) → (binds block w p b ≡ true → is_meant block b ≡ true) → find (binds block w p) all ≡ Some b → Innermost block b
  found_here block b f e =
      let h = found_passes (binds block w p) all b e in
      record {
        there = found_there (binds block w p) all b e;
        in_scope = f h;
        innermost = λ k d l m. subst (λ c. is_within (slice_index_or all k d).block c ≡ true) (sym (its_block block b h)) (within block (slice_index_or all k d) m);
      }

  or_left : (a b : Bool) → a ≡ true → (a || b) ≡ true
  or_left true b h = refl
  or_left false b h = cc

  pub innermost_of : (block : Block) (b : Occurrence Text) → binder_of all w p block ≡ Some b → Innermost block b
  innermost_of [] b e = found_here [] b (λ h. sym (in_whole b) ∙ h) e
  innermost_of (k ∷ outer) b e = by (find (binds (k ∷ outer) w p) all) refl e (innermost_of outer b)
    where
      further : Innermost outer b → find (binds (k ∷ outer) w p) all ≡ None → Innermost (k ∷ outer) b
      further i none = record {
        there = i.there;
        in_scope = sym (in_block k outer b) ∙ or_true (binds (k ∷ outer) w p b) (is_meant outer b) i.in_scope;
        innermost = λ n d l m.
            i.innermost n d l
            (ap (λ t. t || is_meant outer (slice_index_or all n d)) (sym (passed_over (binds (k ∷ outer) w p) all none n d l)) ∙ (in_block k outer (slice_index_or all n d) ∙ m));
      }

      by : (o : Option (Occurrence Text)) → find (binds (k ∷ outer) w p) all ≡ o → option_or o (binder_of all w p outer) ≡ Some b → (binder_of all w p outer ≡ Some b → Innermost outer b) → Innermost (k ∷ outer) b
      by (Some c) f g more =
          let z : c ≡ b = cc in
          found_here (k ∷ outer) b (λ h. sym (in_block k outer b) ∙ or_left (binds (k ∷ outer) w p b) (is_meant outer b) h) (f ∙ ap Some z)
      by None f g more = further (more g) f

pub each_is_innermost : EachIsInnermost
each_is_innermost u v w b e =
    let i = innermost_of (occurrences (spelled u)) w v.place v.block b e in
    record { there = i.there; in_scope = i.in_scope; innermost = i.innermost }

-- ---- the words that are told
told_each : {X Y Z : Type 0} (f : Y → Z) (g : X → List Y) (h : X → List Z) → ((x : X) → map f (g x) ≡ h x) → (xs : List X) → map f (flat_map g xs) ≡ flat_map h xs
told_each f g h e [] = refl
told_each f g h e (x ∷ xs) = map-append f (g x) (flat_map g xs) ∙ ap₂ (λ a b. a ++ b) (e x) (told_each f g h e xs)

module _ (u : UnitView) (v : Occurrence ℕ) where
  told_words : (ws : List Text) → map said_in (captured u (ws, v)) ≡ map (said_by v) (filter (has_in_scope u v) ws)
  told_words [] = refl
  told_words (w ∷ ws) = by (read_as u v w) (has_in_scope u v w) (found_meant (occurrences (spelled u)) w v.place v.block) (told_words ws)
    where
      rest : List WordClashOf
      rest = captured u (ws, v)

      by : (o : Option (Occurrence Text)) (t : Bool) → is_some o ≡ t → map said_in rest ≡ map (said_by v) (filter (has_in_scope u v) ws) → map said_in (cons_option (option_map (told u v w) o) rest) ≡ map (said_by v) (cond t (w ∷ filter (has_in_scope u v) ws) (filter (has_in_scope u v) ws))
      by None false e more = more
      by (Some b) true e more = ap (λ l. said_by v w ∷ l) more
      by None true e more = cc
      by (Some b) false e more = cc

pub each_in_scope_is_told : EachInScopeIsTold
each_in_scope_is_told u = told_each said_in (captured u) (λ s. map (said_by s.1) (filter (has_in_scope u s.1) s.0)) (λ s. told_words u s.1 s.0) (spoken (trees_of u))
