-- What is told by the table of rivals is what plain scoping says of the words.
use Rattle.std.proofs.Common.{◌≡◌, ℕ, zero, suc, Bool, true, false, cond, ◌&&◌, ◌<◌, List, [], ◌∷◌, ◌++◌, length, map, get_or, refl, sym, ap, ap₂, ◌∙◌, arith, subst, Option, None, Some}
use Rattle.std.specs.Prelude.{◌==◌, bytes_eq, if◌then◌else◌}
use Rattle.std.specs.List.{All, cons_option, filter, find, flat_map, list_any, zip}
use Rattle.std.specs.Option.{option_map, option_or, option_to_list}
use Rattle.std.proofs.lemmas.Bool.Decides.{Decides-eqb}
use Rattle.std.proofs.lemmas.List.{length-map}
use Rattle.std.proofs.lemmas.Slice.Eq.{bytes_eq-Decides}
use Rattle.wesl_tree_names.specs.Path.{Text}
use Rattle.wesl_tree_syntax.specs.Unit.{UnitView, name_in, spelled, trees_of}
use Rattle.wesl_tree_syntax.specs.declared.declaration.AddressSpace.{AddressSpace}
use Rattle.wesl_tree_syntax.specs.declared.declaration.AddressSpace.TheVariants as spaces
use Rattle.wesl_tree_syntax.specs.declared.declaration.AccessMode.{AccessMode}
use Rattle.wesl_tree_syntax.specs.declared.declaration.AccessMode.TheVariants as modes
use Rattle.wesl_text_form.specs.Operators.{access_word, space_word}
use Rattle.wesl_scope_occurrences.specs.Laws.{renamed}
use Rattle.wesl_scope_occurrences.specs.Occurrences as spec
use Rattle.wesl_scope_occurrences.specs.Occurrences.{Block, Standing, is_binder, local, module_name, occurrences, parameter, reference, word}
use Rattle.wesl_scope_occurrences.specs.Views.{occurrence_view, standing_view}
use Rattle.wesl_scope_occurrences.specs.Ways.{AreNested, way, told as told_by}
use Rattle.wesl_scope_occurrences.specs.declared.occurrence.Occurrence.{Occurrence}
use Rattle.wesl_scope_occurrences.proofs.Joined.{Each, way_module, way_unfolds}
use Rattle.wesl_scope_occurrences.proofs.Respelled.{spelled_occurrences}
use Rattle.wesl_scope_open.specs.Scopes.{binder_of, binds, is_visible}
use Rattle.wesl_scope_open.proofs.Runs.{apart}
use Rattle.wesl_scope_words.specs.Said.{Memory, every_word, memory_words, sayings}
use Rattle.wesl_scope_words.specs.Captured.{binder_at, captured, clash_view, number_in, read_as, told, word_clashes}
use Rattle.wesl_scope_words.specs.Finding.{FindsAs, IsKnown, Look, all_told, declares, of_name, of_names, read_outwards, seen, told as told_from, word_told, words_told}
use Rattle.wesl_scope_words.specs.declared.clash.Binder.{Binder}
use Rattle.wesl_scope_words.specs.declared.clash.WordClash.{WordClash}
use Rattle.wesl_scope_words.proofs.Counted.{as_many_binders}
use Rattle.wesl_scope_words.proofs.Places.{each_stands}
use Rattle.wesl_scope_words.proofs.Reading.{or_mapped}

-- ---- words
abbrev IsWord : Text → Type 0
IsWord w = list_any (bytes_eq w) every_word ≡ true

spelled_so : (n : Text) (w : Text) → IsWord w → bytes_eq n w ≡ true → IsWord n
spelled_so n w h e = subst IsWord (sym ((bytes_eq-Decides n w).0 e)) h

space_known : (s : AddressSpace) → IsWord (space_word s)
space_known spaces.Function = refl
space_known spaces.Private = refl
space_known spaces.Workgroup = refl
space_known spaces.Uniform = refl
space_known spaces.Storage = refl
space_known spaces.Handle = refl

mode_known : (a : AccessMode) → IsWord (access_word a)
mode_known modes.Read = refl
mode_known modes.Write = refl
mode_known modes.ReadWrite = refl

words_known : (m : Memory) → Each IsWord (memory_words m)
words_known None = tt
words_known (Some m) = (space_known m.0, by m.1)
  where
    by : (a : Option AccessMode) → Each IsWord (option_to_list (option_map access_word a))
    by None = tt
    by (Some a) = (mode_known a, tt)

visible_binds : (p : ℕ) (r : Standing) → is_visible p r ≡ true → is_binder r ≡ true
visible_binds p module_name h = refl
visible_binds p parameter h = refl
visible_binds p (local e) h = refl
visible_binds p (reference by) h = h
visible_binds p word h = h

-- ---- lists
filter_map_as : {X Y : Type 0} (f : X → Y) (p : Y → Bool) (xs : List X) → map f (filter (λ x. p (f x)) xs) ≡ filter p (map f xs)
filter_map_as f p [] = refl
filter_map_as f p (x ∷ xs) = by (p (f x)) (filter_map_as f p xs)
  where
    by : (t : Bool) → map f (filter (λ x. p (f x)) xs) ≡ filter p (map f xs) → map f (cond t (x ∷ filter (λ x. p (f x)) xs) (filter (λ x. p (f x)) xs)) ≡ cond t (f x ∷ filter p (map f xs)) (filter p (map f xs))
    by true e = ap (λ l. f x ∷ l) e
    by false e = e

each_mapped : {X Y : Type 0} (P : Y → Type 0) (f : X → Y) (xs : List X) → Each P (map f xs) → Each (λ x. P (f x)) xs
each_mapped P f [] h = tt
each_mapped P f (x ∷ xs) h = (h.0, each_mapped P f xs h.1)

map_twice : {X Y Z : Type 0} (f : X → Y) (g : Y → Z) (xs : List X) → map g (map f xs) ≡ map (λ x. g (f x)) xs
map_twice f g [] = refl
map_twice f g (x ∷ xs) = ap (λ l. g (f x) ∷ l) (map_twice f g xs)

option_twice : {X Y Z : Type 0} (f : X → Y) (g : Y → Z) (o : Option X) → option_map g (option_map f o) ≡ option_map (λ x. g (f x)) o
option_twice f g None = refl
option_twice f g (Some x) = refl

-- ---- blocks
abbrev head_of : Block → ℕ
head_of [] = 0
head_of (k ∷ b) = k

module _ (outer : List ℕ) (nested : AreNested outer) where
  -- a block has its own number
  numbered : (b : ℕ) → b < length outer → head_of (way outer b) ≡ b
  numbered zero h = ap head_of (way_module outer h)
  numbered (suc b) h = ap head_of (way_unfolds outer (suc b) nested (omega arith) h)

  -- so blocks with one number have one way, and others have others
  one_way : (a b : ℕ) → a < length outer → b < length outer → (a == b) ≡ bytes_eq (way outer a) (way outer b)
  one_way a b ha hb = by (a == b) refl
    where
      by : (t : Bool) → (a == b) ≡ t → t ≡ bytes_eq (way outer a) (way outer b)
      by true e = let same : a ≡ b = (Decides-eqb a b).0 e in sym ((bytes_eq-Decides (way outer a) (way outer b)).1 (ap (way outer) same))
      by false e =
          sym (apart (way outer a) (way outer b)
          (λ s. let same : a ≡ b = sym (numbered a ha) ∙ ap head_of s ∙ numbered b hb in let z : true ≡ false = sym ((Decides-eqb a b).1 same) ∙ e in let w : ⊥ = cc in w))

-- ---- what is found
tests : (i d s v n t : Bool) → s ≡ t → (v ≡ true → i ≡ true) → (n ≡ true → d ≡ true) → ((i && d) && (s && (v && n))) ≡ (v && (n && t))
tests false d s false n t e f g = refl
tests false d s true n t e f g = absurd (let z : false ≡ true = f refl in let w : ⊥ = cc in w)
tests true false s v true t e f g = absurd (let z : false ≡ true = g refl in let w : ⊥ = cc in w)
tests true false s true false t e f g = refl
tests true false s false false t e f g = refl
tests true true true true true t e f g = e
tests true true false true true t e f g = e
tests true true true true false t e f g = refl
tests true true false true false t e f g = refl
tests true true true false n t e f g = refl
tests true true false false n t e f g = refl

module _ (names : List Text) (number : ℕ → ℕ) (outer : List ℕ) (nested : AreNested outer) where
  -- an identifier as it is spelled, and what is told of one
  abbrev text : Occurrence → spec.Occurrence Text
  text o = renamed (name_in names) (seen outer o)

  abbrev tell : spec.Occurrence Text → Binder
  tell o = binder_at (number o.place) o.place

  -- it has a block, and its number
  abbrev IsRight : Occurrence → Type 0
  IsRight o = (o.block < length outer) × (number o.place ≡ o.ident.0)

  module _ (w : Text) (is_word : IsWord w) (p : ℕ) where
    one_found : (b : ℕ) → b < length outer → (o : Occurrence) → IsRight o → of_name names o b w p ≡ (if binds (way outer b) w p (text o) then Some (tell (text o)) else None)
    one_found b hb o h =
        ap (λ t. if t then Some (binder_at o.ident.0 o.place) else None)
        (tests (declares o) (list_any (bytes_eq (name_in names o.ident.0)) every_word) (o.block == b) (is_visible p (standing_view o.standing)) (bytes_eq (name_in names o.ident.0) w) (bytes_eq (way outer o.block) (way outer b))
        (one_way outer nested o.block b h.0 hb) (visible_binds p (standing_view o.standing)) (spelled_so (name_in names o.ident.0) w is_word))
        ∙ ap (λ n. if binds (way outer b) w p (text o) then Some (binder_at n o.place) else None) (sym h.1)

    all_found : (b : ℕ) → b < length outer → (os : List Occurrence) → Each IsRight os → of_names names os b w p ≡ option_map tell (find (binds (way outer b) w p) (map text os))
    all_found b hb [] h = refl
    all_found b hb (o ∷ os) h =
        ap₂ option_or (one_found b hb o h.0) (all_found b hb os h.1) ∙ by (binds (way outer b) w p (text o))
      where
        by : (t : Bool) → option_or (if t then Some (tell (text o)) else None) (option_map tell (find (binds (way outer b) w p) (map text os))) ≡ option_map tell (cond t (Some (text o)) (find (binds (way outer b) w p) (map text os)))
        by true = refl
        by false = refl

    module _ (all : List Occurrence) (right : Each IsRight all) (f : Look) (finds : FindsAs f (of_names names all)) where
      here_found : (b : ℕ) → b < length outer → f b w p ≡ option_map tell (find (binds (way outer b) w p) (map text all))
      here_found b hb = finds b w p ∙ all_found b hb all right

      -- from a block outwards
      outwards_found : (n b : ℕ) → b < n → b < length outer → read_outwards f w p (way outer b) ≡ option_map tell (binder_of (map text all) w p (way outer b))
      outwards_found zero b l hb = absurd (omega (arith, l))
      outwards_found (suc n) zero l hb =
          let is = way_module outer hb in
          subst (λ k. read_outwards f w p k ≡ option_map tell (binder_of (map text all) w p k)) (sym is)
          (here_found 0 hb ∙ ap (λ k. option_map tell (find (binds k w p) (map text all))) is)
      outwards_found (suc n) (suc b) l hb =
          let is = way_unfolds outer (suc b) nested (omega arith) hb in
          let less = nested (suc b) (omega arith) hb in
          let up = get_or outer (suc b) 0 in
          subst (λ k. read_outwards f w p k ≡ option_map tell (binder_of (map text all) w p k)) (sym is)
          (ap₂ option_or (here_found (suc b) hb ∙ ap (λ k. option_map tell (find (binds k w p) (map text all))) is) (outwards_found n up (omega (arith, l, less)) (omega (arith, hb, less)))
          ∙ sym (or_mapped tell (find (binds (suc b ∷ way outer up) w p) (map text all)) (binder_of (map text all) w p (way outer up))))

-- ---- what is told
module _ (u : UnitView) (outer : List ℕ) (nested : AreNested outer) (all : List Occurrence) (right : Each (IsRight u.names (number_in u) outer nested) all) (same : map (text u.names (number_in u) outer nested) all ≡ occurrences (spelled u)) (f : Look) (finds : FindsAs f (of_names u.names all)) where
  word_is : (v : Occurrence) → v.block < length outer → (w : Text) → IsWord w → word_told u.names f (seen outer v) w ≡ option_map (told u (seen outer v) w) (read_as u (seen outer v) w)
  word_is v hv w h =
      ap (option_map (told_from u.names f (seen outer v) w))
      (outwards_found u.names (number_in u) outer nested w h v.place all right f finds (suc v.block) v.block (omega arith) hv
      ∙ ap (λ os. option_map (tell u.names (number_in u) outer nested) (binder_of os w v.place (way outer v.block))) same)
      ∙ option_twice (tell u.names (number_in u) outer nested) (told_from u.names f (seen outer v) w) (read_as u (seen outer v) w)

  words_are : (v : Occurrence) → v.block < length outer → (ws : List Text) → Each IsWord ws → words_told u.names f (ws, seen outer v) ≡ captured u (ws, seen outer v)
  words_are v hv [] h = refl
  words_are v hv (w ∷ ws) h = ap₂ cons_option (word_is v hv w h.0) (words_are v hv ws h.1)

  pub all_are : (ms : List Memory) (vs : List Occurrence) → All (λ v. v.block < length outer) vs → all_told u.names f outer ms vs ≡ flat_map (captured u) (zip (map memory_words ms) (map (seen outer) vs))
  all_are [] vs h = refl
  all_are (m ∷ ms) [] h = refl
  all_are (m ∷ ms) (v ∷ vs) h =
      ap₂ (λ a b. a ++ b) (words_are v (h 0 v (omega arith)) (memory_words m) (words_known m)) (all_are ms vs (λ k d l. h (suc k) d (omega (arith, l))))

-- ---- of a whole module
seen_all : (outer : List ℕ) (all : List Occurrence) → map (told_by (way outer)) (map occurrence_view all) ≡ map (seen outer) all
seen_all outer all = map_twice occurrence_view (told_by (way outer)) all

seen_binders : (outer : List ℕ) (all : List Occurrence) → map (seen outer) (filter declares all) ≡ filter (λ o. is_binder o.role) (map (seen outer) all)
seen_binders outer all = filter_map_as (seen outer) (λ o. is_binder o.role) all

pub known_all : (names : List Text) (outer : List ℕ) (all : List Occurrence) → All (λ o. o.ident.0 < length names) all → All (λ o. o.block < length outer) all → All (IsKnown names outer) all
known_all names outer all n b = λ k d l. (n k d l, b k d l)

pub known_at : (n names : List Text) (o outer : List ℕ) (vs all : List Occurrence) → n ≡ names → o ≡ outer → vs ≡ all → All (IsKnown names outer) all → All (IsKnown n o) vs
known_at n names o outer vs all n_is o_is vs_is h = rw (n_is, o_is, vs_is) h

each_right : (names : List Text) (number : ℕ → ℕ) (outer : List ℕ) (nested : AreNested outer) (all : List Occurrence) → All (λ o. o.block < length outer) all → Each (λ o. number o.place ≡ o.name) (map (seen outer) all) → Each (IsRight names number outer nested) all
each_right names number outer nested [] b h = tt
each_right names number outer nested (o ∷ all) b h = ((b 0 o (omega arith), h.0), each_right names number outer nested all (λ k d l. b (suc k) d (omega (arith, l))) h.1)

module _ (u : UnitView) (outer : List ℕ) (all : List Occurrence) (ms : List Memory) (found : map (told_by (way outer)) (map occurrence_view all) ≡ occurrences (trees_of u)) (said : map memory_words ms ≡ sayings (trees_of u)) where
  module_seen : map (seen outer) all ≡ occurrences (trees_of u)
  module_seen = sym (seen_all outer all) ∙ found

  pub told_module : (nested : AreNested outer) → All (λ o. o.block < length outer) all → All (λ o. o.block < length outer) (filter declares all) → (f : Look) → FindsAs f (of_names u.names all) → all_told u.names f outer ms (filter declares all) ≡ word_clashes u
  told_module nested blocks declared f finds =
      all_are u outer nested all
      (each_right u.names (number_in u) outer nested all blocks (subst (Each (λ o. number_in u o.place ≡ o.name)) (sym module_seen) (each_stands u)))
      (sym (map_twice (seen outer) (renamed (name_in u.names)) all) ∙ (ap (map (renamed (name_in u.names))) module_seen ∙ sym (spelled_occurrences u)))
      f finds ms (filter declares all) declared
      ∙ ap₂ (λ ws ds. flat_map (captured u) (zip ws ds)) said (seen_binders outer all ∙ ap (filter (λ o. is_binder o.role)) module_seen)

  pub as_many_said : length ms ≡ length (filter declares all)
  as_many_said =
      sym (length-map ms memory_words) ∙ (ap length said ∙ (as_many_binders (trees_of u)
      ∙ (sym (ap (λ os. length (filter (λ o. is_binder o.role) os)) module_seen) ∙ (sym (ap length (seen_binders outer all)) ∙ length-map (filter declares all) (seen outer)))))

pub told_where : (n names : List Text) (o outer : List ℕ) (f : Look) (m ms : List Memory) (v binders : List Occurrence) → n ≡ names → o ≡ outer → m ≡ ms → v ≡ binders → all_told n f o m v ≡ all_told names f outer ms binders
told_where n names o outer f m ms v binders n_is o_is m_is v_is = rw (n_is, o_is, m_is, v_is) refl

pub none_viewed : (cs : List WordClash) → map clash_view cs ≡ [] → cs ≡ []
none_viewed [] h = refl
none_viewed (c ∷ cs) h = cc
