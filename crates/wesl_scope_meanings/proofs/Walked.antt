-- The keys that the reader's senses make are what one walk finds.
use Rattle.std.proofs.Common.{◌≡◌, ℕ, zero, suc, ◌+◌, ◌<◌, ◌≤◌, Bool, true, false, ◌&&◌, ◌||◌, Option, Some, None, List, [], ◌∷◌, ◌++◌, length, map, drop, refl, sym, ◌∙◌, ap, subst, arith, append_assoc}
use Rattle.std.specs.Prelude.{bytes_eq, if◌then◌else◌}
use Rattle.std.specs.List.{list_any}
use Rattle.std.proofs.lemmas.List.Folds.{list_any-append}
use Rattle.wesl_tree_names.specs.Path.{Text, Path}
use Rattle.wesl_tree_syntax.specs.Unit.{name_in}
use Rattle.wesl_scope_occurrences.specs.Occurrences.{Block, Standing, module_name, parameter, local, reference, word, is_module_name}
use Rattle.wesl_scope_occurrences.specs.Walk.{Here, Found, ended_as, ended_at}
use Rattle.wesl_scope_occurrences.specs.Events.{Event, begins, meets, opens, closes, ends, paths_met}
use Rattle.wesl_scope_occurrences.specs.Collected.{Collected, last_ended, collecting, collected}
use Rattle.wesl_scope_occurrences.specs.Laws.{renamed}
use Rattle.wesl_scope_occurrences.specs.Ways.{told}
use Rattle.wesl_scope_open.specs.Open.{read_in, or_module, keys_met, is_declared_by}
use Rattle.wesl_scope_open.specs.Named.{event_as}
use Rattle.wesl_scope_open.specs.Matched.{AreMetBelow}
use Rattle.wesl_scope_open.specs.Scopes.{Key}
use Rattle.wesl_scope_meanings.specs.Sensed.{Sense, declared_in, of_block, of_module, of_none, by_path, number_in, path_count, path_total, reading, sense_by, sense_met, Sensed, with_known, sensing, sensed}
use Rattle.wesl_scope_meanings.specs.Senses.{first_path, by_name, key_in, keys_in}

-- ---- paths
drop_more : {X : Type 0} (m n : ℕ) (xs : List X) → drop (m + n) xs ≡ drop n (drop m xs)
drop_more zero n xs = let e : zero + n ≡ n = omega arith in ap (λ k. drop k xs) e
drop_more (suc m) n [] = let e : suc m + n ≡ suc (m + n) = omega arith in ap (λ k. drop k []) e ∙ sym (none n)
  where
    none : {X : Type 0} (k : ℕ) → drop {A = X} k [] ≡ []
    none zero = refl
    none (suc k) = refl
drop_more (suc m) n (x ∷ xs) = let e : suc m + n ≡ suc (m + n) = omega arith in ap (λ k. drop k (x ∷ xs)) e ∙ drop_more m n xs

pub total_one : (ss : List Sense) (x : Sense) → path_total (ss ++ x ∷ []) ≡ path_total ss + path_count x
total_one [] x = omega arith
total_one (s ∷ ss) x = omega (arith, total_one ss x)

path_few : (s : Sense) → path_count s ≤ 1
path_few (declared_in b i) = omega arith
path_few (of_block b i) = omega arith
path_few (of_module i) = omega arith
path_few (of_none i) = omega arith
path_few (by_path n i) = omega arith

-- paths are no more than identifiers
pub total_few : (ss : List Sense) → path_total ss ≤ length ss
total_few [] = omega arith
total_few (s ∷ ss) = omega (arith, path_few s, total_few ss)

-- those that are left after one more
paths_then : (ps qs : List Path) (ss : List Sense) (x : Sense) → drop (path_total ss) ps ≡ qs → drop (path_total (ss ++ x ∷ [])) ps ≡ drop (path_count x) qs
paths_then ps qs ss x h = ap (λ k. drop k ps) (total_one ss x) ∙ (drop_more (path_total ss) (path_count x) ps ∙ ap (drop (path_count x)) h)

-- ---- senses
module _ (names : List Text) where
  -- those that the events add
  abbrev pub more : Sensed → List Event → List Sense
  more s [] = []
  more s (begins ∷ es) = more (sensing names s begins) es
  more s (meets here r i ∷ es) = sense_met names s here r i ∷ more (sensing names s (meets here r i)) es
  more s (opens ∷ es) = more (sensing names s opens) es
  more s (closes ∷ es) = more (sensing names s closes) es
  more s (ends here i ∷ es) = more (sensing names s (ends here i)) es

  pub senses_more : (s : Sensed) (es : List Event) → (sensed names s es).senses ≡ s.senses ++ more s es
  senses_more s [] = sym (end s.senses)
    where
      end : {X : Type 0} (xs : List X) → xs ++ [] ≡ xs
      end [] = refl
      end (x ∷ xs) = ap (λ ys. x ∷ ys) (end xs)
  senses_more s (begins ∷ es) = senses_more (sensing names s begins) es
  senses_more s (meets here r i ∷ es) = senses_more (sensing names s (meets here r i)) es ∙ append_assoc s.senses (sense_met names s here r i ∷ []) (more (sensing names s (meets here r i)) es)
  senses_more s (opens ∷ es) = senses_more (sensing names s opens) es
  senses_more s (closes ∷ es) = senses_more (sensing names s closes) es
  senses_more s (ends here i ∷ es) = senses_more (sensing names s (ends here i)) es

  -- their numbers are those that are met
  pub number_sensed : (n : ℕ) (read : Option ℕ) (here : Here) (r : Standing) (i : ℕ) → number_in (sense_by n read here r i) ≡ i
  number_sensed n read here module_name i = refl
  number_sensed n read here parameter i = refl
  number_sensed n read here (local e) i = refl
  number_sensed n read here (reference (Some p)) i = refl
  number_sensed n read here (reference None) i = by (read_in here read)
    where
      by : (o : Option ℕ) → number_in (reading i o) ≡ i
      by (Some b) = refl
      by None = refl
  number_sensed n read here word i = refl

  abbrev pub AllBelow : ℕ → List Sense → Type 0
  AllBelow n [] = Unit {0}
  AllBelow n (s ∷ ss) = (number_in s < n) × AllBelow n ss

  pub more_below : (n : ℕ) (s : Sensed) (es : List Event) → AreMetBelow n es → AllBelow n (more s es)
  more_below n s [] h = tt
  more_below n s (begins ∷ es) h = more_below n (sensing names s begins) es h.1
  more_below n s (meets here r i ∷ es) h =
      (subst (λ x. x < n) (sym (number_sensed (path_total s.senses) (s.binders.reads (name_in names i)) here r i)) h.0, more_below n (sensing names s (meets here r i)) es h.1)
  more_below n s (opens ∷ es) h = more_below n (sensing names s opens) es h.1
  more_below n s (closes ∷ es) h = more_below n (sensing names s closes) es h.1
  more_below n s (ends here i ∷ es) h = more_below n (sensing names s (ends here i)) es h.1

  -- ---- keys
  module _ (n : ℕ) (known : Text → Bool) (test : ℕ → Bool) (ps : List Path) (agree : (i : ℕ) → i < n → test i ≡ known (name_in names i)) where
    read_key : (i : ℕ) (o : Option ℕ) → i < n → key_in test names ps (reading i o) ≡ or_module (known (name_in names i)) (name_in names i) o
    read_key i (Some b) h = refl
    read_key i None h = ap (λ b. or_module b (name_in names i) None) (agree i h)

    read_paths : (i : ℕ) (o : Option ℕ) (qs : List Path) → drop (path_count (reading i o)) qs ≡ qs
    read_paths i (Some b) qs = refl
    read_paths i None qs = refl

    -- the keys of one identifier and those after it
    key_then : (s : Sensed) (here : Here) (r : Standing) (i : ℕ) (es : List Event) (k : Key) (ks : List Key) → key_in test names ps (sense_met names s here r i) ≡ k → keys_in test names ps (more (sensing names s (meets here r i)) es) ≡ ks
        → keys_in test names ps (more s (meets here r i ∷ es)) ≡ k ∷ ks
    key_then s here r i es k ks e f = ap (λ x. x ∷ keys_in test names ps (more (sensing names s (meets here r i)) es)) e ∙ ap (λ xs. k ∷ xs) f

    pub keys_more : (s : Sensed) (es : List Event) → AreMetBelow n es → drop (path_total s.senses) ps ≡ paths_met es → keys_in test names ps (more s es) ≡ keys_met known s.binders (map (event_as (name_in names)) es)
    keys_more s [] h p = refl
    keys_more s (begins ∷ es) h p = keys_more (sensing names s begins) es h.1 p
    keys_more s (meets here module_name i ∷ es) h p =
        key_then s here module_name i es _ _ refl (keys_more (sensing names s (meets here module_name i)) es h.1 (paths_then ps (paths_met es) s.senses (sense_met names s here module_name i) p))
    keys_more s (meets here parameter i ∷ es) h p =
        key_then s here parameter i es _ _ refl (keys_more (sensing names s (meets here parameter i)) es h.1 (paths_then ps (paths_met es) s.senses (sense_met names s here parameter i) p))
    keys_more s (meets here (local e) i ∷ es) h p =
        key_then s here (local e) i es _ _ refl (keys_more (sensing names s (meets here (local e) i)) es h.1 (paths_then ps (paths_met es) s.senses (sense_met names s here (local e) i) p))
    keys_more s (meets here (reference (Some q)) i ∷ es) h p =
        key_then s here (reference (Some q)) i es _ _ (ap (λ qs. by_name (name_in names i) (first_path qs)) p)
        (keys_more (sensing names s (meets here (reference (Some q)) i)) es h.1 (paths_then ps (q ∷ paths_met es) s.senses (sense_met names s here (reference (Some q)) i) p))
    keys_more s (meets here (reference None) i ∷ es) h p =
        let o = read_in here (s.binders.reads (name_in names i)) in
        key_then s here (reference None) i es _ _ (read_key i o h.0)
        (keys_more (sensing names s (meets here (reference None) i)) es h.1 (paths_then ps (paths_met es) s.senses (reading i o) p ∙ read_paths i o (paths_met es)))
    keys_more s (meets here word i ∷ es) h p =
        key_then s here word i es _ _ refl (keys_more (sensing names s (meets here word i)) es h.1 (paths_then ps (paths_met es) s.senses (sense_met names s here word i) p))
    keys_more s (opens ∷ es) h p = keys_more (sensing names s opens) es h.1 p
    keys_more s (closes ∷ es) h p = keys_more (sensing names s closes) es h.1 p
    keys_more s (ends here i ∷ es) h p = keys_more (sensing names s (ends here i)) es h.1 p

  -- ---- the names that the module declares
  module _ (n : Text) where
    abbrev declares_in : Found → Bool
    declares_in o = is_module_name o.role && bytes_eq (name_in names o.name) n

    ended_role : (e : ℕ) (r : Standing) → is_module_name (ended_as e r) ≡ is_module_name r
    ended_role e module_name = refl
    ended_role e parameter = refl
    ended_role e (local k) = refl
    ended_role e (reference p) = refl
    ended_role e word = refl

    any_ended : (e p : ℕ) (os : List Found) → list_any declares_in (ended_at e p os) ≡ list_any declares_in os
    any_ended e p [] = refl
    any_ended e zero (o ∷ os) = ap (λ b. (b && bytes_eq (name_in names o.name) n) || list_any declares_in os) (ended_role e o.role)
    any_ended e (suc p) (o ∷ os) = ap (λ b. declares_in o || b) (any_ended e p os)

    any_last : (ps : List ℕ) (c : Collected) → list_any declares_in (last_ended ps c).found ≡ list_any declares_in c.found
    any_last [] c = refl
    any_last (p ∷ ps) c = any_ended (length c.found) p c.found

    one_known : (r : Standing) (x : Text) (known : Text → Bool) → with_known r x known n ≡ (known n || ((is_module_name r && bytes_eq x n) || false))
    one_known module_name x known = by (bytes_eq x n) (known n)
      where
        by : (a b : Bool) → (if a then true else b) ≡ (b || (a || false))
        by true true = refl
        by true false = refl
        by false true = refl
        by false false = refl
    one_known parameter x known = same (known n)
      where
        same : (b : Bool) → b ≡ (b || false)
        same true = refl
        same false = refl
    one_known (local e) x known = same (known n)
      where
        same : (b : Bool) → b ≡ (b || false)
        same true = refl
        same false = refl
    one_known (reference p) x known = same (known n)
      where
        same : (b : Bool) → b ≡ (b || false)
        same true = refl
        same false = refl
    one_known word x known = same (known n)
      where
        same : (b : Bool) → b ≡ (b || false)
        same true = refl
        same false = refl

    pub known_by : (s : Sensed) (c : Collected) (es : List Event) → s.known n ≡ list_any declares_in c.found → (sensed names s es).known n ≡ list_any declares_in (collected c es).found
    known_by s c [] h = h
    known_by s c (begins ∷ es) h = known_by (sensing names s begins) (collecting c begins) es h
    known_by s c (meets here r i ∷ es) h =
        known_by (sensing names s (meets here r i)) (collecting c (meets here r i)) es
        (one_known r (name_in names i) s.known
        ∙ (ap (λ b. b || ((is_module_name r && bytes_eq (name_in names i) n) || false)) h
        ∙ sym (list_any-append declares_in c.found (record { role = r; name = i; place = length c.found; block = here.block; declaration = here.declaration; excused = here.excused } ∷ []))))
    known_by s c (opens ∷ es) h = known_by (sensing names s opens) c es h
    known_by s c (closes ∷ es) h = known_by (sensing names s closes) c es h
    known_by s c (ends here i ∷ es) h = known_by (sensing names s (ends here i)) (last_ended c.naming c) es (h ∙ sym (any_last c.naming c))

    pub declared_so : (w : ℕ → Block) (os : List Found) → is_declared_by (map (renamed (name_in names)) (map (told w) os)) n ≡ list_any declares_in os
    declared_so w [] = refl
    declared_so w (o ∷ os) = ap (λ b. declares_in o || b) (declared_so w os)
