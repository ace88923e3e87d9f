-- What the walk leaves says what the identifiers are, without a list of them.
use Rattle.std.proofs.Common.{◌≡◌, ℕ, zero, suc, ◌<◌, Bool, true, Option, Some, None, List, [], ◌∷◌, ◌++◌, length, map, refl, sym, ◌∙◌, ap, ap₂, subst, arith, length-append}
use Rattle.std.specs.List.{All}
use Rattle.std.proofs.lemmas.List.{map_push}
use mathlib.Core.List.{map-map}
use Rattle.wesl_tree_names.specs.Path.{Text, Path}
use Rattle.wesl_tree_syntax.specs.Tree.{forest_below, kind, declarations}
use Rattle.wesl_tree_syntax.specs.Unit.{UnitView, forest_of_unit, trees_of, spelled, name_in}
use Rattle.wesl_scope_occurrences.specs.Occurrences.{Block, Standing, module_name, parameter, local, reference, word, Occurrence, occurrences}
use Rattle.wesl_scope_occurrences.specs.Walk.{Here, Found, ended_as, ended_at, outermost, State, walk, all_of, start}
use Rattle.wesl_scope_occurrences.specs.Events.{Event, begins, meets, opens, closes, ends, events, paths_met}
use Rattle.wesl_scope_occurrences.specs.Collected.{Collected, nothing, last_ended, collecting, collected}
use Rattle.wesl_scope_occurrences.specs.Laws.{WaysLeadOutwards, renamed}
use Rattle.wesl_scope_occurrences.specs.Outer.{outers}
use Rattle.wesl_scope_occurrences.specs.Pieces.{starts}
use Rattle.wesl_scope_occurrences.specs.Ways.{AreNested, way, told}
use Rattle.wesl_scope_occurrences.proofs.Collecting.{collected_occurrences, last_length}
use Rattle.wesl_scope_occurrences.proofs.Starting.{collected_starts, last_starts}
use Rattle.wesl_scope_occurrences.proofs.Joined.{Each, InBlocks, whole_joined, way_module, way_unfolds}
use Rattle.wesl_scope_occurrences.proofs.Module.{module_state, state_with}
use Rattle.wesl_scope_occurrences.proofs.Respelled.{spelled_occurrences}
use Rattle.wesl_scope_open.specs.Scopes.{Key, bound, free, qualified, keys}
use Rattle.wesl_scope_open.specs.Open.{unopened, keys_met, is_declared_by, number_of, by_number, read_in}
use Rattle.wesl_scope_open.proofs.Named.{events_spelled}
use Rattle.wesl_scope_open.proofs.Runs.{Every}
use Rattle.wesl_scope_open.proofs.Told.{back, keys_back}
use Rattle.wesl_scope_meanings.specs.Sensed.{Sense, declared_in, of_block, of_module, of_none, by_path, number_in, path_total, reading, sense_by, sense_met, Sensed, unsensed, sensing, sensed}
use Rattle.wesl_scope_meanings.specs.Senses.{sense_view, IsSenseBelow, key_in, keys_in, manner_as, manner_of, manner_in}
use Rattle.wesl_scope_meanings.specs.Read.{name_read, told_by, is_declared_in}
use Rattle.wesl_scope_meanings.specs.Reads.{HasMemory, Reads}
use Rattle.wesl_scope_meanings.specs.Starts.{IsUnread}
use Rattle.wesl_scope_meanings.specs.declared.reader.Reader.{Reader}
use Rattle.wesl_scope_meanings.proofs.Meant.{below, shows, senses_are}
use Rattle.wesl_scope_meanings.proofs.Scoping.{number_of_way}
use Rattle.wesl_scope_meanings.proofs.Walked.{AllBelow, more_below, number_sensed, keys_more}
use Rattle.wesl_scope_meanings.proofs.Within.{all_of as all_every, IsBelow, keys_from}

-- ---- what is read of an identifier is what is collected of it
module _ (names : List Text) {X : Type 0} (f : Sense → X) (g : Found → X) (one : (n : ℕ) (read : Option ℕ) (here : Here) (o : Found) → f (sense_by n read here o.role o.name) ≡ g o) (ended : (e : ℕ) (o : Found) → g (record o { role = ended_as e o.role }) ≡ g o) where
  ended_same : (e p : ℕ) (os : List Found) → map g (ended_at e p os) ≡ map g os
  ended_same e p [] = refl
  ended_same e zero (o ∷ os) = ap (λ x. x ∷ map g os) (ended e o)
  ended_same e (suc p) (o ∷ os) = ap (λ xs. g o ∷ xs) (ended_same e p os)

  last_same : (ps : List ℕ) (c : Collected) → map g (last_ended ps c).found ≡ map g c.found
  last_same [] c = refl
  last_same (p ∷ ps) c = ended_same (length c.found) p c.found

  pub each_same : (s : Sensed) (c : Collected) (es : List Event) → map f s.senses ≡ map g c.found → map f (sensed names s es).senses ≡ map g (collected c es).found
  each_same s c [] h = h
  each_same s c (begins ∷ es) h = each_same (sensing names s begins) (collecting c begins) es h
  each_same s c (meets here r i ∷ es) h =
      let o : Found = record { role = r; name = i; place = length c.found; block = here.block; declaration = here.declaration; excused = here.excused } in
      each_same (sensing names s (meets here r i)) (collecting c (meets here r i)) es
      (map_push f s.senses (sense_met names s here r i) ∙ (ap₂ (λ xs x. xs ++ x ∷ []) h (one (path_total s.senses) (s.binders.reads (name_in names i)) here o) ∙ sym (map_push g c.found o)))
  each_same s c (opens ∷ es) h = each_same (sensing names s opens) c es h
  each_same s c (closes ∷ es) h = each_same (sensing names s closes) c es h
  each_same s c (ends here i ∷ es) h = each_same (sensing names s (ends here i)) (last_ended c.naming c) es (h ∙ sym (last_same c.naming c))

-- and so are the places at which declarations begin
starts_same : (names : List Text) (s : Sensed) (c : Collected) (es : List Event) → length s.senses ≡ length c.found → s.starts ≡ c.starts → (sensed names s es).starts ≡ (collected c es).starts
starts_same names s c [] h e = e
starts_same names s c (begins ∷ es) h e = starts_same names (sensing names s begins) (collecting c begins) es h (ap₂ (λ xs x. xs ++ x ∷ []) e h)
starts_same names s c (meets here r i ∷ es) h e =
    let o : Found = record { role = r; name = i; place = length c.found; block = here.block; declaration = here.declaration; excused = here.excused } in
    starts_same names (sensing names s (meets here r i)) (collecting c (meets here r i)) es (omega (arith, h, length-append s.senses (sense_met names s here r i ∷ []), length-append c.found (o ∷ []))) e
starts_same names s c (opens ∷ es) h e = starts_same names (sensing names s opens) c es h e
starts_same names s c (closes ∷ es) h e = starts_same names (sensing names s closes) c es h e
starts_same names s c (ends here i ∷ es) h e = starts_same names (sensing names s (ends here i)) (last_ended c.naming c) es (h ∙ sym (last_length c.naming c)) (e ∙ sym (last_starts c.naming c))

-- ---- manners
manner_sensed : (n : ℕ) (read : Option ℕ) (here : Here) (i : ℕ) (r : Standing) → manner_in (sense_by n read here r i) ≡ manner_as r
manner_sensed n read here i module_name = refl
manner_sensed n read here i parameter = refl
manner_sensed n read here i (local e) = refl
manner_sensed n read here i (reference (Some p)) = refl
manner_sensed n read here i (reference None) = by (read_in here read)
  where
    by : (o : Option ℕ) → manner_in (reading i o) ≡ manner_as (reference None)
    by (Some b) = refl
    by None = refl
manner_sensed n read here i word = refl

manner_ended : (e : ℕ) (r : Standing) → manner_as (ended_as e r) ≡ manner_as r
manner_ended e module_name = refl
manner_ended e parameter = refl
manner_ended e (local k) = refl
manner_ended e (reference p) = refl
manner_ended e word = refl

-- ---- blocks
module _ (test : ℕ → Bool) (names : List Text) (ps : List Path) (n : ℕ) where
  sense_below : (s : Sense) → IsBelow n (key_in test names ps s) → IsSenseBelow n s
  sense_below (declared_in b i) h = h
  sense_below (of_block b i) h = h
  sense_below (of_module i) h = tt
  sense_below (of_none i) h = tt
  sense_below (by_path k i) h = tt

  every_below : (ss : List Sense) → Every (IsBelow n) (keys_in test names ps ss) → Every (IsSenseBelow n) ss
  every_below [] h = tt
  every_below (s ∷ ss) h = (sense_below s h.0, every_below ss h.1)

module _ (outer : List ℕ) (ns : AreNested outer) (f : ℕ → Text) where
  ways : WaysLeadOutwards
  ways = record { whole = way_module; others = way_unfolds }

  told_way : (xs : List Found) → Each (InBlocks (length outer)) xs → Every (λ o. o.block ≡ way outer (number_of o.block)) (map (renamed f) (map (told (way outer)) xs))
  told_way [] h = tt
  told_way (x ∷ xs) h = (ap (way outer) (sym (number_of_way ways outer x.block ns h.0)), told_way xs h.1)

  within_way : (xs : List Found) → Each (InBlocks (length outer)) xs → Every (λ o. number_of o.block < length outer) (map (renamed f) (map (told (way outer)) xs))
  within_way [] h = tt
  within_way (x ∷ xs) h = (subst (λ b. b < length outer) (sym (number_of_way ways outer x.block ns h.0)) h.0, within_way xs h.1)

-- a key of a sense that is told by its block
module _ (w : ℕ → Block) where
  back_again : (k : Key) → told_by w k ≡ back w k
  back_again (bound [] n) = refl
  back_again (bound (k ∷ up) n) = refl
  back_again (free n) = refl
  back_again (qualified p n) = refl

  all_again : (ks : List Key) → map (told_by w) ks ≡ map (back w) ks
  all_again [] = refl
  all_again (k ∷ ks) = ap₂ (λ x xs. x ∷ xs) (back_again k) (all_again ks)

-- ---- through the ways of blocks and the names of identifiers
through : {X : Type 0} (nm : ℕ → Text) (w : ℕ → Block) (f : Occurrence Text → X) (g : Found → X) → ((o : Found) → f (renamed nm (told w o)) ≡ g o) → (os : List Found) → map f (map (renamed nm) (map (told w) os)) ≡ map g os
through nm w f g same [] = refl
through nm w f g same (o ∷ os) = ap₂ (λ x xs. x ∷ xs) (same o) (through nm w f g same os)

all_below : (names : List Text) (n : ℕ) (ss : List Sense) → AllBelow names n ss → All (λ s. number_in s < n) ss
all_below names n [] h = λ i d l. absurd (omega (arith, l))
all_below names n (s ∷ ss) h = by (all_below names n ss h.1)
  where
    by : All (λ s. number_in s < n) ss → All (λ s. number_in s < n) (s ∷ ss)
    by rest zero d l = h.0
    by rest (suc i) d l = rest i d (omega (arith, l))

-- ---- a module that was walked
module _ (v : UnitView) (first reader : Reader) (unread : IsUnread v.names first) (reads : Reads (events (trees_of v)) first reader) (kept : HasMemory reader) (named : forest_below (length v.names) (forest_of_unit (trees_of v)) ≡ true) where
  abbrev told_of : List Event
  told_of = events (trees_of v)

  abbrev found_in : List Found
  found_in = (collected nothing told_of).found

  abbrev read_so : List Sense
  read_so = map sense_view reader.senses.items

  abbrev whole_of : List (Occurrence Text)
  whole_of = occurrences (spelled v)

  occurrences_are : whole_of ≡ map (renamed (name_in v.names)) (map (told (way (outers (trees_of v)))) found_in)
  occurrences_are = spelled_occurrences v ∙ ap (map (renamed (name_in v.names))) (sym (collected_occurrences (trees_of v)))

  shown : read_so ≡ (sensed v.names unsensed told_of).senses
  shown = (shows v first reader unread reads kept named).senses

  pub manners_read : map manner_in read_so ≡ map manner_of whole_of
  manners_read =
      ap (map manner_in) shown
      ∙ (each_same v.names manner_in (λ o. manner_as o.role) (λ n read here o. manner_sensed n read here o.name o.role) (λ e o. manner_ended e o.role) unsensed nothing told_of refl
      ∙ (sym (through (name_in v.names) (way (outers (trees_of v))) manner_of (λ o. manner_as o.role) (λ o. refl) found_in) ∙ ap (map manner_of) (sym occurrences_are)))

  pub names_read : map (name_read v) read_so ≡ map (λ o. o.name) whole_of
  names_read =
      ap (map (name_read v)) shown
      ∙ (each_same v.names (name_read v) (λ o. name_in v.names o.name) (λ n read here o. ap (name_in v.names) (number_sensed v.names n read here o.role o.name)) (λ e o. refl) unsensed nothing told_of refl
      ∙ (sym (through (name_in v.names) (way (outers (trees_of v))) (λ o. o.name) (λ o. name_in v.names o.name) (λ o. refl) found_in) ∙ ap (map (λ o. o.name)) (sym occurrences_are)))

  pub starts_read : (trees_of v).declarations.label ≡ kind declarations → reader.starts.items ≡ starts (trees_of v)
  starts_read label = (shows v first reader unread reads kept named).starts ∙ (starts_same v.names unsensed nothing told_of refl refl ∙ collected_starts (trees_of v) label)

  pub numbers_read : All (λ s. number_in s < length v.names) read_so
  numbers_read =
      all_below v.names (length v.names) read_so
      (subst (AllBelow v.names (length v.names)) (sym (senses_are v first reader unread reads kept named)) (more_below v.names (length v.names) unsensed told_of (below v first reader unread reads kept named)))

  module _ (outer : List ℕ) (outer_is : outer ≡ outers (trees_of v)) where
    state_is : state_with found_in outer ≡ walk (all_of outermost) start (forest_of_unit (trees_of v))
    state_is = module_state found_in outer (trees_of v) refl outer_is

    inside : Each (InBlocks (length outer)) found_in
    inside = subst (λ (s : State). Each (InBlocks (length s.outer)) s.found) (sym state_is) (whole_joined (forest_of_unit (trees_of v))).inside

    pub nested_read : AreNested outer
    nested_read = subst (λ (s : State). AreNested s.outer) (sym state_is) (whole_joined (forest_of_unit (trees_of v))).nested

    told_here : map (renamed (name_in v.names)) (map (told (way outer)) found_in) ≡ whole_of
    told_here = ap (λ o. map (renamed (name_in v.names)) (map (told (way o)) found_in)) outer_is ∙ sym occurrences_are

    module _ (paths : List Path) (paths_are : paths ≡ paths_met told_of) (law : keys_met (is_declared_by whole_of) unopened (events (spelled v)) ≡ map by_number (keys whole_of)) where
      flat_read : keys_in (is_declared_in v) v.names paths read_so ≡ map by_number (keys whole_of)
      flat_read =
          ap₂ (λ ps xs. keys_in (is_declared_in v) v.names ps xs) paths_are (senses_are v first reader unread reads kept named)
          ∙ (keys_more v.names (length v.names) (is_declared_by whole_of) (is_declared_in v) (paths_met told_of) (λ i h. refl) unsensed told_of (below v first reader unread reads kept named) refl
          ∙ (ap (keys_met (is_declared_by whole_of) unopened) (events_spelled v) ∙ law))

      pub keys_read : map (λ s. told_by (way outer) (key_in (is_declared_in v) v.names paths s)) read_so ≡ keys whole_of
      keys_read =
          let apart : map (λ s. told_by (way outer) (key_in (is_declared_in v) v.names paths s)) read_so ≡ map (told_by (way outer)) (keys_in (is_declared_in v) v.names paths read_so) = simp map-map in
          apart
          ∙ (all_again (way outer) (keys_in (is_declared_in v) v.names paths read_so)
          ∙ (ap (map (back (way outer))) flat_read
          ∙ keys_back (way outer) whole_of
          (all_every (λ o. o.block ≡ way outer (number_of o.block)) whole_of (subst (Every (λ o. o.block ≡ way outer (number_of o.block))) told_here (told_way outer nested_read (name_in v.names) found_in inside)))))

      pub blocks_read : All (IsSenseBelow (length outer)) read_so
      blocks_read =
          let n = length outer in
          let all = subst (Every (λ o. number_of o.block < n)) told_here (within_way outer nested_read (name_in v.names) found_in inside) in
          all_every (IsSenseBelow n) read_so
          (every_below (is_declared_in v) v.names paths n read_so (subst (λ ks. Every (IsBelow n) ks) (sym flat_read) (keys_from n whole_of whole_of all all)))
