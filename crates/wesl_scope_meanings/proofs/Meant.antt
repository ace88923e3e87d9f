-- What the walk over a module says of its identifiers.
use Rattle.std.proofs.Common.{◌≡◌, ℕ, zero, suc, ◌<◌, Bool, true, false, List, [], ◌∷◌, length, map, get_or, refl, sym, ◌∙◌, ap, ap₂, subst, arith, Vec, Global}
use Rattle.std.specs.List.{All}
use Rattle.wesl_tree_names.specs.Path.{Text, Path}
use Rattle.wesl_tree_syntax.specs.Tree.{forest_below}
use Rattle.wesl_tree_syntax.specs.Unit.{UnitView, forest_of_unit, trees_of, spelled, name_in}
use Rattle.wesl_scope_occurrences.specs.Occurrences.{occurrences}
use Rattle.wesl_scope_occurrences.specs.Events.{Event, events, paths_met}
use Rattle.wesl_scope_occurrences.specs.EventLaws.{EventsAreOccurrences}
use Rattle.wesl_scope_occurrences.specs.Collected.{nothing, collected}
use Rattle.wesl_scope_occurrences.specs.Laws.{WaysLeadOutwards, SpellingKeepsOccurrences, renamed}
use Rattle.wesl_scope_occurrences.specs.Outer.{outers}
use Rattle.wesl_scope_occurrences.specs.Ways.{AreNested, way, told}
use Rattle.wesl_scope_occurrences.specs.Views.{occurrence_view}
use Rattle.wesl_scope_occurrences.specs.declared.occurrence.Occurrence.{Occurrence as FoundOccurrence}
use Rattle.wesl_scope_open.specs.Scopes.{keys}
use Rattle.wesl_scope_open.specs.Open.{unopened, keys_met, is_declared_by, number_of, by_number}
use Rattle.wesl_scope_open.specs.Matched.{AreMetBelow}
use Rattle.wesl_scope_open.proofs.Matched.{events_matched, events_below}
use Rattle.wesl_scope_open.proofs.Named.{events_spelled}
use Rattle.wesl_scope_open.proofs.Runs.{Every}
use Rattle.wesl_scope_open.proofs.Told.{back, keys_back}
use Rattle.wesl_scope_meanings.specs.Sensed.{Sensed, number_in, unsensed, sensed}
use Rattle.wesl_scope_meanings.specs.Senses.{sense_view, keys_in}
use Rattle.wesl_scope_meanings.specs.Reads.{HasMemory, Shows, Reads}
use Rattle.wesl_scope_meanings.specs.Known.{is_known}
use Rattle.wesl_scope_meanings.specs.Starts.{IsUnread}
use Rattle.wesl_scope_meanings.specs.Spellings.{AreSpellings, HasSpellings}
use Rattle.wesl_scope_meanings.specs.Keys.{key_view, flat, IsKeyBelow}
use Rattle.wesl_scope_meanings.specs.declared.keys.Key.{Key}
use Rattle.wesl_scope_meanings.specs.declared.reader.Reader.{Reader}
use Rattle.wesl_scope_meanings.specs.declared.sense.Sense.{Sense}
use Rattle.wesl_scope_meanings.proofs.Spelling.{spelled_below, spelled_so}
use Rattle.wesl_scope_meanings.proofs.Walked.{AllBelow, more, senses_more, more_below, keys_more, known_by, declared_so}
use Rattle.wesl_scope_meanings.proofs.Within.{all_of, keys_within, keys_seen, told_by_way, within_outer}

module _ (v : UnitView) (start reader : Reader) (unread : IsUnread v.names start) (reads : Reads (events (trees_of v)) start reader) (kept : HasMemory reader) (named : forest_below (length v.names) (forest_of_unit (trees_of v)) ≡ true) where
  abbrev pub met : List Event
  met = events (trees_of v)

  abbrev pub last : Sensed
  last = sensed v.names unsensed met

  pub below : AreMetBelow (length v.names) met
  below = events_below (length v.names) (trees_of v) named

  pub shows : Shows unread.texts reader last
  shows = reads.shown kept v.names unread.texts unread.spelled below unsensed (events_matched (trees_of v)) unread.shows

  pub senses_are : map sense_view reader.senses.items ≡ more v.names unsensed met
  senses_are = shows.senses ∙ senses_more v.names unsensed met

  each_below : (n : ℕ) (ss : List Sense) → AllBelow v.names n (map sense_view ss) → All (λ s. number_in (sense_view s) < n) ss
  each_below n [] h = λ i d l. absurd (omega (arith, l))
  each_below n (s ∷ ss) h = by (each_below n ss h.1)
    where
      by : All (λ s. number_in (sense_view s) < n) ss → All (λ s. number_in (sense_view s) < n) (s ∷ ss)
      by rest zero d l = h.0
      by rest (suc i) d l = rest i d (omega (arith, l))

  pub senses_below : All (λ s. number_in (sense_view s) < length v.names) reader.senses.items
  senses_below = each_below (length v.names) reader.senses.items (subst (AllBelow v.names (length v.names)) (sym senses_are) (more_below v.names (length v.names) unsensed met below))

  module _ (spelling : SpellingKeepsOccurrences) (collects : EventsAreOccurrences) where
    abbrev declared : Text → Bool
    declared = is_declared_by (occurrences (spelled v))

    known_so : (n : Text) → last.known n ≡ declared n
    known_so n =
        known_by v.names n unsensed nothing met refl
        ∙ (sym (declared_so v.names n (way (outers (trees_of v))) (collected nothing met).found)
        ∙ ap (λ os. is_declared_by os n) (ap (map (renamed (name_in v.names))) (collects (trees_of v)) ∙ sym (spelling v)))

    agree : (i : ℕ) → i < length v.names → is_known reader i ≡ declared (name_in v.names i)
    agree i h =
        ap (λ a. get_or reader.declared.items (get_or a.items i 0) false) reads.alike
        ∙ (shows.known (get_or start.alike.items i 0) (spelled_below v.names unread.texts start.alike.items unread.spelled i h)
        ∙ (ap last.known (spelled_so v.names unread.texts start.alike.items unread.spelled i h) ∙ known_so (name_in v.names i)))

    pub flat_keys : (paths : List Path) (ks : List Key) → paths ≡ paths_met met → map flat ks ≡ keys_in (is_known reader) v.names paths (map sense_view reader.senses.items) → map flat ks ≡ keys_met declared unopened (events (spelled v))
    flat_keys paths ks p e =
        e ∙ (ap₂ (λ ps ss. keys_in (is_known reader) v.names ps ss) p senses_are
        ∙ (keys_more v.names (length v.names) declared (is_known reader) (paths_met met) agree unsensed met below refl ∙ ap (keys_met declared unopened) (events_spelled v)))

-- ---- by the ways of blocks
module _ (ways : WaysLeadOutwards) (spelling : SpellingKeepsOccurrences) (v : UnitView) (outer : List ℕ) (items : List FoundOccurrence) (ns : AreNested outer) (blocks : All (λ o. o.block < length outer) items)
    (found : map (told (way outer)) (map occurrence_view items) ≡ occurrences (trees_of v)) (ks : List Key) (are : map flat ks ≡ map by_number (keys (occurrences (spelled v)))) where
  spelled_found : map (renamed (name_in v.names)) (map (told (way outer)) (map occurrence_view items)) ≡ occurrences (spelled v)
  spelled_found = ap (map (renamed (name_in v.names))) found ∙ sym (spelling v)

  pub keys_by_way : map (key_view (way outer)) ks ≡ keys (occurrences (spelled v))
  keys_by_way =
      keys_seen (way outer) ks
      ∙ (ap (map (back (way outer))) are
      ∙ keys_back (way outer) (occurrences (spelled v)) (all_of (λ o. o.block ≡ way outer (number_of o.block)) (occurrences (spelled v)) (subst (Every (λ o. o.block ≡ way outer (number_of o.block))) spelled_found (told_by_way ways outer ns (name_in v.names) items blocks))))

  pub keys_below : All (IsKeyBelow (length outer)) ks
  keys_below = keys_within (length outer) (occurrences (spelled v)) (subst (Every (λ o. number_of o.block < length outer)) spelled_found (within_outer ways outer ns (name_in v.names) items blocks)) ks are

-- what `meanings_of` says of the keys
pub record Meant (v : UnitView) (outer : List ℕ) (ks : List Key) : Type 0 where
  pub are : map (key_view (way outer)) ks ≡ keys (occurrences (spelled v))
  pub below : All (IsKeyBelow (length outer)) ks

pub meant : WaysLeadOutwards → SpellingKeepsOccurrences → EventsAreOccurrences → (v : UnitView) (outer : List ℕ) (items : List FoundOccurrence) (start reader : Reader) (paths : List Path) (ks : List Key) (n1 n2 : List Text)
    → keys_met (is_declared_by (occurrences (spelled v))) unopened (events (spelled v)) ≡ map by_number (keys (occurrences (spelled v)))
    → n1 ≡ v.names → IsUnread n1 start → Reads (events (trees_of v)) start reader → reader.is_refused ≡ false → reader.binders.is_refused ≡ false → forest_below (length v.names) (forest_of_unit (trees_of v)) ≡ true
    → AreNested outer → All (λ o. o.block < length outer) items → map (told (way outer)) (map occurrence_view items) ≡ occurrences (trees_of v) → paths ≡ paths_met (events (trees_of v))
    → n2 ≡ v.names → map flat ks ≡ keys_in (is_known reader) n2 paths (map sense_view reader.senses.items) → Meant v outer ks
meant ways spelling collects v outer items start reader paths ks n1 n2 law e1 unread reads k1 k2 named ns blocks found p e2 e =
    let kept : HasMemory reader = record { senses = k1; binders = k2 } in
    let first : IsUnread v.names start = subst (λ x. IsUnread x start) e1 unread in
    let flat_are : map flat ks ≡ map by_number (keys (occurrences (spelled v))) =
    flat_keys v start reader first reads kept named spelling collects paths ks p (e ∙ ap (λ x. keys_in (is_known reader) x paths (map sense_view reader.senses.items)) e2) ∙ law in
    record { are = keys_by_way ways spelling v outer items ns blocks found ks flat_are; below = keys_below ways spelling v outer items ns blocks found ks flat_are }

pub senses_named : (v : UnitView) (start reader : Reader) (n1 n2 : List Text) → n1 ≡ v.names → IsUnread n1 start → Reads (events (trees_of v)) start reader → reader.is_refused ≡ false → reader.binders.is_refused ≡ false
    → forest_below (length v.names) (forest_of_unit (trees_of v)) ≡ true → n2 ≡ v.names → All (λ s. number_in (sense_view s) < length n2) reader.senses.items
senses_named v start reader n1 n2 e1 unread reads k1 k2 named e2 =
    subst (λ x. All (λ s. number_in (sense_view s) < length x) reader.senses.items) (sym e2) (senses_below v start reader (subst (λ x. IsUnread x start) e1 unread) reads (record { senses = k1; binders = k2 }) named)

-- the spellings of the names are as they were
pub spelled_still : (v : UnitView) (start reader : Reader) (n1 : List Text) (count : ℕ) → n1 ≡ v.names → IsUnread n1 start → Reads (events (trees_of v)) start reader → reader.is_refused ≡ false → reader.binders.is_refused ≡ false
    → forest_below (length v.names) (forest_of_unit (trees_of v)) ≡ true → count ≡ length reader.declared.items → HasSpellings v.names reader.alike.items count
spelled_still v start reader n1 count e1 unread reads k1 k2 named counted =
    let first : IsUnread v.names start = subst (λ x. IsUnread x start) e1 unread in
    let kept : HasMemory reader = record { senses = k1; binders = k2 } in
    record {
      texts = first.texts;
      counted = counted ∙ (shows v start reader first reads kept named).as_wide;
      are = subst (λ (a : Vec ℕ Global). AreSpellings v.names first.texts a.items) (sym reads.alike) first.spelled;
    }
