-- What the walk that reads identifiers makes of events.
use Rattle.std.specs.Prelude.{◌≡◌, ℕ, ◌<◌, true, false, refl, List, [], ◌∷◌, ◌++◌, length, map, get_or, set}
use Rattle.std.proofs.Common.{sym, subst}
use Rattle.wesl_tree_names.specs.Path.{Text}
use Rattle.wesl_tree_syntax.specs.Unit.{name_in}
use Rattle.wesl_scope_occurrences.specs.Occurrences.{Standing}
use Rattle.wesl_scope_occurrences.specs.Walk.{Here}
use Rattle.wesl_scope_occurrences.specs.Events.{Event, begins, meets, opens, closes, ends}
use Rattle.wesl_scope_open.specs.Open.{Readings, taken_back, declaring}
use Rattle.wesl_scope_open.specs.Table.{row, outer_rows, Declares}
use Rattle.wesl_scope_open.specs.Named.{AreDistinct, StandsOpen}
use Rattle.wesl_scope_open.specs.Matched.{AreMatched, AreMetBelow}
use Rattle.wesl_scope_open.proofs.Matched.{matched_first, still_open}
use Rattle.wesl_scope_meanings.specs.Sensed.{Sensed, path_total, with_known, sensing, sensed}
use Rattle.wesl_scope_meanings.specs.Senses.{sense_view}
use Rattle.wesl_scope_meanings.specs.Spellings.{AreSpellings}
use Rattle.wesl_scope_meanings.specs.declared.reader.Reader.{Reader}

-- memory was not wanting
pub record HasMemory (r : Reader) : Type 0 where
  pub senses : r.is_refused ≡ false
  pub binders : r.binders.is_refused ≡ false

-- what the reader has is what the walk knows, where these are the texts of its names
pub record Shows (texts : List Text) (r : Reader) (s : Sensed) : Type 0 where
  pub binders : StandsOpen texts (row r.binders) (outer_rows r.binders) s.binders
  pub as_wide : length r.declared.items ≡ length texts
  pub known : (k : ℕ) → k < length texts → get_or r.declared.items k false ≡ s.known (name_in texts k)
  pub senses : map sense_view r.senses.items ≡ s.senses
  pub paths : r.paths ≡ path_total s.senses
  pub starts : r.starts.items ≡ s.starts

-- what these events make of it, unless memory was wanting
pub record Reads (es : List Event) (old new : Reader) : Type 0 where
  pub noted : HasMemory new → HasMemory old
  pub alike : new.alike ≡ old.alike
  pub shown : HasMemory new → (names texts : List Text) → AreSpellings names texts old.alike.items → AreMetBelow (length names) es
      → (s : Sensed) → AreMatched (length s.binders.outer) es → Shows texts old s → Shows texts new (sensed names s es)

-- a declaration of the name in the block is visible from now on, and nothing else changed
pub record MakesVisible (old new : Reader) (name block : ℕ) : Type 0 where
  pub noted : new.binders.is_refused ≡ false → old.binders.is_refused ≡ false
  pub declares : name < length (row old.binders) → Declares old.binders new.binders name block
  pub alike : new.alike ≡ old.alike
  pub declared : new.declared ≡ old.declared
  pub senses : new.senses ≡ old.senses
  pub paths : new.paths ≡ old.paths
  pub starts : new.starts ≡ old.starts
  pub is_refused : new.is_refused ≡ old.is_refused

-- the name is one that the module declares, and nothing else changed
pub record MakesKnown (old new : Reader) (name : ℕ) : Type 0 where
  pub declared : new.declared.items ≡ set old.declared.items name true
  pub binders : new.binders ≡ old.binders
  pub alike : new.alike ≡ old.alike
  pub senses : new.senses ≡ old.senses
  pub paths : new.paths ≡ old.paths
  pub starts : new.starts ≡ old.starts
  pub is_refused : new.is_refused ≡ old.is_refused

-- what the name declares that stands so is noted
pub record NotesName (old new : Reader) (here : Here) (r : Standing) (name : ℕ) : Type 0 where
  pub noted : HasMemory new → HasMemory old
  pub alike : new.alike ≡ old.alike
  pub shown : HasMemory new → (texts : List Text) → AreDistinct texts → name < length texts → (s : Sensed) → Shows texts old s
      → Shows texts new (record { binders = declaring r here.block (name_in texts name) s.binders; known = with_known r (name_in texts name) s.known; senses = s.senses; starts = s.starts })

-- ---- laws

sensed_both : (names : List Text) (s : Sensed) (es fs : List Event) → sensed names s (es ++ fs) ≡ sensed names (sensed names s es) fs
sensed_both names s [] fs = refl
sensed_both names s (e ∷ es) fs = sensed_both names (sensing names s e) es fs

met_first : (n : ℕ) (es fs : List Event) → AreMetBelow n (es ++ fs) → AreMetBelow n es
met_first n [] fs h = tt
met_first n (e ∷ es) fs h = (h.0, met_first n es fs h.1)

met_then : (n : ℕ) (es fs : List Event) → AreMetBelow n (es ++ fs) → AreMetBelow n fs
met_then n [] fs h = h
met_then n (e ∷ es) fs h = met_then n es fs h.1

matched_sensed : (names : List Text) (es fs : List Event) (s : Sensed) → AreMatched (length s.binders.outer) (es ++ fs) → AreMatched (length (sensed names s es).binders.outer) fs
matched_sensed names [] fs s h = h
matched_sensed names (begins ∷ es) fs s h = matched_sensed names es fs (sensing names s begins) h
matched_sensed names (meets here r i ∷ es) fs s h =
    matched_sensed names es fs (sensing names s (meets here r i)) (subst (λ os. AreMatched (length os) (es ++ fs)) (sym (still_open r here.block (name_in names i) s.binders)) h)
matched_sensed names (opens ∷ es) fs s h = matched_sensed names es fs (sensing names s opens) h
matched_sensed names (closes ∷ es) fs s h = matched_sensed names es fs (sensing names s closes) (by s.binders.outer h)
  where
    by : (os : List Readings) → AreMatched (length os) (closes ∷ (es ++ fs)) → AreMatched (length (taken_back os s.binders).outer) (es ++ fs)
    by [] g = absurd g
    by (o ∷ os) g = g
matched_sensed names (ends here i ∷ es) fs s h = matched_sensed names es fs (sensing names s (ends here i)) h

-- without events nothing changes
pub reads_none : (r : Reader) → Reads [] r r
reads_none r = record { noted = λ k. k; alike = refl; shown = λ k names texts spelled below s matched is. is }

-- where some events make b of a, and others c of b, all of them, one after the other, make c of a
pub reads_more : (es fs : List Event) (a b c : Reader) → Reads es a b → Reads fs b c → Reads (es ++ fs) a c
reads_more es fs a b c x y = record {
  noted = λ k. x.noted (y.noted k);
  alike = subst (λ v. c.alike ≡ v) x.alike y.alike;
  shown = λ k names texts spelled below s matched is.
      subst (Shows texts c) (sym (sensed_both names s es fs))
      (y.shown k names texts (subst (λ v. AreSpellings names texts v.items) (sym x.alike) spelled) (met_then (length names) es fs below) (sensed names s es) (matched_sensed names es fs s matched)
      (x.shown (y.noted k) names texts spelled (met_first (length names) es fs below) s (matched_first (length s.binders.outer) es fs matched) is));
}
