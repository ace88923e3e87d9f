-- What the reader makes of events.
use Rattle.std.proofs.Common.{◌≡◌, ℕ, zero, suc, ◌+◌, ◌^◌, ◌<◌, Bool, true, false, Option, None, replicate, List, [], ◌∷◌, ◌++◌, ◌||◌, length, map, get_or, set, refl, sym, ◌∙◌, ap, ap₂, subst, arith}
use Rattle.std.specs.Prelude.{bytes_eq, if◌then◌else◌}
use Rattle.std.proofs.lemmas.Slice.Eq.{bytes_eq-Decides}
use Rattle.std.proofs.lemmas.List.{get_or-set_same, get_or-set_other, length-map, length-set, length-replicate, map_push}
use Rattle.wesl_tree_names.specs.Path.{Text}
use Rattle.wesl_tree_syntax.specs.Unit.{name_in}
use Rattle.wesl_scope_occurrences.specs.Occurrences.{Standing, module_name, parameter}
use Rattle.wesl_scope_occurrences.specs.Walk.{Here}
use Rattle.wesl_scope_occurrences.specs.Events.{begins, meets, opens, closes, ends}
use Rattle.wesl_scope_open.specs.Open.{Readings, Open, stepped, declaring}
use Rattle.wesl_scope_open.specs.declared.table.OpenBinders.{OpenBinders}
use Rattle.wesl_scope_open.specs.Table.{row, outer_rows, IsEmpty, Opens, Closes}
use Rattle.wesl_scope_open.specs.Named.{AreDistinct, AllStand, StandsOpen}
use Rattle.wesl_scope_open.specs.Matched.{AreMatched}
use Rattle.wesl_scope_open.proofs.Named.{at_opening, at_end, at_parameter, at_closing}
use Rattle.wesl_scope_meanings.specs.Sensed.{Sensed, path_count, path_total, unsensed, sense_by, with_known}
use Rattle.wesl_scope_meanings.specs.Sensed.{Sense as SenseMet}
use Rattle.wesl_scope_meanings.specs.Senses.{sense_view}
use Rattle.wesl_scope_meanings.specs.Reads.{HasMemory, Shows, Reads, MakesVisible, MakesKnown, NotesName}
use Rattle.wesl_scope_meanings.specs.declared.reader.Reader.{Reader}
use Rattle.wesl_scope_meanings.specs.declared.sense.Sense.{Sense}
use Rattle.wesl_scope_meanings.proofs.Spelling.{spelled_below, spelled_so}
use Rattle.wesl_scope_meanings.proofs.Walked.{total_few, total_one}
use Rattle.wesl_scope_open.proofs.Tables.{first_kept}

-- what the walk knows, with other open binders
abbrev with_binders : Open → Sensed → Sensed
with_binders t s = record { binders = t; known = s.known; senses = s.senses; starts = s.starts }

-- where the binders alone changed
module _ (old new : Reader) (same_alike : new.alike ≡ old.alike) (same_declared : new.declared ≡ old.declared) (same_senses : new.senses ≡ old.senses) (same_paths : new.paths ≡ old.paths) (same_starts : new.starts ≡ old.starts) (same_refused : new.is_refused ≡ old.is_refused) where
  kept_as : (new.binders.is_refused ≡ false → old.binders.is_refused ≡ false) → HasMemory new → HasMemory old
  kept_as n k = record { senses = sym same_refused ∙ k.senses; binders = n k.binders }

  shows_as : (texts : List Text) (s : Sensed) (t : Open) → Shows texts old s → StandsOpen texts (row new.binders) (outer_rows new.binders) t → Shows texts new (with_binders t s)
  shows_as texts s t is at = record {
    binders = at;
    as_wide = ap (λ v. length v.items) same_declared ∙ is.as_wide;
    known = λ k h. ap (λ v. get_or v.items k false) same_declared ∙ is.known k h;
    senses = ap (λ v. map sense_view v.items) same_senses ∙ is.senses;
    paths = same_paths ∙ is.paths;
    starts = ap (λ v. v.items) same_starts ∙ is.starts;
  }

  pub reads_opening : Opens old.binders new.binders → Reads (opens ∷ []) old new
  reads_opening o = record {
    noted = kept_as o.noted;
    alike = same_alike;
    shown = λ k names texts spelled below s m is. shows_as texts s (stepped s.binders opens) is (at_opening texts old.binders new.binders s.binders k.binders is.binders o);
  }

  pub reads_closing : Closes old.binders new.binders → Reads (closes ∷ []) old new
  reads_closing o = record {
    noted = kept_as o.noted;
    alike = same_alike;
    shown = λ k names texts spelled below s m is. shows_as texts s (stepped s.binders closes) is (by texts s k is s.binders.outer refl m);
  }
    where
      by : (texts : List Text) (s : Sensed) → HasMemory new → Shows texts old s → (os : List Readings) → s.binders.outer ≡ os → AreMatched {I = ℕ} (length os) (closes ∷ []) → StandsOpen texts (row new.binders) (outer_rows new.binders) (stepped s.binders closes)
      by texts s k is [] e m = absurd m
      by texts s k is (v ∷ vs) e m = at_closing texts old.binders new.binders s.binders k.binders is.binders v vs e o

-- the width of the row
wide : (texts : List Text) (r : Reader) (s : Sensed) (name : ℕ) → Shows texts r s → name < length texts → name < length (row r.binders)
wide texts r s name is h = let w = is.binders.now.as_wide in omega (arith, h, w)

pub reads_end : (old new : Reader) (here : Here) (i name : ℕ) → name ≡ get_or old.alike.items i 0 → MakesVisible old new name here.block → Reads (ends here i ∷ []) old new
reads_end old new here i name is_name v = record {
  noted = kept_as old new v.alike v.declared v.senses v.paths v.starts v.is_refused v.noted;
  alike = v.alike;
  shown = λ k names texts spelled below s m is.
      let h : name < length texts = subst (λ x. x < length texts) (sym is_name) (spelled_below names texts old.alike.items spelled i below.0) in
      let so : name_in texts name ≡ name_in names i = ap (name_in texts) is_name ∙ spelled_so names texts old.alike.items spelled i below.0 in
      subst (λ x. Shows texts new (with_binders (stepped s.binders (ends here x)) s)) so
      (shows_as old new v.alike v.declared v.senses v.paths v.starts v.is_refused texts s (stepped s.binders (ends here (name_in texts name))) is
      (at_end texts old.binders new.binders s.binders k.binders is.binders spelled.apart name h here (v.declares (wide texts old s name is h))));
}

-- a name of a parameter
pub notes_parameter : (old new : Reader) (here : Here) (name : ℕ) → MakesVisible old new name here.block → NotesName old new here parameter name
notes_parameter old new here name v = record {
  noted = kept_as old new v.alike v.declared v.senses v.paths v.starts v.is_refused v.noted;
  alike = v.alike;
  shown = λ k texts apart h s is.
      shows_as old new v.alike v.declared v.senses v.paths v.starts v.is_refused texts s (declaring parameter here.block (name_in texts name) s.binders) is
      (at_parameter texts old.binders new.binders s.binders k.binders is.binders apart name h here (v.declares (wide texts old s name is h)));
}

-- a name of the module
known_put : (texts : List Text) → AreDistinct texts → (d : List Bool) (known : Text → Bool) (name : ℕ) → name < length texts → length d ≡ length texts → ((k : ℕ) → k < length texts → get_or d k false ≡ known (name_in texts k))
    → (k : ℕ) → k < length texts → get_or (set d name true) k false ≡ (if bytes_eq (name_in texts name) (name_in texts k) then true else known (name_in texts k))
known_put texts apart d known name h w is k i = by (bytes_eq (name_in texts name) (name_in texts k)) refl
  where
    by : (t : Bool) → bytes_eq (name_in texts name) (name_in texts k) ≡ t → get_or (set d name true) k false ≡ (if t then true else known (name_in texts k))
    by true e =
        let same : name ≡ k = apart name k h i ((bytes_eq-Decides (name_in texts name) (name_in texts k)).0 e) in
        ap (λ y. get_or (set d name true) y false) (sym same) ∙ get_or-set_same d name true false (omega (arith, h, w))
    by false e =
        let other : k ≡ name → ⊥ = λ f. let g : false ≡ true = sym e ∙ (bytes_eq-Decides (name_in texts name) (name_in texts k)).1 (ap (name_in texts) (sym f)) in let z : ⊥ = cc in z in
        get_or-set_other d name k true false other ∙ is k i

pub notes_module_name : (old new : Reader) (here : Here) (name : ℕ) → MakesKnown old new name → NotesName old new here module_name name
notes_module_name old new here name v = record {
  noted = λ k. record { senses = sym v.is_refused ∙ k.senses; binders = subst (λ (b : OpenBinders ℕ). b.is_refused ≡ false) v.binders k.binders };
  alike = v.alike;
  shown = λ k texts apart h s is. record {
    binders = subst (λ (b : OpenBinders ℕ). StandsOpen texts (row b) (outer_rows b) s.binders) (sym v.binders) is.binders;
    as_wide = ap length v.declared ∙ (length-set old.declared.items name true ∙ is.as_wide);
    known = λ j i. ap (λ d. get_or d j false) v.declared ∙ known_put texts apart old.declared.items s.known name h is.as_wide is.known j i;
    senses = ap (λ v. map sense_view v.items) v.senses ∙ is.senses;
    paths = v.paths ∙ is.paths;
    starts = ap (λ v. v.items) v.starts ∙ is.starts;
  };
}

-- any other name
pub notes_nothing : (r : Reader) (here : Here) (st : Standing) (name : ℕ)
    → ((b : ℕ) (x : Text) (s : Open) → declaring st b x s ≡ s) → ((x : Text) (known : Text → Bool) (n : Text) → with_known st x known n ≡ known n) → NotesName r r here st name
notes_nothing r here st name still same = record {
  noted = λ k. k;
  alike = refl;
  shown = λ k texts apart h s is. record {
    binders = subst (λ t. StandsOpen texts (row r.binders) (outer_rows r.binders) t) (sym (still here.block (name_in texts name) s.binders)) is.binders;
    as_wide = is.as_wide;
    known = λ j i. is.known j i ∙ sym (same (name_in texts name) s.known (name_in texts j));
    senses = is.senses;
    paths = is.paths;
    starts = is.starts;
  };
}

-- the number of paths, once that of one more identifier is counted
counted_one : (r : Reader) (ss : List SenseMet) (x : SenseMet) (n : ℕ) → map sense_view r.senses.items ≡ ss → r.paths ≡ path_total ss → (r.paths < 2 ^ 63 → n ≡ r.paths + path_count x) → n ≡ path_total (ss ++ x ∷ [])
counted_one r ss x n shown counted one =
    let few : r.paths < 2 ^ 63 = omega (arith, counted, total_few ss, ap length shown, length-map r.senses.items sense_view, r.senses.small, r.senses.ok.0, r.senses.ok.1) in
    one few ∙ (ap (λ k. k + path_count x) counted ∙ sym (total_one ss x))

pub reads_meeting : (old mid new : Reader) (here : Here) (st : Standing) (i name : ℕ) (read : Option ℕ) (sense : Sense) (wanting : Bool)
    → name ≡ get_or old.alike.items i 0 → read ≡ get_or (row old.binders) name None → sense_view sense ≡ sense_by old.paths read here st i
    → mid.alike ≡ old.alike → mid.declared ≡ old.declared → mid.binders ≡ old.binders → mid.starts ≡ old.starts → mid.is_refused ≡ (old.is_refused || wanting) → (mid.is_refused ≡ false → mid.senses.items ≡ old.senses.items ++ sense ∷ [])
    → (old.paths < 2 ^ 63 → mid.paths ≡ old.paths + path_count (sense_view sense))
    → NotesName mid new here st name → Reads (meets here st i ∷ []) old new
reads_meeting old mid new here st i name read sense wanting is_name is_read is_sense same_alike same_declared same_binders same_starts refused pushed counted note = record {
  noted = λ k. let m = note.noted k in record { senses = first_kept old.is_refused wanting (sym refused ∙ m.senses); binders = subst (λ (b : OpenBinders ℕ). b.is_refused ≡ false) same_binders m.binders };
  alike = note.alike ∙ same_alike;
  shown = λ k names texts spelled below s m is.
      let h : name < length texts = subst (λ x. x < length texts) (sym is_name) (spelled_below names texts old.alike.items spelled i below.0) in
      let so : name_in texts name ≡ name_in names i = ap (name_in texts) is_name ∙ spelled_so names texts old.alike.items spelled i below.0 in
      let found : sense_view sense ≡ sense_by (path_total s.senses) (s.binders.reads (name_in texts name)) here st i =
      is_sense ∙ (ap (λ n. sense_by n read here st i) is.paths ∙ ap (λ r. sense_by (path_total s.senses) r here st i) (is_read ∙ is.binders.now.reads name h)) in
      let now : Sensed = record { binders = s.binders; known = s.known; senses = s.senses ++ sense_by (path_total s.senses) (s.binders.reads (name_in texts name)) here st i ∷ []; starts = s.starts } in
      let shown : Shows texts mid now = record {
        binders = subst (λ (b : OpenBinders ℕ). StandsOpen texts (row b) (outer_rows b) s.binders) (sym same_binders) is.binders;
        as_wide = ap (λ v. length v.items) same_declared ∙ is.as_wide;
        known = λ j l. ap (λ v. get_or v.items j false) same_declared ∙ is.known j l;
        senses = ap (map sense_view) (pushed (note.noted k).senses) ∙ (map_push sense_view old.senses.items sense ∙ ap₂ (λ xs x. xs ++ x ∷ []) is.senses found);
        paths = counted_one old s.senses (sense_by (path_total s.senses) (s.binders.reads (name_in texts name)) here st i) mid.paths is.senses is.paths (λ few. counted few ∙ ap (λ x. old.paths + path_count x) found);
        starts = ap (λ v. v.items) same_starts ∙ is.starts;
      } in
      subst (λ x. Shows texts new (record { binders = declaring st here.block x s.binders; known = with_known st x s.known; senses = s.senses ++ sense_by (path_total s.senses) (s.binders.reads x) here st i ∷ []; starts = s.starts })) so
      (note.shown k texts spelled.apart h now shown);
}

-- a global declaration begins
pub reads_beginning : (old new : Reader) (n : ℕ) (wanting : Bool) → n ≡ length old.senses.items → new.alike ≡ old.alike → new.declared ≡ old.declared → new.binders ≡ old.binders → new.senses ≡ old.senses → new.paths ≡ old.paths
    → new.is_refused ≡ (old.is_refused || wanting) → (new.is_refused ≡ false → new.starts.items ≡ old.starts.items ++ n ∷ []) → Reads (begins ∷ []) old new
reads_beginning old new n wanting many same_alike same_declared same_binders same_senses same_paths refused pushed = record {
  noted = λ k. record { senses = first_kept old.is_refused wanting (sym refused ∙ k.senses); binders = subst (λ (b : OpenBinders ℕ). b.is_refused ≡ false) same_binders k.binders };
  alike = same_alike;
  shown = λ k names texts spelled below s m is. record {
    binders = subst (λ (b : OpenBinders ℕ). StandsOpen texts (row b) (outer_rows b) s.binders) (sym same_binders) is.binders;
    as_wide = ap (λ v. length v.items) same_declared ∙ is.as_wide;
    known = λ j l. ap (λ v. get_or v.items j false) same_declared ∙ is.known j l;
    senses = ap (λ v. map sense_view v.items) same_senses ∙ is.senses;
    paths = same_paths ∙ is.paths;
    starts = pushed k.senses ∙ ap₂ (λ xs x. xs ++ x ∷ []) is.starts (many ∙ (sym (length-map old.senses.items sense_view) ∙ ap length is.senses));
  };
}

-- ---- nothing is read yet
pub shows_unread : (texts : List Text) (r : Reader) (count : ℕ) → count ≡ length texts → r.declared.items ≡ replicate count false → IsEmpty count r.binders → r.senses.items ≡ [] → r.paths ≡ 0 → r.starts.items ≡ [] → Shows texts r unsensed
shows_unread texts r count counted declared empty senses paths starts = record {
  binders = record {
    now = record {
      as_wide = ap length empty.reads ∙ (length-replicate count None ∙ counted);
      reads = λ k h. ap (λ xs. get_or xs k None) empty.reads ∙ same_all count k None;
    };
    outer = subst (λ rs. AllStand texts rs []) (sym empty.outer) tt;
  };
  as_wide = ap length declared ∙ (length-replicate count false ∙ counted);
  known = λ k h. ap (λ xs. get_or xs k false) declared ∙ same_all count k false;
  senses = ap (map sense_view) senses;
  paths = paths;
  starts = starts;
}
  where
    same_all : {X : Type 0} (n k : ℕ) (x : X) → get_or (replicate n x) k x ≡ x
    same_all zero k x = refl
    same_all (suc n) zero x = refl
    same_all (suc n) (suc k) x = same_all n k x
