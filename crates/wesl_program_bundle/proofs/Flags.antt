-- Flags, one after another in the order of their names.
use Rattle.std.proofs.Common.{◌≡◌, List, [], ◌∷◌, ◌++◌, ℕ, map, Option, Some, None, option_and_then, Result, inl, inr, String, Global, Less, Equal, Greater, string_bytes, string_cmp, nat_cmp, refl, sym, ap, ◌∙◌}
use Rattle.std.proofs.lemmas.Cmp.{nat_list_cmp_total, tied_itself}
use Rattle.std.proofs.lemmas.List.{map-append}
use Rattle.std.proofs.lemmas.Map.Text.{is_eq-slice_cmp}
use Rattle.std.proofs.lemmas.Result.{IfOk-at_ok, IfErr-at_err, IfOk-weaker, IfErr-weaker}
use Rattle.std.specs.BTreeMap.{BTreeMap, insert_entry, is_at}
use Rattle.std.specs.Cmp.Lexicographic.{slice_cmp}
use Rattle.std.specs.List.{AllByRecursion}
use Rattle.std.specs.List.Sorted.{IsStrictlySortedBy}
use Rattle.std.specs.Map.{keys_of, lookup}
use Rattle.std.specs.Ordering.{ordering_reverse}
use Rattle.std.specs.Prelude.{IfOk, IfErr}
use Rattle.serde_json.specs.Data.{Data, Members, null, boolean, number, string, array, object}
use Rattle.serde_json.specs.Find.{as_object, get, get_member}
use Rattle.serde_json.specs.View.{view, members_view}
use Rattle.serde_json.proofs.Views.{Entry}
use Rattle.wesl_cond_features.specs.declared.features.Feature.{Feature}
use Rattle.wesl_tree_names.specs.Path.{Text}
use Rattle.wesl_program_bundle.specs.declared.members.BundleError.{BundleError}
use Rattle.wesl_program_bundle.specs.Broken.{Locates}
use Rattle.wesl_program_bundle.specs.Features.{Flag, feature_in, flags_of, listed_answer}
use Rattle.wesl_program_bundle.specs.Forms.{IsBroken, a_feature, an_object_of}
use Rattle.wesl_program_bundle.specs.Parts.{IsFlagFault, IsUnreadUnder, IsWithFlag}
use Rattle.wesl_program_bundle.specs.Views.{flag_view, flags_view}
use Rattle.wesl_program_bundle.proofs.Places.{IfPlace-memory, Locates-here, Locates-member}

abbrev Listed : Type 0
Listed = List (String Global × Feature)

abbrev flag : Entry → Feature → Flag
flag d a = record { named = string_bytes d.0; answer = a }

-- ---- order

below_middle : (k : String Global) (es : List Entry) (e : Entry) (more : List Entry) → AllByRecursion (λ y. string_cmp k y ≡ Less) (keys_of (es ++ e ∷ more)) → string_cmp k e.0 ≡ Less
below_middle k [] e more h = h.0
below_middle k (x ∷ es) e more h = below_middle k es e more h.1

turned : (a b : Text) → slice_cmp nat_cmp a b ≡ Less → slice_cmp nat_cmp b a ≡ Greater
turned a b h = nat_list_cmp_total.antisymm b a ∙ ap ordering_reverse h

same_text : (xs : List ℕ) → slice_cmp nat_cmp xs xs ≡ Equal
same_text xs = tied_itself nat_list_cmp_total xs

-- the member that comes after others in order is found
pub found-middle : (done : List Entry) (e : Entry) (more : List Entry) → IsStrictlySortedBy string_cmp (keys_of (done ++ e ∷ more)) → get_member (string_bytes e.0) (members_view (done ++ e ∷ more)) ≡ Some (view e.1)
unfolding IsStrictlySortedBy
found-middle [] e more h = rw (same_text (string_bytes e.0)) refl
found-middle (x ∷ done) e more h =
    let above : slice_cmp nat_cmp (string_bytes e.0) (string_bytes x.0) ≡ Greater = turned (string_bytes x.0) (string_bytes e.0) (below_middle x.0 done e more h.0) in
    rw above (found-middle done e more h.1)

-- ---- flags

-- a name that is after those of the members goes last in the list of flags
pub goes-last : (done : List Entry) (es : Listed) (e : Entry) (more : List Entry) (name : String Global) (f : Feature) → flags_of (members_view done) ≡ Some (map flag_view es) → IsStrictlySortedBy string_cmp (keys_of (done ++ e ∷ more)) → string_bytes name ≡ string_bytes e.0 → insert_entry string_cmp es name f ≡ es ++ (name, f) ∷ []
unfolding IsStrictlySortedBy
goes-last [] [] e more name f read sorted same = refl
goes-last [] (x ∷ es) e more name f read sorted same = cc
goes-last (d ∷ done) es e more name f read sorted same = first (feature_in (view d.1)) (flags_of (members_view done)) es read (λ rest h. goes-last done rest e more name f h sorted.1 same)
  where
    first : (a : Option Feature) (later : Option (List Flag)) (es : Listed) → option_and_then (λ x. option_and_then (λ xs. Some (flag d x ∷ xs)) later) a ≡ Some (map flag_view es) → ((rest : Listed) → later ≡ Some (map flag_view rest) → insert_entry string_cmp rest name f ≡ rest ++ (name, f) ∷ []) → insert_entry string_cmp es name f ≡ es ++ (name, f) ∷ []
    first None later es h next = cc
    first (Some a) None es h next = cc
    first (Some a) (Some xs) [] h next = cc
    first (Some a) (Some xs) (x ∷ es) h next =
        let heads : flag d a ≡ flag_view x = cc in
        let named : string_bytes d.0 ≡ string_bytes x.0 = ap (λ g. g.named) heads in
        let rest : xs ≡ map flag_view es = cc in
        let above : string_cmp name x.0 ≡ Greater = ap (λ t. slice_cmp nat_cmp t (string_bytes x.0)) same ∙ ap (λ t. slice_cmp nat_cmp (string_bytes e.0) t) (sym named) ∙ turned (string_bytes d.0) (string_bytes e.0) (below_middle d.0 done e more sorted.0) in
        rw above (ap (λ r. x ∷ r) (next es (ap Some rest)))

flags-append : (done : List Entry) (fs : List Flag) (e : Entry) (f : Feature) → flags_of (members_view done) ≡ Some fs → feature_in (view e.1) ≡ Some f → flags_of (members_view (done ++ e ∷ [])) ≡ Some (fs ++ flag e f ∷ [])
flags-append [] fs e f before here =
    let none : [] ≡ fs = cc in
    rw here (ap (λ r. Some (r ++ flag e f ∷ [])) none)
flags-append (d ∷ done) fs e f before here = step (feature_in (view d.1)) (flags_of (members_view done)) (flags_of (members_view (done ++ e ∷ []))) before (λ rest h. flags-append done rest e f h here)
  where
    step : (a : Option Feature) (rest grown : Option (List Flag)) → option_and_then (λ x. option_and_then (λ xs. Some (flag d x ∷ xs)) rest) a ≡ Some fs → ((xs : List Flag) → rest ≡ Some xs → grown ≡ Some (xs ++ flag e f ∷ [])) → option_and_then (λ x. option_and_then (λ xs. Some (flag d x ∷ xs)) grown) a ≡ Some (fs ++ flag e f ∷ [])
    step None rest grown h next = cc
    step (Some x) None grown h next = cc
    step (Some x) (Some xs) grown h next =
        let same : flag d x ∷ xs ≡ fs = cc in
        rw (next xs refl) (ap (λ r. Some (r ++ flag e f ∷ [])) same)

-- one more flag
pub flags-turn : (done : List Entry) (es new : Listed) (e : Entry) (more : List Entry) (name : String Global) (f : Feature) → flags_of (members_view done) ≡ Some (map flag_view es) → IsStrictlySortedBy string_cmp (keys_of (done ++ e ∷ more)) → string_bytes name ≡ string_bytes e.0 → feature_in (view e.1) ≡ Some f → new ≡ insert_entry string_cmp es name f → flags_of (members_view (done ++ e ∷ [])) ≡ Some (map flag_view new)
flags-turn done es new e more name f before sorted same here grown =
    flags-append done (map flag_view es) e f before here
    ∙ ap Some (ap (λ t. map flag_view es ++ (record { named = t; answer = f }) ∷ []) (sym same) ∙ sym (map-append flag_view es ((name, f) ∷ [])) ∙ sym (ap (map flag_view) (grown ∙ goes-last done es e more name f before sorted same)))

-- ---- members and answers

pub object-get : (k : Text) (d : Data) (ms : Members) → as_object d ≡ Some ms → get k d ≡ get_member k ms
object-get k null ms h = cc
object-get k (boolean b) ms h = cc
object-get k (number n) ms h = cc
object-get k (string s) ms h = cc
object-get k (array ds) ms h = cc
object-get k (object os) ms h = let same : os ≡ ms = cc in ap (get_member k) same

-- what the flags of a map answer for a name
pub answers-listed : (name : Text) (es : Listed) → lookup (is_at (λ k. slice_cmp nat_cmp name (string_bytes k))) es ≡ listed_answer name (map flag_view es)
answers-listed name [] = refl
answers-listed name (e ∷ es) = rw (is_eq-slice_cmp name (string_bytes e.0), answers-listed name es) refl

-- ---- the flags of the members so far are read, or there is a fault

module _ (d : Data) (done : List Entry) where
  abbrev pub AreFlags : Result (BTreeMap (String Global) Feature) BundleError → Type 0
  AreFlags flags = IfOk flags (λ f. flags_of (members_view done) ≡ Some (flags_view f)) × IfErr flags (Locates (an_object_of a_feature) d)

module _ (d : Data) (done : List Entry) (e : Entry) (more : List Entry) (is : as_object d ≡ Some (members_view (done ++ e ∷ more))) (sorted : IsStrictlySortedBy string_cmp (keys_of (done ++ e ∷ more))) where
  module _ (flags : Result (BTreeMap (String Global) Feature) BundleError) (before : AreFlags d done flags) (read : Option Feature) (same : feature_in (view e.1) ≡ read) (answer : Result Feature BundleError) (good : IfOk answer (λ x. read ≡ Some x)) (bad : IfErr answer (IsUnreadUnder (string_bytes e.0) read)) where
    grown : (all : BTreeMap (String Global) Feature) → IsWithFlag flags e.0 answer all → flags_of (members_view (done ++ e ∷ [])) ≡ Some (flags_view all)
    grown all (earlier, last, was, this, (own, named, added)) =
        flags-turn done earlier.entries all.entries e more own last
        (IfOk-at_ok (λ (f : BTreeMap (String Global) Feature). flags_of (members_view done) ≡ Some (flags_view f)) was before.0) sorted named
        (same ∙ IfOk-at_ok (λ x. read ≡ Some x) this good) added

    wrong : (fault : BundleError) → IsUnreadUnder (string_bytes e.0) read fault → Locates (an_object_of a_feature) d fault
    wrong fault (inner, none, here, under) =
        let found : get (string_bytes e.0) d ≡ Some (view e.1) = object-get (string_bytes e.0) d (members_view (done ++ e ∷ more)) is ∙ found-middle done e more sorted in
        Locates-member a_feature (string_bytes e.0) d (view e.1) inner fault found (Locates-here a_feature (view e.1) inner here (same ∙ none)) under

    faulty : (fault : BundleError) → IsFlagFault flags answer fault → Locates (an_object_of a_feature) d fault
    faulty fault (inl refused) = IfPlace-memory (IsBroken (an_object_of a_feature) d) fault refused
    faulty fault (inr (inl was)) = IfErr-at_err (Locates (an_object_of a_feature) d) was before.1
    faulty fault (inr (inr this)) = wrong fault (IfErr-at_err (IsUnreadUnder (string_bytes e.0) read) this bad)

    -- a turn of the loop
    pub one-flag : (all : Result (BTreeMap (String Global) Feature) BundleError) → IfOk all (IsWithFlag flags e.0 answer) → IfErr all (IsFlagFault flags answer) → AreFlags d (done ++ e ∷ []) all
    one-flag all ok place = (
      IfOk-weaker all (IsWithFlag flags e.0 answer) (λ f. flags_of (members_view (done ++ e ∷ [])) ≡ Some (flags_view f)) grown ok,
      IfErr-weaker all (IsFlagFault flags answer) (Locates (an_object_of a_feature) d) faulty place,
    )
