-- The keys of members that stand one after another.
use Rattle.std.proofs.Common.{◌≡◌, ℕ, ◌+◌, ◌<◌, List, [], ◌∷◌, length, get_or, map, drop, Bool, true, false, ◌&&◌, Bor, Ordering, Less, Equal, Greater, refl, sym, ap, ◌∙◌, add-one, drop-cons}
use Rattle.std.specs.Cmp.Lexicographic.{slice_cmp}
use Rattle.std.specs.List.{list_any}
use Rattle.std.specs.Ordering.{nat_cmp, match_ordering}
use Rattle.std.specs.Str.{bytes_eq}
use Rattle.serde_json.specs.Data.{Data, Members, no_members, member, put}
use Rattle.wesl_tree_names.specs.Path.{Text}
use Rattle.wesl_json_form.specs.View.{borrowed_view, key_text, members_view, put_all}
use Rattle.wesl_json_form.specs.declared.key.Key.{Key}
use Rattle.wesl_json_form.specs.declared.value.BorrowedValue.{BorrowedValue}
use Rattle.wesl_json_form.specs.Keys.{all_known, keys_beside}
use mathlib.Core.Bool.{and-true}
use Rattle.wesl_json_form.proofs.Broken.{same-text}

abbrev pub Entry : Type 0
Entry = Key × BorrowedValue

abbrev pub is_known : List Text → Text → Bool
is_known known k = list_any (λ x. bytes_eq x k) known

abbrev pub keys_known : List Text → List Entry → Bool
keys_known known [] = true
keys_known known (e ∷ es) = is_known known (key_text e.0) && keys_known known es

among-known : (known : List (Bor (List ℕ))) (k : List ℕ) → list_any (λ x. bytes_eq x.now k) known ≡ is_known (map (λ x. x.now) known) k
among-known [] k = refl
among-known (x ∷ known) k = rw (among-known known k)

-- a key that is not the one beside
pub among : (beside : Bool) (extra k : Text) (known : List (Bor (List ℕ))) → (beside && bytes_eq extra k) ≡ false → list_any (λ x. bytes_eq x.now k) known ≡ is_known (keys_beside beside extra (map (λ x. x.now) known)) k
among true extra k known other = rw (other, among-known known k) refl
among false extra k known other = among-known known k

twice : (a b : Bool) → (a && b) ≡ (a && (a && b))
twice true b = refl
twice false b = refl

swapped : (a b c : Bool) → (a && (b && c)) ≡ (b && (a && c))
swapped true b c = refl
swapped false true c = refl
swapped false false c = refl

moved : (a b c : Bool) → (a && (b && c)) ≡ ((b && a) && c)
moved true true c = refl
moved true false c = refl
moved false true c = refl
moved false false c = refl

known-put_at : (o : Ordering) (known : List Text) (k l : Text) (d e : Data) (ms : Members) → (o ≡ Equal → k ≡ l) → all_known known (put k d ms) ≡ (is_known known k && all_known known ms)
    → all_known known (match_ordering o (member k d (member l e ms)) (member l d ms) (member l e (put k d ms))) ≡ (is_known known k && (is_known known l && all_known known ms))
known-put_at Less known k l d e ms same later = refl
known-put_at Equal known k l d e ms same later =
    twice (is_known known l) (all_known known ms) ∙ ap (λ x. is_known known x && (is_known known l && all_known known ms)) (sym (same refl))
known-put_at Greater known k l d e ms same later =
    ap (λ r. is_known known l && r) later ∙ swapped (is_known known l) (is_known known k) (all_known known ms)

-- a member that is put adds its key, whether the key was there or not
known-put : (known : List Text) (k : Text) (d : Data) (ms : Members) → all_known known (put k d ms) ≡ (is_known known k && all_known known ms)
known-put known k d no_members = refl
known-put known k d (member l e ms) = known-put_at (slice_cmp nat_cmp k l) known k l d e ms (same-text k l) (known-put known k d ms)

known-put_all : (known : List Text) (es : List Entry) (found : Members) → all_known known (put_all (map (λ m. (m.0, borrowed_view m.1)) es) found) ≡ (keys_known known es && all_known known found)
known-put_all known [] found = refl
known-put_all known (e ∷ es) found =
    known-put_all known es (put (key_text e.0) (borrowed_view e.1) found)
    ∙ ap (λ r. keys_known known es && r) (known-put known (key_text e.0) (borrowed_view e.1) found)
    ∙ moved (keys_known known es) (is_known known (key_text e.0)) (all_known known found)

pub known-members : (known : List Text) (es : List Entry) → keys_known known es ≡ all_known known (members_view es)
known-members known es = sym (known-put_all known es no_members ∙ and-true (keys_known known es))

pub known-next : (known : List Text) (es : List Entry) (i : ℕ) (e : Entry) → i < length es → e ≡ get_or es i e → keys_known known (drop i es) ≡ (is_known known (key_text e.0) && keys_known known (drop (i + 1) es))
known-next known es i e low is = rw (drop-cons es i e low, ← is, add-one) refl
