-- Numbers among members.
use Rattle.std.proofs.Common.{◌≡◌, Bool, true, false, ◌||◌, None, Some, refl, Ordering, Less, Equal, Greater}
use Rattle.std.specs.Ordering.{nat_cmp, match_ordering}
use Rattle.std.specs.Cmp.Lexicographic.{slice_cmp}
use Rattle.serde_json.specs.Data.{Data, Members, no_members, member, put}
use Rattle.serde_json.specs.Find.{get_member}
use Rattle.wesl_tree_names.specs.Path.{Text}
use Rattle.wesl_json_light.specs.Numbers.{has_number, members_have_number}
use Rattle.std.proofs.lemmas.Bool.{or_right}

or_swap : (a b c : Bool) → (a || (b || c)) ≡ (b || (a || c))
or_swap true true c = refl
or_swap true false c = refl
or_swap false true c = refl
or_swap false false c = refl

pub or_assoc : (a b c : Bool) → (a || (b || c)) ≡ ((a || b) || c)
or_assoc true b c = refl
or_assoc false b c = refl

-- a tree alone, and those after it
pub join : (a b c : Bool) → ((a || b || false) || c) ≡ (a || b || c)
join true b c = refl
join false true c = refl
join false false c = refl

put_at : (o : Ordering) (k l : Text) (d e : Data) (ms : Members) → match_ordering o (get_member k ms) (Some e) (get_member k ms) ≡ None
    → (get_member k ms ≡ None → members_have_number (put k d ms) ≡ (has_number d || members_have_number ms))
    → members_have_number (match_ordering o (member k d (member l e ms)) (member l d ms) (member l e (put k d ms))) ≡ (has_number d || (has_number e || members_have_number ms))
put_at Less k l d e ms out f = refl
put_at Equal k l d e ms out f = absurd (let x : ⊥ = cc in x)
put_at Greater k l d e ms out f = rw (f out) (or_swap (has_number e) (has_number d) (members_have_number ms))

-- a member at a new key
pub put_number : (k : Text) (d : Data) (ms : Members) → get_member k ms ≡ None → members_have_number (put k d ms) ≡ (has_number d || members_have_number ms)
put_number k d no_members out = refl
put_number k d (member l e ms) out = put_at (slice_cmp nat_cmp k l) k l d e ms out (put_number k d ms)

there_at : (o : Ordering) (k l : Text) (d e : Data) (ms : Members) → has_number d ≡ true → members_have_number (put k d ms) ≡ true
    → members_have_number (match_ordering o (member k d (member l e ms)) (member l d ms) (member l e (put k d ms))) ≡ true
there_at Less k l d e ms is more = rw is refl
there_at Equal k l d e ms is more = rw is refl
there_at Greater k l d e ms is more = or_right (has_number e) (members_have_number (put k d ms)) more

-- a member that has a number, at any key
pub put_there : (k : Text) (d : Data) (ms : Members) → has_number d ≡ true → members_have_number (put k d ms) ≡ true
put_there k d no_members is = rw is refl
put_there k d (member l e ms) is = there_at (slice_cmp nat_cmp k l) k l d e ms is (put_there k d ms is)
