-- What is written has no number that is not whole.
use Rattle.std.proofs.Common.{◌≡◌, false, refl, Ordering, Less, Equal, Greater}
use Rattle.std.specs.Ordering.{nat_cmp, match_ordering}
use Rattle.std.specs.Cmp.Lexicographic.{slice_cmp}
use Rattle.serde_json.specs.Data.{Data, Items, Members, no_members, member, put}
use Rattle.serde_json.specs.Written.{has_float, items_have_float, members_have_float}
use Rattle.wesl_tree_names.specs.Path.{Text}
use Rattle.wesl_json_light.specs.Readable.{HaveNoFloat}
use Rattle.wesl_json_light.proofs.Held.{IsKept, unit_kept}
use Rattle.std.proofs.lemmas.Bool.{or_from}
use Rattle.wesl_tree_base.proofs.Truth.{or_right, or_left}

abbrev Whole : Data → Type 0
Whole d = has_float d ≡ false

abbrev WholeItems : Items → Type 0
WholeItems ds = items_have_float ds ≡ false

abbrev WholeMembers : Members → Type 0
WholeMembers ms = members_have_float ms ≡ false

put_at : (o : Ordering) (k l : Text) (d e : Data) (ms : Members) → Whole d → Whole e → WholeMembers ms → WholeMembers (put k d ms) → WholeMembers (match_ordering o (member k d (member l e ms)) (member l d ms) (member l e (put k d ms)))
put_at Less k l d e ms a b c f = rw (a, b, c) refl
put_at Equal k l d e ms a b c f = rw (a, c) refl
put_at Greater k l d e ms a b c f = rw (b, f) refl

put_whole : (k : Text) (d : Data) (ms : Members) → Whole d → WholeMembers ms → WholeMembers (put k d ms)
put_whole k d no_members a b = rw a refl
put_whole k d (member l e ms) a b =
    let c = or_left (has_float e) (members_have_float ms) b in
    let r = or_right (has_float e) (members_have_float ms) b in
    put_at (slice_cmp nat_cmp k l) k l d e ms a c r (put_whole k d ms a r)

whole_kept : IsKept Whole WholeItems WholeMembers
whole_kept = record {
  of_null = refl;
  of_truth = λ b. refl;
  of_text = λ s. refl;
  of_whole = λ n. refl;
  of_list = λ ds h. h;
  of_object = λ ms h. h;
  of_no_items = refl;
  of_item = λ d ds h k. or_from (has_float d) (items_have_float ds) h k;
  of_no_members = refl;
  of_put = put_whole;
}

pub have_no_float : HaveNoFloat
have_no_float = unit_kept Whole WholeItems WholeMembers whole_kept
