-- What is written has the members of each object in the order of their keys.
use Rattle.std.proofs.Common.{◌≡◌, refl, ap, ap₂, ◌∙◌, Ordering, Less, Equal, Greater}
use Rattle.std.proofs.lemmas.Cmp.{nat_list_cmp_total}
use Rattle.std.specs.Prelude.{⊤}
use Rattle.std.specs.Ordering.{nat_cmp, match_ordering, ordering_reverse}
use Rattle.std.specs.Cmp.Lexicographic.{slice_cmp}
use Rattle.serde_json.specs.Data.{Data, null, boolean, number, string, array, object, Items, no_items, item, Members, no_members, member, put}
use Rattle.wesl_tree_names.specs.Path.{Text}
use Rattle.wesl_json_light.specs.Order.{sorted, sorted_items, sorted_members}
use Rattle.wesl_json_light.specs.Readable.{AreSorted}
use Rattle.wesl_json_light.proofs.Held.{IsKept, unit_kept}

-- the key comes before that of the first member
abbrev IsBelow : Text → Members → Type 0
IsBelow k no_members = ⊤
IsBelow k (member l d ms) = slice_cmp nat_cmp k l ≡ Less

abbrev mutual
  IsSorted : Data → Type 0
  IsSorted null = ⊤
  IsSorted (boolean b) = ⊤
  IsSorted (number n) = ⊤
  IsSorted (string s) = ⊤
  IsSorted (array ds) = AreItemsSorted ds
  IsSorted (object ms) = AreMembersSorted ms

  AreItemsSorted : Items → Type 0
  AreItemsSorted no_items = ⊤
  AreItemsSorted (item d ds) = IsSorted d × AreItemsSorted ds

  AreMembersSorted : Members → Type 0
  AreMembersSorted no_members = ⊤
  AreMembersSorted (member k d ms) = IsSorted d × IsBelow k ms × AreMembersSorted ms

-- ---- a member more

below_at : (o : Ordering) (l k m : Text) (d e : Data) (ms : Members) → slice_cmp nat_cmp l k ≡ Less → slice_cmp nat_cmp l m ≡ Less → IsBelow l (match_ordering o (member k d (member m e ms)) (member m d ms) (member m e (put k d ms)))
below_at Less l k m d e ms first second = first
below_at Equal l k m d e ms first second = second
below_at Greater l k m d e ms first second = second

below_put : (l k : Text) (d : Data) (ms : Members) → slice_cmp nat_cmp l k ≡ Less → IsBelow l ms → IsBelow l (put k d ms)
below_put l k d no_members first below = first
below_put l k d (member m e ms) first below = below_at (slice_cmp nat_cmp k m) l k m d e ms first below

sorted_at : (o : Ordering) (k l : Text) (d e : Data) (ms : Members) → slice_cmp nat_cmp k l ≡ o → IsSorted d → IsSorted e → IsBelow l ms → AreMembersSorted ms → AreMembersSorted (put k d ms) → AreMembersSorted (match_ordering o (member k d (member l e ms)) (member l d ms) (member l e (put k d ms)))
sorted_at Less k l d e ms is a b below rest more = (a, is, (b, below, rest))
sorted_at Equal k l d e ms is a b below rest more = (a, below, rest)
sorted_at Greater k l d e ms is a b below rest more = (b, below_put l k d ms (nat_list_cmp_total.antisymm l k ∙ ap ordering_reverse is) below, more)

put_sorted : (k : Text) (d : Data) (ms : Members) → IsSorted d → AreMembersSorted ms → AreMembersSorted (put k d ms)
put_sorted k d no_members a h = (a, tt, tt)
put_sorted k d (member l e ms) a h = sorted_at (slice_cmp nat_cmp k l) k l d e ms refl a h.0 h.1 h.2 (put_sorted k d ms a h.2)

sorted_kept : IsKept IsSorted AreItemsSorted AreMembersSorted
sorted_kept = record {
  of_null = tt;
  of_truth = λ b. tt;
  of_text = λ s. tt;
  of_whole = λ n. tt;
  of_list = λ ds h. h;
  of_object = λ ms h. h;
  of_no_items = tt;
  of_item = λ d ds h k. (h, k);
  of_no_members = tt;
  of_put = put_sorted;
}

-- ---- what is sorted stays as it is

first_place : (k : Text) (d : Data) (ms : Members) → IsBelow k ms → put k d ms ≡ member k d ms
first_place k d no_members below = refl
first_place k d (member l e ms) below = rw below refl

mutual
  same : (d : Data) → IsSorted d → sorted d ≡ d
  same null h = refl
  same (boolean b) h = refl
  same (number n) h = refl
  same (string s) h = refl
  same (array ds) h = ap array (items_same ds h)
  same (object ms) h = ap object (members_same ms h)

  items_same : (ds : Items) → AreItemsSorted ds → sorted_items ds ≡ ds
  items_same no_items h = refl
  items_same (item d ds) h = ap₂ item (same d h.0) (items_same ds h.1)

  members_same : (ms : Members) → AreMembersSorted ms → sorted_members ms ≡ ms
  members_same no_members h = refl
  members_same (member k d ms) h = ap₂ (put k) (same d h.0) (members_same ms h.2) ∙ first_place k d ms h.1

pub are_sorted : AreSorted
are_sorted spans u = same _ (unit_kept IsSorted AreItemsSorted AreMembersSorted sorted_kept spans u)
