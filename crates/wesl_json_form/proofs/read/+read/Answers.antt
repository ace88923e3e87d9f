use Rattle.std.proofs.Common.{◌≡◌, ◌-◌, ◌<◌, [], ◌∷◌, ◌++◌, length, Some, None, refl, sym, ap, ◌∙◌, arith, rules}
use Rattle.std.proofs.lemmas.List.{append_assoc, append-nil}
use Rattle.json.specs.Json.{parse_map, after_end_array, read_key, members, value}
use Rattle.json.specs.Reads.{token_of}
use Rattle.json.proofs.Grammar.{value_is, read_key-shorter}
use Rattle.serde_json.specs.Data.{array, object, put}
use Rattle.serde_json.specs.Read.{of_json, of_members, converted}
use Rattle.wesl_json_form.specs.View.{borrowed_view, items_view, members_view}
use Rattle.wesl_json_form.proofs.Lists.{Entry, lies_above, members_view-then}
use Rattle.wesl_json_form.specs.Text.{value_at}
use Rattle.wesl_json_form.proofs.Turns.{array_at, object_at, array_too_deep, object_too_deep, item_read, item_refused, items_over, member_read, member_refused, key_refused, members_over}
use Rattle.wesl_json_form.proofs.Views.{array_view, object_view, and_then_items, items_alone, no_item_yet, one_more_item}
use Rattle.wesl_json_form.proofs.read.+read.Goals as goal
use Rattle.wesl_json_form.proofs.read.+read.Goals.{read-in_default-via-in-BeginArray+else-depth-gt0, read-in_default-via-in-BeginObject+else-depth-gt0-2, read-in_default-via-in_default}

pub read-returns-in_default-clause-none : goal.read-returns-in_default-clause-none
read-returns-in_default-clause-none t c refused =
    let first : c.args.reader.now ≡ token_of c.in_ok-token.token ∷ c.next.new.self = grind arith in
    elim c.in_default.branch [
      | read-in_default-via-in-BeginArray+else-depth-gt0 w ↦ ap (value_at c.args.depth) (first ∙ ap (λ k. token_of k ∷ c.next.new.self) w.in-BeginArray.is) ∙ array_too_deep c.args.depth _ (omega arith)
      | read-in_default-via-in-BeginObject+else-depth-gt0-2 w ↦ ap (value_at c.args.depth) (first ∙ ap (λ k. token_of k ∷ c.next.new.self) w.in-BeginObject.is) ∙ object_too_deep c.args.depth _ (omega arith)
      | read-in_default-via-in_default w ↦
          (let d = w.in_default in
          let none : value c.args.depth c.args.reader.now ≡ None = rw (value_is c.args.depth c.args.reader.now, first) (grind (arith, d.not-BeginObject, d.not-BeginArray, d.not-String, d.not-Number, d.not-Bool, d.not-Null)) in
          ap (converted of_json) none)
    ]

pub read-returns-in_err-read_items-in-BeginArray-clause-none : goal.read-returns-in_err-read_items-in-BeginArray-clause-none
read-returns-in_err-read_items-in-BeginArray-clause-none t c refused =
    let first : c.args.reader.now ≡ token_of c.in_ok-token.token ∷ c.next.new.self = grind arith in
    ap (value_at c.args.depth) (first ∙ ap (λ k. token_of k ∷ c.next.new.self) c.in-BeginArray.is) ∙ array_at c.args.depth _ (omega arith) ∙ ap (parse_map array) (c.read_items.ensures.none (grind arith))

pub read-returns-in_err-read_members-in-BeginObject-clause-none : goal.read-returns-in_err-read_members-in-BeginObject-clause-none
read-returns-in_err-read_members-in-BeginObject-clause-none t c refused =
    let first : c.args.reader.now ≡ token_of c.in_ok-token.token ∷ c.next.new.self = grind arith in
    ap (value_at c.args.depth) (first ∙ ap (λ k. token_of k ∷ c.next.new.self) c.in-BeginObject.is) ∙ object_at c.args.depth _ (omega arith) ∙ ap (parse_map object) (c.read_members.ensures.none (grind arith))

pub read-returns-in_ok-read_items-in-BeginArray-clause-ok : goal.read-returns-in_ok-read_items-in-BeginArray-clause-ok
read-returns-in_ok-read_items-in-BeginArray-clause-ok t c =
    let first : c.args.reader.now ≡ token_of c.in_ok-token.token ∷ c.next.new.self = grind arith in
    let found = c.in_ok-read_items-in-BeginArray in
    ap (value_at c.args.depth) (first ∙ ap (λ k. token_of k ∷ c.next.new.self) c.in-BeginArray.is) ∙ array_at c.args.depth _ (omega arith) ∙ ap (parse_map array) found.ensures.ok
    ∙ ap (λ d. Some (d, c.read_items.new.reader)) (sym (array_view found.field-0))

pub read-returns-in_ok-read_members-in-BeginObject-clause-ok : goal.read-returns-in_ok-read_members-in-BeginObject-clause-ok
read-returns-in_ok-read_members-in-BeginObject-clause-ok t c =
    let first : c.args.reader.now ≡ token_of c.in_ok-token.token ∷ c.next.new.self = grind arith in
    let found = c.in_ok-read_members-in-BeginObject in
    ap (value_at c.args.depth) (first ∙ ap (λ k. token_of k ∷ c.next.new.self) c.in-BeginObject.is) ∙ object_at c.args.depth _ (omega arith) ∙ ap (parse_map object) found.ensures.ok
    ∙ ap (λ d. Some (d, c.read_members.new.reader)) (sym (object_view found.field-0))

-- ---- items

pub read_items-items-init : goal.read_items-items-init
read_items-items-init t c = ([], length c.args.reader.now, omega arith, no_item_yet _, omega arith, sym (append-nil _), refl)

pub read_items-returns-in_err-value-clause-none : goal.read_items-returns-in_err-value-clause-none
read_items-returns-in_err-value-clause-none t c refused =
    let l = c.items in
    let going : (after_end_array l.reader ≡ None) × (c.take_end_array.new.self ≡ l.reader) = grind arith in
    l.invariant.3 ∙ ap (parse_map (and_then_items l.invariant.0)) (item_refused (value c.args.depth) l.invariant.1 l.reader going.0 (rw (← going.1) (c.read.ensures.none (grind arith))))

pub read_items-items-preserved : goal.read_items-items-preserved
read_items-items-preserved t c =
    let p = value c.args.depth in
    let l = c.items in
    let n = l.invariant.1 in
    let r = c.read.new.reader in
    let v = c.in_ok-value.value in
    let going : (after_end_array l.reader ≡ None) × (c.take_end_array.new.self ≡ l.reader) = grind arith in
    let less : length r < length l.reader = rw (← going.1) c.in_ok-value.ensures.shorter in
    let turn = item_read p n l.reader r (borrowed_view v) (omega (arith, l.invariant.2)) going.0 (rw (← going.1) c.in_ok-value.ensures.ok) in (
      l.invariant.0 ++ v ∷ [],
      n - 1,
      omega (arith, l.invariant.2),
      l.invariant.3 ∙ ap (parse_map (and_then_items l.invariant.0)) turn ∙ one_more_item l.invariant.0 v _,
      omega (arith, l.invariant.4),
      c.in_ok-push.ensures.items ∙ ap (λ vs. vs ++ v ∷ []) (c.in_ok-value.ensures.items ∙ l.invariant.5) ∙ append_assoc _ l.invariant.0 (v ∷ []),
      c.in_ok-value.ensures.members ∙ l.invariant.6,
    )

pub read_items-returns-clause-ok : goal.read_items-returns-clause-ok
read_items-returns-clause-ok t c =
    let l = c.items in
    let r = c.take_end_array.new.self in
    l.invariant.3 ∙ ap (parse_map (and_then_items l.invariant.0)) (items_over (value c.args.depth) l.invariant.1 l.reader r l.invariant.2 (grind arith)) ∙ ap (λ ds. Some (ds, r)) (items_alone l.invariant.0)
    ∙ ap (λ vs. Some (items_view vs, r)) (sym (c.in_ok-end_items.ensures.ended ∙ lies_above _ l.invariant.0 _ _ (search rules) l.invariant.5))

-- ---- members

pub read_members-members-init : goal.read_members-members-init
read_members-members-init t c = ([], length c.args.reader.now, omega arith, refl, omega arith, refl, sym (append-nil _))

pub read_members-returns-in_err-text-clause-none : goal.read_members-returns-in_err-text-clause-none
read_members-returns-in_err-text-clause-none t c refused =
    let l = c.members in
    l.invariant.3 ∙ key_refused (value c.args.depth) (members_view l.invariant.0) l.invariant.1 l.reader c.in_err-text.ensures.value

pub read_members-returns-in_err-value-clause-none : goal.read_members-returns-in_err-value-clause-none
read_members-returns-in_err-value-clause-none t c refused =
    let l = c.members in
    let k = c.in-Some.text.now in
    let s = c.next_key.new.self in
    let named : read_key l.reader ≡ Some (Some k, s) = grind arith in
    l.invariant.3 ∙ member_refused (value c.args.depth) (members_view l.invariant.0) l.invariant.1 k l.reader s named (c.read.ensures.none (grind arith))

pub read_members-members-preserved : goal.read_members-members-preserved
read_members-members-preserved t c =
    let p = value c.args.depth in
    let l = c.members in
    let n = l.invariant.1 in
    let k = c.in-Some.text.now in
    let v = c.in_ok-value.value in
    let s = c.next_key.new.self in
    let r = c.read.new.reader in
    let named : read_key l.reader ≡ Some (Some k, s) = grind arith in
    let less = read_key-shorter l.reader (Some k) s named in
    let lesser = c.in_ok-value.ensures.shorter in
    let m : Entry = (c.in_ok-key.key, v) in
    let kept = c.in_ok-key.ensures in (
      l.invariant.0 ++ m ∷ [],
      n - 1,
      omega (arith, l.invariant.2),
      l.invariant.3 ∙ member_read p (members_view l.invariant.0) n k l.reader s r (borrowed_view v) (omega (arith, l.invariant.2)) named c.in_ok-value.ensures.ok
          ∙ ap (λ t. converted (λ ms. of_members ms (put t (borrowed_view v) (members_view l.invariant.0))) (members p (n - 1) r)) (sym kept.text)
          ∙ ap (λ found. converted (λ ms. of_members ms found) (members p (n - 1) r)) (sym (members_view-then l.invariant.0 m)),
      omega (arith, l.invariant.4),
      c.in_ok-value.ensures.items ∙ c.key.ensures.items ∙ l.invariant.5,
      c.in_ok-push.ensures.items ∙ ap (λ ms. ms ++ m ∷ []) (c.in_ok-value.ensures.members ∙ c.key.ensures.members ∙ l.invariant.6) ∙ append_assoc _ l.invariant.0 (m ∷ []),
    )

pub read_members-returns-clause-ok : goal.read_members-returns-clause-ok
read_members-returns-clause-ok t c =
    let l = c.members in
    l.invariant.3 ∙ members_over (value c.args.depth) (members_view l.invariant.0) l.invariant.1 l.reader c.next_key.new.self l.invariant.2 (grind arith)
    ∙ ap (λ ms. Some (members_view ms, c.next_key.new.self)) (sym (c.in_ok-end_members.ensures.ended ∙ lies_above _ l.invariant.0 _ _ (search rules) l.invariant.6))
