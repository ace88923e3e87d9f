use Rattle.std.proofs.Common.{◌≡◌, List, Some, None, string_bytes, bytes_eq, length, sym, subst, rules}
use Rattle.std.specs.HashMap.{get_by_text}
use Rattle.std.specs.Map.{update}
use Rattle.std.proofs.lemmas.Map.Text.{hash_map_updates_text}
use Rattle.wesl_tree_names.specs.Path.{Text}
use Rattle.wesl_json_read.specs.Numbered.{AreNumbers}
use Rattle.wesl_json_read.proofs.Spellings.{held_number, next_number, more_numbers, same_numbers}
use Rattle.wesl_json_read.proofs.numbering.Numbering.number.Goals as goal

pub returns-in-Some-clause-number : goal.returns-in-Some-clause-number
returns-in-Some-clause-number c =
    rw (← c.self.view_is) (held_number c.self.inside.names (get_by_text c.self.inside.numbers) c.args.name.now c.in-Some.number.now c.self.invariant (sym c.in-Some.ensures.value))

pub returns-in-Ok-clause-number : goal.returns-in-Ok-clause-number
returns-in-Ok-clause-number c = rw (← c.self.view_is, c.in-Ok.ensures.number, c.in-Ok.ensures.added) (next_number c.self.inside.names c.args.name.now)

pub invariant_of-self-in-Ok : goal.invariant_of-self-in-Ok
invariant_of-self-in-Ok c =
    let names : List Text = c.self.inside.names in
    let old = c.self.inside.numbers in
    let new = c.insert.new.self in
    let text = string_bytes c.in_ok-from_str.field-0 in
    let free : get_by_text old c.args.name.now ≡ None = search rules in
    let same : text ≡ c.args.name.now = search rules in
    let put : (s : Text) → get_by_text new s ≡ update bytes_eq (get_by_text old) c.args.name.now (Some (length names)) s =
    subst (λ n. (s : Text) → get_by_text new s ≡ update bytes_eq (get_by_text old) n (Some (length names)) s) same
    (subst (λ i. (s : Text) → get_by_text new s ≡ update bytes_eq (get_by_text old) text (Some i) s) c.len-number.ensures (hash_map_updates_text text old new _ c.in_ok-insert.ensures.updates)) in
    subst (λ ns. AreNumbers ns (get_by_text new)) (sym c.in-Ok.ensures.added) (more_numbers names c.args.name.now (get_by_text old) (get_by_text new) c.self.invariant free put)

pub invariant_of-self-in-Err : goal.invariant_of-self-in-Err
invariant_of-self-in-Err c =
    let names : List Text = c.self.inside.names in
    let old = c.self.inside.numbers in
    let mid = c.insert.new.self in
    let new = c.remove.new.self in
    let text = string_bytes c.in_ok-from_str.field-0 in
    let free : get_by_text old c.args.name.now ≡ None = search rules in
    let same : text ≡ c.args.name.now = search rules in
    let put : (s : Text) → get_by_text mid s ≡ update bytes_eq (get_by_text old) c.args.name.now (Some c.len-number.result) s =
    subst (λ n. (s : Text) → get_by_text mid s ≡ update bytes_eq (get_by_text old) n (Some c.len-number.result) s) same
    (hash_map_updates_text text old mid _ c.in_ok-insert.ensures.updates) in
    let out : (s : Text) → get_by_text new s ≡ update bytes_eq (get_by_text mid) c.args.name.now None s =
    hash_map_updates_text c.args.name.now mid new _ c.remove.ensures.updates in
    subst (λ ns. AreNumbers ns (get_by_text new)) (sym c.in-Err.ensures.unchanged) (same_numbers names c.args.name.now c.len-number.result (get_by_text old) (get_by_text mid) (get_by_text new) c.self.invariant free put out)
