use Rattle.std.proofs.Common.{◌≡◌, List, ℕ, true, cond, Some, string_bytes, bytes_eq}
use Rattle.std.specs.List.{list_any}
use Rattle.std.specs.BTreeMap.{get_by_text}
use Rattle.wesl_cond_features.specs.Features.{answer_to, and_then}
use Rattle.wesl_cond_features.proofs.features.add_answers.Given as goal

abbrev pub invariant-loop-name : goal.invariant-loop-name
invariant-loop-name l =
    l.is_whole ≡ true → (q : List ℕ) → get_by_text l.flags q ≡ cond (list_any (λ k. bytes_eq q (string_bytes k.now)) l.yielded) (Some (and_then (answer_to l.first q) (answer_to l.next q))) (get_by_text l.fn.flags q)
