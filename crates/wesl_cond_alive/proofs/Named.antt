-- Choices by the names of flags.
use Rattle.std.proofs.Common.{◌≡◌, ℕ, ◌+◌, ◌<◌, ◌/◌, ◌^◌, false, List, length, get_or, drop, bytes_eq, ap, ◌∙◌}
use denote.Ref.{Bor}
use Rattle.std.proofs.lemmas.List.{drop_more}
use Rattle.std.proofs.lemmas.Nat.{shr-shr}
use Rattle.wesl_tree_base.specs.Borrowed.{texts}
use Rattle.wesl_tree_names.specs.Path.{Text}
use Rattle.wesl_cond_alive.specs.Choices.{choice_of}

-- where the next flag is another
pub choice_later : (fs : List (Bor Text)) (i k : ℕ) (name : Text) (d : Bor Text) → i < length fs → bytes_eq (get_or fs i d).now name ≡ false
    → choice_of (texts (drop i fs)) (k / 2 ^ i) name ≡ choice_of (texts (drop (i + 1) fs)) (k / 2 ^ (i + 1)) name
choice_later fs i k name d h e =
    ap (λ xs. choice_of (texts xs) (k / 2 ^ i) name) (drop_more fs i d h)
    ∙ rw e (ap (λ n. choice_of (texts (drop (i + 1) fs)) n name) (shr-shr k i 1))
