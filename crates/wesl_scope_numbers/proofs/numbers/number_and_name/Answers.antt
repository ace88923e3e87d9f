use Rattle.std.proofs.Common.{map, ap, ◌∙◌}
use Rattle.std.specs.Prelude.{Result, Ok, Err, IfOk}
use Rattle.wesl_scope_meanings.specs.Keys.{flat, key_name}
use Rattle.wesl_scope_numbers.proofs.numbers.number_and_name.Goals as goal

of_ok : {A E : Type 0} {P Q : A → Type 0} (r : Result A E) → ((x : A) → P x → Q x) → IfOk r P → IfOk r Q
of_ok (Ok x) f p = f x p
of_ok (Err e) f p = p

pub returns-clause-numbers : goal.returns-clause-numbers
returns-clause-numbers c = of_ok c.names.result (λ names are. c.in_ok-number_all.ensures.numbers) c.names.ensures.names

pub returns-clause-table : goal.returns-clause-table
returns-clause-table c =
    of_ok c.names.result (λ names are. are ∙ (ap (λ ks. map key_name (map flat ks)) c.as_slice.ensures.keys ∙ ap (map key_name) c.in_ok-number_all.ensures.keys)) c.names.ensures.names
