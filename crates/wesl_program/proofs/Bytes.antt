-- One step after another of what is known of a writer's bytes.
use Rattle.std.proofs.Common.{ℕ, List, ◌++◌, Option, Some, None, ap, ◌∙◌, append_assoc}
use Rattle.std.specs.Io.KnownBytes.{Appends}

pub Appends-then : (a b c : Option (List ℕ)) (xs ys : List ℕ) → Appends a b xs → Appends b c ys → Appends a c (xs ++ ys)
Appends-then None b c xs ys h k = tt
Appends-then (Some a) None c xs ys h k = absurd h
Appends-then (Some a) (Some b) None xs ys h k = absurd k
Appends-then (Some a) (Some b) (Some c) xs ys h k = k ∙ ap (λ r. r ++ ys) h ∙ append_assoc a xs ys
