-- What is known of a reader's bytes.
use Rattle.std.proofs.Common.{ℕ, List, [], ◌++◌, Option, Some, None, refl, sym, ap, ◌∙◌, append-nil}
use Rattle.std.specs.Io.KnownBytes.{Consumes, IsAtEnd}
use Rattle.wesl.specs.Run.{Had}

-- some bytes that the reader may have had
pub some_had : (had : Option (List ℕ)) → (bytes : List ℕ) × Had had bytes
some_had None = ([], tt)
some_had (Some known) = (known, refl)

-- a reader that was read to its end had the bytes that it gave
pub all_had : (old new : Option (List ℕ)) (bytes : List ℕ) → Consumes old new bytes → IsAtEnd new → Had old bytes
all_had None new bytes given end = tt
all_had (Some xs) None bytes given end = absurd given
all_had (Some xs) (Some ys) bytes given end = sym (given ∙ ap (λ r. bytes ++ r) end ∙ append-nil bytes)
