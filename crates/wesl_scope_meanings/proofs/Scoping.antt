-- Blocks by their numbers are blocks by their ways.
use Rattle.std.proofs.Common.{◌≡◌, ℕ, zero, suc, ◌<◌, ◌==◌, List, length, sym, ◌∙◌, ap, arith}
use Rattle.std.specs.Prelude.{bytes_eq}
use Rattle.std.proofs.lemmas.Bool.Decides.{Decides-eqb}
use Rattle.std.proofs.lemmas.Slice.Eq.{bytes_eq-Decides}
use Rattle.wesl_scope_occurrences.specs.Ways.{AreNested, way}
use Rattle.wesl_scope_occurrences.specs.Laws.{WaysLeadOutwards}
use Rattle.wesl_scope_meanings.specs.Keys.{number_of}
use Rattle.wesl_scope_meanings.proofs.Entries.{one_test}

-- a way begins with the number of its block
pub number_of_way : (ways : WaysLeadOutwards) (outer : List ℕ) (b : ℕ) → AreNested outer → b < length outer → number_of (way outer b) ≡ b
number_of_way ways outer zero ns h = ap number_of (ways.whole outer h)
number_of_way ways outer (suc b) ns h = ap number_of (ways.others outer (suc b) ns (omega arith) h)

-- so blocks with one way are one
pub same_way : (ways : WaysLeadOutwards) (outer : List ℕ) (a b : ℕ) → AreNested outer → a < length outer → b < length outer → bytes_eq (way outer a) (way outer b) ≡ (a == b)
same_way ways outer a b ns ha hb =
    one_test _ _ (bytes_eq-Decides (way outer a) (way outer b))
    (λ e. ap (way outer) ((Decides-eqb a b).0 e), λ e. (Decides-eqb a b).1 (sym (number_of_way ways outer a ns ha) ∙ (ap number_of e ∙ number_of_way ways outer b ns hb)))
