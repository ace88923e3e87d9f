-- What holds of the events of each module.
use Rattle.std.specs.Prelude.{ℕ, zero, suc, ◌<◌, List, [], ◌∷◌}
use Rattle.wesl_scope_occurrences.specs.Events.{EventOf, Event, begins, meets, opens, closes, ends}

-- each block that closes has opened, where `d` are open before
abbrev pub AreMatched : {I : Type 0} → ℕ → List (EventOf I) → Type 0
AreMatched d [] = Unit {0}
AreMatched d (opens ∷ es) = AreMatched (suc d) es
AreMatched zero (closes ∷ es) = ⊥
AreMatched (suc d) (closes ∷ es) = AreMatched d es
AreMatched d (begins ∷ es) = AreMatched d es
AreMatched d (meets here r x ∷ es) = AreMatched d es
AreMatched d (ends here x ∷ es) = AreMatched d es

-- the identifier of the event is such
abbrev pub IsMetSo : {I : Type 0} → (I → Type 0) → EventOf I → Type 0
IsMetSo P (meets here r x) = P x
IsMetSo P (ends here x) = P x
IsMetSo P _ = Unit {0}

-- the identifier of each of these events is such
abbrev pub AreMetSo : {I : Type 0} → (I → Type 0) → List (EventOf I) → Type 0
AreMetSo P [] = Unit {0}
AreMetSo P (e ∷ es) = IsMetSo P e × AreMetSo P es

-- the numbers of the identifiers are below n
abbrev pub AreMetBelow : ℕ → List Event → Type 0
AreMetBelow n = AreMetSo (λ x. x < n)
