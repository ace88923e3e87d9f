-- What is told of the bytes of a bundle.
use Rattle.std.specs.Prelude.{◌≡◌, ◌==◌, ℕ, List, vec_len}
use Rattle.wesl_explain_world.specs.Explained.{ExplainsHeld}
use Rattle.wesl_explain_world.specs.declared.explanation.Explanation.{Explanation}
use Rattle.wesl_explain.specs.declared.telling.Told.{Told}

-- an explanation of the bytes: that the bundle links is told exactly where it has no fault
abbrev pub IsToldOf : List ℕ → Told → Type 0
IsToldOf bytes t = (e : Explanation) × ExplainsHeld bytes e × (t.is_linked ≡ (vec_len e.faults == 0))
