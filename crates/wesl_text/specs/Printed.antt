-- As which text a unit is printed, whether a text says it or not.
use Rattle.std.specs.Prelude.{◌≡◌, true, false, None}
use Rattle.std.proofs.Common.{Bool, refl, sym as turned, ◌∙◌}
use Rattle.wesl_tree_names.specs.Path.{Text}
use Rattle.wesl_tree_syntax.specs.Unit.{UnitOf}
use Rattle.wesl_text_tokens.specs.Tokens.{tokens}
use Rattle.wesl_text_form.specs.Says.{IsWritable, TextSays}
use Rattle.wesl_text_reading.proofs.Promises.{text_says_one_unit}

-- the text says the unit, where one does; else it has no tokens
abbrev pub PrintsAs : UnitOf Text → Text → Type 0
PrintsAs u t = (IsWritable u ≡ true → TextSays t u) × (IsWritable u ≡ false → tokens t ≡ None)

-- what was printed says no other unit
pub said_again : (u v : UnitOf Text) (t : Text) → PrintsAs u t → TextSays t v → v ≡ u
said_again u v t printed read = by (IsWritable u) refl where
  by : (b : Bool) → IsWritable u ≡ b → v ≡ u
  by true e = text_says_one_unit t v u read (printed.0 e)
  by false e = let z : ⊥ = Prim.cc (turned (printed.1 e) ∙ read.1) in absurd z
