-- Rows, by computation.
use Rattle.std.proofs.Common.{zero, suc, refl, arith}
use Rattle.wesl_json_form.specs.Rows.{ConstantIsRead, ConstantIsReadBare, ConstantIsWritten, WordsAreObjects, WordsAreUnknown, TypesArePlaced, SpansAreOrdered, FallingIsWritten, FormIsTwo}

pub constant_is_read : ConstantIsRead
constant_is_read zero low = absurd (omega arith)
constant_is_read (suc zero) low = absurd (omega arith)
constant_is_read (suc (suc zero)) low = absurd (omega arith)
constant_is_read (suc (suc (suc zero))) low = absurd (omega arith)
constant_is_read (suc (suc (suc (suc zero)))) low = absurd (omega arith)
constant_is_read (suc (suc (suc (suc (suc n))))) low = refl

pub constant_is_read_bare : ConstantIsReadBare
constant_is_read_bare zero low = absurd (omega arith)
constant_is_read_bare (suc zero) low = absurd (omega arith)
constant_is_read_bare (suc (suc zero)) low = absurd (omega arith)
constant_is_read_bare (suc (suc (suc zero))) low = absurd (omega arith)
constant_is_read_bare (suc (suc (suc (suc n)))) low = refl

pub constant_is_written : ConstantIsWritten
constant_is_written = (refl, refl)

pub words_are_objects : WordsAreObjects
words_are_objects = ((refl, refl), (refl, refl), refl, (refl, refl), refl, (refl, refl), refl, (refl, refl))

pub words_are_unknown : WordsAreUnknown
words_are_unknown = (refl, refl, refl)

pub types_are_placed : TypesArePlaced
types_are_placed = ((refl, refl), (refl, refl), (refl, refl), (refl, refl), (refl, refl), (refl, refl), (refl, refl), refl, refl)

pub spans_are_ordered : SpansAreOrdered
spans_are_ordered = ((refl, refl), (refl, refl), refl, refl, refl, refl, refl, refl, refl)

pub falling_is_written : FallingIsWritten
falling_is_written = refl

pub form_is_two : FormIsTwo
form_is_two = ((refl, refl), refl, refl, refl, refl, refl, refl, refl, refl)
