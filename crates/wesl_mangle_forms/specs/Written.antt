-- What a text that is being written says of what is added.
use Rattle.std.specs.Prelude.{◌≡◌, false, List, ◌∷◌, ◌++◌, length, string_bytes}
use Rattle.std.specs.List.{flat_map}
use Rattle.std.specs.Fmt.{decimal}
use lib.Chars.{codes}
use Rattle.wesl_tree_names.specs.Path.{Text}
use Rattle.wesl_mangle_forms.specs.Escape.{escaped_part}
use Rattle.wesl_mangle_forms.specs.declared.writer.Writer.{Writer}

-- Unless memory was wanting by then: this was added, and memory was not wanting before either.
pub record AddsText (old new : Writer) (t : Text) : Type 0 where
  pub added : new.is_refused ≡ false → string_bytes new.text ≡ string_bytes old.text ++ t
  pub noted : new.is_refused ≡ false → old.is_refused ≡ false

-- Unless memory was wanting by then: this is all that was written.
pub record Says (writer : Writer) (t : Text) : Type 0 where
  pub said : writer.is_refused ≡ false → string_bytes writer.text ≡ t

-- the pieces of a name of several parts
abbrev pub imported : List Text → List Text
imported parts = codes "import" ∷ decimal (length parts) ∷ flat_map escaped_part parts
