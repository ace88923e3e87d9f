-- What the identifiers of a declaration are to a link (WGSL, "Declaration and Scope"; WESL, "Imports").
use Rattle.std.specs.Prelude.{List, [], ◌∷◌}
use Rattle.wesl_tree_names.specs.Path.{Text, Path}
use Rattle.wesl_cond_choices.specs.declared.place.Place.{Place}
use Rattle.wesl_cond_choices.specs.declared.place.Place.TheVariants.{Name}
use Rattle.wesl_link_symbols.specs.declared.symbols.Reference.{Reference}
use Rattle.wesl_scope_occurrences.specs.Occurrences.{Standing, module_name, word, Occurrence}
use Rattle.wesl_scope_meanings.specs.Scopes.{Key, bound, free, qualified, key_of}
use Rattle.wesl_link_split.specs.Split.{Scope}
pub use Rattle.wesl_link_split.specs.Uses.{Use, declares, refers, unclear, local, said, texts, package_name, module_in_place, or_itself, aims, through, plain_use, path_use}

module _ {P I : Type 0} where
  -- the identifier itself
  abbrev pub use_name : Use P I → I
  use_name (declares n) = n
  use_name (refers n asked) = n
  use_name (unclear n x) = n
  use_name (local b n) = n

  -- what an identifier asks for
  abbrev pub asked : Use P I → List (Reference P I)
  asked (refers n rs) = rs
  asked _ = []

  -- the name that stands for two things, if one does
  abbrev pub unclear_in : Use P I → List I
  unclear_in (unclear n x) = x ∷ []
  unclear_in _ = []

-- ---- an identifier at `here`

module _ (s : Scope Path Text) (here : Place) where
  -- a reference, by what plain scoping says of it
  abbrev pub meant : Text → Key → Use Path Text
  meant n (bound [] m) = plain_use s here n
  meant n (bound (k ∷ outer) m) = local k n
  meant n (free m) = plain_use s here n
  meant n (qualified p m) = path_use s here p n

  -- What an identifier is by how it stands: the name of a global declaration declares it, a word asks for nothing, and any
  -- other name is what plain scoping says of it.
  abbrev pub use_as : Standing → Text → Key → Use Path Text
  use_as module_name n key = declares n
  use_as word n key = refers n []
  use_as _ n key = meant n key

-- an identifier among all of a module
abbrev pub use_of : Scope Path Text → List (Occurrence Text) → Occurrence Text → Use Path Text
use_of s all o = use_as s (Name o.place) o.role o.name (key_of all o)
