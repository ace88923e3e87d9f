-- How the items of modules are named.
use Rattle.std.specs.Prelude.{ℕ, List, Option, Some, None}
use Rattle.wesl_tree_names.specs.Path.{Text, Path}
use Rattle.wesl_tree_syntax.specs.Tree.{Tree}
use Rattle.wesl_program_bundle.specs.declared.options.Naming.{Naming}
use Rattle.wesl_program_bundle.specs.declared.options.Naming.TheVariants as naming
use Rattle.wesl_mangle_forms.specs.Items.{numbered}
use Rattle.wesl_mangle_forms.specs.Escape.{escape, unescape}
use Rattle.wesl_mangle_forms.specs.Unicode.{unicode, from_unicode}
use Rattle.wesl_mangle_forms.specs.TypeText.{unicode_variant}

-- the name of an item of a module
abbrev pub named_by : Naming → Path → Text → Text
named_by naming.Escape p n = escape p n
named_by naming.Unicode p n = unicode p n
named_by naming.Own p n = n

-- the item that a name is read as
abbrev pub read_by : Naming → Text → Option (Path × Text)
read_by naming.Escape name = unescape name
read_by naming.Unicode name = from_unicode name
read_by naming.Own name = None

-- the name of a variant of an item
abbrev pub variant_by : Naming → List Text → Text → ℕ → List Tree → Option Text
variant_by naming.Escape names item number types = Some (numbered item number)
variant_by naming.Unicode names item number types = unicode_variant names item types
variant_by naming.Own names item number types = Some (numbered item number)
