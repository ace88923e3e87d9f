-- Paths whose packages have slashes in their names.
use Rattle.std.specs.Prelude.{Bool, false, ◌&&◌, List, ◌∷◌, Option, Some, None, option_and_then}
use Rattle.wesl_tree_base.specs.Pieces.{cut, is_keyword, slash}
use Rattle.wesl_tree_names.specs.Path.{Text, from_package}
use Rattle.wesl_tree_syntax.specs.Tree.{path}
use Rattle.wesl_text_tokens.specs.declared.symbol.Symbol.TheVariants as is
use Rattle.wesl_text_tokens.specs.Tokens.{Token, name, symbol}
use Rattle.wesl_text_form.specs.Slots.{behind_token}
use Rattle.wesl_text_form.specs.Spelling.{Label}
use Rattle.wesl_text_reading.specs.FirstTokens.{begins_path}
use Rattle.wesl_text_reading.specs.Leaves.{Read, after, are_free, slashed, where_so}
use Rattle.wesl_text_read.specs.First.{read_steps}

-- the word behind a `/`, where both come first
abbrev pub slash_first : List Token → Option Text
slash_first (symbol is.Slash ∷ name t ∷ ts) = Some t
slash_first _ = None

-- whether a path begins with `package`, `self` or `super`, and `::` behind it
abbrev pub begins_keyword_path : List Token → Bool
begins_keyword_path (name t ∷ ts) = begins_path false (name t ∷ ts) && is_keyword t
begins_keyword_path _ = false

-- the name of a package, each of whose words may be used as a name
abbrev pub read_package_name : List Token → Read Text
read_package_name ts = let x : Text × List Token = slashed ts in where_so (are_free (cut slash x.0)) x.0 x.1

-- the names behind the name of a package and its `::`, as a path
abbrev pub read_behind_package : Text → List Token → Read Label
read_behind_package t ts =
    option_and_then
    (λ us. after (read_steps us) (λ xs vs. Some (path (record { origin = from_package t; components = xs }), vs)))
    (behind_token (symbol is.ColonColon) ts)

-- a path that begins with the name of a package, whatever the name is
abbrev pub read_package : List Token → Read Label
read_package ts = after (read_package_name ts) read_behind_package
