-- The laws of the two forms.
use Rattle.std.specs.Prelude.{◌≡◌, ◌<◌, ◌^◌, true, length, Some, All}
use Rattle.wesl_tree_names.specs.Path.{Text, Origin, absolute, relative, from_package, Path}
use Rattle.wesl_mangle_forms.specs.Escape.{escape, unescape, is_reversible}
use Rattle.wesl_mangle_forms.specs.Unicode.{unicode, from_unicode, has_own_words}

-- a text is shorter than this bound, as each text of code is
abbrev pub IsShort : Text → Type 0
IsShort t = length t < 2 ^ 63

-- the name of a package is short; of any other origin nothing is asked
abbrev pub IsShortOrigin : Origin → Type 0
IsShortOrigin absolute = Unit {0}
IsShortOrigin (relative n) = Unit {0}
IsShortOrigin (from_package n) = IsShort n

-- all names are short: a package's, each component, and the item
abbrev pub HasShortNames : Path → Text → Type 0
HasShortNames p i = IsShortOrigin p.origin × All IsShort p.components × IsShort i

-- What was written in the escape form is read back, where all names are short and plain.
abbrev pub RoundTrip : Type 0
RoundTrip = (p : Path) (i : Text) → HasShortNames p i → is_reversible p i ≡ true → unescape (escape p i) ≡ Some (p, i)

-- What was written in the Unicode form is read back, where every name is a word of its own.
abbrev pub UnicodeRoundTrip : Type 0
UnicodeRoundTrip = (p : Path) (i : Text) → has_own_words p i ≡ true → from_unicode (unicode p i) ≡ Some (p, i)
