-- The words that are no names, by their first letter.
use Rattle.std.specs.Prelude.{ℕ, List, ◌∷◌, ◌≡◌, ◌||◌}
use Rattle.wesl_tree_names.specs.Path.{Text}
use Rattle.wesl_text_form.specs.Names.{is_among, keywords, reserved_words}

-- a word that begins with this byte is one of these if and only if it is a keyword or reserved
unfoldable pub AreTakenWords : ℕ → List Text → Type 0
AreTakenWords b ws = (t : Text) → is_among ws (b ∷ t) ≡ (is_among keywords (b ∷ t) || is_among reserved_words (b ∷ t))
