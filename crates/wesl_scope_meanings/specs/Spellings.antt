-- Numbers for spellings: of each name of a table the number of its text, where each text stands once.
use Rattle.std.specs.Prelude.{◌≡◌, ℕ, ◌<◌, List, length, map}
use Rattle.std.specs.List.{All}
use Rattle.wesl_tree_names.specs.Path.{Text}
use Rattle.wesl_tree_syntax.specs.Unit.{name_in}
use Rattle.wesl_scope_open.specs.Named.{AreDistinct}

-- `alike` has for each of the names the number of its text among `texts`, where no text stands twice
pub record AreSpellings (names texts : List Text) (alike : List ℕ) : Type 0 where
  pub apart : AreDistinct texts
  pub below : All (λ k. k < length texts) alike
  pub spelled : map (name_in texts) alike ≡ names

-- they are so for some texts, as many as `count`
pub record HasSpellings (names : List Text) (alike : List ℕ) (count : ℕ) : Type 0 where
  pub texts : List Text
  pub counted : count ≡ length texts
  pub are : AreSpellings names texts alike
