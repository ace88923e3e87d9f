-- A judge of identifiers that has met none.
use Rattle.std.specs.Prelude.{◌≡◌, ℕ, List, length}
use Rattle.wesl_tree_names.specs.Path.{Text}
use Rattle.wesl_scope_meanings.specs.Spellings.{HasSpellings}
use Rattle.wesl_scope_numbers.specs.Judging.{begun}
use Rattle.wesl_scope_numbers.specs.Judges.{known}
use Rattle.wesl_scope_numbers.specs.declared.judge.Judge.{Judge}

-- with numbers of names for these names
pub record IsBegun (names : List Text) (j : Judge) : Type 0 where
  pub wide : ℕ
  pub spelled : HasSpellings names j.alike.items wide
  pub knows : known j ≡ begun wide (length j.alike.items)
