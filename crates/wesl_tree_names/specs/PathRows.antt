-- Rows of paths: texts, what they say, and what joins and the order make of it.
use Rattle.std.specs.Prelude.{◌≡◌, Bool, true, false, Option, Some, None, option_map, [], ◌∷◌, codes}
use Rattle.wesl_tree_names.specs.Path.{Text, absolute, relative, from_package, join}
use Rattle.wesl_tree_names.specs.PathText.{parse, to_text}
use Rattle.wesl_tree_names.specs.PathOrder.{path_before}

-- the text of the second path joined to the first; none where a text says no path
abbrev pub joined_text : Text → Text → Option Text
joined_text from to = elim (parse from) as (λ _. Option Text) [
  | None ↦ None
  | Some p ↦ option_map (λ s. to_text (join p s)) (parse to)
]

-- rows of joins: what a path means in the module at another path
pub record JoinRows : Type 0 where
  pub one_up : joined_text (codes "package::a::b") (codes "super::c") ≡ Some (codes "package::a::c")
  pub below : joined_text (codes "package::a::b") (codes "self::c") ≡ Some (codes "package::a::b::c")
  pub past_the_top : joined_text (codes "package::a") (codes "super::super::x") ≡ Some (codes "package::x")
  pub in_package : joined_text (codes "p::a") (codes "package::x") ≡ Some (codes "p::x")
  pub dependency : joined_text (codes "p::a") (codes "q::x") ≡ Some (codes "p/q::x")

-- rows of reading: texts with the paths that they say, and texts that say none
pub record ParseRows : Type 0 where
  pub root : parse (codes "package") ≡ Some (record { origin = absolute; components = [] })
  pub own : parse (codes "self::a") ≡ Some (record { origin = relative 0; components = codes "a" ∷ [] })
  pub two_up : parse (codes "super::super::x") ≡ Some (record { origin = relative 2; components = codes "x" ∷ [] })
  pub nested_package : parse (codes "a/b::c") ≡ Some (record { origin = from_package (codes "a/b"); components = codes "c" ∷ [] })
  pub in_package : parse (codes "foo::bar") ≡ Some (record { origin = from_package (codes "foo"); components = codes "bar" ∷ [] })
  pub no_text : parse (codes "") ≡ None
  pub no_last_piece : parse (codes "package::") ≡ None
  pub no_piece_between : parse (codes "a::::b") ≡ None
  pub one_colon : parse (codes "a:b") ≡ None
  pub three_colons : parse (codes "a:::b") ≡ None
  pub slash_in_component : parse (codes "package::a/b") ≡ None
  pub late_super : parse (codes "package::super") ≡ None
  pub late_self : parse (codes "a::self") ≡ None
  pub late_package : parse (codes "a::package") ≡ None
  pub no_package_between : parse (codes "a//b::c") ≡ None
  pub no_first_package : parse (codes "/a") ≡ None
  pub no_last_package : parse (codes "a/") ≡ None

-- whether the path of the first text stands before that of the second; none where a text says no path
abbrev pub stands_before : Text → Text → Option Bool
stands_before a b = elim (parse a) as (λ _. Option Bool) [
  | None ↦ None
  | Some p ↦ option_map (path_before p) (parse b)
]

-- rows of the order: which of two paths stands first
pub record OrderRows : Type 0 where
  pub absolute_first : stands_before (codes "package::z") (codes "self") ≡ Some true
  pub packages_last : stands_before (codes "super") (codes "a") ≡ Some true
  pub fewer_up_first : stands_before (codes "self::z") (codes "super") ≡ Some true
  pub beginning_first : stands_before (codes "package::a") (codes "package::a::b") ≡ Some true
  pub by_component : stands_before (codes "package::a::c") (codes "package::ab") ≡ Some true
  pub not_itself : stands_before (codes "package::a") (codes "package::a") ≡ Some false
  pub not_back : stands_before (codes "a") (codes "package") ≡ Some false
