-- Rows of split names.
use Rattle.std.specs.Prelude.{◌≡◌, ℕ, true, false, [], ◌∷◌}
use Rattle.wesl_tree_names.specs.Path.{Text, Path, from_package, root_path}
use Rattle.wesl_cond_choices.specs.declared.place.Place.TheVariants.{Always, Import, Name}
use Rattle.wesl_link_split.specs.Split.{Binder, Scope, is_split, finding, order_of, from_of}
use Rattle.wesl_link_split.specs.Uses.{texts, refers, unclear, plain_use, path_use}

-- the modules `package::p` and `package::q`, and the names `f`, `g` and `h`:
abbrev pub at_p : Path
at_p = record { origin = root_path.origin; components = (112 ∷ []) ∷ [] }

abbrev pub at_q : Path
at_q = record { origin = root_path.origin; components = (113 ∷ []) ∷ [] }

abbrev pub f : Text
f = 102 ∷ []

abbrev pub g : Text
g = 103 ∷ []

abbrev pub h : Text
h = 104 ∷ []

-- the import by the statement with number j, which binds the name n to an item of the module at a path
abbrev pub import_at : Text → Path → Text → ℕ → Binder Path Text
import_at n path item j = record { bound = n; path = path; item = item; declares = false; stands = Import j }

-- `@if(X) import p::f; @else import q::f;`, a use 10 under X, a use 20 always, and a dead use 30
abbrev pub either : Scope Path Text
either = record { own = root_path; binders = import_at f at_p f 0 ∷ import_at f at_q f 1 ∷ []; alive = (Import 1 ∷ Name 20 ∷ []) ∷ (Import 0 ∷ Name 10 ∷ Name 20 ∷ []) ∷ [] }

-- two imports f of one target, a split name g of their own module: the first sees one binder of g, the second both
abbrev pub g1 : Binder Path Text
g1 = import_at f root_path g 0

abbrev pub g2 : Binder Path Text
g2 = import_at f root_path g 1

-- the module of these two, where one choice of flags keeps an import of g from p, and the other one from q
abbrev pub through : Scope Path Text
through = record { own = root_path; binders = g1 ∷ g2 ∷ import_at g at_p f 2 ∷ import_at g at_q f 3 ∷ []; alive = (Import 0 ∷ Import 1 ∷ Import 2 ∷ []) ∷ (Import 1 ∷ Import 3 ∷ []) ∷ [] }

-- the path of `f::g`
abbrev pub through_f : Path
through_f = record { origin = from_package f; components = [] }

-- `import p::f;` twice
abbrev pub twice : Scope Path Text
twice = record { own = root_path; binders = import_at f at_p f 0 ∷ import_at f at_p f 1 ∷ []; alive = [] }

-- two imports f of one target, a split name g of their own module whose two imports aim at one split name h of it: the first
-- sees one of these, the second both. A use 10 sees the second import alone.
abbrev pub m1 : Binder Path Text
m1 = import_at f root_path g 0

abbrev pub m2 : Binder Path Text
m2 = import_at f root_path g 1

-- the module of these, where each choice keeps an import of h, from p or from q, and none those of f and g from p
abbrev pub onward : Scope Path Text
onward = record {
  own = root_path;
  binders = m1 ∷ m2 ∷ import_at f at_p f 2 ∷ import_at g root_path h 3 ∷ import_at g root_path h 4 ∷ import_at g at_p g 5
      ∷ import_at h at_p h 6 ∷ import_at h at_q h 7 ∷ [];
  alive = (Import 4 ∷ Import 7 ∷ []) ∷ (Import 0 ∷ Import 3 ∷ Import 6 ∷ []) ∷ (Import 1 ∷ Import 4 ∷ Import 7 ∷ Name 10 ∷ []) ∷ (Import 1 ∷ Import 3 ∷ Import 6 ∷ []) ∷ [];
}

-- what is split, found and asked for in these modules
pub record SplitRows : Type 0 where
  pub split : is_split texts either.binders f ≡ true
  pub under : plain_use either (Name 10) f ≡ refers f (record { path = at_p; name = f; from = Always } ∷ [])
  pub everywhere : plain_use either (Name 20) f ≡ unclear f f
  pub dead : plain_use either (Name 30) f ≡ refers f []
  pub path_under : path_use either (Name 10) through_f g ≡ refers g (record { path = record { origin = root_path.origin; components = (112 ∷ []) ∷ f ∷ [] }; name = g; from = Always } ∷ [])
  pub path_everywhere : path_use either (Name 20) through_f g ≡ unclear g f
  pub path_dead : path_use either (Name 30) through_f g ≡ refers g (record { path = record { origin = from_package f; components = [] }; name = g; from = Always } ∷ [])
  pub first_order : order_of texts (finding texts through g1) ≡ 2
  pub second_order : order_of texts (finding texts through g2) ≡ 1
  pub second_from : from_of texts through g2 ≡ Import 1
  pub asked_once : plain_use twice (Name 7) f ≡ refers f (record { path = at_p; name = f; from = Always } ∷ [])
  pub path_once : path_use twice (Name 7) through_f g ≡ refers g (record { path = record { origin = root_path.origin; components = (112 ∷ []) ∷ f ∷ [] }; name = g; from = Always } ∷ [])
  pub asked : plain_use through (Name 7) f ≡ refers f (record { path = root_path; name = g; from = Import 1 } ∷ [])
  pub onward_order : order_of texts (finding texts onward m2) ≡ 2
  pub onward_from : from_of texts onward m2 ≡ Import 1
  pub onward_asked : plain_use onward (Name 10) f ≡ refers f (record { path = root_path; name = g; from = Import 1 } ∷ [])
