-- Directives and declarations of a linked unit are those of its modules.
use Rattle.std.proofs.Common.{◌≡◌, ◌⊎◌, List, [], ◌∷◌, ◌++◌, Contains, inl, inr, subst}
use Rattle.std.specs.Prelude.{flat_map}
use Rattle.std.proofs.lemmas.List.Elements.{Contains-append_left, Contains-append_cases, Contains-push, Contains-push_cases}
use Rattle.wesl_tree_names.specs.Path.{Text, Path}
use Rattle.wesl_tree_syntax.specs.Tree.{TreeOf, trees}
use Rattle.wesl_scope_occurrences.specs.Pieces.{declarations_in}
use Rattle.wesl_link_symbols.specs.Tables.{Table}
use Rattle.wesl_link_symbols.proofs.Lists.{contains_nil, contains_first, contains_later, contains_cases}
use Rattle.wesl_link_reach.specs.World.{Task}
use Rattle.wesl_link_tables.specs.Tables.{paired, uses}
use Rattle.wesl_link_tables.specs.Uses.{Use}
use Rattle.wesl_link_assembly.specs.Directives.{Thins, none, other, again}
use Rattle.wesl_link_engine.specs.Worlds.{Module}
use Rattle.wesl_link_engine.specs.Linked.{Placed, placed, IsHeld, AreHeldOf, Joins, directives_in}
use Rattle.wesl_link_engine.proofs.Lists.{selected_in, joined_in}

thinned_in : {X : Type 0} (all kept : List X) (t : X) → Thins all kept → Contains kept t → Contains all t
thinned_in _ _ t none c = c
thinned_in _ _ t (other all kept x r d) c = by (Contains-push_cases kept x t c) (thinned_in all kept t r) where
  by : Contains kept t ⊎ (x ≡ t) → (Contains kept t → Contains all t) → Contains (all ++ x ∷ []) t
  by (inl k) f = Contains-append_left all (x ∷ []) t (f k)
  by (inr e) f = subst (λ z. Contains (all ++ x ∷ []) z) e (Contains-push all x)
thinned_in _ _ t (again all kept x r l) c = Contains-append_left all (x ∷ []) t (thinned_in all kept t r c)

flat_in : {X Y : Type 0} (f : X → List Y) (xs : List X) (y : Y) → Contains (flat_map f xs) y → (x : X) × Contains xs x × Contains (f x) y
flat_in f [] y c = absurd (contains_nil y c)
flat_in {X} {Y} f (x ∷ xs) y c = by (Contains-append_cases (f x) (flat_map f xs) y c) (flat_in f xs y) where
  by : Contains (f x) y ⊎ Contains (flat_map f xs) y → (Contains (flat_map f xs) y → (z : X) × Contains xs z × Contains (f z) y) → (z : X) × Contains (x ∷ xs) z × Contains (f z) y
  by (inl k) g = (x, contains_first x xs, k)
  by (inr k) g = let z : (z : X) × Contains xs z × Contains (f z) y = g k in (z.0, contains_later x z.0 xs z.1, z.2)

-- each directive is one of a module
pub directive_of : (w : List Module) (kept : List (TreeOf Text)) (t : TreeOf Text) → Thins (directives_in w) kept → Contains kept t → (m : Module) × Contains w m × Contains (trees m.unit.directives.children) t
directive_of w kept t h c = flat_in (λ (m : Module). trees m.unit.directives.children) w t (thinned_in (directives_in w) kept t h c)

-- a declaration of a module
abbrev placed_as : Module → TreeOf Text → List (Use Path Text) → Placed
placed_as m t us = record { home = m; declaration = t; uses = us }

paired_in : (m : Module) (ts : List (TreeOf Text)) (uss : List (List (Use Path Text))) (d : Placed) → Contains (paired (placed_as m) ts uss) d → Contains ts d.declaration
paired_in m [] uss d c = absurd (contains_nil d c)
paired_in m (t ∷ ts) [] d c = absurd (contains_nil d c)
paired_in m (t ∷ ts) (us ∷ uss) d c = by (contains_cases (placed_as m t us) d (paired (placed_as m) ts uss) c) (paired_in m ts uss d) where
  by : (placed_as m t us ≡ d) ⊎ Contains (paired (placed_as m) ts uss) d → (Contains (paired (placed_as m) ts uss) d → Contains ts d.declaration) → Contains (t ∷ ts) d.declaration
  by (inl e) f = subst (λ (z : Placed). Contains (t ∷ ts) z.declaration) e (contains_first t ts)
  by (inr k) f = contains_later t d.declaration ts (f k)

-- each declaration is one of a module
pub declaration_of : (ws : List (Table Path Text)) (task : Task Path Text) (w : List Module) (held : List Placed) (d : Placed) → Joins (AreHeldOf ws task) w held → Contains held d
    → (m : Module) × Contains w m × Contains (trees m.unit.declarations.children) d.declaration
declaration_of ws task w held d h c =
    let x : (m : Module) × (us : List Placed) × Contains w m × AreHeldOf ws task m us × Contains us d = joined_in (AreHeldOf ws task) w held d h c in
    (x.0, x.2, paired_in x.0 (declarations_in x.0.unit) (uses x.0.path x.0.unit) d (selected_in (IsHeld ws task) (placed x.0) x.1 d x.3 x.4))
