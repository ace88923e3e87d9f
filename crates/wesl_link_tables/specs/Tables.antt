-- The symbol table of a module: its imports with a target, its declarations, and what each of these asks for.
use Rattle.std.specs.Prelude.{ℕ, suc, Option, Some, None, List, [], ◌∷◌, map, flat_map}
use Rattle.wesl_tree_names.specs.Path.{Text, Path}
use Rattle.wesl_tree_syntax.specs.Tree.{LabelOf, ForestOf, end, tree, TreeOf, ident, binder}
use Rattle.wesl_tree_syntax.specs.Unit.{UnitOf}
use Rattle.wesl_cond_choices.specs.declared.place.Place.TheVariants as places
use Rattle.wesl_link_symbols.specs.Tables.{Declaration, Table}
use Rattle.wesl_scope_occurrences.specs.Occurrences.{occurrences}
use Rattle.wesl_scope_occurrences.specs.Pieces.{declarations_in, pieces}
use Rattle.wesl_link_tables.specs.Imports.{below, imports}
use Rattle.wesl_link_split.specs.Split.{Scope, has_split, place_of, settled}
use Rattle.wesl_link_split.specs.declared.binders.Binder.{Binder}
use Rattle.wesl_link_tables.specs.Split.{binders_by, alive_if, crowded_if}
use Rattle.wesl_link_tables.specs.Uses.{Use, texts, asked, unclear_in, use_of}

module _ {I : Type 0} where
  -- the name that the label binds, if it is that of a binder
  abbrev pub bound_name : LabelOf I → Option I
  bound_name (ident binder x) = Some x
  bound_name _ = None

  -- the first name, and where there is none the second
  abbrev pub or_later : Option I → Option I → Option I
  or_later (Some x) later = Some x
  or_later None later = later

  -- the name that the first of these fields binds which binds one; none where none does
  abbrev pub declared_name : ForestOf I → Option I
  declared_name end = None
  declared_name (tree l children others) = or_later (bound_name l) (declared_name others)

  -- the name that a global declaration binds; a const_assert and a void bind none
  abbrev pub name_of : TreeOf I → Option I
  name_of t = declared_name (below t.children)

-- one element of each
abbrev pub paired : {X Y Z : Type 0} → (X → Y → Z) → List X → List Y → List Z
paired f (x ∷ xs) (y ∷ ys) = f x y ∷ paired f xs ys
paired f _ _ = []

-- the binders of a unit that stands at a path
abbrev pub binders_at : Path → UnitOf Text → List (Binder Path Text)
binders_at own u = binders_by own (map name_of (declarations_in u)) (imports own u)

-- what the names of a unit stand for that stands at a path
abbrev pub scope_of : Path → UnitOf Text → Scope Path Text
scope_of own u = record { own = own; binders = binders_at own u; alive = alive_if (has_split texts (binders_at own u)) u }

-- of each global declaration what its identifiers are, in document order
abbrev pub uses : Path → UnitOf Text → List (List (Use Path Text))
uses own u = map (map (use_of (scope_of own u) (occurrences u))) (pieces u)

-- The declaration with this number, what its identifiers ask for, and which of them are unclear. A const_assert has no name,
-- nor has a void, which asks for nothing.
abbrev pub declaration_of : Scope Path Text → ℕ → TreeOf Text → List (Use Path Text) → Declaration Path Text
declaration_of s k t us = record { name = name_of t; place = place_of texts s (name_of t) (places.Declaration k); references = flat_map asked us; unclear = flat_map unclear_in us }

-- the declarations from this number on
abbrev pub declarations_from : Scope Path Text → ℕ → List (TreeOf Text) → List (List (Use Path Text)) → List (Declaration Path Text)
declarations_from s k (t ∷ ts) (us ∷ uss) = declaration_of s k t us ∷ declarations_from s (suc k) ts uss
declarations_from s k _ _ = []

-- the symbol table of a unit that stands at a path
abbrev pub table_at : Path → UnitOf Text → Table Path Text
table_at own u = record {
  path = own;
  imports = map (settled texts (scope_of own u)) (imports own u);
  declarations = declarations_from (scope_of own u) 0 (declarations_in u) (uses own u);
  alive = (scope_of own u).alive;
  is_crowded = crowded_if (has_split texts (binders_at own u)) u;
}
