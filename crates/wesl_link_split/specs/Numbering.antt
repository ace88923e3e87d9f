-- Numbers for names and paths, and binders, imports and references that are the same but for the numbers in place of names
-- and paths.
use Rattle.std.specs.Prelude.{◌≡◌, Some, List, [], ◌∷◌, slice_get}
use Rattle.wesl_tree_names.specs.Path.{Text, Path}
use Rattle.wesl_cond_choices.specs.declared.place.Place.{Place}
use Rattle.wesl_cond_choices.specs.Places.{together}
use Rattle.wesl_link_symbols.specs.declared.ids.PathId.{PathId}
use Rattle.wesl_tree_base.specs.declared.ids.NameId.{NameId}
use Rattle.wesl_link_symbols.specs.declared.symbols.Import.{Import}
use Rattle.wesl_link_symbols.specs.declared.symbols.Reference.{Reference}
use Rattle.wesl_link_split.specs.Split.{Binder, Scope}

-- ---- modules over paths `P` and names `N`, and over `Q` and `M`, that say the same

-- both lists have as many elements, and each is related to the one at its place
abbrev pub AreRelated : {X Y : Type 0} → (X → Y → Type 0) → List X → List Y → Type 0
AreRelated R [] [] = Unit {0}
AreRelated R (x ∷ xs) (y ∷ ys) = R x y × AreRelated R xs ys
AreRelated R _ _ = ⊥

module _ {P N Q M : Type 0} (R : P → Q → Type 0) (S : N → M → Type 0) where
  -- both imports say the same: their names and their paths are related, and all else is equal
  pub record SameImport (i : Import P N) (j : Import Q M) : Type 0 where
    pub bound : S i.bound j.bound
    pub path : R i.path j.path
    pub item : S i.item j.item
    pub published : i.published ≡ j.published
    pub place : i.place ≡ j.place
    pub from : i.from ≡ j.from
    pub order : i.order ≡ j.order

  -- both references say the same: their paths and their names are related, and they ask from the same place
  pub record SameReference (r : Reference P N) (s : Reference Q M) : Type 0 where
    pub path : R r.path s.path
    pub name : S r.name s.name
    pub from : r.from ≡ s.from

  -- both binders say the same: their names and their paths are related, and both are declarations or neither is, at one place
  pub record SameBinder (b : Binder P N) (c : Binder Q M) : Type 0 where
    pub bound : S b.bound c.bound
    pub path : R b.path c.path
    pub item : S b.item c.item
    pub declares : b.declares ≡ c.declares
    pub stands : b.stands ≡ c.stands

  -- Both modules say the same: their paths are related, and their binders say the same one by one. Of any two places, the one
  -- has a choice of flags that keeps both exactly where the other has one.
  pub record SameScope (s : Scope P N) (t : Scope Q M) : Type 0 where
    pub own : R s.own t.own
    pub binders : AreRelated SameBinder s.binders t.binders
    pub together : (a b : Place) → together s.alive a b ≡ together t.alive a b

-- ---- numbers

-- the names and the paths that have numbers, in their order
pub record Numbering : Type 0 where
  pub names : List Text
  pub paths : List Path

-- this is the name with the number; a number out of range has none
abbrev pub NameAt : Numbering → NameId → Text → Type 0
NameAt numbering n x = slice_get numbering.names n.0 ≡ Some x

-- this is the path with the number; a number out of range has none
abbrev pub PathAt : Numbering → PathId → Path → Type 0
PathAt numbering p q = slice_get numbering.paths p.0 ≡ Some q

module _ (numbering : Numbering) where
  -- the import has these numbers where the other has names and a path
  abbrev pub IsNumberedImport : Import PathId NameId → Import Path Text → Type 0
  IsNumberedImport i j = SameImport (PathAt numbering) (NameAt numbering) i j

  -- the reference has these numbers where the other has a name and a path
  abbrev pub IsNumberedReference : Reference PathId NameId → Reference Path Text → Type 0
  IsNumberedReference r s = SameReference (PathAt numbering) (NameAt numbering) r s

  -- the references have these numbers where the others, each at its place, have names and paths
  abbrev pub AreNumberedReferences : List (Reference PathId NameId) → List (Reference Path Text) → Type 0
  AreNumberedReferences rs ss = AreRelated (SameReference (PathAt numbering) (NameAt numbering)) rs ss

  -- the binders have these numbers where the others, each at its place, have names and paths
  abbrev pub AreNumberedBinders : List (Binder PathId NameId) → List (Binder Path Text) → Type 0
  AreNumberedBinders bs cs = AreRelated (SameBinder (PathAt numbering) (NameAt numbering)) bs cs

  -- the module has these numbers where the other has names and paths
  abbrev pub IsNumberedScope : Scope PathId NameId → Scope Path Text → Type 0
  IsNumberedScope s t = SameScope (PathAt numbering) (NameAt numbering) s t
