-- What names ask for in a module that is known by numbers is what they ask for by its paths and texts; they ask once for what
-- they lead to; and an import asks from a place that answers as its own.
use Rattle.std.specs.Prelude.{◌≡◌, ◌⊎◌, ◌↔◌, true, false, List, [], ◌∷◌, Contains}
use Rattle.std.specs.List.{list_any}
use Rattle.wesl_tree_names.specs.Path.{Text, Path}
use Rattle.wesl_cond_choices.specs.declared.place.Place.{Place}
use Rattle.wesl_link_symbols.specs.declared.ids.PathId.{PathId}
use Rattle.wesl_tree_base.specs.declared.ids.NameId.{NameId}
use Rattle.wesl_link_symbols.specs.declared.symbols.Import.{Import}
use Rattle.wesl_link_symbols.specs.declared.symbols.Reference.{Reference}
use Rattle.wesl_tree_interner.specs.Different.{AreDifferent}
use Rattle.wesl_link_split.specs.Grouped.{ids}
use Rattle.wesl_link_split.specs.Numbering.{Numbering, NameAt, PathAt, IsNumberedImport, IsNumberedReference, AreNumberedReferences, AreNumberedBinders, IsNumberedScope}
use Rattle.wesl_link_split.specs.Split as split
use Rattle.wesl_link_split.specs.Split.{Binder, Scope}
use Rattle.wesl_link_split.specs.Uses.{texts, module_in_place, aims}

module _ (k : Numbering) (s : Scope PathId NameId) (t : Scope Path Text) where
  -- what a name asks for that is used at a place, in the module `s` by its number, and in `t` by its text
  pub record NameAsksAlike (n : NameId) (x : Text) (here : Place) : Type 0 where
    pub place : split.place_at ids s n here ≡ split.place_at texts t x here
    pub under : (p : PathId) (q : Path) → PathAt k p q → IsNumberedReference k (split.under ids s n here p) (split.under texts t x here q)
    pub plain : AreNumberedReferences k (split.asked_plain ids s n here) (split.asked_plain texts t x here)
    pub unclear : split.is_unclear_plain ids s n here ≡ split.is_unclear_plain texts t x here
    pub imports : AreNumberedBinders k (split.seen_imports ids s n here) (split.seen_imports texts t x here)

  -- all names, and what the imports of the table find
  pub record AskAlike : Type 0 where
    pub has_split : split.has_split ids s.binders ≡ split.has_split texts t.binders
    pub names : (n : NameId) (x : Text) (here : Place) → NameAt k n x → NameAsksAlike n x here
    pub settled : (i : Import PathId NameId) (j : Import Path Text) → IsNumberedImport k i j → IsNumberedImport k (split.settled ids s i) (split.settled texts t j)

-- where different names have different numbers, and different paths: a module asks alike by both
abbrev pub NumbersAskAlike : Type 0
NumbersAskAlike =
    (k : Numbering) → AreDifferent k.names → AreDifferent k.paths
    → (s : Scope PathId NameId) (t : Scope Path Text) → IsNumberedScope k s t → AskAlike k s t

-- and binders have two targets by both, or by none
abbrev pub NumbersDifferAlike : Type 0
NumbersDifferAlike =
    (k : Numbering) → AreDifferent k.names → AreDifferent k.paths
    → (bs : List (Binder PathId NameId)) (cs : List (Binder Path Text)) → AreNumberedBinders k bs cs → split.has_two_targets ids bs ≡ split.has_two_targets texts cs

-- a name that stands for one thing asks for all that it leads to
abbrev pub AsksForAll : Type 0
AsksForAll =
    (s : Scope Path Text) (n : Text) (here : Place) → split.is_unclear_plain texts s n here ≡ false
    → (r : Reference Path Text) → Contains (split.asked_plain texts s n here) r ↔ Contains (split.aimed_plain texts s n here) r

-- a path that begins with the name of imports with one target aims at what it does by each of them
abbrev pub AimsAsEach : Type 0
AimsAsEach =
    (own p : Path) (bs : List (Binder Path Text)) → split.has_two_targets texts bs ≡ false
    → (b : Binder Path Text) → Contains bs b → aims own bs p ≡ module_in_place p b ∷ []

module _ (s : Scope Path Text) (bs cs : List (Binder Path Text)) where
  -- there are binders of the name in both, all aim at one thing, and it ends there: a declaration of the name is among those of
  -- each, or what they aim at is no split name of the module
  pub record EndAlike : Type 0 where
    pub some : ((b : Binder Path Text) × Contains bs b) × ((c : Binder Path Text) × Contains cs c)
    pub one : (b c : Binder Path Text) → Contains bs b → Contains cs c → (b.path ≡ c.path) × (b.item ≡ c.item)
    pub ends :
        ((list_any (λ b. b.declares) bs ≡ true) × (list_any (λ c. c.declares) cs ≡ true))
        ⊎ ((b : Binder Path Text) → Contains bs b ⊎ Contains cs b → split.is_own_split texts s b.path b.item ≡ false)

  -- who sees these binders of a name finds what one finds who sees those: they are the same, or both have two targets, or both
  -- end alike
  abbrev pub AnswerAlike : Type 0
  AnswerAlike =
      (bs ≡ cs)
      ⊎ (((split.has_two_targets texts bs ≡ true) × (split.has_two_targets texts cs ≡ true))
      ⊎ EndAlike)

-- what an import of a split name of its own module sees of that from where it asks, and from where it stands, answers alike
abbrev pub AsksAsItself : Type 0
AsksAsItself =
    (s : Scope Path Text) (b : Binder Path Text) → split.is_own_split texts s b.path b.item ≡ true
    → AnswerAlike s (split.seen texts s b.item b.stands) (split.seen texts s b.item (split.from_of texts s b))
