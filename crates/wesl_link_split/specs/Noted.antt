-- Imports of a name that are noted by what they ask for, so that of those that ask for the same the first is found.
use Rattle.std.specs.Prelude.{◌≡◌, ◌==◌, ◌&&◌, Bool, true, List, [], ◌∷◌, ◌++◌, slice_get}
use Rattle.std.specs.HashMap.{HashMap, get}
use Rattle.std.specs.List.{filter}
use Rattle.std.specs.Option.{option_map}
use Rattle.wesl_cond_choices.specs.declared.place.Place.{Place}
use Rattle.wesl_link_symbols.specs.declared.ids.PathId.{PathId}
use Rattle.wesl_tree_base.specs.declared.ids.NameId.{NameId}
use Rattle.wesl_link_split.specs.Grouped.{ids, asks_for}
use Rattle.wesl_link_split.specs.SightView.{aim_in, AreAims}
use Rattle.wesl_link_split.specs.Split as split
use Rattle.wesl_link_split.specs.Split.{Binder}
use Rattle.wesl_link_split.specs.Told.{same_told, told, told_view}
use Rattle.wesl_link_split.specs.contracts.askers.QuestionPartialEq.TheImpl as equality
use Rattle.wesl_link_split.specs.declared.askers.Question.{Question}
use Rattle.wesl_link_split.specs.declared.binders.Aim.{Aim}

-- whether two questions are one, as a map of them has it
abbrev pub same_question : Question → Question → Bool
same_question = (equality.ghosts).eq

module _ (s : split.Scope PathId NameId) where
  -- whether a binder is an import that asks this of a name of the module with several targets
  abbrev pub asks : Question → Binder PathId NameId → Bool
  asks q c = split.leads_on ids s c && (q.path.0 == c.path.0 && q.item.0 == c.item.0 && same_told (told_view q.finding) (told s c))

  -- of these binders the first that asks each question is noted by where it stands
  abbrev pub AreAskers : {S : Type 0} → List (Binder PathId NameId) → HashMap Question Place S → Type 0
  AreAskers bs askers = (q : Question) → get same_question askers q ≡ option_map (λ c. c.stands) (slice_get (filter (asks q) bs) 0)

  -- the binder is noted behind them
  abbrev pub AreNoted : {S : Type 0} → HashMap Question Place S → Binder PathId NameId → HashMap Question Place S → Type 0
  AreNoted old b new = (bs : List (Binder PathId NameId)) → split.leads_on ids s b ≡ true → AreAskers bs old → AreAskers (bs ++ b ∷ []) new

  -- so it is, if it asks something
  abbrev pub AreNotedIf : {S : Type 0} → HashMap Question Place S → Binder PathId NameId → HashMap Question Place S → Type 0
  AreNotedIf old b new = (bs : List (Binder PathId NameId)) → AreAskers bs old → AreAskers (bs ++ b ∷ []) new

  -- the first of these binders that asks for an import is the first of all
  abbrev pub HasAsker : List (Binder PathId NameId) → Binder PathId NameId → Type 0
  HasAsker bs b = split.first_or ids s b (filter (λ c. asks_for b (split.finding ids s b) c (split.finding ids s c)) bs) ≡ split.asker_of ids s b

  -- where the binders are noted that have it, this is what an import aims at
  abbrev pub IsAimAfter : {S : Type 0} → HashMap Question Place S → Binder PathId NameId → Aim → Type 0
  IsAimAfter askers b a = (bs : List (Binder PathId NameId)) → AreAskers bs askers → HasAsker bs b → a ≡ aim_in s b

  -- what it aims at is added to what others do
  abbrev pub AddsAim : {S : Type 0} → HashMap Question Place S → Binder PathId NameId → List (Binder PathId NameId × Aim) → List (Binder PathId NameId × Aim) → Type 0
  AddsAim askers b old new = (bs : List (Binder PathId NameId)) → AreAskers bs askers → (split.leads_on ids s b ≡ true → HasAsker bs b) → AreAims s old → AreAims s new
