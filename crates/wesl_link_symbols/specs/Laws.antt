-- Laws of what one table answers.
use Rattle.std.specs.Prelude.{◌≡◌, ◌⊎◌, ◌↔◌, Some, Contains}
use Rattle.wesl_cond_choices.specs.declared.place.Place.TheVariants.{Always}
use Rattle.wesl_link_symbols.specs.declared.symbols.Answer.TheVariants.{Declared, Next, Missing, Private, Ambiguous}
use Rattle.wesl_link_symbols.specs.Tables.{Import, LookUp, Answer, Declaration, Table}
use Rattle.wesl_link_symbols.specs.Names.{Declares, Imports, SameTarget, IsOwn, Shows, asked_by, Answers}

-- one answer a look-up
abbrev pub AnswersOnce : (P N : Type 0) → Type 0
AnswersOnce P N = (t : Table P N) (l : LookUp P N) (a b : Answer P N) → Answers t l a → Answers t l b → a ≡ b

-- what a module answers where each name of it has one target
module _ {P N : Type 0} where
  -- It declares the name; else an import of the name that is shown to who asks is asked further; else it has no import of the
  -- name; else it has some, and none is shown. No name stands for two things.
  abbrev pub AnswersOfOne : Table P N → LookUp P N → Answer P N → Type 0
  AnswersOfOne t l Declared = Declares t l.name
  AnswersOfOne t l (Next n) = (Declares t l.name → ⊥) × (i : Import P N) × Imports t l.name i × Shows l.asker t.path i × (n ≡ asked_by t i)
  AnswersOfOne t l Missing = (Declares t l.name → ⊥) × ((i : Import P N) → Imports t l.name i → ⊥)
  AnswersOfOne t l Private =
      (Declares t l.name → ⊥) × ((i : Import P N) × Imports t l.name i) × ((i : Import P N) → Imports t l.name i → Shows l.asker t.path i → ⊥)
  AnswersOfOne t l Ambiguous = ⊥

-- the binders of the name have one target and stand everywhere, and its imports ask from one place and have one order
pub record HasOneTarget {P N : Type 0} (t : Table P N) (n : N) : Type 0 where
  pub declared : (d : Declaration P N) → Contains t.declarations d → d.name ≡ Some n → d.place ≡ Always
  pub imported : (i : Import P N) → Imports t n i → i.place ≡ Always
  pub imports : (i j : Import P N) → Imports t n i → Imports t n j → SameTarget i j
  pub own : (i : Import P N) → Declares t n → Imports t n i → IsOwn t.path i
  pub from : (i j : Import P N) → Imports t n i → Imports t n j → i.from ≡ j.from
  pub order : (i j : Import P N) → Imports t n i → Imports t n j → i.order ≡ j.order

-- names with one target, whose imports have one `from` and one `order`, are answered as by the plain relation
abbrev pub AnswersPlainly : (P N : Type 0) → Type 0
AnswersPlainly P N = (t : Table P N) (l : LookUp P N) (a : Answer P N) → HasOneTarget t l.name → Answers t l a ↔ AnswersOfOne t l a

-- whether two are equal is decided
abbrev pub IsDecided : Type 0 → Type 0
IsDecided X = (x y : X) → (x ≡ y) ⊎ (x ≡ y → ⊥)

-- each look-up has an answer
abbrev pub HasAnswers : (P N : Type 0) → Type 0
HasAnswers P N = IsDecided P → IsDecided N → (t : Table P N) (l : LookUp P N) → (a : Answer P N) × Answers t l a
