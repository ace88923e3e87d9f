-- What is known of flags and of formulas, and answers to flags in stages.
use Rattle.wesl_cond_features.specs.declared.features.Truth.{Truth}
use Rattle.wesl_cond_features.specs.declared.features.Truth.TheVariants.{Yes, No, Undecided}

-- what is known of each flag, where a flag is an `I`
abbrev pub Answers : Type 0 → Type 0
Answers I = I → Truth

-- the first where it decides, else the second
abbrev pub or_else : Truth → Truth → Truth
or_else Yes t = Yes
or_else No t = No
or_else Undecided t = t

-- the connectives on what is known: a negation, undecided where its operand is
abbrev pub opposite : Truth → Truth
opposite Yes = No
opposite No = Yes
opposite Undecided = Undecided

-- a conjunction: false where one side is, true where both are, else undecided
abbrev pub both_hold : Truth → Truth → Truth
both_hold No u = No
both_hold Yes u = u
both_hold Undecided Yes = Undecided
both_hold Undecided No = No
both_hold Undecided Undecided = Undecided

-- a disjunction: true where one side is, false where both are, else undecided
abbrev pub one_holds : Truth → Truth → Truth
one_holds Yes u = Yes
one_holds No u = u
one_holds Undecided Yes = Yes
one_holds Undecided No = Undecided
one_holds Undecided Undecided = Undecided

module _ {I : Type 0} where
  -- the answers of a first stage, then those of a second
  abbrev pub in_stages : Answers I → Answers I → Answers I
  in_stages first second = λ flag. or_else (first flag) (second flag)
