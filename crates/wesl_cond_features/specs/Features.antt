-- What a set of features answers for a flag, and what that says of the flag.
use Rattle.std.specs.Prelude.{◌≡◌, ℕ, List, unwrap_or, is_some, cond, Some, String}
use Rattle.std.specs.BTreeMap.{BTreeMap, get_by_text}
use Rattle.std.specs.declared.alloc.Global.{Global}
use Rattle.wesl_cond_features.specs.declared.features.Feature.{Feature}
use Rattle.wesl_cond_features.specs.declared.features.Feature.TheVariants.{Enable, Disable, Keep, Error}
use Rattle.wesl_cond_features.specs.declared.features.Features.{Features}
use Rattle.wesl_cond_features.specs.declared.features.Truth.{Truth}
use Rattle.wesl_cond_features.specs.declared.features.Truth.TheVariants.{Yes, No, Undecided}
use Rattle.wesl_cond_features.specs.Answers.{Answers}
use Rattle.wesl_tree_names.specs.Path.{Text}
use Rattle.wesl_tree_syntax.specs.Unit.{name_in}

-- a flag that is not listed takes the default
abbrev pub answer_to : Features → Text → Feature
answer_to features name = unwrap_or (get_by_text features.flags name) features.default

-- what an answer says of its flag: enable that it is true, disable that it is false, keep and error leave it undecided
abbrev pub says : Feature → Truth
says Enable = Yes
says Disable = No
says Keep = Undecided
says Error = Undecided

-- the first answer, and the second where the first keeps the flag
abbrev pub and_then : Feature → Feature → Feature
and_then Enable next = Enable
and_then Disable next = Disable
and_then Keep next = next
and_then Error next = Error

-- the answer to each flag, where a flag is an `I`
abbrev pub Replies : Type 0 → Type 0
Replies I = I → Feature

module _ {I : Type 0} where
  -- what they say: a flag that is kept or refused is undecided
  abbrev pub known : Replies I → Answers I
  known reply = λ flag. says (reply flag)

  -- no flag has the answer error
  abbrev pub HoldsNoError : Replies I → Type 0
  HoldsNoError reply = (flag : I) → reply flag ≡ Error → ⊥

  -- the answers of a first set, and of a second where the first keeps a flag
  abbrev pub then_replies : Replies I → Replies I → Replies I
  then_replies first second = λ flag. and_then (first flag) (second flag)

-- the answer to a flag that is a number of a table, by its name there
abbrev pub by_number : List Text → Replies Text → Replies ℕ
by_number names reply = λ number. reply (name_in names number)

-- two sets with the same default and the same answer for each flag
abbrev pub SameAnswers : Features → Features → Type 0
SameAnswers first second = (first.default ≡ second.default) × ((name : Text) → get_by_text first.flags name ≡ get_by_text second.flags name)

-- a table with what a first set and then a next one answer for each name of a list, and with nothing else that is new
abbrev pub AddsAnswers : BTreeMap (String Global) Feature → BTreeMap (String Global) Feature → Features → Features → BTreeMap (String Global) Feature → Type 0
AddsAnswers flags names first next added =
    (name : Text) → get_by_text added name ≡ cond (is_some (get_by_text names name)) (Some (and_then (answer_to first name) (answer_to next name))) (get_by_text flags name)
