-- Answers for feature flags, as a bundle says them (WESL, "ConditionalTranslation").
use Rattle.std.specs.Prelude.{List, [], ◌∷◌, if◌then◌else◌, Option, Some, None, option_and_then, unwrap_or, codes}
use Rattle.std.specs.Str.{bytes_eq}
use Rattle.serde_json.specs.Data.{Data, Members, no_members, member}
use Rattle.serde_json.specs.Find.{get, as_str, as_object}
use Rattle.wesl_cond_features.specs.declared.features.Feature.{Feature}
use Rattle.wesl_cond_features.specs.declared.features.Feature.TheVariants as feature
use Rattle.wesl_tree_names.specs.Path.{Text}
use Rattle.wesl_program_bundle.specs.Reading.{◌>>=◌, or_default}
use Rattle.wesl_json_form.specs.Keys.{has_only}

-- a flag, and what is answered for it
pub record Flag : Type 0 where
  pub named : Text
  pub answer : Feature

-- the answer for every flag that is not listed, and the flags that are, in order
pub record Features : Type 0 where
  pub default : Feature
  pub flags : List Flag

-- what is answered for a flag: as the first of its name in the list says
abbrev pub listed_answer : Text → List Flag → Option Feature
listed_answer name [] = None
listed_answer name (f ∷ fs) = if bytes_eq name f.named then Some f.answer else listed_answer name fs

-- what is answered for a flag; one that is not listed takes the default
abbrev pub answer_for : Features → Text → Feature
answer_for features name = unwrap_or (listed_answer name features.flags) features.default

-- the answer that a word names: `enable`, `disable`, `keep` or `error`; no other text names one
abbrev pub feature_of : Text → Option Feature
feature_of s =
    if bytes_eq s (codes "enable") then Some feature.Enable else (if bytes_eq s (codes "disable") then Some feature.Disable
    else (if bytes_eq s (codes "keep") then Some feature.Keep else (if bytes_eq s (codes "error") then Some feature.Error else None)))

-- the word of an answer
abbrev pub feature_in : Data → Option Feature
feature_in d = option_and_then feature_of (as_str d)

-- a flag for each member
abbrev pub flags_of : Members → Option (List Flag)
flags_of no_members = Some []
flags_of (member k d ms) = do
  answer ← feature_in d
  rest ← flags_of ms
  Some (record { named = k; answer = answer } ∷ rest)

-- the flags that an object lists, each key with a word as its answer; a value that is no object is refused
abbrev pub flags_in : Data → Option (List Flag)
flags_in d = option_and_then flags_of (as_object d)

-- the keys that the object at `features` may have
abbrev pub features_keys : List Text
features_keys = codes "default" ∷ codes "flags" ∷ []

-- flags are disabled where nothing else is said
abbrev pub features_of_members : Data → Option Features
features_of_members d = do
  default ← or_default feature.Disable feature_in (get (codes "default") d)
  flags ← or_default [] flags_in (get (codes "flags") d)
  Some (record { default = default; flags = flags })

-- the answers for flags that a value says: an object that has no other keys; the empty object disables every flag
abbrev pub features_in : Data → Option Features
features_in d = if has_only features_keys d then features_of_members d else None
