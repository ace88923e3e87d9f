-- What judging the conditions of a module promises.
use Rattle.std.specs.Prelude.{◌≡◌, ℕ, List, [], ◌∷◌, ◌++◌, Bool, false, true, cond, Result, Ok, Err}
use Rattle.wesl_cond_chains.specs.Lists.{Element, element, back, elements}
use Rattle.wesl_cond_chains.specs.Chains.{staying}
use Rattle.wesl_cond_features.specs.Answers.{Answers}
use Rattle.wesl_cond_chains.specs.Evaluation.{Refuses, TellsOrLacks}
use Rattle.wesl_cond_chains.specs.Places.{Place, StandsAt, list_places}
use Rattle.wesl_cond_features.specs.Features.{Replies}
use Rattle.wesl_tree_names.specs.Path.{Text}
use Rattle.wesl_tree_names.specs.declared.errors.Diagnostic.{Diagnostic}
use Rattle.wesl_cond_chains.specs.Nodes.{as_element, as_elements}
use Rattle.wesl_tree_syntax.specs.Tree.{Forest, Tree, end}

-- no fault stands in some trees
abbrev pub IsClear : Replies ℕ → Forest → Type 0
IsClear reply trees = (place : Place ℕ) → StandsAt reply false trees place → ⊥

-- a diagnostic tells a fault that stands in them, or that memory is wanting to tell it
abbrev pub RefusesIn : List Text → Replies ℕ → Forest → Diagnostic → Type 0
RefusesIn names reply trees told = (place : Place ℕ) × StandsAt reply false trees place × TellsOrLacks names place told

-- a success where no fault stands, a refusal where one does
abbrev pub Checks : {A : Type 0} → List Text → Replies ℕ → Forest → Result A Diagnostic → Type 0
Checks names reply trees (Ok x) = IsClear reply trees
Checks names reply trees (Err told) = RefusesIn names reply trees told

-- a beginning of a list judged: it has no fault and leaves a chain open or not, or one of its faults is told
abbrev pub ListBegins : List Text → Replies ℕ → Bool → List (Element ℕ) → Result Bool Diagnostic → Type 0
ListBegins names reply opened xs (Ok after) = (rest : List (Element ℕ)) → list_places reply opened (xs ++ rest) ≡ list_places reply after rest
ListBegins names reply opened xs (Err told) = (rest : List (Element ℕ)) → Refuses names (list_places reply opened (xs ++ rest)) told

-- what closes a list, if it stays
abbrev pub closing : Answers ℕ → Forest → Forest → Forest
closing answers items last = back true (staying element answers (elements false items ++ elements true last))

-- whether it does
abbrev pub Closes : Answers ℕ → Forest → Forest → Bool → Type 0
Closes answers items last stays = closing answers items last ≡ cond stays last end

-- the next node of the code judged, whether or not it closes the list
abbrev pub NodeBegins : List Text → Replies ℕ → Bool → Tree → Result Bool Diagnostic → Type 0
NodeBegins names reply opened t result = (closes : Bool) → ListBegins names reply opened (as_element closes t ∷ []) result

-- the nodes of the code at the beginning of a list judged, whether or not they close it
abbrev pub NodesBegin : {A : Type 0} → List Text → Replies ℕ → (A → Tree) → List A → Result Bool Diagnostic → Type 0
NodesBegin names reply view xs result = (closes : Bool) → ListBegins names reply false (as_elements closes view xs) result
