-- What is told of a value builds it.
use Rattle.std.proofs.Common.{◌≡◌, ℕ, List, [], ◌∷◌, ◌++◌, Option, Some, None, append_assoc, append-nil, refl, sym, ap, ◌∙◌}
use Rattle.std.specs.Prelude.{option_and_then}
use Rattle.serde_json.specs.Data.{Data, null, boolean, number, string, array, object, Items, no_items, item, Members, no_members, member, put}
use Rattle.serde_json.specs.View.{items_of}
use Rattle.wesl_json_print_nodes.specs.Events.{events, items_events, members_events}
use Rattle.wesl_json_write.specs.Holds.{run_more}
use Rattle.wesl_json_light.specs.Order.{sorted, sorted_items, sorted_members}
use Rattle.wesl_json_write.specs.Building.{Level, State, listing, naming, put_all, take, run}

-- the items, as a list
abbrev listed : Items → List Data
listed no_items = []
listed (item d ds) = d ∷ listed ds

listed_of : (ds : Items) → items_of (listed ds) ≡ ds
listed_of no_items = refl
listed_of (item d ds) = ap (item d) (listed_of ds)

-- the members, each value in order
abbrev paired : Members → List (List ℕ × Data)
paired no_members = []
paired (member k d ms) = (k, sorted d) ∷ paired ms

paired_of : (ms : Members) → put_all (paired ms) ≡ sorted_members ms
paired_of no_members = refl
paired_of (member k d ms) = ap (put k (sorted d)) (paired_of ms)

-- no event more
pub alone : (o : Option State) → option_and_then (run []) o ≡ o
alone None = refl
alone (Some t) = refl

mutual
  pub built : (d : Data) (s : State) → run (events d) s ≡ take (sorted d) s
  built null s = alone (take null s)
  built (boolean b) s = alone (take (boolean b) s)
  built (number n) s = alone (take (number n) s)
  built (string t) s = alone (take (string t) s)
  built (array ds) s = items_built ds [] s.0 s.1 ∙ ap (λ es. take (array es) s) (listed_of (sorted_items ds))
  built (object ms) s = members_built ms [] s.0 s.1 ∙ ap (λ es. take (object es) s) (paired_of ms)

  items_built : (ds : Items) (before : List Data) (ls : List Level) (o : Option Data) → run (items_events ds) (listing before ∷ ls, o) ≡ take (array (items_of (before ++ listed (sorted_items ds)))) (ls, o)
  items_built no_items before ls o = alone (take (array (items_of before)) (ls, o)) ∙ ap (λ es. take (array (items_of es)) (ls, o)) (sym (append-nil before))
  items_built (item d ds) before ls o =
      run_more (events d) (items_events ds) (listing before ∷ ls, o)
      ∙ ap (option_and_then (run (items_events ds))) (built d (listing before ∷ ls, o))
      ∙ items_built ds (before ++ sorted d ∷ []) ls o
      ∙ ap (λ es. take (array (items_of es)) (ls, o)) (append_assoc before (sorted d ∷ []) (listed (sorted_items ds)))

  members_built : (ms : Members) (before : List (List ℕ × Data)) (ls : List Level) (o : Option Data) → run (members_events ms) (naming before None ∷ ls, o) ≡ take (object (put_all (before ++ paired ms))) (ls, o)
  members_built no_members before ls o = alone (take (object (put_all before)) (ls, o)) ∙ ap (λ es. take (object (put_all es)) (ls, o)) (sym (append-nil before))
  members_built (member k d ms) before ls o =
      run_more (events d) (members_events ms) (naming before (Some k) ∷ ls, o)
      ∙ ap (option_and_then (run (members_events ms))) (built d (naming before (Some k) ∷ ls, o))
      ∙ members_built ms (before ++ (k, sorted d) ∷ []) ls o
      ∙ ap (λ es. take (object (put_all es)) (ls, o)) (append_assoc before ((k, sorted d) ∷ []) (paired ms))
