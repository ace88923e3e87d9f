-- What is told of a list, node by node.
use Rattle.std.proofs.Common.{◌≡◌, ℕ, Bool, true, false, cond, List, [], ◌∷◌, ◌++◌, map, drop, length, ◌≤◌, ◌<◌, ◌+◌, get_or, Option, Some, None, sym, ap, ◌∙◌, subst}
use Rattle.std.proofs.lemmas.List.{drop_more}
use Rattle.wesl_cond_features.specs.declared.chain.Role.{Role}
use Rattle.wesl_cond_chains.proofs.Begun.{none_left}
use Rattle.wesl_cond_chains.proofs.Taken.{elements_as}
use Rattle.wesl_cond_chains.specs.Chains.{residual_after}
use Rattle.wesl_cond_chains.specs.Conditions.{is_void}
use Rattle.wesl_cond_chains.specs.Following.{IsTurn}
use Rattle.wesl_cond_chains.specs.Judging.{closing}
use Rattle.wesl_cond_chains.specs.Lists.{Element, still, elements, back, alone, is_entered}
use Rattle.wesl_cond_chains.specs.Nodes.{as_element}
use Rattle.wesl_cond_features.specs.Features.{Replies, known}
use Rattle.wesl_cond_unit.proofs.Walk.{enact, scan, scan_after}
use Rattle.wesl_cond_unit.proofs.Walked.{on_from, staying_is}
use Rattle.wesl_cond_faults.proofs.Adding.{Owes, owes_all, owes_same, owes_next, owes_none}
use Rattle.wesl_cond_faults.proofs.Listing.{stay, leaf_alone}
use Rattle.wesl_cond_faults.specs.Listed.{AreFaults, nothing, apart}
use Rattle.wesl_cond_faults.specs.Telling.{AddsAll}
use Rattle.wesl_cond_faults.specs.declared.told.Told.{Told}
use Rattle.wesl_tree_names.specs.Path.{Text}
use Rattle.wesl_tree_syntax.specs.Tree.{Label, Forest, Tree, end, tree, before, forest_of}
use Rattle.wesl_cond_chains.proofs.Closing.{fate_of, next_decided, next_kept}

module _ (names : List Text) (reply : Replies ℕ) where
  passes : (k d k' d' b : Bool) (t : Tree) → b ≡ false → IsTurn still (known reply) k d (as_element false t) k' d' (as_element false t) b → (rest : List (Element ℕ)) → on_from reply k d (as_element false t ∷ rest) ≡ on_from reply k' d' rest
  passes k d k' d' b t e turn rest = ap (back false) (turn rest) ∙ ap (λ b. back false (cond b (as_element false t ∷ residual_after still (known reply) k' d' rest) (residual_after still (known reply) k' d' rest))) e

  enters : (k d k' d' b : Bool) (t : Tree) → b ≡ true → IsTurn still (known reply) k d (as_element false t) k' d' (as_element false t) b → (rest : List (Element ℕ)) → on_from reply k d (as_element false t ∷ rest) ≡ before t (on_from reply k' d' rest)
  enters k d k' d' b t e turn rest = ap (back false) (turn rest) ∙ ap (λ b. back false (cond b (as_element false t ∷ residual_after still (known reply) k' d' rest) (residual_after still (known reply) k' d' rest))) e

  module _ {A : Type 0} (view : A → Tree) (xs : List A) (a : Told) where
    abbrev pub nodes : List A → List (Element ℕ)
    nodes ys = map (λ x. as_element false (view x)) ys

    abbrev pub what_stays : Forest
    what_stays = alone (stay reply) (forest_of (map view xs))

    -- A judged list: the faults in what stays of the rest are still to be told.
    abbrev pub IsLeft : ℕ → Bool → Bool → Told → Type 0
    IsLeft i k d b = Owes names reply what_stays a b (on_from reply k d (nodes (drop i xs)))

    pub left_at_start : (k d : Bool) → k ≡ false → d ≡ false → IsLeft 0 k d a
    left_at_start k d e g = owes_all names reply what_stays (on_from reply k d (nodes xs)) a
        (ap (back false) (staying_is (known reply) (elements false (forest_of (map view xs))) ∙ scan_after still (known reply) false false (elements false (forest_of (map view xs))) ∙ ap (residual_after still (known reply) false false) (sym (elements_as false view xs)))
        ∙ ap (λ b. on_from reply b false (nodes xs)) (sym e) ∙ ap (λ b. on_from reply k b (nodes xs)) (sym g))

    next_of : (i : ℕ) (x : A) → i < length xs → x ≡ get_or xs i x → drop i xs ≡ x ∷ drop (i + 1) xs
    next_of i x lt is = drop_more xs i x lt ∙ ap (λ y. y ∷ drop (i + 1) xs) (sym is)

    pub left_past : (i : ℕ) (k d k' d' s : Bool) (x : A) (b : Told) → i < length xs → x ≡ get_or xs i x → s ≡ false → IsTurn still (known reply) k d (as_element false (view x)) k' d' (as_element false (view x)) s → IsLeft i k d b → IsLeft (i + 1) k' d' b
    left_past i k d k' d' s x b lt is e turn h =
        owes_same names reply what_stays (on_from reply k d (nodes (drop i xs))) (on_from reply k' d' (nodes (drop (i + 1) xs))) a b
        (ap (λ ys. on_from reply k d (nodes ys)) (next_of i x lt is) ∙ passes k d k' d' s (view x) e turn (nodes (drop (i + 1) xs))) h

    pub left_in : (i : ℕ) (k d k' d' s : Bool) (x : A) (b c : Told) → i < length xs → x ≡ get_or xs i x → s ≡ true → IsTurn still (known reply) k d (as_element false (view x)) k' d' (as_element false (view x)) s → AddsAll names reply (before (view x) end) b c → IsLeft i k d b → IsLeft (i + 1) k' d' c
    left_in i k d k' d' s x b c lt is e turn told h =
        let rest = on_from reply k' d' (nodes (drop (i + 1) xs)) in
        owes_next names reply what_stays (view x) rest a b c
        (owes_same names reply what_stays (on_from reply k d (nodes (drop i xs))) (before (view x) rest) a b
        (ap (λ ys. on_from reply k d (nodes ys)) (next_of i x lt is) ∙ enters k d k' d' s (view x) e turn (nodes (drop (i + 1) xs))) h)
        told

    pub left_none : (i : ℕ) (k d : Bool) (b : Told) → length xs ≤ i → IsLeft i k d b → AddsAll names reply what_stays a b
    left_none i k d b le h = owes_none names reply what_stays a b (owes_same names reply what_stays (on_from reply k d (nodes (drop i xs))) end a b (ap (λ ys. on_from reply k d (nodes ys)) (none_left xs i le)) h)

    -- A list that is not judged.
    abbrev pub IsListed : ℕ → Told → Type 0
    IsListed i b = Owes names reply (forest_of (map view xs)) a b (forest_of (map view (drop i xs)))

    pub listed_next : (i : ℕ) (x : A) (b c : Told) → i < length xs → x ≡ get_or xs i x → AddsAll names reply (before (view x) end) b c → IsListed i b → IsListed (i + 1) c
    listed_next i x b c lt is told h =
        let rest = forest_of (map view (drop (i + 1) xs)) in
        owes_next names reply (forest_of (map view xs)) (view x) rest a b c
        (owes_same names reply (forest_of (map view xs)) (forest_of (map view (drop i xs))) (before (view x) rest) a b (ap (λ ys. forest_of (map view ys)) (next_of i x lt is)) h)
        told

    pub listed_none : (i : ℕ) (b : Told) → length xs ≤ i → IsListed i b → AddsAll names reply (forest_of (map view xs)) a b
    listed_none i b le h = owes_none names reply (forest_of (map view xs)) a b (owes_same names reply (forest_of (map view xs)) (forest_of (map view (drop i xs))) end a b (ap (λ ys. forest_of (map view ys)) (none_left xs i le)) h)

-- One branch.
module _ (reply : Replies ℕ) where
  -- nodes that hold no list
  module _ {A : Type 0} (view : A → Tree) (leaf : (x : A) → is_entered (view x).label ≡ false) where
    pub no_list_in : (xs : List A) → AreFaults reply false (forest_of (map view xs)) []
    no_list_in [] = nothing
    no_list_in (x ∷ xs) = apart (leaf x) (no_list_in xs)

    leaf_piece : (v : Bool) (o : Option Role) (x : A) (rs ss : List (Element ℕ)) → AreFaults reply false (back false rs) [] → AreFaults reply false (back false ss) []
        → AreFaults reply false (back false (cond v rs (enact still (known reply) o (as_element false (view x)) ss))) []
    leaf_piece true o x rs ss p q = p
    leaf_piece false None x rs ss p q = q
    leaf_piece false (Some role) x rs ss p q = apart (leaf x) q

    clear_from : (k d : Bool) (xs : List A) → AreFaults reply false (back false (scan still (known reply) k d (map (λ x. as_element false (view x)) xs))) []
    clear_from k d [] = nothing
    clear_from k d (x ∷ xs) =
        let y = as_element false (view x) in
        let k' = next_kept (known reply) k d y in
        let d' = next_decided (known reply) d y in
        let more = map (λ x. as_element false (view x)) xs in
        leaf_piece (is_void (view x).label (view x).children) (fate_of (known reply) k d y) x (scan still (known reply) k d more) (scan still (known reply) k' d' more) (clear_from k d xs) (clear_from k' d' xs)

    pub no_list_stays : (xs : List A) → AreFaults reply false (alone (stay reply) (forest_of (map view xs))) []
    no_list_stays xs = subst (λ ys. AreFaults reply false (back false ys) [])
        (ap (scan still (known reply) false false) (elements_as false view xs) ∙ sym (staying_is (known reply) (elements false (forest_of (map view xs)))))
        (clear_from false false xs)

  -- what closes a list and holds no list
  module _ (t : Tree) (leaf : is_entered t.label ≡ false) where
    last_piece : (v : Bool) (o : Option Role) → AreFaults reply false (back true (cond v [] (enact still (known reply) o (as_element true t) []))) []
    last_piece true o = nothing
    last_piece false None = nothing
    last_piece false (Some role) = leaf_alone reply false t.label t.children leaf

    open_piece : (v : Bool) (o : Option Role) (l : Label) (c : Forest) (rs ss : List (Element ℕ)) → AreFaults reply false (back true rs) [] → AreFaults reply false (back true ss) []
        → AreFaults reply false (back true (cond v rs (enact still (known reply) o (record { closes = false; label = l; children = c }) ss))) []
    open_piece true o l c rs ss p q = p
    open_piece false None l c rs ss p q = q
    open_piece false (Some role) l c rs ss p q = q

    clear_last : (f : Forest) (k d : Bool) → AreFaults reply false (back true (scan still (known reply) k d (elements false f ++ as_element true t ∷ []))) []
    clear_last end k d = last_piece (is_void t.label t.children) (fate_of (known reply) k d (as_element true t))
    clear_last (tree l c o) k d =
        let x : Element ℕ = record { closes = false; label = l; children = c } in
        let k' = next_kept (known reply) k d x in
        let d' = next_decided (known reply) d x in
        let last : List (Element ℕ) = as_element true t ∷ [] in
        open_piece (is_void l c) (fate_of (known reply) k d x) l c (scan still (known reply) k d (elements false o ++ last)) (scan still (known reply) k' d' (elements false o ++ last)) (clear_last o k d) (clear_last o k' d')

    pub closing_leaf : (f : Forest) → AreFaults reply false (closing (known reply) f (before t end)) []
    closing_leaf f = subst (λ xs. AreFaults reply false (back true xs) []) (sym (staying_is (known reply) (elements false f ++ as_element true t ∷ []))) (clear_last f false false)
