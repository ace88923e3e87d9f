-- What stays of a list, walked node by node.
use Rattle.std.proofs.Common.{◌≡◌, ℕ, Bool, true, false, cond, List, [], ◌∷◌, ◌++◌, map, drop, length, ◌≤◌, ◌<◌, ◌+◌, get_or, zero, suc, filter, inl, inr, Option, Some, None, Result, Ok, Err, refl, sym, ap, ◌∙◌, subst, append-nil, arith}
use Rattle.std.specs.List.{flat_map}
use Rattle.std.proofs.lemmas.List.{drop_more}
use Rattle.wesl_cond_chains.specs.Places.{StandsAt, Place}
use Rattle.wesl_cond_features.specs.declared.chain.Role.{Role}
use Rattle.wesl_cond_chains.specs.Chains.{staying, residual_chain, residual_after, headed, later, live, chains, is_node}
use Rattle.wesl_cond_chains.specs.Conditions.{is_void}
use Rattle.wesl_cond_chains.specs.Faults.{beside}
use Rattle.wesl_cond_chains.specs.Judging.{IsClear, Checks, closing, RefusesIn}
use Rattle.wesl_cond_chains.specs.Lists.{Element, element, still, elements, back, alone, is_entered}
use Rattle.wesl_cond_chains.specs.Nodes.{as_element}
use Rattle.wesl_cond_chains.specs.Following.{IsTurn}
use Rattle.wesl_cond_unit.proofs.Walk.{enact, scan, scan_is, scan_after}
use Rattle.wesl_cond_unit.proofs.Standing.{stay, split, nothing, clear_leaf, passed_by, refuses_more, first_refused}
use Rattle.wesl_cond_features.specs.Answers.{Answers}
use Rattle.wesl_cond_features.specs.Features.{Replies, known}
use Rattle.wesl_tree_names.specs.Path.{Text}
use Rattle.wesl_tree_names.specs.declared.errors.Diagnostic.{Diagnostic}
use Rattle.wesl_tree_syntax.specs.Tree.{Label, Forest, Tree, end, tree, before, forest_of}
use Rattle.wesl_cond_chains.proofs.Taken.{elements_as}
use Rattle.wesl_cond_chains.proofs.Closing.{fate_of, next_decided, next_kept, open_one}

-- the nodes of the rest of a list that stay, where a branch of the chain before is kept, one was true
abbrev pub on_from : Replies ℕ → Bool → Bool → List (Element ℕ) → Forest
on_from reply kept decided xs = back false (residual_after still (known reply) kept decided xs)

-- the next node of a list judged inside if it stays: the faults in what stays are those in what stays of the rest, or one is told
abbrev pub Walks : {A : Type 0} → List Text → Replies ℕ → Bool → Bool → Element ℕ → Bool → Bool → Result A Diagnostic → Type 0
Walks names reply kept decided x kept' decided' (Ok done) = (rest : List (Element ℕ)) (f : Place ℕ)
    → (StandsAt reply false (on_from reply kept decided (x ∷ rest)) f → StandsAt reply false (on_from reply kept' decided' rest) f)
    × (StandsAt reply false (on_from reply kept' decided' rest) f → StandsAt reply false (on_from reply kept decided (x ∷ rest)) f)
Walks names reply kept decided x kept' decided' (Err e) = (rest : List (Element ℕ)) → RefusesIn names reply (on_from reply kept decided (x ∷ rest)) e

-- One branch.
abbrev closing_one : Label → Forest → Element ℕ
closing_one l c = record { closes = true; label = l; children = c }

-- The nodes that stay, branch by branch.
module _ (answers : Answers ℕ) where
  same_later : (xs : List (Element ℕ)) → map (later still answers) xs ≡ xs
  same_later [] = refl
  same_later (x ∷ xs) = ap (λ r. x ∷ r) (same_later xs)

  same_headed : (xs : List (Element ℕ)) → headed still answers xs ≡ xs
  same_headed [] = refl
  same_headed (x ∷ xs) = ap (λ r. x ∷ r) (same_later xs)

  same_chains : (cs : List (List (Element ℕ))) → flat_map (residual_chain still answers) cs ≡ flat_map (live element answers) cs
  same_chains [] = refl
  same_chains (c ∷ cs) = ap (λ r. r ++ flat_map (residual_chain still answers) cs) (same_headed (live still answers c)) ∙ ap (λ r. live element answers c ++ r) (same_chains cs)

  pub staying_is : (xs : List (Element ℕ)) → staying element answers xs ≡ scan still answers false false xs
  staying_is xs = sym (scan_is still answers xs ∙ same_chains (chains still (filter (is_node still) xs)))

  -- What closes a list is no node of it.
  no_front : (v : Bool) (o : Option Role) (l : Label) (c : Forest) (rs ss : List (Element ℕ)) → back false rs ≡ end → back false ss ≡ end → back false (cond v rs (enact still answers o (record { closes = true; label = l; children = c }) ss)) ≡ end
  no_front true o l c rs ss e d = e
  no_front false None l c rs ss e d = d
  no_front false (Some role) l c rs ss e d = d

  last_apart : (e : Forest) (k d : Bool) → back false (scan still answers k d (elements true e)) ≡ end
  last_apart end k d = refl
  last_apart (tree l c o) k d =
      let x = closing_one l c in
      let k' = next_kept answers k d x in
      let d' = next_decided answers d x in
      no_front (is_void l c) (fate_of answers k d x) l c (scan still answers k d (elements true o)) (scan still answers k' d' (elements true o)) (last_apart o k d) (last_apart o k' d')

  same_front : (v : Bool) (o : Option Role) (l : Label) (c : Forest) (rs ss rs' ss' : List (Element ℕ)) → back false rs ≡ back false rs' → back false ss ≡ back false ss'
      → back false (cond v rs (enact still answers o (record { closes = false; label = l; children = c }) ss)) ≡ back false (cond v rs' (enact still answers o (record { closes = false; label = l; children = c }) ss'))
  same_front true o l c rs ss rs' ss' e d = e
  same_front false None l c rs ss rs' ss' e d = d
  same_front false (Some role) l c rs ss rs' ss' e d = ap (tree l c) d

  front_apart : (f e : Forest) (k d : Bool) → back false (scan still answers k d (elements false f ++ elements true e)) ≡ back false (scan still answers k d (elements false f))
  front_apart end e k d = last_apart e k d
  front_apart (tree l c o) e k d =
      let x = open_one l c in
      let k' = next_kept answers k d x in
      let d' = next_decided answers d x in
      same_front (is_void l c) (fate_of answers k d x) l c (scan still answers k d (elements false o ++ elements true e)) (scan still answers k' d' (elements false o ++ elements true e)) (scan still answers k d (elements false o)) (scan still answers k' d' (elements false o))
      (front_apart o e k d) (front_apart o e k' d')

  pub open_front : (f e : Forest) → back false (staying element answers (elements false f ++ elements true e)) ≡ alone (staying element answers) f
  open_front f e = ap (back false) (staying_is (elements false f ++ elements true e)) ∙ front_apart f e false false ∙ ap (back false) (sym (staying_is (elements false f)))

  -- Nodes of a list are not what closes it.
  same_last : (v : Bool) (o : Option Role) (l : Label) (c : Forest) (rs ss : List (Element ℕ)) (vs : List (Element ℕ)) → back true (rs ++ vs) ≡ back true vs → back true (ss ++ vs) ≡ back true vs
      → back true (cond v rs (enact still answers o (record { closes = false; label = l; children = c }) ss) ++ vs) ≡ back true vs
  same_last true o l c rs ss vs e d = e
  same_last false None l c rs ss vs e d = d
  same_last false (Some role) l c rs ss vs e d = d

  front_passed : (f : Forest) (k d : Bool) (vs : List (Element ℕ)) → back true (scan still answers k d (elements false f) ++ vs) ≡ back true vs
  front_passed end k d vs = refl
  front_passed (tree l c o) k d vs =
      let x = open_one l c in
      let k' = next_kept answers k d x in
      let d' = next_decided answers d x in
      same_last (is_void l c) (fate_of answers k d x) l c (scan still answers k d (elements false o)) (scan still answers k' d' (elements false o)) vs (front_passed o k d vs) (front_passed o k' d' vs)

  -- nothing closes a list
  pub closing_none : (f : Forest) → closing answers f end ≡ end
  closing_none f = ap (back true) (staying_is (elements false f ++ [])) ∙ ap (λ xs. back true (scan still answers false false xs)) (append-nil (elements false f)) ∙ ap (back true) (sym (append-nil (scan still answers false false (elements false f)))) ∙ front_passed f false false []

-- Walking on.
module _ (reply : Replies ℕ) where
  abbrev pub Alike : Forest → Forest → Type 0
  Alike a b = (f : Place ℕ) → (StandsAt reply false a f → StandsAt reply false b f) × (StandsAt reply false b f → StandsAt reply false a f)

  pub alike_equal : (a b : Forest) → a ≡ b → Alike a b
  alike_equal a b e f = (λ s. subst (λ t. StandsAt reply false t f) e s, λ s. subst (λ t. StandsAt reply false t f) (sym e) s)

  pub alike_then : (a b c : Forest) → Alike a b → Alike b c → Alike a c
  alike_then a b c p q f = (λ s. (q f).0 ((p f).0 s), λ s. (p f).1 ((q f).1 s))

  goes : (k d k' d' b : Bool) (t : Tree) → b ≡ false → IsTurn still (known reply) k d (as_element false t) k' d' (as_element false t) b → (rest : List (Element ℕ)) → on_from reply k d (as_element false t ∷ rest) ≡ on_from reply k' d' rest
  goes k d k' d' b t e turn rest = ap (back false) (turn rest) ∙ ap (λ b. back false (cond b (as_element false t ∷ residual_after still (known reply) k' d' rest) (residual_after still (known reply) k' d' rest))) e

  goes_in : (k d k' d' b : Bool) (t : Tree) → b ≡ true → IsTurn still (known reply) k d (as_element false t) k' d' (as_element false t) b → (rest : List (Element ℕ)) → on_from reply k d (as_element false t ∷ rest) ≡ before t (on_from reply k' d' rest)
  goes_in k d k' d' b t e turn rest = ap (back false) (turn rest) ∙ ap (λ b. back false (cond b (as_element false t ∷ residual_after still (known reply) k' d' rest) (residual_after still (known reply) k' d' rest))) e

  pub walks_past : {A : Type 0} (names : List Text) (k d k' d' b : Bool) (t : Tree) (x : A) → b ≡ false → IsTurn still (known reply) k d (as_element false t) k' d' (as_element false t) b → Walks names reply k d (as_element false t) k' d' (Ok x)
  walks_past names k d k' d' b t x e turn = λ rest. alike_equal (on_from reply k d (as_element false t ∷ rest)) (on_from reply k' d' rest) (goes k d k' d' b t e turn rest)

  pub walks_in : {A : Type 0} (names : List Text) (k d k' d' b : Bool) (t : Tree) (r : Result A Diagnostic) → b ≡ true → IsTurn still (known reply) k d (as_element false t) k' d' (as_element false t) b → Checks names reply (before t end) r → Walks names reply k d (as_element false t) k' d' r
  walks_in names k d k' d' b t (Ok x) e turn clear = λ rest.
      let more = on_from reply k' d' rest in
      alike_then (on_from reply k d (as_element false t ∷ rest)) (before t more) more
      (alike_equal (on_from reply k d (as_element false t ∷ rest)) (before t more) (goes_in k d k' d' b t e turn rest))
      (λ f. (
        λ s. elim (split reply false t.label t.children more f s) [
          | inl first ↦ absurd (clear f first)
          | inr s ↦ s
        ],
        λ s. beside s,
      ))
  walks_in names k d k' d' b t (Err e) is turn refused = λ rest.
      subst (λ a. RefusesIn names reply a e) (sym (goes_in k d k' d' b t is turn rest)) (first_refused reply names t (on_from reply k' d' rest) e refused)

  -- The loop over a list.
  module _ {A : Type 0} (view : A → Tree) where
    abbrev pub nodes : List A → List (Element ℕ)
    nodes xs = map (λ x. as_element false (view x)) xs

    -- the faults in what stays of a list are those in what stays of the rest
    abbrev pub IsLeft : List A → ℕ → Bool → Bool → Type 0
    IsLeft xs i k d = Alike (alone (stay reply) (forest_of (map view xs))) (on_from reply k d (nodes (drop i xs)))

    pub left_at_start : (xs : List A) (k d : Bool) → k ≡ false → d ≡ false → IsLeft xs 0 k d
    left_at_start xs k d e g = alike_equal (alone (stay reply) (forest_of (map view xs))) (on_from reply k d (nodes xs))
        (ap (back false) (staying_is (known reply) (elements false (forest_of (map view xs))) ∙ scan_after still (known reply) false false (elements false (forest_of (map view xs))) ∙ ap (residual_after still (known reply) false false) (sym (elements_as false view xs)))
        ∙ ap (λ a. on_from reply a false (nodes xs)) (sym e) ∙ ap (λ a. on_from reply k a (nodes xs)) (sym g))

    pub left_next : {B : Type 0} (names : List Text) (xs : List A) (i : ℕ) (k d k' d' : Bool) (x : A) (y : B) → i < length xs → x ≡ get_or xs i x → IsLeft xs i k d → Walks names reply k d (as_element false (view x)) k' d' (Ok y) → IsLeft xs (i + 1) k' d'
    left_next names xs i k d k' d' x y lt is so_far walked =
        let a = alone (stay reply) (forest_of (map view xs)) in
        let rest = nodes (drop (i + 1) xs) in
        alike_then a (on_from reply k d (as_element false (view x) ∷ rest)) (on_from reply k' d' rest)
        (subst (λ v. Alike a (on_from reply k d (as_element false (view v) ∷ rest))) (sym is) (subst (λ l. Alike a (on_from reply k d (nodes l))) (drop_more xs i x lt) so_far))
        (walked rest)

    pub left_refused : (B : Type 0) (names : List Text) (xs : List A) (i : ℕ) (k d k' d' : Bool) (x : A) (e : Diagnostic) → i < length xs → x ≡ get_or xs i x → IsLeft xs i k d → Walks {A = B} names reply k d (as_element false (view x)) k' d' (Err e) → RefusesIn names reply (alone (stay reply) (forest_of (map view xs))) e
    left_refused B names xs i k d k' d' x e lt is so_far walked =
        let a = alone (stay reply) (forest_of (map view xs)) in
        let rest = nodes (drop (i + 1) xs) in
        let here_left : Alike a (on_from reply k d (as_element false (view x) ∷ rest)) = subst (λ v. Alike a (on_from reply k d (as_element false (view v) ∷ rest))) (sym is) (subst (λ l. Alike a (on_from reply k d (nodes l))) (drop_more xs i x lt) so_far) in
        refuses_more reply names (on_from reply k d (as_element false (view x) ∷ rest)) a e (λ f s. (here_left f).1 s) (walked rest)

    none_after : (xs : List A) (i : ℕ) → length xs ≤ i → drop i xs ≡ []
    none_after [] zero h = refl
    none_after [] (suc i) h = refl
    none_after (x ∷ xs) zero h = absurd (omega arith)
    none_after (x ∷ xs) (suc i) h = none_after xs i (omega arith)

    pub left_clear : (xs : List A) (i : ℕ) (k d : Bool) → length xs ≤ i → IsLeft xs i k d → IsClear reply (alone (stay reply) (forest_of (map view xs)))
    left_clear xs i k d le left f s = nothing reply f (subst (λ l. StandsAt reply false (on_from reply k d (nodes l)) f) (none_after xs i le) ((left f).0 s))

    -- A list that is not judged.
    abbrev pub IsListed : List A → ℕ → Type 0
    IsListed xs i = Alike (forest_of (map view xs)) (forest_of (map view (drop i xs)))

    listed_here : (xs : List A) (i : ℕ) (x : A) → i < length xs → x ≡ get_or xs i x → IsListed xs i → Alike (forest_of (map view xs)) (before (view x) (forest_of (map view (drop (i + 1) xs))))
    listed_here xs i x lt is so_far = subst (λ v. Alike (forest_of (map view xs)) (before (view v) (forest_of (map view (drop (i + 1) xs))))) (sym is) (subst (λ l. Alike (forest_of (map view xs)) (forest_of (map view l))) (drop_more xs i x lt) so_far)

    pub listed_next : (xs : List A) (i : ℕ) (x : A) → i < length xs → x ≡ get_or xs i x → IsListed xs i → IsClear reply (before (view x) end) → IsListed xs (i + 1)
    listed_next xs i x lt is so_far clear =
        let rest = forest_of (map view (drop (i + 1) xs)) in
        alike_then (forest_of (map view xs)) (before (view x) rest) rest (listed_here xs i x lt is so_far)
        (λ f. (
          λ s. elim (split reply false (view x).label (view x).children rest f s) [
            | inl first ↦ absurd (clear f first)
            | inr s ↦ s
          ],
          λ s. beside s,
        ))

    pub listed_refused : (names : List Text) (xs : List A) (i : ℕ) (x : A) (e : Diagnostic) → i < length xs → x ≡ get_or xs i x → IsListed xs i → RefusesIn names reply (before (view x) end) e → RefusesIn names reply (forest_of (map view xs)) e
    listed_refused names xs i x e lt is so_far refused =
        let rest = forest_of (map view (drop (i + 1) xs)) in
        refuses_more reply names (before (view x) rest) (forest_of (map view xs)) e (λ f s. (listed_here xs i x lt is so_far f).1 s) (first_refused reply names (view x) rest e refused)

    pub listed_clear : (xs : List A) (i : ℕ) → length xs ≤ i → IsListed xs i → IsClear reply (forest_of (map view xs))
    listed_clear xs i le left f s = nothing reply f (subst (λ l. StandsAt reply false (forest_of (map view l)) f) (none_after xs i le) ((left f).0 s))

    -- nodes that hold no list
    leaf_piece : (v : Bool) (o : Option Role) (x : A) (rs ss : List (Element ℕ)) → is_entered (view x).label ≡ false → IsClear reply (back false rs) → IsClear reply (back false ss)
        → IsClear reply (back false (cond v rs (enact still (known reply) o (as_element false (view x)) ss)))
    leaf_piece true o x rs ss e p q = p
    leaf_piece false None x rs ss e p q = q
    leaf_piece false (Some role) x rs ss e p q = λ f s. q f (passed_by reply false (view x).label (view x).children (back false ss) e f s)

    clear_from : (leaf : (x : A) → is_entered (view x).label ≡ false) (k d : Bool) (xs : List A) → IsClear reply (back false (scan still (known reply) k d (nodes xs)))
    clear_from leaf k d [] = nothing reply
    clear_from leaf k d (x ∷ xs) =
        let y = as_element false (view x) in
        let k' = next_kept (known reply) k d y in
        let d' = next_decided (known reply) d y in
        leaf_piece (is_void (view x).label (view x).children) (fate_of (known reply) k d y) x (scan still (known reply) k d (nodes xs)) (scan still (known reply) k' d' (nodes xs)) (leaf x) (clear_from leaf k d xs) (clear_from leaf k' d' xs)

    pub clear_nodes : (leaf : (x : A) → is_entered (view x).label ≡ false) (xs : List A) → IsClear reply (alone (stay reply) (forest_of (map view xs)))
    clear_nodes leaf xs f s = clear_from leaf false false xs f (subst (λ ys. StandsAt reply false (back false ys) f) (sym (scan_after still (known reply) false false (nodes xs))) ((left_at_start xs false false refl refl f).0 s))

  -- what closes a list and holds no list
  module _ (t : Tree) (leaf : is_entered t.label ≡ false) where
    last_piece : (v : Bool) (o : Option Role) → IsClear reply (back true (cond v [] (enact still (known reply) o (as_element true t) [])))
    last_piece true o = nothing reply
    last_piece false None = nothing reply
    last_piece false (Some role) = clear_leaf reply t.label t.children leaf

    open_piece : (v : Bool) (o : Option Role) (l : Label) (c : Forest) (rs ss : List (Element ℕ)) → IsClear reply (back true rs) → IsClear reply (back true ss)
        → IsClear reply (back true (cond v rs (enact still (known reply) o (record { closes = false; label = l; children = c }) ss)))
    open_piece true o l c rs ss p q = p
    open_piece false None l c rs ss p q = q
    open_piece false (Some role) l c rs ss p q = q

    clear_last : (f : Forest) (k d : Bool) → IsClear reply (back true (scan still (known reply) k d (elements false f ++ as_element true t ∷ [])))
    clear_last end k d = last_piece (is_void t.label t.children) (fate_of (known reply) k d (as_element true t))
    clear_last (tree l c o) k d =
        let x = open_one l c in
        let k' = next_kept (known reply) k d x in
        let d' = next_decided (known reply) d x in
        let last : List (Element ℕ) = as_element true t ∷ [] in
        open_piece (is_void l c) (fate_of (known reply) k d x) l c (scan still (known reply) k d (elements false o ++ last)) (scan still (known reply) k' d' (elements false o ++ last)) (clear_last o k d) (clear_last o k' d')

    pub closing_leaf : (f : Forest) → IsClear reply (closing (known reply) f (before t end))
    closing_leaf f g s = clear_last f false false g (subst (λ xs. StandsAt reply false (back true xs) g) (staying_is (known reply) (elements false f ++ as_element true t ∷ [])) s)
