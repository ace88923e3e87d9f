-- A walk adds to what it has found, and of what stands in the set of none of a choice it keeps nothing.
use Rattle.std.proofs.Common.{◌≡◌, ℕ, zero, suc, ◌+◌, Bool, true, false, ◌&&◌, cond, List, [], ◌∷◌, ◌++◌, map, filter, drop, length, refl, sym, ap, ◌∙◌, subst, append_assoc, append-nil, arith}
use Rattle.wesl_cond_chains.specs.Conditions.{condition_at, is_list, is_statements}
use Rattle.wesl_cond_chains.specs.Lists.{is_closed, is_compound, is_entered}
use Rattle.wesl_cond_chains.specs.Picked.{Choice}
use Rattle.wesl_tree_syntax.specs.Nodes.{is_attributes}
use Rattle.wesl_tree_syntax.specs.Tree.{LabelOf, ForestOf, end, tree, ident, identifiers}
use Rattle.wesl_cond_alive.proofs.Bits.{AreDead, AreSet, places_dead}
use Rattle.wesl_cond_alive.specs.Sound.{Outline, is_conditional}
use Rattle.wesl_cond_alive.specs.Walk.{Ahead, listed, leaf, bare, closing, body, last, past, inner, inside, beyond, Branch, Here, Mark, Node, State, after, ahead_in, ahead_inside, attributes_in_turn, branches_of, body_ahead, entered, flagged, judged, last_ahead, next, no_choices, or_marked, outlines_at, places_in, set_count, standing, statement_count, statements_ahead, walk}

no_more : (n : ℕ) → n ≡ n + 0
no_more n = omega arith

one_more : (n k : ℕ) → suc n + k ≡ n + suc k
one_more n k = omega arith

module _ {I : Type 0} where
  -- what a tree holds, of which this is left
  abbrev pub named : LabelOf I → ForestOf I → List I
  named (ident r x) c = x ∷ []
  named l c = identifiers c

  -- branches more
  abbrev pub Grows : State I → State I → Type 0
  Grows s t = (bs : List (Branch I)) × (t.branches ≡ s.branches ++ bs)

  grows_not : (s t : State I) → t.branches ≡ s.branches → Grows s t
  grows_not s t e = ([], e ∙ sym (append-nil s.branches))

  grows_then : (s t u : State I) → Grows s t → Grows t u → Grows s u
  grows_then s t u x y = (x.0 ++ y.0, y.1 ∙ ap (λ xs. xs ++ y.0) x.1 ∙ append_assoc s.branches x.0 y.0)

  pub judged_grows : (holder : ℕ) (xs : List (Outline I)) (s : State I) → Grows s (judged holder xs s)
  judged_grows holder [] s = grows_not s s refl
  judged_grows holder (x ∷ xs) s = (branches_of holder true (x ∷ xs), refl)

  pub flagged_branches : (l : LabelOf I) (here : Here) (s : State I) → (flagged l here s).branches ≡ s.branches
  flagged_branches (ident r x) here s = refl
  flagged_branches l here s = refl

  flagged_marks : (l : LabelOf I) (here : Here) (s : State I) → (flagged l here s).marks ≡ s.marks
  flagged_marks (ident r x) here s = refl
  flagged_marks l here s = refl

  judged_marks : (holder : ℕ) (xs : List (Outline I)) (s : State I) → (judged holder xs s).marks ≡ s.marks
  judged_marks holder [] s = refl
  judged_marks holder (x ∷ xs) s = refl

  pub marked_branches : (l : LabelOf I) (here : Here) (s found : State I) → (or_marked l here s found).branches ≡ found.branches
  marked_branches (ident r x) here s found = refl
  marked_branches l here s found = refl

  -- what the walk has found when it enters a tree, and when it leaves it
  abbrev pub at_entry : Node → State I → LabelOf I → ForestOf I → State I
  at_entry node s l c = judged (standing node.here node.ahead c).set (outlines_at node l c) (flagged l (standing node.here node.ahead c) s)

  abbrev pub places_at : Node → State I → LabelOf I → ForestOf I → List Here
  places_at node s l c = places_in (standing node.here node.ahead c).set (outlines_at node l c) s

  abbrev pub node_in : Node → State I → LabelOf I → ForestOf I → Node
  node_in node s l c = entered node l c (places_at node s l c)

  abbrev pub at_leave : Node → State I → LabelOf I → ForestOf I → State I
  at_leave node s l c = walk (node_in node s l c) (at_entry node s l c) c

  abbrev pub passed : Node → State I → LabelOf I → ForestOf I → State I
  passed node s l c = or_marked l (standing node.here node.ahead c) s (at_leave node s l c)

  pub entry_marks : (node : Node) (s : State I) (l : LabelOf I) (c : ForestOf I) → (at_entry node s l c).marks ≡ s.marks
  entry_marks node s l c =
      let here = standing node.here node.ahead c in
      judged_marks here.set (outlines_at node l c) (flagged l here s) ∙ flagged_marks l here s

  entry_grows : (node : Node) (s : State I) (l : LabelOf I) (c : ForestOf I) → Grows s (at_entry node s l c)
  entry_grows node s l c =
      let here = standing node.here node.ahead c in
      grows_then s (flagged l here s) (at_entry node s l c) (grows_not s (flagged l here s) (flagged_branches l here s)) (judged_grows here.set (outlines_at node l c) (flagged l here s))

  pub walk_grows : (f : ForestOf I) (node : Node) (s : State I) → Grows s (walk node s f)
  walk_grows end node s = grows_not s s refl
  walk_grows (tree l c o) node s =
      grows_then s (passed node s l c) (walk (after node c) (passed node s l c) o)
      (grows_then s (at_leave node s l c) (passed node s l c)
      (grows_then s (at_entry node s l c) (at_leave node s l c) (entry_grows node s l c) (walk_grows c (node_in node s l c) (at_entry node s l c)))
      (grows_not (at_leave node s l c) (passed node s l c) (marked_branches l (standing node.here node.ahead c) s (at_leave node s l c))))
      (walk_grows o (after node c) (passed node s l c))

module _ {I : Type 0} (choice : Choice I) (has : ℕ → Bool) (has_none : has no_choices ≡ false) where
  abbrev pub SetsFrom : ℕ → Bool → List (Branch I) → Type 0
  SetsFrom n free bs = AreSet choice has has_none n free bs

  -- the branches that are found have these sets
  abbrev pub Sets : State I → Type 0
  Sets s = SetsFrom 2 true s.branches

  sets_front : (bs cs : List (Branch I)) (n : ℕ) (free : Bool) → SetsFrom n free (bs ++ cs) → SetsFrom n free bs
  sets_front [] cs n free set = tt
  sets_front (b ∷ bs) cs n free set = (set.0, sets_front bs cs (suc n) _ set.1)

  sets_back : (bs cs : List (Branch I)) (n : ℕ) (free : Bool) → SetsFrom n free (bs ++ cs) → (r : Bool) × SetsFrom (n + length bs) r cs
  sets_back [] cs n free set = (free, subst (λ m. SetsFrom m free cs) (no_more n) set)
  sets_back (b ∷ bs) cs n free set =
      let r = sets_back bs cs (suc n) _ set.1 in
      (r.0, subst (λ m. SetsFrom m r.0 cs) (one_more n (length bs)) r.1)

  pub sets_before : (s t : State I) → Grows s t → Sets t → Sets s
  sets_before s t g set = sets_front s.branches g.0 2 true (subst (SetsFrom 2 true) g.1 set)

  -- those of a list that is judged
  list_sets : (holder : ℕ) (xs : List (Outline I)) (s : State I) → Sets (judged holder xs s) → (r : Bool) × SetsFrom (set_count s) r (branches_of holder true xs)
  list_sets holder [] s set = (true, tt)
  list_sets holder (x ∷ xs) s set = sets_back s.branches (branches_of holder true (x ∷ xs)) 2 true set

  pub entry_sets : (node : Node) (s : State I) (l : LabelOf I) (c : ForestOf I) → Sets (at_entry node s l c)
      → (r : Bool) × SetsFrom (set_count s) r (branches_of (standing node.here node.ahead c).set true (outlines_at node l c))
  entry_sets node s l c set =
      let here = standing node.here node.ahead c in
      let xs = outlines_at node l c in
      let found = list_sets here.set xs (flagged l here s) set in
      (found.0, subst (λ n. SetsFrom n found.0 (branches_of here.set true xs)) (ap (λ bs. 2 + length bs) (flagged_branches l here s)) found.1)

  pub leave_sets : (node : Node) (s : State I) (l : LabelOf I) (c o : ForestOf I) → Sets (walk node s (tree l c o)) → Sets (at_leave node s l c)
  leave_sets node s l c o set =
      subst (SetsFrom 2 true) (marked_branches l (standing node.here node.ahead c) s (at_leave node s l c))
      (sets_before (passed node s l c) (walk (after node c) (passed node s l c) o) (walk_grows o (after node c) (passed node s l c)) set)

  pub begin_sets : (node : Node) (s : State I) (l : LabelOf I) (c : ForestOf I) → Sets (at_leave node s l c) → Sets (at_entry node s l c)
  begin_sets node s l c set = sets_before (at_entry node s l c) (at_leave node s l c) (walk_grows c (node_in node s l c) (at_entry node s l c)) set

  -- ---- identifiers that are kept

  -- the identifiers that are marked with a set that has the choice
  abbrev pub kept_names : List (Mark I) → List I
  kept_names ms = map (λ m. m.name) (filter (λ m. has m.set) ms)

  more_at : (b : Bool) (n : Mark I) (xs ms : List (Mark I)) (ys : List I) → has n.set ≡ b → kept_names xs ≡ kept_names ms ++ ys → kept_names (n ∷ xs) ≡ kept_names (n ∷ ms) ++ ys
  more_at true n xs ms ys e ih = rw e (ap (λ zs. n.name ∷ zs) ih)
  more_at false n xs ms ys e ih = rw e ih

  mark_kept : (m : Mark I) (ms : List (Mark I)) → has m.set ≡ true → kept_names (ms ++ m ∷ []) ≡ kept_names ms ++ m.name ∷ []
  mark_kept m [] e = rw e refl
  mark_kept m (n ∷ ms) e = more_at (has n.set) n (ms ++ m ∷ []) ms (m.name ∷ []) refl (mark_kept m ms e)

  mark_gone : (m : Mark I) (ms : List (Mark I)) → has m.set ≡ false → kept_names (ms ++ m ∷ []) ≡ kept_names ms ++ []
  mark_gone m [] e = rw e refl
  mark_gone m (n ∷ ms) e = more_at (has n.set) n (ms ++ m ∷ []) ms [] refl (mark_gone m ms e)

  -- ---- what is not kept

  pub gone_marked : (l : LabelOf I) (here : Here) (s found : State I) → has here.set ≡ false → kept_names found.marks ≡ kept_names s.marks → kept_names (or_marked l here s found).marks ≡ kept_names s.marks
  gone_marked (ident r x) here s found e h = mark_gone (record { name = x; set = here.set }) s.marks e ∙ append-nil (kept_names s.marks)
  gone_marked l here s found e h = h

  abbrev pub DeadAhead : Ahead → Type 0
  DeadAhead (listed hs) = AreDead choice has has_none hs
  DeadAhead leaf = Unit {0}
  DeadAhead bare = Unit {0}
  DeadAhead (closing hs) = AreDead choice has has_none hs
  DeadAhead (body hs) = AreDead choice has has_none hs
  DeadAhead (last hs) = AreDead choice has has_none hs
  DeadAhead past = Unit {0}
  DeadAhead (inner hs) = AreDead choice has has_none hs
  DeadAhead (inside hs) = AreDead choice has has_none hs
  DeadAhead beyond = Unit {0}

  either_dead : (b : Bool) (x y : Ahead) → DeadAhead x → DeadAhead y → DeadAhead (cond b x y)
  either_dead true x y p q = p
  either_dead false x y p q = q

  dead_statements : (ahead : Ahead) (places : List Here) → AreDead choice has has_none places → DeadAhead ahead → DeadAhead (statements_ahead ahead places)
  dead_statements (listed hs) places p d = p
  dead_statements (inside hs) places p d = d
  dead_statements _ places p d = tt

  dead_body : (ahead : Ahead) → DeadAhead ahead → DeadAhead (body_ahead ahead)
  dead_body (listed hs) d = tt
  dead_body (body hs) d = d
  dead_body _ d = tt

  dead_last : (ahead : Ahead) → DeadAhead ahead → DeadAhead (last_ahead ahead)
  dead_last (last hs) d = d
  dead_last _ d = tt

  dead_inside : (ahead : Ahead) (l : LabelOf I) (places : List Here) → AreDead choice has has_none places → DeadAhead ahead → DeadAhead (ahead_inside ahead l places)
  dead_inside ahead l places p d =
      either_dead (is_closed l) (closing places) _ p
      (either_dead (is_statements l) (statements_ahead ahead places) _ (dead_statements ahead places p d)
      (either_dead (is_list l) (listed places) _ p
      (either_dead (is_compound l) (body_ahead ahead) (last_ahead ahead) (dead_body ahead d) (dead_last ahead d))))

  dead_turn : (here : Here) (l : LabelOf I) → DeadAhead (attributes_in_turn here l)
  dead_turn here l = either_dead (is_attributes l && here.is_bare) bare leaf tt tt

  pub dead_in : (ahead : Ahead) (here : Here) (l : LabelOf I) (places : List Here) → AreDead choice has has_none places → DeadAhead ahead → DeadAhead (ahead_in ahead here l places)
  dead_in leaf here l places p d = dead_turn here l
  dead_in bare here l places p d = tt
  dead_in ahead here l places p d = either_dead (is_entered l) (ahead_inside ahead l places) (attributes_in_turn here l) (dead_inside ahead l places p d) (dead_turn here l)

  dead_drop : (n : ℕ) (hs : List Here) → AreDead choice has has_none hs → AreDead choice has has_none (drop n hs)
  dead_drop zero hs d = d
  dead_drop (suc n) [] d = tt
  dead_drop (suc n) (h ∷ hs) d = dead_drop n hs d.1

  dead_next : (ahead : Ahead) (c : ForestOf I) → DeadAhead ahead → DeadAhead (next ahead c)
  dead_next (listed []) c d = tt
  dead_next (listed (h ∷ hs)) c d = d.1
  dead_next leaf c d = tt
  dead_next bare c d = tt
  dead_next (closing hs) c d = d
  dead_next (body hs) c d = dead_drop (statement_count c) hs d
  dead_next (last hs) c d = tt
  dead_next past c d = tt
  dead_next (inner hs) c d = d
  dead_next (inside hs) c d = tt
  dead_next beyond c d = tt

  dead_attribute : (b : Bool) (here : Here) → has here.set ≡ false → has (cond b (record here { set = no_choices }) here).set ≡ false
  dead_attribute true here e = has_none
  dead_attribute false here e = e

  dead_standing : (here : Here) (ahead : Ahead) (c : ForestOf I) → has here.set ≡ false → DeadAhead ahead → has (standing here ahead c).set ≡ false
  dead_standing here (listed []) c e d = e
  dead_standing here (listed (h ∷ hs)) c e d = d.0
  dead_standing here bare c e d = dead_attribute (is_conditional (condition_at c)) here e
  dead_standing here _ c e d = e

  -- the places of a list whose holder is not kept
  pub list_dead : (node : Node) (s : State I) (l : LabelOf I) (c : ForestOf I) → has (standing node.here node.ahead c).set ≡ false → Sets (at_entry node s l c) → AreDead choice has has_none (places_at node s l c)
  list_dead node s l c e set =
      let found = entry_sets node s l c set in
      places_dead choice has has_none (standing node.here node.ahead c).set e (outlines_at node l c) true found.0 (set_count s) found.1

  pub walk_dead : (f : ForestOf I) (node : Node) (s : State I) → has node.here.set ≡ false → DeadAhead node.ahead → Sets (walk node s f) → kept_names (walk node s f).marks ≡ kept_names s.marks
  walk_dead end node s e d set = refl
  walk_dead (tree l c o) node s e d set =
      let here = standing node.here node.ahead c in
      let gone : has here.set ≡ false = dead_standing node.here node.ahead c e d in
      let left = leave_sets node s l c o set in
      let begun = begin_sets node s l c left in
      let below = dead_in node.ahead here l (places_at node s l c) (list_dead node s l c gone begun) d in
      let within : kept_names (at_leave node s l c).marks ≡ kept_names s.marks =
      walk_dead c (node_in node s l c) (at_entry node s l c) gone below left ∙ ap kept_names (entry_marks node s l c) in
      walk_dead o (after node c) (passed node s l c) e (dead_next node.ahead c d) set ∙ gone_marked l here s (at_leave node s l c) gone within

  -- what is kept
  pub name_marked : (l : LabelOf I) (here : Here) (s found : State I) (c : ForestOf I) → has here.set ≡ true → kept_names found.marks ≡ kept_names s.marks ++ identifiers c
      → kept_names (or_marked l here s found).marks ≡ kept_names s.marks ++ named l c
  name_marked (ident r x) here s found c e h = mark_kept (record { name = x; set = here.set }) s.marks e
  name_marked l here s found c e h = h
