-- The identifiers that are marked with a set that has a choice are those that the choice keeps.
use Rattle.std.proofs.Common.{◌≡◌, ℕ, Bool, true, false, ◌&&◌, cond, List, [], ◌∷◌, ◌++◌, map, filter, drop, refl, sym, ap, ◌∙◌, append_assoc, append-nil}
use Rattle.std.proofs.lemmas.List.{drop-map}
use Rattle.wesl_cond_chains.specs.Conditions.{condition_at, is_list, is_statements, replaced}
use Rattle.wesl_cond_chains.specs.Chains.{Condition, none, on, else_on, otherwise}
use Rattle.wesl_cond_chains.specs.Lists.{alone, elements, is_closed, is_compound, is_entered, through}
use Rattle.wesl_cond_chains.specs.Picked.{Choice}
use Rattle.wesl_tree_syntax.specs.Nodes.{is_attributes}
use Rattle.wesl_tree_syntax.specs.Tree.{LabelOf, ForestOf, end, tree, kind, at, declaration_node, statement_node, struct, function, compound_statement, if_statement, if_clause, list, else_if_clause, present, absent, else_clause, switch, switch_clause, for_loop, while_loop, loop, continuing, statements, compound, imports, directive_list, declarations, members, parameters, clauses, identifiers}
use Rattle.wesl_cond_alive.proofs.Bits.{AreDead, AreSet, places_told, told}
use Rattle.wesl_cond_alive.proofs.Grown.{DeadAhead, Sets, at_entry, at_leave, begin_sets, dead_in, entry_marks, entry_sets, gone_marked, leave_sets, list_dead, name_marked, named, node_in, passed, places_at, walk_dead}
use Rattle.wesl_cond_alive.proofs.Parts.{alone_is, bare_part, body_kids, body_part, closed_is, closing_part, free_ignored, in_place, inner_none, inner_part, inside_kids, inside_part, kept, last_kids, last_part, left_in, listed_is, listed_part, names_tree, parted, strip, stripped, stripped_end, stripped_tree}
use Rattle.wesl_cond_alive.proofs.Turns.{Verdict, verdicts}
use Rattle.wesl_cond_alive.specs.Kept.{kept_forest}
use Rattle.wesl_cond_alive.specs.Sound.{is_conditional, outline_of}
use Rattle.wesl_cond_alive.specs.Walk.{Ahead, listed, leaf, bare, closing, body, last, past, inner, inside, beyond, Here, Mark, Node, State, after, ahead_in, all_choices, attributes_in_turn, in_set, list_in, next, no_choices, outlines_at, plain, set_count, standing, statement_count, walk}

module _ {I : Type 0} (choice : Choice I) where
  cond_same : (b : Bool) (f : ForestOf I) → cond b f f ≡ f
  cond_same true f = refl
  cond_same false f = refl

  replaced_plain : (l : LabelOf I) (c o : ForestOf I) (d : Condition I) → replaced l c d none o ≡ cond (is_conditional d) o (tree l c o)
  replaced_plain l c o none = refl
  replaced_plain l c o (on x) = refl
  replaced_plain l c o (else_on x) = refl
  replaced_plain l c o otherwise = refl

  bare_child_at : (l : LabelOf I) (c : ForestOf I) (a b : Bool) → is_attributes l ≡ a → is_list l ≡ b → cond (is_attributes l) c (cond (is_list l) c (stripped choice false c)) ≡ c
  bare_child_at l c true b e d = rw e refl
  bare_child_at l c false true e d = rw (e, d) refl
  bare_child_at l c false false e d = rw (e, d) refl

  bare_is : (f : ForestOf I) → bare_part choice false f ≡ strip choice f
  bare_is end = refl
  bare_is (tree l c o) =
      ap (λ x. cond (is_conditional (condition_at c)) (strip choice o) (tree l x (strip choice o))) (bare_child_at l c (is_attributes l) (is_list l) refl refl)
      ∙ sym (replaced_plain l c (strip choice o) (condition_at c))

  bare_turn_at : (b : Bool) (l : LabelOf I) (c : ForestOf I) (a d : Bool) → is_attributes l ≡ a → is_list l ≡ d
      → cond (is_attributes l) c (cond (is_list l) c (stripped choice b c)) ≡ stripped choice (cond (is_attributes l) false (cond (is_list l) false b)) c
  bare_turn_at b l c true d e k = rw e refl
  bare_turn_at b l c false true e k = rw (e, k) refl
  bare_turn_at b l c false false e k = rw (e, k) refl

-- what is entered, and is no list, no body and no node that another of its children closes
record IsOther {I : Type 0} (l : LabelOf I) : Type 0 where
  entered : is_entered l ≡ true
  unclosed : is_closed l ≡ false
  no_statements : is_statements l ≡ false
  no_list : is_list l ≡ false
  no_body : is_compound l ≡ false
  no_attributes : is_attributes l ≡ false

record IsPassed {I : Type 0} (l : LabelOf I) : Type 0 where
  shut : is_entered l ≡ false
  no_statements : is_statements l ≡ false
  no_body : is_compound l ≡ false

module _ {I : Type 0} (choice : Choice I) (has : ℕ → Bool) (has_none : has no_choices ≡ false) where
  abbrev tell : List Here → List Verdict
  tell hs = map (told choice has has_none) hs

  -- what is left of trees of which this is known
  abbrev part : Bool → Ahead → ForestOf I → ForestOf I
  part b (listed hs) f = listed_part choice b (tell hs) f
  part b leaf f = stripped choice b f
  part b bare f = bare_part choice b f
  part b (closing hs) f = closing_part choice b (tell hs) f
  part b (body hs) f = body_part choice b (tell hs) f
  part b (last hs) f = last_part choice b (tell hs) f
  part b past f = stripped choice b (through (kept choice) true f)
  part b (inner hs) f = inner_part choice b (tell hs) f
  part b (inside hs) f = inside_part choice b (tell hs) f
  part b beyond f = stripped choice b (through (kept choice) true f)

  -- what is left in the first of them
  abbrev kids : Bool → Ahead → LabelOf I → ForestOf I → ForestOf I
  kids b (listed hs) l c = in_place choice b l (left_in choice false l c)
  kids b leaf l c = in_place choice b l c
  kids b bare l c = cond (is_attributes l) c (cond (is_list l) c (stripped choice b c))
  kids b (closing hs) l c = in_place choice b l (left_in choice true l c)
  kids b (body hs) l c = body_kids choice b (tell hs) l c
  kids b (last hs) l c = last_kids choice b (tell hs) l c
  kids b past l c = in_place choice b l (left_in choice true l c)
  kids b (inner hs) l c = in_place choice b l (left_in choice true l c)
  kids b (inside hs) l c = inside_kids choice b (tell hs) l c
  kids b beyond l c = in_place choice b l (left_in choice true l c)

  -- ---- the first tree, and the others

  abbrev Splits : Here → Ahead → LabelOf I → ForestOf I → ForestOf I → Type 0
  Splits here ahead l c o =
      identifiers (part here.is_bare ahead (tree l c o))
      ≡ cond (has (standing here ahead c).set) (named l (kids (standing here ahead c).is_bare ahead l c)) [] ++ identifiers (part false (next ahead c) o)

  split_listed : (here : Here) (h : Here) (hs : List Here) (l : LabelOf I) (c o : ForestOf I) (s b : Bool) → has h.set ≡ s → h.is_bare ≡ b → Splits here (listed (h ∷ hs)) l c o
  split_listed here h hs l c o false b e d = rw e (ap identifiers (sym (listed_is choice (tell hs) o)))
  split_listed here h hs l c o true true e d = rw (e, d) (names_tree l (in_place choice true l (left_in choice false l c)) (parted choice (tell hs) o) ∙ ap (λ f. named l (in_place choice true l (left_in choice false l c)) ++ identifiers f) (sym (listed_is choice (tell hs) o)))
  split_listed here h hs l c o true false e d = rw (e, d) (names_tree l (left_in choice false l c) (parted choice (tell hs) o) ∙ ap (λ f. named l (left_in choice false l c) ++ identifiers f) (sym (listed_is choice (tell hs) o)))

  split_bare : (here : Here) (l : LabelOf I) (c o : ForestOf I) (b : Bool) → has here.set ≡ true → is_conditional (condition_at c) ≡ b → Splits here bare l c o
  split_bare here l c o true e d = rw (d, has_none) (ap identifiers (sym (bare_is choice o)))
  split_bare here l c o false e d = rw (d, e) (names_tree l (kids here.is_bare bare l c) (strip choice o) ∙ ap (λ f. named l (kids here.is_bare bare l c) ++ identifiers f) (sym (bare_is choice o)))

  -- a tree that stands where its holder does
  split_here : (here : Here) (l : LabelOf I) (k f o p : ForestOf I) → has here.set ≡ true → f ≡ tree l k o → o ≡ p → identifiers f ≡ cond (has here.set) (named l k) [] ++ identifiers p
  split_here here l k f o p e d s = rw e (ap identifiers d ∙ names_tree l k o ∙ ap (λ f. named l k ++ identifiers f) s)

  splits : (here : Here) (ahead : Ahead) (l : LabelOf I) (c o : ForestOf I) → has here.set ≡ true → Splits here ahead l c o
  splits here (listed []) l c o e = split_here here l _ _ (through (kept choice) false o) _ e (stripped_tree choice here.is_bare l (left_in choice false l c) (through (kept choice) false o)) refl
  splits here (listed (h ∷ hs)) l c o e = split_listed here h hs l c o (has h.set) h.is_bare refl refl
  splits here leaf l c o e = split_here here l _ _ o _ e (stripped_tree choice here.is_bare l c o) refl
  splits here bare l c o e = split_bare here l c o (is_conditional (condition_at c)) e refl
  splits here (closing hs) l c o e = split_here here l _ _ (body_part choice false (tell hs) o) _ e refl refl
  splits here (body hs) l c o e = split_here here l _ _ (last_part choice false (drop (statement_count c) (tell hs)) o) _ e refl (ap (λ vs. last_part choice false vs o) (drop-map (told choice has has_none) (statement_count c) hs))
  splits here (last hs) l c o e = split_here here l _ _ (through (kept choice) true o) _ e refl refl
  splits here past l c o e = split_here here l _ _ (through (kept choice) true o) _ e (stripped_tree choice here.is_bare l (left_in choice true l c) (through (kept choice) true o)) refl
  splits here (inner hs) l c o e = split_here here l _ _ (inside_part choice false (tell hs) o) _ e refl refl
  splits here (inside hs) l c o e = split_here here l _ _ (through (kept choice) true o) _ e refl refl
  splits here beyond l c o e = split_here here l _ _ (through (kept choice) true o) _ e (stripped_tree choice here.is_bare l (left_in choice true l c) (through (kept choice) true o)) refl

  part_end : (b : Bool) (ahead : Ahead) → part b ahead end ≡ end
  part_end b (listed []) = stripped_end choice b
  part_end b (listed (h ∷ hs)) = refl
  part_end b leaf = stripped_end choice b
  part_end b bare = refl
  part_end b (closing hs) = refl
  part_end b (body hs) = refl
  part_end b (last hs) = refl
  part_end b past = stripped_end choice b
  part_end b (inner hs) = refl
  part_end b (inside hs) = refl
  part_end b beyond = stripped_end choice b

  -- ---- what is left in a tree, by what its children are known to be

  abbrev bare_below : LabelOf I → Here → Bool
  bare_below l here = cond (is_attributes l) false (cond (is_list l) false here.is_bare)

  abbrev Enters : LabelOf I → Type 0
  Enters l = (ahead : Ahead) (here : Here) (places : List Here) (c : ForestOf I) → tell places ≡ verdicts choice true true (map outline_of (list_in ahead l c))
      → identifiers (kids here.is_bare ahead l c) ≡ identifiers (part (bare_below l here) (ahead_in ahead here l places) c)

  -- attributes in a node, and what else holds no judged list
  turn_at : (b : Bool) (l : LabelOf I) (c : ForestOf I) (a d : Bool) → is_attributes l ≡ a → is_list l ≡ d
      → in_place choice b l c ≡ part (cond (is_attributes l) false (cond (is_list l) false b)) (cond (is_attributes l && b) bare leaf) c
  turn_at true l c true d e k = rw e (sym (bare_is choice c))
  turn_at true l c false true e k = rw (e, k) refl
  turn_at true l c false false e k = rw (e, k) refl
  turn_at false l c true d e k = rw e refl
  turn_at false l c false true e k = rw (e, k) refl
  turn_at false l c false false e k = rw (e, k) refl

  turn_is : (here : Here) (l : LabelOf I) (c : ForestOf I) → identifiers (in_place choice here.is_bare l c) ≡ identifiers (part (bare_below l here) (attributes_in_turn here l) c)
  turn_is here l c = ap identifiers (turn_at here.is_bare l c (is_attributes l) (is_list l) refl refl)

  bare_turn_is : (here : Here) (l : LabelOf I) (c : ForestOf I) → identifiers (kids here.is_bare bare l c) ≡ identifiers (part (bare_below l here) leaf c)
  bare_turn_is here l c = ap identifiers (bare_turn_at choice here.is_bare l c (is_attributes l) (is_list l) refl refl)

  -- a node that another of its children closes
  enter_loop : Enters (kind loop)
  enter_loop leaf here places c p = refl
  enter_loop bare here places c p = refl
  enter_loop ahead here places c p = closed_is choice here.is_bare (tell places) c p

  enter_continuing : Enters (kind continuing)
  enter_continuing leaf here places c p = refl
  enter_continuing bare here places c p = refl
  enter_continuing ahead here places c p = closed_is choice here.is_bare (tell places) c p

  -- a list that is judged by itself
  alone_enters : (b : Bool) (places : List Here) (c : ForestOf I) → tell places ≡ verdicts choice true true (map outline_of (elements false c))
      → identifiers (cond b (alone (kept choice) (through (kept choice) false c)) (alone (kept choice) (through (kept choice) false c))) ≡ identifiers (listed_part choice false (tell places) c)
  alone_enters b places c p = ap identifiers (cond_same choice b (alone (kept choice) (through (kept choice) false c)) ∙ alone_is choice (tell places) c p ∙ sym (listed_is choice (tell places) c))

  enter_statements : Enters (kind statements)
  enter_statements leaf here places c p = ap identifiers (cond_same choice here.is_bare c)
  enter_statements bare here places c p = refl
  enter_statements (listed hs) here places c p = alone_enters here.is_bare places c p
  enter_statements (inside hs) here places c p = ap identifiers (sym (listed_is choice (tell hs) c))
  enter_statements _ here places c p = ap identifiers (cond_same choice here.is_bare (through (kept choice) false c))

  enter_imports : Enters (kind imports)
  enter_imports leaf here places c p = ap identifiers (cond_same choice here.is_bare c)
  enter_imports bare here places c p = refl
  enter_imports ahead here places c p = alone_enters here.is_bare places c p

  enter_directives : Enters (kind directive_list)
  enter_directives leaf here places c p = ap identifiers (cond_same choice here.is_bare c)
  enter_directives bare here places c p = refl
  enter_directives ahead here places c p = alone_enters here.is_bare places c p

  enter_declarations : Enters (kind declarations)
  enter_declarations leaf here places c p = ap identifiers (cond_same choice here.is_bare c)
  enter_declarations bare here places c p = refl
  enter_declarations ahead here places c p = alone_enters here.is_bare places c p

  enter_members : Enters (kind members)
  enter_members leaf here places c p = ap identifiers (cond_same choice here.is_bare c)
  enter_members bare here places c p = refl
  enter_members ahead here places c p = alone_enters here.is_bare places c p

  enter_parameters : Enters (kind parameters)
  enter_parameters leaf here places c p = ap identifiers (cond_same choice here.is_bare c)
  enter_parameters bare here places c p = refl
  enter_parameters ahead here places c p = alone_enters here.is_bare places c p

  enter_clauses : Enters (kind clauses)
  enter_clauses leaf here places c p = ap identifiers (cond_same choice here.is_bare c)
  enter_clauses bare here places c p = refl
  enter_clauses ahead here places c p = alone_enters here.is_bare places c p

  -- a body
  enter_compound : Enters (kind compound)
  enter_compound leaf here places c p = refl
  enter_compound bare here places c p = refl
  enter_compound (listed hs) here places c p = refl
  enter_compound (body hs) here places c p = refl
  enter_compound _ here places c p = ap identifiers (sym (inner_none choice here.is_bare c))

  -- any other node in which a judged list may lie
  enter_other : (l : LabelOf I) → IsOther l → Enters l
  enter_other l is leaf here places c p = turn_is here l c
  enter_other l is bare here places c p = bare_turn_is here l c
  enter_other l is ahead here places c p = rw (is.entered, is.unclosed, is.no_statements, is.no_list, is.no_body, is.no_attributes) refl

  -- any other node
  enter_passed : (l : LabelOf I) → IsPassed l → Enters l
  enter_passed l is bare here places c p = bare_turn_is here l c
  enter_passed l is leaf here places c p = turn_is here l c
  enter_passed l is (body hs) here places c p = rw (is.shut, is.no_body) (turn_is here l c)
  enter_passed l is (inside hs) here places c p = rw (is.shut, is.no_statements) (turn_is here l c)
  enter_passed l is ahead here places c p = rw is.shut (turn_is here l c)

  enters : (l : LabelOf I) → Enters l
  enters (kind loop) = enter_loop
  enters (kind continuing) = enter_continuing
  enters (kind statements) = enter_statements
  enters (kind imports) = enter_imports
  enters (kind directive_list) = enter_directives
  enters (kind declarations) = enter_declarations
  enters (kind members) = enter_members
  enters (kind parameters) = enter_parameters
  enters (kind clauses) = enter_clauses
  enters (kind compound) = enter_compound
  enters (at declaration_node s e) = enter_other (at declaration_node s e) (record { entered = refl; unclosed = refl; no_statements = refl; no_list = refl; no_body = refl; no_attributes = refl })
  enters (at statement_node s e) = enter_other (at statement_node s e) (record { entered = refl; unclosed = refl; no_statements = refl; no_list = refl; no_body = refl; no_attributes = refl })
  enters (kind struct) = enter_other (kind struct) (record { entered = refl; unclosed = refl; no_statements = refl; no_list = refl; no_body = refl; no_attributes = refl })
  enters (kind function) = enter_other (kind function) (record { entered = refl; unclosed = refl; no_statements = refl; no_list = refl; no_body = refl; no_attributes = refl })
  enters (kind compound_statement) = enter_other (kind compound_statement) (record { entered = refl; unclosed = refl; no_statements = refl; no_list = refl; no_body = refl; no_attributes = refl })
  enters (kind if_statement) = enter_other (kind if_statement) (record { entered = refl; unclosed = refl; no_statements = refl; no_list = refl; no_body = refl; no_attributes = refl })
  enters (kind if_clause) = enter_other (kind if_clause) (record { entered = refl; unclosed = refl; no_statements = refl; no_list = refl; no_body = refl; no_attributes = refl })
  enters (kind list) = enter_other (kind list) (record { entered = refl; unclosed = refl; no_statements = refl; no_list = refl; no_body = refl; no_attributes = refl })
  enters (kind else_if_clause) = enter_other (kind else_if_clause) (record { entered = refl; unclosed = refl; no_statements = refl; no_list = refl; no_body = refl; no_attributes = refl })
  enters (kind present) = enter_other (kind present) (record { entered = refl; unclosed = refl; no_statements = refl; no_list = refl; no_body = refl; no_attributes = refl })
  enters (kind absent) = enter_other (kind absent) (record { entered = refl; unclosed = refl; no_statements = refl; no_list = refl; no_body = refl; no_attributes = refl })
  enters (kind else_clause) = enter_other (kind else_clause) (record { entered = refl; unclosed = refl; no_statements = refl; no_list = refl; no_body = refl; no_attributes = refl })
  enters (kind switch) = enter_other (kind switch) (record { entered = refl; unclosed = refl; no_statements = refl; no_list = refl; no_body = refl; no_attributes = refl })
  enters (kind switch_clause) = enter_other (kind switch_clause) (record { entered = refl; unclosed = refl; no_statements = refl; no_list = refl; no_body = refl; no_attributes = refl })
  enters (kind for_loop) = enter_other (kind for_loop) (record { entered = refl; unclosed = refl; no_statements = refl; no_list = refl; no_body = refl; no_attributes = refl })
  enters (kind while_loop) = enter_other (kind while_loop) (record { entered = refl; unclosed = refl; no_statements = refl; no_list = refl; no_body = refl; no_attributes = refl })
  enters l = enter_passed l (record { shut = refl; no_statements = refl; no_body = refl })

  -- ---- a walk

  abbrev names_of : List (Mark I) → List I
  names_of ms = map (λ m. m.name) (filter (λ m. has m.set) ms)

  abbrev Keeps : ForestOf I → Type 0
  Keeps f = (node : Node) (s : State I) → has node.here.set ≡ true → Sets choice has has_none (walk node s f)
      → names_of (walk node s f).marks ≡ names_of s.marks ++ identifiers (part node.here.is_bare node.ahead f)

  list_told : (node : Node) (s : State I) (l : LabelOf I) (c : ForestOf I) → has (standing node.here node.ahead c).set ≡ true → Sets choice has has_none (at_entry node s l c)
      → tell (places_at node s l c) ≡ verdicts choice true true (map outline_of (list_in node.ahead l c))
  list_told node s l c alive set =
      let found = entry_sets choice has has_none node s l c set in
      places_told choice has has_none (standing node.here node.ahead c).set alive (outlines_at node l c) true found.0 (set_count s) found.1
      ∙ free_ignored choice found.0 (outlines_at node l c)

  abbrev TreeKeeps : Node → State I → LabelOf I → ForestOf I → Type 0
  TreeKeeps node s l c =
      names_of (passed node s l c).marks
      ≡ names_of s.marks ++ cond (has (standing node.here node.ahead c).set) (named l (kids (standing node.here node.ahead c).is_bare node.ahead l c)) []

  tree_alive : (node : Node) (s : State I) (l : LabelOf I) (c : ForestOf I) → has (standing node.here node.ahead c).set ≡ true → Sets choice has has_none (at_leave node s l c) → Keeps c → TreeKeeps node s l c
  tree_alive node s l c alive set ih =
      let here = standing node.here node.ahead c in
      let places = places_at node s l c in
      let k = kids here.is_bare node.ahead l c in
      let within : names_of (at_leave node s l c).marks ≡ names_of s.marks ++ identifiers k =
      ih (node_in node s l c) (at_entry node s l c) alive set
      ∙ ap (λ ms. names_of ms ++ identifiers (part (bare_below l here) (ahead_in node.ahead here l places) c)) (entry_marks node s l c)
      ∙ ap (λ xs. names_of s.marks ++ xs) (sym (enters l node.ahead here places c (list_told node s l c alive (begin_sets choice has has_none node s l c set)))) in
      name_marked choice has has_none l here s (at_leave node s l c) k alive within
      ∙ ap (λ b. names_of s.marks ++ cond b (named l k) []) (sym alive)

  dead_ahead : (here : Here) (ahead : Ahead) (l : LabelOf I) (places : List Here) (c : ForestOf I) → has here.set ≡ true → has (standing here ahead c).set ≡ false → AreDead choice has has_none places
      → DeadAhead choice has has_none (ahead_in ahead (standing here ahead c) l places)
  dead_ahead here (listed []) l places c e d p = dead_in choice has has_none (listed []) here l places p tt
  dead_ahead here (listed (h ∷ hs)) l places c e d p = dead_in choice has has_none (listed []) (standing here (listed (h ∷ hs)) c) l places p tt
  dead_ahead here bare l places c e d p = tt
  dead_ahead here _ l places c e d p = cc

  tree_dead : (node : Node) (s : State I) (l : LabelOf I) (c : ForestOf I) → has node.here.set ≡ true → has (standing node.here node.ahead c).set ≡ false → Sets choice has has_none (at_leave node s l c) → TreeKeeps node s l c
  tree_dead node s l c e gone set =
      let here = standing node.here node.ahead c in
      let below = dead_ahead node.here node.ahead l (places_at node s l c) c e gone (list_dead choice has has_none node s l c gone (begin_sets choice has has_none node s l c set)) in
      gone_marked choice has has_none l here s (at_leave node s l c) gone (walk_dead choice has has_none c (node_in node s l c) (at_entry node s l c) gone below set ∙ ap names_of (entry_marks node s l c))
      ∙ sym (append-nil (names_of s.marks))
      ∙ ap (λ b. names_of s.marks ++ cond b (named l (kids here.is_bare node.ahead l c)) []) (sym gone)

  tree_keeps : (node : Node) (s : State I) (l : LabelOf I) (c : ForestOf I) (b : Bool) → has (standing node.here node.ahead c).set ≡ b → has node.here.set ≡ true → Sets choice has has_none (at_leave node s l c) → Keeps c → TreeKeeps node s l c
  tree_keeps node s l c true d e set ih = tree_alive node s l c d set ih
  tree_keeps node s l c false d e set ih = tree_dead node s l c e d set

  keeps : (f : ForestOf I) → Keeps f
  keeps end node s e set = sym (ap (λ f. names_of s.marks ++ identifiers f) (part_end node.here.is_bare node.ahead) ∙ append-nil (names_of s.marks))
  keeps (tree l c o) node s e set =
      let here = standing node.here node.ahead c in
      let first = cond (has here.set) (named l (kids here.is_bare node.ahead l c)) [] in
      let others = identifiers (part false (next node.ahead c) o) in
      keeps o (after node c) (passed node s l c) e set
      ∙ ap (λ xs. xs ++ others) (tree_keeps node s l c (has here.set) refl e (leave_sets choice has has_none node s l c o set) (keeps c))
      ∙ append_assoc (names_of s.marks) first others
      ∙ ap (λ xs. names_of s.marks ++ xs) (sym (splits node.here node.ahead l c o e))

module _ {I : Type 0} (choice : Choice I) (has : ℕ → Bool) (has_none : has no_choices ≡ false) (has_all : has all_choices ≡ true) where
  -- the identifiers that are marked with a set that has the choice
  abbrev pub kept_names : List (Mark I) → List I
  kept_names ms = map (λ m. m.name) (filter (λ m. has m.set) ms)

  -- the identifiers that a walk marks with a set that has the choice are those that the choice keeps
  pub marks_are : (f : ForestOf I) → (let s = walk (plain (in_set all_choices)) (record { branches = []; marks = []; flags = [] }) f in
      AreSet choice has has_none 2 true s.branches → kept_names s.marks ≡ identifiers (kept_forest choice f))
  marks_are f set = keeps choice has has_none f (plain (in_set all_choices)) (record { branches = []; marks = []; flags = [] }) has_all set
