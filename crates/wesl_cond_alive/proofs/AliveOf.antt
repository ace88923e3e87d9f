-- What each choice keeps of a module is told by the sets of the walk's branches.
use Rattle.std.proofs.Common.{◌≡◌, ℕ, zero, suc, ◌+◌, ◌^◌, ◌<◌, Bool, true, false, List, [], ◌∷◌, ◌++◌, length, map, filter, refl, sym, ap, ◌∙◌, subst, arith}
use Rattle.wesl_cond_chains.specs.Lists.{elements}
use Rattle.wesl_cond_chains.specs.Picked.{Choice}
use Rattle.wesl_cond_choices.specs.Alive.{kept_by, kept_from, kept_lists, place_sets}
use Rattle.wesl_cond_choices.specs.Choices.{Choices, below}
use Rattle.wesl_cond_choices.specs.declared.place.Place.{Place}
use Rattle.wesl_cond_choices.specs.declared.place.Place.TheVariants.{Import, Declaration, Name}
use Rattle.wesl_tree_names.specs.Path.{Text}
use Rattle.wesl_tree_syntax.specs.Tree.{Forest, ForestOf, LabelOf, end, tree, kind, identifiers, respell_forest, imports as imports_kind, directive_list, declarations as declarations_kind}
use Rattle.wesl_tree_syntax.specs.Unit.{UnitView, forest_of_unit, name_in, spelled, trees_of}
use Rattle.wesl_cond_alive.specs.Alive.{Numbered, alive_of, kept_numbers, kept_places, numbered}
use Rattle.wesl_cond_alive.specs.Choices.{choice_by, choice_of, flags}
use Rattle.wesl_cond_alive.specs.Kept.{kept_indexes}
use Rattle.wesl_cond_alive.specs.Sets.{AreSet, AreSetsOf, before_declarations, has_choice}
use Rattle.wesl_cond_alive.specs.Sound.{outline_of}
use Rattle.wesl_cond_alive.specs.Walk.{Mark, Node, State, all_choices, branches_of, in_set, no_choices, outlines_at, places_in, plain, walk}
use Rattle.wesl_cond_alive.proofs.Counted.{count_from, counted, marks_walked, named}
use Rattle.wesl_cond_alive.proofs.Grown.{begin_sets, entry_sets, leave_sets}
use Rattle.wesl_cond_alive.proofs.KeptPlaces.{indexes_kept}
use Rattle.wesl_cond_alive.proofs.Marks.{marks_are}
use Rattle.wesl_cond_alive.proofs.Respelled.{list_outlines, places_in_natural, respell_mark, respell_state, sets_spelled, sets_unspelled, walk_natural}

abbrev pub nothing : {I : Type 0} → State I
nothing = record { branches = []; marks = []; flags = [] }

abbrev pub start : Node
start = plain (in_set all_choices)

-- ---- each choice by itself

same_below : {X : Type 0} (f g : ℕ → X) (n : ℕ) → ((k : ℕ) → k < n → f k ≡ g k) → map f (below n) ≡ map g (below n)
same_below f g zero e = refl
same_below f g (suc n) e =
    map_last f (below n) n ∙ ((λ t. same_below f g n (λ k l. e k (omega arith)) t ++ e n (omega arith) t ∷ []) ∙ sym (map_last g (below n) n))
  where
    map_last : {X : Type 0} (h : ℕ → X) (xs : List ℕ) (m : ℕ) → map h (xs ++ m ∷ []) ≡ map h xs ++ h m ∷ []
    map_last h [] m = refl
    map_last h (x ∷ xs) m = ap (λ ys. h x ∷ ys) (map_last h xs m)

-- ---- marks

module _ (sets : List Choices) (k : ℕ) where
  abbrev named_in : {I : Type 0} → List (Mark I) → List I
  named_in ms = map (λ m. m.name) (filter (λ m. has_choice sets k m.set) ms)

  abbrev numbers : {I : Type 0} → List (Numbered I) → List Place
  numbers xs = map (λ i. Name i) (map (λ x. x.number) xs)

  module _ {I : Type 0} where
    abbrev Names : ℕ → List (Mark (Numbered I)) → Type 0
    Names j ms = numbers (named_in ms) ≡ kept_from sets k Name j (map (λ m. m.set) ms)

    name_at : (m : Mark (Numbered I)) (ms : List (Mark (Numbered I))) (j : ℕ) (b : Bool) → has_choice sets k m.set ≡ b → m.name.number ≡ j → Names (suc j) ms → Names j (m ∷ ms)
    name_at m ms j true e d ih = rw e (λ t. Name (d t) ∷ ih t)
    name_at m ms j false e d ih = rw e ih

    names_kept : (ms : List (Mark (Numbered I))) (j n : ℕ) → map (λ m. m.name.number) ms ≡ count_from j n → Names j ms
    names_kept [] j n e = refl
    names_kept (m ∷ ms) j zero e = cc
    names_kept (m ∷ ms) j (suc n) e =
        let first : m.name.number ≡ j = cc in
        let rest : map (λ (x : Mark (Numbered I)). x.name.number) ms ≡ count_from (suc j) n = cc in
        name_at m ms j (has_choice sets k m.set) refl first (names_kept ms (suc j) n rest)

numbers_of_names : {I : Type 0} (ms : List (Mark (Numbered I))) → map (λ m. m.name.number) ms ≡ map (λ x. x.number) (map (λ m. m.name) ms)
numbers_of_names [] = refl
numbers_of_names (m ∷ ms) = ap (λ ns. m.name.number ∷ ns) (numbers_of_names ms)

sets_of_marks : {I J : Type 0} (r : I → J) (ms : List (Mark I)) → map (λ m. m.set) (map (respell_mark r) ms) ≡ map (λ m. m.set) ms
sets_of_marks r [] = refl
sets_of_marks r (m ∷ ms) = ap (λ ns. m.set ∷ ns) (sets_of_marks r ms)

-- ---- one choice of a module

module _ (names : List Text) (ci cd ck : Forest) where
  abbrev pub unit_with : UnitView
  unit_with = record {
    names = names;
    imports = record { label = kind imports_kind; children = ci };
    directives = record { label = kind directive_list; children = cd };
    declarations = record { label = kind declarations_kind; children = ck };
  }

  abbrev r : ℕ → Text
  r = name_in names

  abbrev pub forest : Forest
  forest = forest_of_unit (trees_of unit_with)

  abbrev texts_forest : ForestOf Text
  texts_forest = forest_of_unit (spelled unit_with)

  abbrev before_it : State ℕ
  before_it = before_declarations nothing (trees_of unit_with)

  module _ (choice : Choice Text) (sets : List Choices) (k : ℕ) (has_all : has_choice sets k all_choices ≡ true) (has_none : has_choice sets k no_choices ≡ false)
      (told : AreSet (λ i. choice (r i)) (has_choice sets k) 2 true (walk start nothing forest).branches) where
    -- over the spelled module
    spelled_sets : AreSet choice (has_choice sets k) 2 true (walk start nothing texts_forest).branches
    spelled_sets =
        subst (AreSet choice (has_choice sets k) 2 true) (sym (ap (λ (s : State Text). s.branches) (walk_natural r forest start nothing)))
        (sets_spelled r choice (has_choice sets k) (walk start nothing forest).branches 2 true told)

    -- a list of statements
    list_kept : (place : ℕ → Place) (c : Forest) (s : State ℕ) (t : State Text) → t ≡ respell_state r s
        → (free : Bool) × AreSet choice (has_choice sets k) (2 + length t.branches) free (branches_of all_choices true (map outline_of (elements false (respell_forest r c))))
        → map place (kept_indexes choice (elements false (respell_forest r c))) ≡ kept_from sets k place 0 (map (λ h. h.set) (places_in all_choices (map outline_of (elements false c)) s))
    list_kept place c s t e own =
        let os = map outline_of (elements false (respell_forest r c)) in
        indexes_kept choice sets k has_none place all_choices (elements false (respell_forest r c)) (2 + length t.branches) own.0 has_all own.1
        ∙ ap (λ hs. kept_from sets k place 0 (map (λ h. h.set) hs))
        (ap (λ u. places_in all_choices os u) e ∙ (ap (λ xs. places_in all_choices xs (respell_state r s)) (list_outlines r c) ∙ places_in_natural r all_choices (map outline_of (elements false c)) s))

    -- the sets of the first list of trees
    first_sets : (l : LabelOf Text) (c o : ForestOf Text) (t : State Text) → AreSet choice (has_choice sets k) 2 true (walk start t (tree l c o)).branches
        → (free : Bool) × AreSet choice (has_choice sets k) (2 + length t.branches) free (branches_of all_choices true (outlines_at start l c))
    first_sets l c o t set =
        entry_sets choice (has_choice sets k) has_none start t l c
        (begin_sets choice (has_choice sets k) has_none start t l c (leave_sets choice (has_choice sets k) has_none start t l c o set))

    imports_kept : map (λ j. Import j) (kept_indexes choice (elements false (respell_forest r ci))) ≡ kept_from sets k Import 0 (map (λ h. h.set) (places_in all_choices (map outline_of (elements false ci)) nothing))
    imports_kept =
        list_kept Import ci nothing nothing refl
        (first_sets (kind imports_kind) (respell_forest r ci) (tree (kind directive_list) (respell_forest r cd) (tree (kind declarations_kind) (respell_forest r ck) end)) nothing spelled_sets)

    declarations_kept : map (λ j. Declaration j) (kept_indexes choice (elements false (respell_forest r ck))) ≡ kept_from sets k Declaration 0 (map (λ h. h.set) (places_in all_choices (map outline_of (elements false ck)) before_it))
    declarations_kept =
        let t : State Text = before_declarations nothing (spelled unit_with) in
        list_kept Declaration ck before_it t (walk_natural r (tree (kind imports_kind) ci (tree (kind directive_list) cd end)) start nothing)
        (first_sets (kind declarations_kind) (respell_forest r ck) end t spelled_sets)

    -- identifiers
    names_told : map (λ i. Name i) (kept_numbers (spelled unit_with) choice) ≡ kept_from sets k Name 0 (map (λ m. m.set) (walk start nothing forest).marks)
    names_told =
        let name : Numbered Text → Text = λ x. x.name in
        let f = numbered 0 texts_forest in
        let w = walk start nothing f in
        let same : walk start nothing texts_forest ≡ respell_state name w = ap (walk start nothing) (sym (named r forest 0)) ∙ walk_natural name f start nothing in
        let own : AreSet (λ x. choice x.name) (has_choice sets k) 2 true w.branches =
        sets_unspelled name choice (has_choice sets k) w.branches 2 true (subst (AreSet choice (has_choice sets k) 2 true) (ap (λ (s : State Text). s.branches) same) spelled_sets) in
        let all_names : map (λ m. m.name) w.marks ≡ identifiers f = marks_walked f start nothing in
        let counts : map (λ (m : Mark (Numbered Text)). m.name.number) w.marks ≡ count_from 0 (length (identifiers texts_forest)) =
        numbers_of_names w.marks ∙ (ap (map (λ (x : Numbered Text). x.number)) all_names ∙ counted texts_forest 0) in
        let marks_same : map (λ (m : Mark (Numbered Text)). m.set) w.marks ≡ map (λ (m : Mark ℕ). m.set) (walk start nothing forest).marks =
        sym (sets_of_marks name w.marks)
        ∙ (ap (λ (s : State Text). map (λ (m : Mark Text). m.set) s.marks) (sym same ∙ walk_natural r forest start nothing)
        ∙ sets_of_marks r (walk start nothing forest).marks) in
        ap (numbers sets k) (sym (marks_are (λ x. choice x.name) (has_choice sets k) has_none has_all f own))
        ∙ (names_kept sets k w.marks 0 (length (identifiers texts_forest)) counts
        ∙ ap (kept_from sets k Name 0) marks_same)

  -- what the sets of the walk say of places is what each choice keeps
  pub alive_is : (n : ℕ) (fs : List Text) (sets : List Choices) (imports declarations marks : List ℕ) → n ≡ length fs → fs ≡ flags (spelled unit_with)
      → AreSetsOf n (choice_by names fs) sets (walk start nothing forest).branches
      → imports ≡ map (λ h. h.set) (places_in all_choices (map outline_of (elements false ci)) nothing)
      → declarations ≡ map (λ h. h.set) (places_in all_choices (map outline_of (elements false ck)) before_it)
      → marks ≡ map (λ m. m.set) (walk start nothing forest).marks
      → kept_lists (place_sets n sets imports declarations marks) ≡ alive_of (spelled unit_with)
  alive_is n fs sets imports declarations marks en e told ei ed em =
      same_below (kept_by (place_sets n sets imports declarations marks)) (λ k. kept_places (spelled unit_with) (choice_of fs k)) (2 ^ n)
      (λ k l.
      let choice = choice_of fs k in
      let all = told.all k l in
      let none = told.none k in
      let own = told.told k l in
      let a : kept_from sets k Import 0 imports ≡ map (λ j. Import j) (kept_indexes choice (elements false (respell_forest r ci))) = ap (kept_from sets k Import 0) ei ∙ sym (imports_kept choice sets k all none own) in
      let b : kept_from sets k Declaration 0 declarations ≡ map (λ j. Declaration j) (kept_indexes choice (elements false (respell_forest r ck))) = ap (kept_from sets k Declaration 0) ed ∙ sym (declarations_kept choice sets k all none own) in
      let d : kept_from sets k Name 0 marks ≡ map (λ i. Name i) (kept_numbers (spelled unit_with) choice) = ap (kept_from sets k Name 0) em ∙ sym (names_told choice sets k all none own) in
      (λ t. a t ++ b t ++ d t))
      ∙ (ap (λ m. map (λ k. kept_places (spelled unit_with) (choice_of fs k)) (below (2 ^ m))) en
      ∙ ap (λ gs. map (λ k. kept_places (spelled unit_with) (choice_of gs k)) (below (2 ^ length gs))) e)
