-- The walk finds what the definition says.
use Rattle.std.proofs.Common.{◌≡◌, ℕ, zero, suc, ◌+◌, ◌<◌, ◌≤◌, Bool, true, false, List, [], ◌∷◌, ◌++◌, map, length, get_or, refl, sym, ◌∙◌, ap, subst, arith, append_assoc, length-append, ◌⊎◌, inl, inr}
use Rattle.std.specs.Prelude.{Option, Some, None}
use Rattle.std.proofs.lemmas.List.{map-append, length-map, append-nil}
use Rattle.std.proofs.lemmas.Grind.{common_steps}
use Rattle.std.proofs.lemmas.Bool.{cases_lt}
use Rattle.wesl_tree_syntax.specs.Tree.{Role, Label, Forest, end, tree, kind, at, ident, text, texts, truth, unary, binary, assignment, space, access, path, binder, reference, word}
use Rattle.wesl_scope_occurrences.specs.Occurrences.{Block, OccurrenceIn, Occurrence, Shape, of_function, of_parameter, of_body, of_holder, of_loop, of_continuing, of_for, of_words, of_custom, of_type, of_value, of_globals, of_other, shape_of, opens, Surroundings, Declares, globally, a_parameter, a_value, Node, node_by, first_or, others_of, numbered, here_in, after_field, occurrence, count, blocks_in, blocks_at, occurrences_from}
use Rattle.wesl_tree_names.specs.Path.{Path}
use Rattle.wesl_scope_occurrences.specs.Walk.{Found, Here, State, Fields, numbers_at, opening, ended_as, ended_at, all_ended, closed, named_by, named_after, stepped, walk, all_of, outermost, start}
use Rattle.std.specs.List.{All}
use Rattle.wesl_scope_occurrences.specs.Views.{occurrence_view}
use Rattle.wesl_scope_occurrences.specs.declared.occurrence.Occurrence as found
use Rattle.wesl_scope_occurrences.specs.Ways.{AreNested, grown, way, told}

abbrev pub Each : {X : Type 0} → (X → Type 0) → List X → Type 0
Each P [] = Unit {0}
Each P (x ∷ xs) = P x × Each P xs

Each-weaker : {X : Type 0} (P Q : X → Type 0) → ((x : X) → P x → Q x) → (xs : List X) → Each P xs → Each Q xs
Each-weaker P Q f [] h = tt
Each-weaker P Q f (x ∷ xs) h = (f x h.0, Each-weaker P Q f xs h.1)

pub Each-append : {X : Type 0} (P : X → Type 0) (xs ys : List X) → Each P xs → Each P ys → Each P (xs ++ ys)
Each-append P [] ys h k = k
Each-append P (x ∷ xs) ys h k = (h.0, Each-append P xs ys h.1 k)

pub before_end : {X : Type 0} (xs : List X) (x d : X) (i : ℕ) → i < length xs → get_or (xs ++ x ∷ []) i d ≡ get_or xs i d
before_end xs x d i h = grind (arith, common_steps)

pub at_end : {X : Type 0} (xs : List X) (x d : X) (i : ℕ) → i ≡ length xs → get_or (xs ++ x ∷ []) i d ≡ x
at_end xs x d i h = grind (arith, common_steps)

-- ways
grown_more : (ws : List Block) (xs ys : List ℕ) → grown ws (xs ++ ys) ≡ grown (grown ws xs) ys
grown_more ws [] ys = refl
grown_more ws (x ∷ xs) ys = grown_more (ws ++ (length ws ∷ get_or ws x []) ∷ []) xs ys

grown_length : (ws : List Block) (xs : List ℕ) → length (grown ws xs) ≡ length ws + length xs
grown_length ws [] = omega arith
grown_length ws (x ∷ xs) =
    let more = ws ++ (length ws ∷ get_or ws x []) ∷ [] in
    omega (arith, grown_length more xs, length-append ws ((length ws ∷ get_or ws x []) ∷ []))

grown_old : (ws : List Block) (xs : List ℕ) (i : ℕ) → i < length ws → get_or (grown ws xs) i [] ≡ get_or ws i []
grown_old ws [] i h = refl
grown_old ws (x ∷ xs) i h =
    let e = length ws ∷ get_or ws x [] in
    grown_old (ws ++ e ∷ []) xs i (omega (arith, length-append ws (e ∷ []))) ∙ before_end ws e [] i h

pub way_old : (outer more : List ℕ) (i : ℕ) → i < length outer → way (outer ++ more) i ≡ way outer i
way_old [] more i h = absurd (omega arith)
way_old (m ∷ bs) more i h =
    ap (λ ws. get_or ws i []) (grown_more ([] ∷ []) bs more) ∙ grown_old (grown ([] ∷ []) bs) more i (omega (arith, grown_length ([] ∷ []) bs))

pub way_new : (outer : List ℕ) (b q : ℕ) → 0 < length outer → q ≡ length outer → way (outer ++ b ∷ []) q ≡ q ∷ way outer b
way_new [] b q h e = absurd (omega arith)
way_new (m ∷ bs) b q h e =
    let ws = grown ([] ∷ []) bs in
    let n : q ≡ length ws = omega (arith, grown_length ([] ∷ []) bs) in
    ap (λ xs. get_or xs q []) (grown_more ([] ∷ []) bs (b ∷ [])) ∙ (at_end ws (length ws ∷ get_or ws b []) [] q n ∙ ap (λ k. k ∷ get_or ws b []) (sym n))

last_or_before : (k n : ℕ) → k < suc n → (k < n) ⊎ (k ≡ n)
last_or_before k n h = by_order (cases_lt k n)
  where
    by_order : (k < n) ⊎ (n ≤ k) → (k < n) ⊎ (k ≡ n)
    by_order (inl l) = inl l
    by_order (inr l) = inr (omega arith)

pub length-one : {X : Type 0} (xs : List X) (x : X) → length (xs ++ x ∷ []) ≡ suc (length xs)
length-one xs x = omega (arith, length-append xs (x ∷ []))

nested_more : (outer : List ℕ) (b : ℕ) → b < length outer → AreNested outer → AreNested (outer ++ b ∷ [])
nested_more outer b h ns k some l = at (last_or_before k (length outer) (omega (arith, l, length-one outer b)))
  where
    at : (k < length outer) ⊎ (k ≡ length outer) → get_or (outer ++ b ∷ []) k 0 < k
    at (inl m) = let e = before_end outer b 0 k m in let o = ns k some m in omega (arith, e, o)
    at (inr m) = let e = at_end outer b 0 k m in omega (arith, e, m, h)

pub way_module : (outer : List ℕ) → 0 < length outer → way outer 0 ≡ []
way_module [] h = refl
way_module (m ∷ bs) h = grown_old ([] ∷ []) bs 0 (omega arith)

-- the way of a block goes on with that of the one round it
grown_entry : (ws : List Block) (xs : List ℕ) (i : ℕ) → i < length xs → get_or xs i 0 < length ws + i → get_or (grown ws xs) (length ws + i) [] ≡ (length ws + i) ∷ get_or (grown ws xs) (get_or xs i 0) []
grown_entry ws [] i h l = absurd (omega arith)
grown_entry ws (x ∷ xs) zero h l =
    let e = length ws ∷ get_or ws x [] in
    let more = ws ++ e ∷ [] in
    let n = length-one ws e in
    let here : length ws + 0 ≡ length ws = omega arith in
    grown_old more xs (length ws + 0) (omega (arith, n))
    ∙ (at_end ws e [] (length ws + 0) here
    ∙ (ap (λ k. k ∷ get_or ws x []) (sym here)
    ∙ ap (λ b. (length ws + 0) ∷ b) (sym (grown_old more xs x (omega (arith, n, l)) ∙ before_end ws e [] x (omega (arith, l))))))
grown_entry ws (x ∷ xs) (suc i) h l =
    let e = length ws ∷ get_or ws x [] in
    let more = ws ++ e ∷ [] in
    let n = length-one ws e in
    let here : length more + i ≡ length ws + suc i = omega (arith, n) in
    subst (λ k. get_or (grown more xs) k [] ≡ k ∷ get_or (grown more xs) (get_or xs i 0) []) here (grown_entry more xs i (omega arith) (omega (arith, here, l)))

pub way_unfolds : (outer : List ℕ) (b : ℕ) → AreNested outer → 0 < b → b < length outer → way outer b ≡ b ∷ way outer (get_or outer b 0)
way_unfolds [] b ns some h = absurd (omega arith)
way_unfolds (m ∷ bs) zero ns some h = absurd (omega arith)
way_unfolds (m ∷ bs) (suc b) ns some h =
    let e : 1 + b ≡ suc b = omega arith in
    subst (λ k. get_or (grown ([] ∷ []) bs) k [] ≡ k ∷ get_or (grown ([] ∷ []) bs) (get_or bs b 0) []) e (grown_entry ([] ∷ []) bs b (omega arith) (let l : get_or bs b 0 < suc b = ns (suc b) some h in omega (arith, l)))

-- what is told of a node, where each block is told by its way
abbrev pub told_here : (ℕ → Block) → Surroundings ℕ → Surroundings Block
told_here w h = record { block = w h.block; held_block = w h.held_block; is_local = h.is_local; declaration = h.declaration; words = h.words; excused = h.excused }

abbrev pub told_node : (ℕ → Block) → Node ℕ → Node Block
told_node w n = record { ahead = map (told_here w) n.ahead; others = told_here w n.others; next_declaration = n.next_declaration; declares = n.declares; path = n.path }

-- nodes
first_told : (w : ℕ → Block) (others : Here) (ahead : List Here) → first_or (told_here w others) (map (told_here w) ahead) ≡ told_here w (first_or others ahead)
first_told w others [] = refl
first_told w others (x ∷ xs) = refl

numbered_told : (w : ℕ → Block) (n : Option ℕ) (h : Here) → numbered n (told_here w h) ≡ told_here w (numbered n h)
numbered_told w None h = refl
numbered_told w (Some n) h = refl

here_told : (w : ℕ → Block) (node : Node ℕ) → here_in (told_node w node) ≡ told_here w (here_in node)
here_told w node = ap (numbered node.next_declaration) (first_told w node.others node.ahead) ∙ numbered_told w node.next_declaration (first_or node.others node.ahead)

rest_told : (w : ℕ → Block) (ahead : List Here) → others_of (map (told_here w) ahead) ≡ map (told_here w) (others_of ahead)
rest_told w [] = refl
rest_told w (x ∷ xs) = refl

after_told : (w : ℕ → Block) (node : Node ℕ) → after_field (told_node w node) ≡ told_node w (after_field node)
after_told w node = ap (λ a. record (told_node w (after_field node)) { ahead = a }) (rest_told w node.ahead)

-- an occurrence by the surroundings of the field that it is
abbrev by_here : {B : Type 0} → Role → ℕ → Declares → Option Path → Surroundings B → ℕ → ℕ → OccurrenceIn ℕ B
by_here r x d by here p e = occurrence r x (record { ahead = []; others = here; next_declaration = None; declares = d; path = by }) p e

by_here_told : (w : ℕ → Block) (r : Role) (x : ℕ) (d : Declares) (by : Option Path) (here : Here) (p e : ℕ) → by_here r x d by (told_here w here) p e ≡ told w (by_here r x d by here p e)
by_here_told w binder x globally by here p e = refl
by_here_told w binder x a_parameter by here p e = refl
by_here_told w binder x a_value by here p e = refl
by_here_told w reference x d by here p e = refl
by_here_told w word x d by here p e = refl

is_by_here : {B : Type 0} (r : Role) (x : ℕ) (node : Node B) (p e : ℕ) → occurrence r x node p e ≡ by_here r x node.declares node.path (here_in node) p e
is_by_here binder x node p e = refl
is_by_here reference x node p e = refl
is_by_here word x node p e = refl

occurrence_told : (w : ℕ → Block) (r : Role) (x : ℕ) (node : Node ℕ) (p e : ℕ) → told w (occurrence r x node p e) ≡ occurrence r x (told_node w node) p e
occurrence_told w r x node p e =
    ap (told w) (is_by_here r x node p e)
    ∙ (sym (by_here_told w r x node.declares node.path (here_in node) p e)
    ∙ (ap (λ h. by_here r x node.declares node.path h p e) (sym (here_told w node)) ∙ sym (is_by_here r x (told_node w node) p e)))

-- numbers of blocks that are there
abbrev HereWithin : ℕ → Here → Type 0
HereWithin n h = (h.block < n) × (h.held_block < n)

abbrev NodeWithin : ℕ → Node ℕ → Type 0
NodeWithin n node = Each (HereWithin n) node.ahead × HereWithin n node.others

HereWithin-more : (m n : ℕ) → m ≤ n → (h : Here) → HereWithin m h → HereWithin n h
HereWithin-more m n le h k = (omega (arith, le, k.0), omega (arith, le, k.1))

NodeWithin-more : (m n : ℕ) → m ≤ n → (node : Node ℕ) → NodeWithin m node → NodeWithin n node
NodeWithin-more m n le node k = (Each-weaker (HereWithin m) (HereWithin n) (HereWithin-more m n le) node.ahead k.0, HereWithin-more m n le node.others k.1)

first_within : (n : ℕ) (others : Here) (ahead : List Here) → Each (HereWithin n) ahead → HereWithin n others → HereWithin n (first_or others ahead)
first_within n others [] h k = k
first_within n others (x ∷ xs) h k = h.0

numbered_within : (n : ℕ) (d : Option ℕ) (h : Here) → HereWithin n h → HereWithin n (numbered d h)
numbered_within n None h k = k
numbered_within n (Some m) h k = k

here_within : (n : ℕ) (node : Node ℕ) → NodeWithin n node → HereWithin n (here_in node)
here_within n node k = numbered_within n node.next_declaration (first_or node.others node.ahead) (first_within n node.others node.ahead k.0 k.1)

rest_within : (n : ℕ) (ahead : List Here) → Each (HereWithin n) ahead → Each (HereWithin n) (others_of ahead)
rest_within n [] h = tt
rest_within n (x ∷ xs) h = h.1

after_within : (n : ℕ) (node : Node ℕ) → NodeWithin n node → NodeWithin n (after_field node)
after_within n node k = (rest_within n node.ahead k.0, k.1)

-- what a node is told by stays as blocks are added
here_same : (w v : ℕ → Block) (n : ℕ) → ((i : ℕ) → i < n → w i ≡ v i) → (h : Here) → HereWithin n h → told_here w h ≡ told_here v h
here_same w v n same h k =
    ap (λ b. record (told_here w h) { block = b }) (same h.block k.0) ∙ ap (λ b. record (told_here v h) { held_block = b }) (same h.held_block k.1)

ahead_same : (w v : ℕ → Block) (n : ℕ) → ((i : ℕ) → i < n → w i ≡ v i) → (hs : List Here) → Each (HereWithin n) hs → map (told_here w) hs ≡ map (told_here v) hs
ahead_same w v n same [] k = refl
ahead_same w v n same (h ∷ hs) k = ap (λ x. x ∷ map (told_here w) hs) (here_same w v n same h k.0) ∙ ap (λ xs. told_here v h ∷ xs) (ahead_same w v n same hs k.1)

node_same : (w v : ℕ → Block) (n : ℕ) → ((i : ℕ) → i < n → w i ≡ v i) → (node : Node ℕ) → NodeWithin n node → told_node w node ≡ told_node v node
node_same w v n same node k =
    ap (λ a. record (told_node w node) { ahead = a }) (ahead_same w v n same node.ahead k.0) ∙ ap (λ o. record (told_node v node) { others = o }) (here_same w v n same node.others k.1)

abbrev pub InBlocks : ℕ → Found → Type 0
InBlocks n o = o.block < n

found_same : (w v : ℕ → Block) (n : ℕ) → ((i : ℕ) → i < n → w i ≡ v i) → (os : List Found) → Each (InBlocks n) os → map (told w) os ≡ map (told v) os
found_same w v n same [] k = refl
found_same w v n same (o ∷ os) k = ap (λ b. record (told w o) { block = b } ∷ map (told w) os) (same o.block k.0) ∙ ap (λ xs. told v o ∷ xs) (found_same w v n same os k.1)

-- a node, as its children see it
by_shape_told : (w : ℕ → Block) (q : ℕ) (sh : Shape) (children : Forest) (here : Here) → w 0 ≡ [] → (0 < opens sh → w q ≡ q ∷ w here.block) → (1 < opens sh → w (suc q) ≡ suc q ∷ q ∷ w here.block)
    → told_node w (node_by sh children (numbers_at q) here) ≡ node_by sh children (blocks_at q (w here.block)) (told_here w here)
by_shape_told w q of_function children here z own below = rw (own (omega arith)) refl
by_shape_told w q of_parameter children here z own below = rw z refl
by_shape_told w q of_body children here z own below = refl
by_shape_told w q of_holder children here z own below = rw (own (omega arith)) refl
by_shape_told w q of_loop children here z own below = rw (own (omega arith)) refl
by_shape_told w q of_continuing children here z own below = rw (own (omega arith)) refl
by_shape_told w q of_for children here z own below = rw (own (omega arith), below (omega arith)) refl
by_shape_told w q of_words children here z own below = refl
by_shape_told w q of_custom children here z own below = refl
by_shape_told w q of_type children here z own below = refl
by_shape_told w q of_value children here z own below = refl
by_shape_told w q of_globals children here z own below = refl
by_shape_told w q of_other children here z own below = refl

by_shape_within : (n q : ℕ) (sh : Shape) (children : Forest) (here : Here) → 0 < n → q + opens sh ≤ n → HereWithin n here → NodeWithin n (node_by sh children (numbers_at q) here)
by_shape_within n q of_function children here z le k = (((k.0, omega arith), ((k.0, omega arith), ((omega arith, omega arith), tt))), (k.0, omega arith))
by_shape_within n q of_parameter children here z le k = (((z, k.1), (k, ((z, k.1), tt))), k)
by_shape_within n q of_body children here z le k = ((k, ((k.1, k.1), tt)), k)
by_shape_within n q of_holder children here z le k = (tt, (k.0, omega arith))
by_shape_within n q of_loop children here z le k = (((k.0, omega arith), ((k.0, omega arith), ((omega arith, omega arith), tt))), (k.0, omega arith))
by_shape_within n q of_continuing children here z le k = (((k.0, omega arith), ((k.0, omega arith), ((omega arith, omega arith), tt))), (k.0, omega arith))
by_shape_within n q of_for children here z le k = (((k.0, omega arith), ((omega arith, omega arith), ((omega arith, omega arith), ((omega arith, omega arith), ((omega arith, omega arith), tt))))), (k.0, omega arith))
by_shape_within n q of_words children here z le k = (tt, k)
by_shape_within n q of_custom children here z le k = (tt, k)
by_shape_within n q of_type children here z le k = (tt, k)
by_shape_within n q of_value children here z le k = (tt, k)
by_shape_within n q of_globals children here z le k = (tt, k)
by_shape_within n q of_other children here z le k = (tt, k)

-- ends of declarations
module _ {B : Type 0} (e : ℕ) where
  ended_append : (p : ℕ) (xs ys : List (OccurrenceIn ℕ B)) → p < length xs → ended_at e p (xs ++ ys) ≡ ended_at e p xs ++ ys
  ended_append p [] ys h = absurd (omega arith)
  ended_append zero (x ∷ xs) ys h = refl
  ended_append (suc p) (x ∷ xs) ys h = ap (λ os. x ∷ os) (ended_append p xs ys (omega arith))

  ended_last : (xs : List (OccurrenceIn ℕ B)) (o : OccurrenceIn ℕ B) → ended_at e (length xs) (xs ++ o ∷ []) ≡ xs ++ record o { role = ended_as e o.role } ∷ []
  ended_last [] o = refl
  ended_last (x ∷ xs) o = ap (λ os. x ∷ os) (ended_last xs o)

  ended_length : (p : ℕ) (xs : List (OccurrenceIn ℕ B)) → length (ended_at e p xs) ≡ length xs
  ended_length p [] = refl
  ended_length zero (x ∷ xs) = refl
  ended_length (suc p) (x ∷ xs) = ap suc (ended_length p xs)

  all_ended_length : (ps : List ℕ) (xs : List (OccurrenceIn ℕ B)) → length (all_ended e ps xs) ≡ length xs
  all_ended_length [] xs = refl
  all_ended_length (p ∷ ps) xs = all_ended_length ps (ended_at e p xs) ∙ ended_length p xs

  all_ended_append : (ps : List ℕ) (xs ys : List (OccurrenceIn ℕ B)) → Each (λ p. p < length xs) ps → all_ended e ps (xs ++ ys) ≡ all_ended e ps xs ++ ys
  all_ended_append [] xs ys h = refl
  all_ended_append (p ∷ ps) xs ys h =
      ap (all_ended e ps) (ended_append p xs ys h.0)
      ∙ all_ended_append ps (ended_at e p xs) ys (Each-weaker (λ k. k < length xs) (λ k. k < length (ended_at e p xs)) (λ k l. omega (arith, l, ended_length p xs)) ps h.1)

ended_told : (w : ℕ → Block) (e p : ℕ) (xs : List Found) → map (told w) (ended_at e p xs) ≡ ended_at e p (map (told w) xs)
ended_told w e p [] = refl
ended_told w e zero (x ∷ xs) = refl
ended_told w e (suc p) (x ∷ xs) = ap (λ os. told w x ∷ os) (ended_told w e p xs)

all_ended_told : (w : ℕ → Block) (e : ℕ) (ps : List ℕ) (xs : List Found) → map (told w) (all_ended e ps xs) ≡ all_ended e ps (map (told w) xs)
all_ended_told w e [] xs = refl
all_ended_told w e (p ∷ ps) xs = all_ended_told w e ps (ended_at e p xs) ∙ ap (all_ended e ps) (ended_told w e p xs)

ended_in : (n e p : ℕ) (xs : List Found) → Each (InBlocks n) xs → Each (InBlocks n) (ended_at e p xs)
ended_in n e p [] h = tt
ended_in n e zero (x ∷ xs) h = h
ended_in n e (suc p) (x ∷ xs) h = (h.0, ended_in n e p xs h.1)

all_ended_in : (n e : ℕ) (ps : List ℕ) (xs : List Found) → Each (InBlocks n) xs → Each (InBlocks n) (all_ended e ps xs)
all_ended_in n e [] xs h = h
all_ended_in n e (p ∷ ps) xs h = all_ended_in n e ps (ended_at e p xs) (ended_in n e p xs h)

-- what is asked of a state, and what the walk over some fields leaves
pub record Sound (s : State) : Type 0 where
  pub some : 0 < length s.outer
  pub inside : Each (InBlocks (length s.outer)) s.found
  pub nested : AreNested s.outer

abbrev told_in : State → List (Occurrence ℕ)
told_in s = map (told (way s.outer)) s.found

abbrev all_from : Fields → State → Forest → List (Occurrence ℕ)
all_from fs s f = occurrences_from (told_node (way s.outer) fs.node) (length s.found) (length s.outer) f

pub record Joined (fs : Fields) (s : State) (f : Forest) (t : State) : Type 0 where
  pub more : List ℕ
  pub outer_is : t.outer ≡ s.outer ++ more
  pub opened : length more ≡ blocks_in f
  pub counted : length t.found ≡ length s.found + count f
  pub inside : Each (InBlocks (length t.outer)) t.found
  pub nested : AreNested t.outer
  pub found_is : told_in t ≡ all_ended (length s.found + count f) fs.named (told_in s) ++ all_from fs s f

abbrev Named : State → List ℕ → Type 0
Named s ps = Each (λ p. p < length s.found) ps

-- the end of the fields
closed_is : (ps : List ℕ) (s : State) → closed ps s ≡ record s { found = all_ended (length s.found) ps s.found }
closed_is [] s = refl
closed_is (p ∷ ps) s = refl

ended_joined : (fs : Fields) (s : State) → Sound s → Joined fs s end (record s { found = all_ended (length s.found) fs.named s.found })
ended_joined fs s so = record {
  more = [];
  outer_is = sym (append-nil s.outer);
  opened = refl;
  counted = all_ended_length (length s.found) fs.named s.found ∙ no_more (length s.found);
  inside = all_ended_in (length s.outer) (length s.found) fs.named s.found so.inside;
  nested = so.nested;
  found_is =
      all_ended_told (way s.outer) (length s.found) fs.named s.found
      ∙ (ap (λ e. all_ended e fs.named (told_in s)) (no_more (length s.found)) ∙ sym (append-nil (all_ended (length s.found + 0) fs.named (told_in s))));
}
  where
    no_more : (n : ℕ) → n ≡ n + 0
    no_more n = omega arith

end_joined : (fs : Fields) (s : State) → Sound s → Joined fs s end (closed fs.named s)
end_joined fs s so = subst (Joined fs s end) (sym (closed_is fs.named s)) (ended_joined fs s so)

-- an identifier
abbrev added : Role → ℕ → Node ℕ → State → State
added r x node s = record s { found = s.found ++ occurrence r x node (length s.found) 0 ∷ [] }

named_more : (s : State) (r : Role) (x : ℕ) (fs : Fields) → Named s fs.named → Named (added r x fs.node s) fs.named
named_more s r x fs nm =
    Each-weaker (λ p. p < length s.found) (λ p. p < length (added r x fs.node s).found) (λ p l. omega (arith, l, length-one s.found (occurrence r x fs.node (length s.found) 0))) fs.named nm

name_named : (d : Declares) (r : Role) (x : ℕ) (fs : Fields) (s : State) → Named s fs.named → Named (added r x fs.node s) (named_after d (ident r x) fs.named (length s.found))
name_named globally r x fs s nm = named_more s r x fs nm
name_named a_parameter r x fs s nm = named_more s r x fs nm
name_named a_value binder x fs s nm = (omega (arith, length-one s.found (occurrence binder x fs.node (length s.found) 0)), named_more s binder x fs nm)
name_named a_value reference x fs s nm = named_more s reference x fs nm
name_named a_value word x fs s nm = named_more s word x fs nm

added_inside : (n : ℕ) (os : List Found) (o : Found) → Each (InBlocks n) os → o.block < n → Each (InBlocks n) (os ++ o ∷ [])
added_inside n os o h k = Each-append (InBlocks n) os (o ∷ []) h (k, tt)

-- once the fields after it have ended, the name is what the definition says
ended_value : (h : Surroundings Block) (x p e : ℕ) (by : Option Path) → record (by_here binder x a_value by h p 0) { role = ended_as e (by_here binder x a_value by h p 0).role } ≡ by_here binder x a_value by h p e
ended_value h x p e by = by_locality h.is_local
  where
    by_locality : (l : Bool) → record (by_here binder x a_value by (record h { is_local = l }) p 0) { role = ended_as e (by_here binder x a_value by (record h { is_local = l }) p 0).role } ≡ by_here binder x a_value by (record h { is_local = l }) p e
    by_locality true = refl
    by_locality false = refl

last_ended : (r : Role) (x : ℕ) (d : Declares) (by : Option Path) (h : Surroundings Block) (e : ℕ) (ps : List ℕ) (os : List (Occurrence ℕ)) → Each (λ p. p < length os) ps
    → all_ended e (named_after d (ident r x) ps (length os)) (os ++ by_here r x d by h (length os) 0 ∷ []) ≡ all_ended e ps os ++ by_here r x d by h (length os) e ∷ []
last_ended binder x globally by h e ps os k = all_ended_append e ps os (by_here binder x globally by h (length os) 0 ∷ []) k
last_ended binder x a_parameter by h e ps os k = all_ended_append e ps os (by_here binder x a_parameter by h (length os) 0 ∷ []) k
last_ended binder x a_value by h e ps os k =
    ap (all_ended e ps) (ended_last e os (by_here binder x a_value by h (length os) 0))
    ∙ (all_ended_append e ps os (record (by_here binder x a_value by h (length os) 0) { role = ended_as e (by_here binder x a_value by h (length os) 0).role } ∷ []) k
    ∙ ap (λ o. all_ended e ps os ++ o ∷ []) (ended_value h x (length os) e by))
last_ended reference x globally by h e ps os k = all_ended_append e ps os (by_here reference x globally by h (length os) 0 ∷ []) k
last_ended reference x a_parameter by h e ps os k = all_ended_append e ps os (by_here reference x a_parameter by h (length os) 0 ∷ []) k
last_ended reference x a_value by h e ps os k = all_ended_append e ps os (by_here reference x a_value by h (length os) 0 ∷ []) k
last_ended word x globally by h e ps os k = all_ended_append e ps os (by_here word x globally by h (length os) 0 ∷ []) k
last_ended word x a_parameter by h e ps os k = all_ended_append e ps os (by_here word x a_parameter by h (length os) 0 ∷ []) k
last_ended word x a_value by h e ps os k = all_ended_append e ps os (by_here word x a_value by h (length os) 0 ∷ []) k

-- the same of a node
last_ended_in : (r : Role) (x : ℕ) (node : Node Block) (e n : ℕ) (ps : List ℕ) (os : List (Occurrence ℕ)) → n ≡ length os → Each (λ p. p < n) ps
    → all_ended e (named_after node.declares (ident r x) ps n) (os ++ occurrence r x node n 0 ∷ []) ≡ all_ended e ps os ++ occurrence r x node n e ∷ []
last_ended_in r x node e n ps os is k =
    ap (λ o. all_ended e (named_after node.declares (ident r x) ps n) (os ++ o ∷ [])) (is_by_here r x node n 0)
    ∙ (at_length n is k ∙ ap (λ o. all_ended e ps os ++ o ∷ []) (sym (is_by_here r x node n e)))
  where
    at_length : (n : ℕ) → n ≡ length os → Each (λ p. p < n) ps
        → all_ended e (named_after node.declares (ident r x) ps n) (os ++ by_here r x node.declares node.path (here_in node) n 0 ∷ []) ≡ all_ended e ps os ++ by_here r x node.declares node.path (here_in node) n e ∷ []
    at_length n is k =
        subst (λ m. Each (λ p. p < m) ps → all_ended e (named_after node.declares (ident r x) ps m) (os ++ by_here r x node.declares node.path (here_in node) m 0 ∷ []) ≡ all_ended e ps os ++ by_here r x node.declares node.path (here_in node) m e ∷ [])
        (sym is) (last_ended r x node.declares node.path (here_in node) e ps os) k

told_added : (r : Role) (x : ℕ) (fs : Fields) (s : State) → told_in (added r x fs.node s) ≡ told_in s ++ occurrence r x (told_node (way s.outer) fs.node) (length s.found) 0 ∷ []
told_added r x fs s =
    map-append (told (way s.outer)) s.found (occurrence r x fs.node (length s.found) 0 ∷ [])
    ∙ ap (λ o. told_in s ++ o ∷ []) (occurrence_told (way s.outer) r x fs.node (length s.found) 0)

ident_joined : (r : Role) (x : ℕ) (children others : Forest) (fs : Fields) (s t : State) → Named s fs.named → Joined (stepped fs (ident r x) (length s.found)) (added r x fs.node s) others t → Joined fs s (tree (ident r x) children others) t
ident_joined r x children others fs s t nm j =
    let w = way s.outer in
    let node = told_node w fs.node in
    let p = length s.found in
    let one : length (added r x fs.node s).found ≡ suc p = length-one s.found (occurrence r x fs.node p 0) in
    let e = length (added r x fs.node s).found + count others in
    let e_is : e ≡ p + suc (count others) = omega (arith, one) in
    let e_too : e ≡ suc p + count others = omega (arith, one) in
    let there : p ≡ length (told_in s) = sym (length-map s.found (told w)) in
    let front : all_ended e (named_after fs.node.declares (ident r x) fs.named p) (told_in (added r x fs.node s)) ≡ all_ended (p + suc (count others)) fs.named (told_in s) ++ occurrence r x node p (suc p + count others) ∷ [] =
    ap (all_ended e (named_after fs.node.declares (ident r x) fs.named p)) (told_added r x fs s)
    ∙ (last_ended_in r x node e p fs.named (told_in s) there nm
    ∙ (ap (λ k. all_ended k fs.named (told_in s) ++ occurrence r x node p e ∷ []) e_is ∙ ap (λ k. all_ended (p + suc (count others)) fs.named (told_in s) ++ occurrence r x node p k ∷ []) e_too)) in
    let back : all_from (stepped fs (ident r x) p) (added r x fs.node s) others ≡ occurrences_from (after_field node) (suc p) (length s.outer) others =
    ap (λ n. occurrences_from n (length (added r x fs.node s).found) (length s.outer) others) (sym (after_told w fs.node))
    ∙ ap (λ k. occurrences_from (after_field node) k (length s.outer) others) one in
    record {
      more = j.more;
      outer_is = j.outer_is;
      opened = j.opened;
      counted = j.counted ∙ e_is;
      inside = j.inside;
      nested = j.nested;
      found_is =
          j.found_is
          ∙ (ap (λ os. os ++ all_from (stepped fs (ident r x) p) (added r x fs.node s) others) front
          ∙ (ap (λ os. (all_ended (p + suc (count others)) fs.named (told_in s) ++ occurrence r x node p (suc p + count others) ∷ []) ++ os) back
          ∙ append_assoc (all_ended (p + suc (count others)) fs.named (told_in s)) (occurrence r x node p (suc p + count others) ∷ []) (occurrences_from (after_field node) (suc p) (length s.outer) others)));
    }

-- any other tree: it opens its blocks, and then come its children and the trees after it
record Opened (n b : ℕ) (s t : State) : Type 0 where
  more : List ℕ
  outer_is : t.outer ≡ s.outer ++ more
  many : length more ≡ n
  found : t.found ≡ s.found
  own : 0 < n → 0 < length s.outer → way t.outer (length s.outer) ≡ length s.outer ∷ way s.outer b
  nested : b < length s.outer → AreNested s.outer → AreNested t.outer
  below : 1 < n → 0 < length s.outer → way t.outer (suc (length s.outer)) ≡ suc (length s.outer) ∷ length s.outer ∷ way s.outer b

opening_outer : (n b : ℕ) (s : State) → n ≤ 2 → Opened n b s (opening n b s)
opening_outer zero b s h = record { more = []; outer_is = sym (append-nil s.outer); many = refl; found = refl; nested = λ l ns. ns; own = λ l. absurd (omega arith); below = λ l. absurd (omega arith) }
opening_outer (suc zero) b s h = record { more = b ∷ []; outer_is = refl; many = refl; found = refl; nested = nested_more s.outer b; own = λ l some. way_new s.outer b (length s.outer) some refl; below = λ l. absurd (omega arith) }
opening_outer (suc (suc zero)) b s h =
    let first = s.outer ++ b ∷ [] in
    let one : length first ≡ suc (length s.outer) = length-one s.outer b in
    record {
      more = b ∷ length s.outer ∷ [];
      outer_is = append_assoc s.outer (b ∷ []) (length s.outer ∷ []);
      many = refl;
      found = refl;
      nested = λ l ns. nested_more first (length s.outer) (omega (arith, one)) (nested_more s.outer b l ns);
      own = λ l some. way_old first (length s.outer ∷ []) (length s.outer) (omega (arith, one)) ∙ way_new s.outer b (length s.outer) some refl;
      below = λ l some.
          way_new first (length s.outer) (suc (length s.outer)) (omega (arith, one)) (sym one) ∙ ap (λ ks. suc (length s.outer) ∷ ks) (way_new s.outer b (length s.outer) some refl);
    }
opening_outer (suc (suc (suc n))) b s h = absurd (omega arith)

pub opens_few : (sh : Shape) → opens sh ≤ 2
opens_few of_function = omega arith
opens_few of_parameter = omega arith
opens_few of_body = omega arith
opens_few of_holder = omega arith
opens_few of_loop = omega arith
opens_few of_continuing = omega arith
opens_few of_for = omega arith
opens_few of_words = omega arith
opens_few of_custom = omega arith
opens_few of_type = omega arith
opens_few of_value = omega arith
opens_few of_globals = omega arith
opens_few of_other = omega arith

Each-found : (n m : ℕ) (os ps : List Found) → ps ≡ os → n ≤ m → Each (InBlocks n) os → Each (InBlocks m) ps
Each-found n m os ps e le k = subst (Each (InBlocks m)) (sym e) (Each-weaker (InBlocks n) (InBlocks m) (λ o l. omega (arith, le, l)) os k)

-- a node of this shape among the fields of another
abbrev inner_fields : Shape → Forest → Fields → State → Fields
inner_fields sh children fs s = record { node = node_by sh children (numbers_at (length s.outer)) (here_in fs.node); named = [] }

abbrev opened_state : Shape → Fields → State → State
opened_state sh fs s = opening (opens sh) (here_in fs.node).block s

abbrev passed : Fields → Fields
passed fs = record { node = after_field fs.node; named = fs.named }

module _ (sh : Shape) (fs : Fields) (s : State) (so : Sound s) (nw : NodeWithin (length s.outer) fs.node) where
  abbrev pub s0 : State
  s0 = opened_state sh fs s

  op : Opened (opens sh) (here_in fs.node).block s s0
  op = opening_outer (opens sh) (here_in fs.node).block s (opens_few sh)

  outer_length : length s0.outer ≡ length s.outer + opens sh
  outer_length = ap length op.outer_is ∙ (length-append s.outer op.more ∙ ap (λ n. length s.outer + n) op.many)

  pub opened_sound : Sound s0
  opened_sound = record { some = omega (arith, so.some, outer_length); inside = Each-found (length s.outer) (length s0.outer) s.found s0.found op.found (omega (arith, outer_length)) so.inside; nested = op.nested (here_within (length s.outer) fs.node nw).0 so.nested }

  pub inner_within : (children : Forest) → NodeWithin (length s0.outer) (inner_fields sh children fs s).node
  inner_within children =
      by_shape_within (length s0.outer) (length s.outer) sh children (here_in fs.node) (omega (arith, so.some, outer_length)) (omega (arith, outer_length))
      (HereWithin-more (length s.outer) (length s0.outer) (omega (arith, outer_length)) (here_in fs.node) (here_within (length s.outer) fs.node nw))

  old_ways : (i : ℕ) → i < length s.outer → way s0.outer i ≡ way s.outer i
  old_ways i h = ap (λ o. way o i) op.outer_is ∙ way_old s.outer op.more i h

  -- the children as the definition sees them
  inner_told : (children : Forest) → told_node (way s0.outer) (inner_fields sh children fs s).node
      ≡ node_by sh children (blocks_at (length s.outer) (here_in (told_node (way s.outer) fs.node)).block) (here_in (told_node (way s.outer) fs.node))
  inner_told children =
      let w = way s0.outer in
      let v = way s.outer in
      let q = length s.outer in
      let here = here_in fs.node in
      let k = here_within q fs.node nw in
      let b : w here.block ≡ v here.block = old_ways here.block k.0 in
      let same : told_here w here ≡ here_in (told_node v fs.node) = here_same w v q old_ways here k ∙ sym (here_told v fs.node) in
      by_shape_told w q sh children here (ap (λ o. way o 0) op.outer_is ∙ (way_old s.outer op.more 0 so.some ∙ way_module s.outer so.some))
      (λ l. op.own l so.some ∙ ap (λ x. q ∷ x) (sym b)) (λ l. op.below l so.some ∙ ap (λ x. suc q ∷ q ∷ x) (sym b))
      ∙ ap (λ h. node_by sh children (blocks_at q h.block) h) same

  other_joined : (children others f : Forest) (s1 t : State)
      → count f ≡ count children + count others → blocks_in f ≡ opens sh + blocks_in children + blocks_in others
      → ((node : Node Block) (p q : ℕ) → occurrences_from node p q f ≡ occurrences_from (node_by sh children (blocks_at q (here_in node).block) (here_in node)) p (q + opens sh) children ++ occurrences_from (after_field node) (p + count children) (q + opens sh + blocks_in children) others)
      → Named s fs.named → Joined (inner_fields sh children fs s) s0 children s1 → Joined (passed fs) s1 others t → Joined fs s f t
  other_joined children others f s1 t counts blocks listed nm a b =
      let w = way s.outer in
      let p = length s.found in
      let q = length s.outer in
      let node = told_node w fs.node in
      let outer1 : s1.outer ≡ s.outer ++ (op.more ++ a.more) = a.outer_is ∙ (ap (λ o. o ++ a.more) op.outer_is ∙ append_assoc s.outer op.more a.more) in
      let found0 : length s0.found ≡ p = ap length op.found in
      let length1 : length s1.outer ≡ q + opens sh + blocks_in children = ap length a.outer_is ∙ (length-append s0.outer a.more ∙ omega (arith, outer_length, a.opened)) in
      let counted1 : length s1.found ≡ p + count children = a.counted ∙ ap (λ n. n + count children) found0 in
      let before : told_in s0 ≡ told_in s = ap (map (told (way s0.outer))) op.found ∙ found_same (way s0.outer) w q old_ways s.found so.inside in
      let inner : told_in s1 ≡ told_in s ++ occurrences_from (node_by sh children (blocks_at q (here_in node).block) (here_in node)) p (q + opens sh) children =
      a.found_is
      ∙ (ap (λ os. os ++ all_from (inner_fields sh children fs s) s0 children) before
      ∙ ap (λ os. told_in s ++ os)
      (ap (λ n. occurrences_from n (length s0.found) (length s0.outer) children) (inner_told children)
      ∙ (ap (λ n. occurrences_from (node_by sh children (blocks_at q (here_in node).block) (here_in node)) n (length s0.outer) children) found0
      ∙ ap (λ n. occurrences_from (node_by sh children (blocks_at q (here_in node).block) (here_in node)) p n children) outer_length))) in
      let first = occurrences_from (node_by sh children (blocks_at q (here_in node).block) (here_in node)) p (q + opens sh) children in
      let second = occurrences_from (after_field node) (p + count children) (q + opens sh + blocks_in children) others in
      let later_ways : (i : ℕ) → i < q → way s1.outer i ≡ w i = λ i h. ap (λ o. way o i) outer1 ∙ way_old s.outer (op.more ++ a.more) i h in
      let node_is : told_node (way s1.outer) (after_field fs.node) ≡ after_field node =
      node_same (way s1.outer) w q later_ways (after_field fs.node) (after_within q fs.node nw) ∙ sym (after_told w fs.node) in
      let back : all_from (passed fs) s1 others ≡ second =
      ap (λ n. occurrences_from n (length s1.found) (length s1.outer) others) node_is
      ∙ (ap (λ n. occurrences_from (after_field node) n (length s1.outer) others) counted1 ∙ ap (λ n. occurrences_from (after_field node) (p + count children) n others) length1) in
      let e = length s1.found + count others in
      let e_is : e ≡ p + count f = omega (arith, counted1, counts) in
      let long : p ≡ length (told_in s) = sym (length-map s.found (told w)) in
      let nm' : Each (λ k. k < length (told_in s)) fs.named = Each-weaker (λ k. k < p) (λ k. k < length (told_in s)) (λ k l. omega (arith, l, long)) fs.named nm in
      let front : all_ended e fs.named (told_in s1) ≡ all_ended (p + count f) fs.named (told_in s) ++ first =
      ap (all_ended e fs.named) inner ∙ (all_ended_append e fs.named (told_in s) first nm' ∙ ap (λ k. all_ended k fs.named (told_in s) ++ first) e_is) in
      record {
        more = (op.more ++ a.more) ++ b.more;
        outer_is = b.outer_is ∙ (ap (λ o. o ++ b.more) outer1 ∙ append_assoc s.outer (op.more ++ a.more) b.more);
        opened = length-append (op.more ++ a.more) b.more ∙ omega (arith, length-append op.more a.more, op.many, a.opened, b.opened, blocks);
        counted = b.counted ∙ e_is;
        inside = b.inside;
        nested = b.nested;
        found_is =
            b.found_is
            ∙ (ap (λ os. os ++ all_from (passed fs) s1 others) front
            ∙ (ap (λ os. (all_ended (p + count f) fs.named (told_in s) ++ first) ++ os) back
            ∙ (append_assoc (all_ended (p + count f) fs.named (told_in s)) first second
            ∙ ap (λ os. all_ended (p + count f) fs.named (told_in s) ++ os) (sym (listed node p q)))));
      }

  -- the state after the children is as sound
  next_sound : (children : Forest) (s1 : State) → Joined (inner_fields sh children fs s) s0 children s1 → Sound s1
  next_sound children s1 a = record { some = omega (arith, so.some, outer_length, ap length a.outer_is, length-append s0.outer a.more); inside = a.inside; nested = a.nested }

  next_within : (children : Forest) (s1 : State) → Joined (inner_fields sh children fs s) s0 children s1 → NodeWithin (length s1.outer) (after_field fs.node)
  next_within children s1 a =
      NodeWithin-more (length s.outer) (length s1.outer) (omega (arith, outer_length, ap length a.outer_is, length-append s0.outer a.more)) (after_field fs.node) (after_within (length s.outer) fs.node nw)

  next_named : (children : Forest) (s1 : State) → Joined (inner_fields sh children fs s) s0 children s1 → Named s fs.named → Named s1 fs.named
  next_named children s1 a nm =
      Each-weaker (λ p. p < length s.found) (λ p. p < length s1.found) (λ p l. omega (arith, l, a.counted, ap length op.found)) fs.named nm

-- a tree that is no identifier declares no name
pub none_named : (d : Declares) (l : Label) (old : List ℕ) (p : ℕ) → named_by l old p ≡ old → named_after d l old p ≡ old
none_named globally l old p e = refl
none_named a_parameter l old p e = refl
none_named a_value l old p e = e

same_named : (fs : Fields) (l : Label) (others : Forest) (s s1 : State) → named_by l fs.named (length s.found) ≡ fs.named → (f : Forest) → Joined fs s f (walk (passed fs) s1 others) → Joined fs s f (walk (stepped fs l (length s.found)) s1 others)
same_named fs l others s s1 e f j =
    subst (λ ps. Joined fs s f (walk (record { node = after_field fs.node; named = ps }) s1 others)) (sym (none_named fs.node.declares l fs.named (length s.found) e)) j

pub joined : (f : Forest) (fs : Fields) (s : State) → Sound s → NodeWithin (length s.outer) fs.node → Named s fs.named → Joined fs s f (walk fs s f)
joined end fs s so nw nm = end_joined fs s so
joined (tree (ident r x) children others) fs s so nw nm =
    ident_joined r x children others fs s (walk (stepped fs (ident r x) (length s.found)) (added r x fs.node s) others) nm
    (joined others (stepped fs (ident r x) (length s.found)) (added r x fs.node s)
    (record { some = so.some; inside = added_inside (length s.outer) s.found (occurrence r x fs.node (length s.found) 0) so.inside (here_within (length s.outer) fs.node nw).0; nested = so.nested })
    (after_within (length s.outer) fs.node nw) (name_named fs.node.declares r x fs s nm))
joined (tree (kind k) children others) fs s so nw nm =
    let sh = shape_of k in
    let a = joined children (inner_fields sh children fs s) (opened_state sh fs s) (opened_sound sh fs s so nw) (inner_within sh fs s so nw children) tt in
    let s1 = walk (inner_fields sh children fs s) (opened_state sh fs s) children in
    let b = joined others (passed fs) s1 (next_sound sh fs s so nw children s1 a) (next_within sh fs s so nw children s1 a) (next_named sh fs s so nw children s1 a nm) in
    same_named fs (kind k) others s s1 refl (tree (kind k) children others) (other_joined sh fs s so nw children others (tree (kind k) children others) s1 (walk (passed fs) s1 others) refl refl (λ node p q. refl) nm a b)
joined (tree (at k i n) children others) fs s so nw nm =
    let sh = of_other in
    let a = joined children (inner_fields sh children fs s) (opened_state sh fs s) (opened_sound sh fs s so nw) (inner_within sh fs s so nw children) tt in
    let s1 = walk (inner_fields sh children fs s) (opened_state sh fs s) children in
    let b = joined others (passed fs) s1 (next_sound sh fs s so nw children s1 a) (next_within sh fs s so nw children s1 a) (next_named sh fs s so nw children s1 a nm) in
    same_named fs (at k i n) others s s1 refl (tree (at k i n) children others) (other_joined sh fs s so nw children others (tree (at k i n) children others) s1 (walk (passed fs) s1 others) refl refl (λ node p q. refl) nm a b)
joined (tree (text v) children others) fs s so nw nm =
    let sh = of_other in
    let a = joined children (inner_fields sh children fs s) (opened_state sh fs s) (opened_sound sh fs s so nw) (inner_within sh fs s so nw children) tt in
    let s1 = walk (inner_fields sh children fs s) (opened_state sh fs s) children in
    let b = joined others (passed fs) s1 (next_sound sh fs s so nw children s1 a) (next_within sh fs s so nw children s1 a) (next_named sh fs s so nw children s1 a nm) in
    same_named fs (text v) others s s1 refl (tree (text v) children others) (other_joined sh fs s so nw children others (tree (text v) children others) s1 (walk (passed fs) s1 others) refl refl (λ node p q. refl) nm a b)
joined (tree (texts vs) children others) fs s so nw nm =
    let sh = of_other in
    let a = joined children (inner_fields sh children fs s) (opened_state sh fs s) (opened_sound sh fs s so nw) (inner_within sh fs s so nw children) tt in
    let s1 = walk (inner_fields sh children fs s) (opened_state sh fs s) children in
    let b = joined others (passed fs) s1 (next_sound sh fs s so nw children s1 a) (next_within sh fs s so nw children s1 a) (next_named sh fs s so nw children s1 a nm) in
    same_named fs (texts vs) others s s1 refl (tree (texts vs) children others) (other_joined sh fs s so nw children others (tree (texts vs) children others) s1 (walk (passed fs) s1 others) refl refl (λ node p q. refl) nm a b)
joined (tree (truth v) children others) fs s so nw nm =
    let sh = of_other in
    let a = joined children (inner_fields sh children fs s) (opened_state sh fs s) (opened_sound sh fs s so nw) (inner_within sh fs s so nw children) tt in
    let s1 = walk (inner_fields sh children fs s) (opened_state sh fs s) children in
    let b = joined others (passed fs) s1 (next_sound sh fs s so nw children s1 a) (next_within sh fs s so nw children s1 a) (next_named sh fs s so nw children s1 a nm) in
    same_named fs (truth v) others s s1 refl (tree (truth v) children others) (other_joined sh fs s so nw children others (tree (truth v) children others) s1 (walk (passed fs) s1 others) refl refl (λ node p q. refl) nm a b)
joined (tree (unary v) children others) fs s so nw nm =
    let sh = of_other in
    let a = joined children (inner_fields sh children fs s) (opened_state sh fs s) (opened_sound sh fs s so nw) (inner_within sh fs s so nw children) tt in
    let s1 = walk (inner_fields sh children fs s) (opened_state sh fs s) children in
    let b = joined others (passed fs) s1 (next_sound sh fs s so nw children s1 a) (next_within sh fs s so nw children s1 a) (next_named sh fs s so nw children s1 a nm) in
    same_named fs (unary v) others s s1 refl (tree (unary v) children others) (other_joined sh fs s so nw children others (tree (unary v) children others) s1 (walk (passed fs) s1 others) refl refl (λ node p q. refl) nm a b)
joined (tree (binary v) children others) fs s so nw nm =
    let sh = of_other in
    let a = joined children (inner_fields sh children fs s) (opened_state sh fs s) (opened_sound sh fs s so nw) (inner_within sh fs s so nw children) tt in
    let s1 = walk (inner_fields sh children fs s) (opened_state sh fs s) children in
    let b = joined others (passed fs) s1 (next_sound sh fs s so nw children s1 a) (next_within sh fs s so nw children s1 a) (next_named sh fs s so nw children s1 a nm) in
    same_named fs (binary v) others s s1 refl (tree (binary v) children others) (other_joined sh fs s so nw children others (tree (binary v) children others) s1 (walk (passed fs) s1 others) refl refl (λ node p q. refl) nm a b)
joined (tree (assignment v) children others) fs s so nw nm =
    let sh = of_other in
    let a = joined children (inner_fields sh children fs s) (opened_state sh fs s) (opened_sound sh fs s so nw) (inner_within sh fs s so nw children) tt in
    let s1 = walk (inner_fields sh children fs s) (opened_state sh fs s) children in
    let b = joined others (passed fs) s1 (next_sound sh fs s so nw children s1 a) (next_within sh fs s so nw children s1 a) (next_named sh fs s so nw children s1 a nm) in
    same_named fs (assignment v) others s s1 refl (tree (assignment v) children others) (other_joined sh fs s so nw children others (tree (assignment v) children others) s1 (walk (passed fs) s1 others) refl refl (λ node p q. refl) nm a b)
joined (tree (space v) children others) fs s so nw nm =
    let sh = of_other in
    let a = joined children (inner_fields sh children fs s) (opened_state sh fs s) (opened_sound sh fs s so nw) (inner_within sh fs s so nw children) tt in
    let s1 = walk (inner_fields sh children fs s) (opened_state sh fs s) children in
    let b = joined others (passed fs) s1 (next_sound sh fs s so nw children s1 a) (next_within sh fs s so nw children s1 a) (next_named sh fs s so nw children s1 a nm) in
    same_named fs (space v) others s s1 refl (tree (space v) children others) (other_joined sh fs s so nw children others (tree (space v) children others) s1 (walk (passed fs) s1 others) refl refl (λ node p q. refl) nm a b)
joined (tree (access v) children others) fs s so nw nm =
    let sh = of_other in
    let a = joined children (inner_fields sh children fs s) (opened_state sh fs s) (opened_sound sh fs s so nw) (inner_within sh fs s so nw children) tt in
    let s1 = walk (inner_fields sh children fs s) (opened_state sh fs s) children in
    let b = joined others (passed fs) s1 (next_sound sh fs s so nw children s1 a) (next_within sh fs s so nw children s1 a) (next_named sh fs s so nw children s1 a nm) in
    same_named fs (access v) others s s1 refl (tree (access v) children others) (other_joined sh fs s so nw children others (tree (access v) children others) s1 (walk (passed fs) s1 others) refl refl (λ node p q. refl) nm a b)
joined (tree (path v) children others) fs s so nw nm =
    let sh = of_other in
    let a = joined children (inner_fields sh children fs s) (opened_state sh fs s) (opened_sound sh fs s so nw) (inner_within sh fs s so nw children) tt in
    let s1 = walk (inner_fields sh children fs s) (opened_state sh fs s) children in
    let b = joined others (passed fs) s1 (next_sound sh fs s so nw children s1 a) (next_within sh fs s so nw children s1 a) (next_named sh fs s so nw children s1 a nm) in
    same_named fs (path v) others s s1 refl (tree (path v) children others) (other_joined sh fs s so nw children others (tree (path v) children others) s1 (walk (passed fs) s1 others) refl refl (λ node p q. refl) nm a b)

-- a whole module
pub whole_joined : (f : Forest) → Joined (all_of outermost) start f (walk (all_of outermost) start f)
whole_joined f = joined f (all_of outermost) start (record { some = omega arith; inside = tt; nested = λ k some l. absurd (omega arith) }) (tt, (omega arith, omega arith)) tt

pub blocks_there : (n : ℕ) (xs : List found.Occurrence) → Each (InBlocks n) (map occurrence_view xs) → All (λ o. o.block < n) xs
blocks_there n [] h k d l = absurd (omega arith)
blocks_there n (x ∷ xs) h zero d l = h.0
blocks_there n (x ∷ xs) h (suc k) d l = blocks_there n xs h.1 k d (omega arith)
