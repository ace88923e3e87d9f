-- What is told of loops and continuing blocks, from what is told of their parts.
use Rattle.std.proofs.Common.{◌≡◌, ℕ, Bool, true, false, cond, List, [], ◌∷◌, ◌++◌, map, Option, Some, None, Vec, Global, refl, sym, ap, ◌∙◌, subst}
use Rattle.wesl_cond_chains.specs.Faults.{list_at}
use Rattle.wesl_cond_chains.specs.Judging.{closing}
use Rattle.wesl_cond_chains.specs.Lists.{Element, alone, back, elements, holds_body, is_closed, is_entered, judged, option_of}
use Rattle.wesl_cond_chains.specs.Nodes.{optional_forest}
use Rattle.wesl_cond_features.specs.Features.{Replies, known}
use Rattle.wesl_cond_unit.proofs.Walked.{closing_none, open_front}
use Rattle.wesl_cond_faults.proofs.Adding.{adds_both, adds_in, adds_none, adds_nothing, adds_own}
use Rattle.wesl_cond_faults.proofs.Listing.{stay, held_body, held_option, inside_alone}
use Rattle.wesl_cond_faults.proofs.Walking.{closing_leaf}
use Rattle.wesl_cond_faults.specs.Listed.{AreFaults, nothing, apart}
use Rattle.wesl_cond_chains.specs.Places.{Place}
use Rattle.wesl_cond_faults.specs.Places.{told_of_list}
use Rattle.wesl_cond_faults.specs.Telling.{AddsFaults, AddsAll}
use Rattle.wesl_cond_faults.specs.declared.told.Told.{Told}
use Rattle.wesl_tree_names.specs.Path.{Text}
use Rattle.wesl_tree_syntax.specs.Tree.{Label, Forest, Tree, end, tree, kind, before, branch, forest_of, compound, statements, loop, continuing}
use Rattle.wesl_tree_syntax.specs.View.{attributes_tree, break_if_view, compound_view, continuing_view, optional, statement_tree, statement_view}
use Rattle.wesl_tree_syntax.specs.declared.attribute.Attribute.{Attribute}
use Rattle.wesl_tree_syntax.specs.declared.span.Spanned.{Spanned}
use Rattle.wesl_tree_syntax.specs.declared.statement.BreakIfStatement.{BreakIfStatement}
use Rattle.wesl_tree_syntax.specs.declared.statement.CompoundStatement.{CompoundStatement, out-CompoundStatement}
use Rattle.wesl_tree_syntax.specs.declared.statement.ContinuingStatement.{ContinuingStatement, out-ContinuingStatement}
use Rattle.wesl_tree_syntax.specs.declared.statement.Statement.{Statement}
use Rattle.wesl_tree_syntax.specs.declared.statement.Statement.TheViews as made
use Rattle.wesl_tree_syntax.proofs.Views.{view_compound, view_continuing, view_loop}

module _ (names : List Text) (reply : Replies ℕ) where
  abbrev pub trees_in : CompoundStatement → List Tree
  trees_in x = map statement_tree (out-CompoundStatement x).statements.items

  -- What a loop and a continuing block hold.
  module _ {B : Type 0} (last : B → Tree) (l : Label) (closes : is_closed l ≡ true) (entered : is_entered l ≡ true) (x : Vec (Spanned Attribute) Global) (body : CompoundStatement) (o : Option B) where
    abbrev ts : List Tree
    ts = trees_in body

    abbrev y : Vec (Spanned Attribute) Global
    y = (out-CompoundStatement body).attributes

    abbrev pub all : List (Element ℕ)
    all = elements false (forest_of ts) ++ elements true (optional_forest last o)

    abbrev held : Option B → Forest
    held p = forest_of (attributes_tree x ∷ branch compound (attributes_tree y ∷ branch statements ts ∷ []) ∷ optional last p ∷ [])

    its_list : (p : Option B) → list_at false l (held p) ≡ elements false (forest_of ts) ++ elements true (optional_forest last p)
    its_list None = rw closes refl
    its_list (Some z) = rw closes refl

    abbrev rebuilt : List (Element ℕ) → Forest
    rebuilt kept = before (attributes_tree x) (tree (kind compound) (before (attributes_tree y) (tree (kind statements) (back false kept) end)) (option_of (back true kept) end))

    what_stays : (p : Option B) → judged (stay reply) false l (held p) ≡ rebuilt (stay reply (elements false (forest_of ts) ++ elements true (optional_forest last p)))
    what_stays None = rw closes refl
    what_stays (Some z) = rw closes refl

    holds : holds_body false l ≡ true
    holds = rw closes refl

    in_rebuilt : (kept : List (Element ℕ)) (ps qs : List (Place ℕ)) → AreFaults reply false (back false kept) ps → AreFaults reply false (back true kept) qs → AreFaults reply true (rebuilt kept) (ps ++ qs)
    in_rebuilt kept ps qs p q = apart refl (held_body reply (back false kept) (option_of (back true kept) end) (attributes_tree y).label (attributes_tree y).children ps qs refl p (held_option reply (back true kept) qs q))

    faults_held : (ps qs : List (Place ℕ)) → told_of_list reply false all ≡ [] → AreFaults reply false (alone (stay reply) (forest_of ts)) ps → AreFaults reply false (closing (known reply) (forest_of ts) (optional_forest last o)) qs → AreFaults reply false (tree l (held o) end) (ps ++ qs)
    faults_held ps qs none p q =
        inside_alone reply false l (held o) (ps ++ qs) entered (ap (told_of_list reply false) (its_list o) ∙ none)
        (subst (λ h. AreFaults reply h (judged (stay reply) false l (held o)) (ps ++ qs)) (sym holds) (subst (λ t. AreFaults reply true t (ps ++ qs)) (sym (what_stays o))
        (in_rebuilt (stay reply all) ps qs (subst (λ t. AreFaults reply false t ps) (sym (open_front (known reply) (forest_of ts) (optional_forest last o))) p) q)))

    as_held : tree l (forest_of (attributes_tree x ∷ compound_view body ∷ optional last o ∷ [])) end ≡ tree l (held o) end
    as_held = ap (λ t. tree l (forest_of (attributes_tree x ∷ t ∷ optional last o ∷ [])) end) (view_compound body)

    pub closed_refused : (a b : Told) → (told_of_list reply false all ≡ [] → ⊥) → AddsFaults names (told_of_list reply false all) a b → AddsAll names reply (tree l (forest_of (attributes_tree x ∷ compound_view body ∷ optional last o ∷ [])) end) a b
    closed_refused a b some h =
        adds_in names reply _ _ a b (sym as_held)
        (adds_own names reply l (held o) a b entered (subst (λ xs. told_of_list reply false xs ≡ [] → ⊥) (sym (its_list o)) some) (subst (λ xs. AddsFaults names (told_of_list reply false xs) a b) (sym (its_list o)) h))

    pub closed_told : (a b c : Told) → told_of_list reply false all ≡ [] → AddsAll names reply (alone (stay reply) (forest_of ts)) a b → AddsAll names reply (closing (known reply) (forest_of ts) (optional_forest last o)) b c
        → AddsAll names reply (tree l (forest_of (attributes_tree x ∷ compound_view body ∷ optional last o ∷ [])) end) a c
    closed_told a b c none p q = adds_in names reply _ _ a c (sym as_held) (p.0 ++ q.0, faults_held p.0 q.0 none p.1 q.1, adds_both names p.0 q.0 a b c p.2 q.2)

  module _ (s : Statement) (x : Vec (Spanned Attribute) Global) (body : CompoundStatement) (o : Option ContinuingStatement) (is : s ≡ made.Loop x body o) where
    abbrev loop_list : List (Element ℕ)
    loop_list = elements false (forest_of (trees_in body)) ++ elements true (optional_forest continuing_view o)

    as_loop : before (statement_view s) end ≡ tree (kind loop) (forest_of (attributes_tree x ∷ compound_view body ∷ optional continuing_view o ∷ [])) end
    as_loop = ap (λ t. before t end) (ap statement_view is ∙ view_loop x body o)

    pub loop_refused : (a b : Told) → (told_of_list reply false loop_list ≡ [] → ⊥) → AddsFaults names (told_of_list reply false loop_list) a b → AddsAll names reply (before (statement_view s) end) a b
    loop_refused a b some h = adds_in names reply _ _ a b (sym as_loop) (closed_refused continuing_view (kind loop) refl refl x body o a b some h)

    pub loop_told : (last : Forest) (a b c : Told) → told_of_list reply false loop_list ≡ [] → AddsAll names reply (alone (stay reply) (forest_of (trees_in body))) a b → closing (known reply) (forest_of (trees_in body)) (optional_forest continuing_view o) ≡ last → AddsAll names reply last b c
        → AddsAll names reply (before (statement_view s) end) a c
    loop_told last a b c none p is q = adds_in names reply _ _ a c (sym as_loop) (closed_told continuing_view (kind loop) refl refl x body o a b c none p (adds_in names reply last _ b c (sym is) q))

  pub last_told : (stays : Bool) (c : ContinuingStatement) (o : Option ContinuingStatement) (a b : Told) → o ≡ Some c → stays ≡ true → AddsAll names reply (before (continuing_view c) end) a b → AddsAll names reply (cond stays (optional_forest continuing_view o) end) a b
  last_told stays c o a b is e h = adds_in names reply (before (continuing_view c) end) _ a b (sym (ap (λ p. cond stays (optional_forest continuing_view p) end) is ∙ ap (λ s. cond s (before (continuing_view c) end) end) e)) h

  pub last_gone : (stays : Bool) (o : Option ContinuingStatement) (a : Told) → stays ≡ false → AddsAll names reply (cond stays (optional_forest continuing_view o) end) a a
  last_gone stays o a e = adds_in names reply end _ a a (sym (ap (λ s. cond s (optional_forest continuing_view o) end) e)) (adds_nothing names reply a)

  pub last_absent : (stays : Bool) (o : Option ContinuingStatement) (a : Told) → o ≡ None → AddsAll names reply (cond stays (optional_forest continuing_view o) end) a a
  last_absent true o a is = adds_in names reply end _ a a (sym (ap (optional_forest continuing_view) is)) (adds_nothing names reply a)
  last_absent false o a is = adds_nothing names reply a

  -- A continuing block: its `break if` holds no list.
  module _ (c : ContinuingStatement) (a b : Told) where
    abbrev pub block_body : CompoundStatement
    block_body = (out-ContinuingStatement c).body

    abbrev pub block_break : Option BreakIfStatement
    block_break = (out-ContinuingStatement c).break_if

    abbrev pub block_list : List (Element ℕ)
    block_list = elements false (forest_of (trees_in block_body)) ++ elements true (optional_forest break_if_view block_break)

    clear_break : (o : Option BreakIfStatement) (f : Forest) → AreFaults reply false (closing (known reply) f (optional_forest break_if_view o)) []
    clear_break None f = subst (λ t. AreFaults reply false t []) (sym (closing_none (known reply) f)) nothing
    clear_break (Some x) f = closing_leaf reply (break_if_view x) refl f

    break_told : (f : Forest) → AddsAll names reply (closing (known reply) f (optional_forest break_if_view block_break)) b b
    break_told f = ([], clear_break block_break f, adds_none names b)

    as_block : before (continuing_view c) end ≡ tree (kind continuing) (forest_of (attributes_tree (out-ContinuingStatement c).attributes ∷ compound_view block_body ∷ optional break_if_view block_break ∷ [])) end
    as_block = ap (λ t. before t end) (view_continuing c)

    pub block_refused : (told_of_list reply false block_list ≡ [] → ⊥) → AddsFaults names (told_of_list reply false block_list) a b → AddsAll names reply (before (continuing_view c) end) a b
    block_refused some h = adds_in names reply _ _ a b (sym as_block) (closed_refused break_if_view (kind continuing) refl refl (out-ContinuingStatement c).attributes block_body block_break a b some h)

    pub block_told : told_of_list reply false block_list ≡ [] → AddsAll names reply (alone (stay reply) (forest_of (trees_in block_body))) a b → AddsAll names reply (before (continuing_view c) end) a b
    block_told none h =
        adds_in names reply _ _ a b (sym as_block)
        (closed_told break_if_view (kind continuing) refl refl (out-ContinuingStatement c).attributes block_body block_break a b b none h (break_told (forest_of (trees_in block_body))))
