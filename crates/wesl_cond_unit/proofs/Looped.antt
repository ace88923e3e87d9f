-- Faults in loops and continuing blocks, from the faults in their parts.
use Rattle.std.proofs.Common.{◌≡◌, ℕ, Bool, true, false, cond, List, [], ◌∷◌, ◌++◌, map, Option, Some, None, Result, Ok, Err, Vec, Global, refl, sym, subst}
use Rattle.wesl_cond_chains.specs.Places.{list_places}
use Rattle.wesl_cond_chains.specs.Judging.{IsClear, Checks, closing, RefusesIn}
use Rattle.wesl_cond_chains.specs.Lists.{Element, elements, alone}
use Rattle.wesl_cond_chains.specs.Nodes.{optional_forest}
use Rattle.wesl_cond_unit.proofs.Checked.{in_turn}
use Rattle.wesl_cond_unit.proofs.Closed.{closed_refused, front_refused, closed_checked, closed_front}
use Rattle.wesl_cond_unit.proofs.Standing.{stay, nothing}
use Rattle.wesl_cond_unit.proofs.Walked.{closing_none, closing_leaf}
use Rattle.wesl_cond_chains.specs.Evaluation.{Judges, Refuses}
use Rattle.wesl_cond_features.specs.Features.{Replies, known}
use Rattle.wesl_tree_names.specs.Path.{Text}
use Rattle.wesl_tree_names.specs.declared.errors.Diagnostic.{Diagnostic}
use Rattle.wesl_tree_syntax.specs.Tree.{Forest, Tree, end, kind, before, branch, forest_of, loop, continuing}
use Rattle.wesl_tree_syntax.specs.View.{attributes_tree, break_if_view, compound_view, continuing_view, optional, statement_tree}
use Rattle.wesl_tree_syntax.specs.declared.attribute.Attribute.{Attribute}
use Rattle.wesl_tree_syntax.specs.declared.span.Spanned.{Spanned}
use Rattle.wesl_tree_syntax.specs.declared.statement.BreakIfStatement.{BreakIfStatement}
use Rattle.wesl_tree_syntax.specs.declared.statement.CompoundStatement.{CompoundStatement, out-CompoundStatement}
use Rattle.wesl_tree_syntax.specs.declared.statement.ContinuingStatement.{ContinuingStatement, out-ContinuingStatement}
use Rattle.wesl_tree_syntax.proofs.Views.{view_compound, view_continuing}

module _ (reply : Replies ℕ) (names : List Text) where
  abbrev pub trees_in : CompoundStatement → List Tree
  trees_in b = map statement_tree (out-CompoundStatement b).statements.items

  abbrev pub loop_tree : Vec (Spanned Attribute) Global → CompoundStatement → Option ContinuingStatement → Tree
  loop_tree a b o = branch loop (attributes_tree a ∷ compound_view b ∷ optional continuing_view o ∷ [])

  module _ (b : CompoundStatement) (o : Option ContinuingStatement) where
    abbrev pub its_faults : List (Element ℕ)
    its_faults = elements false (forest_of (trees_in b)) ++ elements true (optional_forest continuing_view o)

    pub loop_refused : (e : Diagnostic) → Refuses names (list_places reply false its_faults) e → (a : Vec (Spanned Attribute) Global) → RefusesIn names reply (before (loop_tree a b o) end) e
    loop_refused e h a =
        subst (λ t. RefusesIn names reply (before (branch loop (attributes_tree a ∷ t ∷ optional continuing_view o ∷ [])) end) e) (sym (view_compound b))
        (closed_refused reply names continuing_view (kind loop) refl refl a (out-CompoundStatement b).attributes (trees_in b) o e h)

    pub loop_front_refused : (e : Diagnostic) → list_places reply false its_faults ≡ [] → RefusesIn names reply (alone (stay reply) (forest_of (trees_in b))) e → (a : Vec (Spanned Attribute) Global) → RefusesIn names reply (before (loop_tree a b o) end) e
    loop_front_refused e clear h a =
        subst (λ t. RefusesIn names reply (before (branch loop (attributes_tree a ∷ t ∷ optional continuing_view o ∷ [])) end) e) (sym (view_compound b))
        (front_refused reply names continuing_view (kind loop) refl refl a (out-CompoundStatement b).attributes (trees_in b) o e clear h)

    pub loop_closed : {A : Type 0} (r : Result A Diagnostic) → list_places reply false its_faults ≡ [] → IsClear reply (alone (stay reply) (forest_of (trees_in b)))
        → Checks names reply (closing (known reply) (forest_of (trees_in b)) (optional_forest continuing_view o)) r → (a : Vec (Spanned Attribute) Global) → Checks names reply (before (loop_tree a b o) end) r
    loop_closed r clear front h a =
        subst (λ t. Checks names reply (before (branch loop (attributes_tree a ∷ t ∷ optional continuing_view o ∷ [])) end) r) (sym (view_compound b))
        (closed_checked reply names continuing_view (kind loop) refl refl a (out-CompoundStatement b).attributes (trees_in b) o r clear front h)

    pub loop_in_turn : {A : Type 0} (first second third : Result A Diagnostic) (stays : Bool) → Judges names (list_places reply false its_faults) first → Checks names reply (alone (stay reply) (forest_of (trees_in b))) second
        → closing (known reply) (forest_of (trees_in b)) (optional_forest continuing_view o) ≡ cond stays (optional_forest continuing_view o) end
        → Checks names reply (cond stays (optional_forest continuing_view o) end) third → (a : Vec (Spanned Attribute) Global) → Checks names reply (before (loop_tree a b o) end) (in_turn first second third)
    loop_in_turn (Err e) second third stays p q is h = loop_refused e p
    loop_in_turn (Ok x) (Err e) third stays p q is h = loop_front_refused e p q
    loop_in_turn (Ok x) (Ok y) third stays p q is h = loop_closed third p q (subst (λ f. Checks names reply f third) (sym is) h)

  -- A continuing block: its `break if` holds no list.
  module _ (c : ContinuingStatement) where
    abbrev pub block_body : CompoundStatement
    block_body = (out-ContinuingStatement c).body

    abbrev pub block_break : Option BreakIfStatement
    block_break = (out-ContinuingStatement c).break_if

    abbrev pub block_faults : List (Element ℕ)
    block_faults = elements false (forest_of (trees_in block_body)) ++ elements true (optional_forest break_if_view block_break)

    clear_break : (o : Option BreakIfStatement) (f : Forest) → IsClear reply (closing (known reply) f (optional_forest break_if_view o))
    clear_break None f = subst (IsClear reply) (sym (closing_none (known reply) f)) (nothing reply)
    clear_break (Some x) f = closing_leaf reply (break_if_view x) refl f

    pub block_refused : (e : Diagnostic) → Refuses names (list_places reply false block_faults) e → RefusesIn names reply (before (continuing_view c) end) e
    block_refused e h =
        subst (λ t. RefusesIn names reply (before t end) e) (sym (view_continuing c))
        (subst (λ t. RefusesIn names reply (before (branch continuing (attributes_tree (out-ContinuingStatement c).attributes ∷ t ∷ optional break_if_view block_break ∷ [])) end) e) (sym (view_compound block_body))
        (closed_refused reply names break_if_view (kind continuing) refl refl (out-ContinuingStatement c).attributes (out-CompoundStatement block_body).attributes (trees_in block_body) block_break e h))

    pub block_checked : {A : Type 0} (r : Result A Diagnostic) → list_places reply false block_faults ≡ [] → Checks names reply (alone (stay reply) (forest_of (trees_in block_body))) r → Checks names reply (before (continuing_view c) end) r
    block_checked r clear h =
        subst (λ t. Checks names reply (before t end) r) (sym (view_continuing c))
        (subst (λ t. Checks names reply (before (branch continuing (attributes_tree (out-ContinuingStatement c).attributes ∷ t ∷ optional break_if_view block_break ∷ [])) end) r) (sym (view_compound block_body))
        (closed_front reply names break_if_view (kind continuing) refl refl (out-ContinuingStatement c).attributes (out-CompoundStatement block_body).attributes (trees_in block_body) block_break r clear (clear_break block_break (forest_of (trees_in block_body))) h))
