-- Nodes whose parts are copied one after the other.
use Rattle.std.proofs.Common.{◌≡◌, false, true, List, [], ◌∷◌, ◌∙◌, ap, refl, sym}
use Rattle.std.specs.Prelude.{IfNone, IfOk, IfSome, None, Ok, OnSome, Option, Result, Some}
use Rattle.std.proofs.lemmas.Bool.{false≢true}
use Rattle.std.specs.Box.{box_value}
use Rattle.std.specs.Global.{Box}
use Rattle.wesl_tree_names.specs.Path.{path_view}
use Rattle.wesl_tree_names.specs.declared.path.ModulePath.{ModulePath}
use Rattle.wesl_tree_syntax.specs.Tree.{Kind, Label, Tree, assignment, branch, const_kind, forest_of, kind, let_kind, override_kind, present, statement_node}
use Rattle.wesl_tree_syntax.specs.View.{kind_tree, optional, path_tree, placed, statement_tree, statement_view}
use Rattle.wesl_tree_syntax.specs.declared.declaration.DeclarationKind.{DeclarationKind}
use Rattle.wesl_tree_syntax.specs.declared.declaration.DeclarationKind.TheVariants as kinds
use Rattle.wesl_tree_syntax.specs.declared.span.Spanned.{Spanned}
use Rattle.wesl_tree_syntax.specs.declared.statement.AssignmentOperator.{AssignmentOperator}
use Rattle.wesl_tree_syntax.specs.declared.statement.Statement.{Statement}
use Rattle.wesl_tree_copies.specs.Copied.{Copied}
use Rattle.wesl_tree_copies.specs.Renumbered.{after, after_tree, renumbered, renumbered_tree}
use Rattle.wesl_tree_copies.specs.declared.copying.Copying.{Copying}

-- some trees, copied one after the other
pub record CopiedAll (old new : Copying) (originals copies : List Tree) : Type 0 where
  pub trees : new.is_refused ≡ false → forest_of copies ≡ renumbered (forest_of originals) old.rest.now
  pub rest : new.is_refused ≡ false → new.rest.now ≡ after (forest_of originals) old.rest.now
  pub noted : new.is_refused ≡ false → old.is_refused ≡ false

pub nothing : {s : Copying} → CopiedAll s s [] []
nothing = record { trees = λ _. refl; rest = λ _. refl; noted = λ h. h }

pub then : {s m e : Copying} {t u : Tree} {ts us : List Tree} → Copied s m t u → CopiedAll m e ts us → CopiedAll s e (t ∷ ts) (u ∷ us)
then p q = record {
  trees = λ h. rw (p.tree (q.noted h), q.trees h, p.rest (q.noted h)) refl;
  rest = λ h. rw (q.rest h, p.rest (q.noted h)) refl;
  noted = λ h. p.noted (q.noted h);
}

abbrev pub labelled : Label → List Tree → Tree
labelled l ts = record { label = l; children = forest_of ts }

-- a node of such parts
pub of_kind : (k : Kind) {s e : Copying} {ts us : List Tree} → CopiedAll s e ts us → Copied s e (branch k ts) (branch k us)
of_kind k p = record { tree = λ h. ap (λ f. record { label = kind k; children = f }) (p.trees h); rest = p.rest; noted = p.noted }

pub of_assignment : (o : AssignmentOperator) {s e : Copying} {ts us : List Tree} → CopiedAll s e ts us → Copied s e (labelled (assignment o) ts) (labelled (assignment o) us)
of_assignment o p = record { tree = λ h. ap (λ f. record { label = assignment o; children = f }) (p.trees h); rest = p.rest; noted = p.noted }

-- as seen by its parts
pub seen : {s e : Copying} {t u v w : Tree} → t ≡ v → u ≡ w → Copied s e v w → Copied s e t u
seen {s} p q c = record {
  tree = λ h. q ∙ (c.tree h ∙ ap (λ z. renumbered_tree z s.rest.now) (sym p));
  rest = λ h. c.rest h ∙ ap (λ z. after_tree z s.rest.now) (sym p);
  noted = c.noted;
}

-- where memory was wanting, nothing is said
pub refused : {s e : Copying} {t u : Tree} → e.is_refused ≡ true → Copied s e t u
refused wanting = record {
  tree = λ h. absurd (false≢true (sym h ∙ wanting));
  rest = λ h. absurd (false≢true (sym h ∙ wanting));
  noted = λ h. absurd (false≢true (sym h ∙ wanting));
}

-- where it was not, nothing else changed
pub unchanged : {s m e : Copying} {t u : Tree} → e ≡ m → Copied s m t u → Copied s e t u
unchanged same c = rw same c

-- a path has no number
untouched_path : {s : Copying} (p : ModulePath) → Copied s s (path_tree p) (path_tree p)
untouched_path p = record { tree = λ _. refl; rest = λ _. refl; noted = λ h. h }

-- a node with its span
pub of_place : {A : Type 0} (view : A → Tree) (k : Kind) {s e : Copying} (x : Spanned A) (n : A) → Copied s e (view x.node) (view n) → Copied s e (placed view k x) (placed view k (record { node = n; span = x.span }))
of_place view k x n c = record { tree = λ h. rw (c.tree h) refl; rest = c.rest; noted = c.noted }

-- the copy of a path
pub copied_path : {E : Type 0} (old new : Copying) (p : ModulePath) (r : Result ModulePath E) (o : Option ModulePath)
    → IfOk r (λ q. path_view q ≡ path_view p) → IfSome o (λ q. r ≡ Ok q) → OnSome o (new ≡ old) → IfNone o (new.is_refused ≡ true)
    → Copied old new (optional path_tree (Some p)) (optional path_tree o)
copied_path old new p r None equal made same wanting = refused wanting
copied_path old new p r (Some q) equal made same wanting =
    let is : path_view q ≡ path_view p = rw made at equal in
    unchanged same (rw is (of_kind present (then (untouched_path p) nothing)))

-- a copy in a box, which was made after it
pub copied_box : {X E : Type 0} (view : X → Tree) (t : Tree) (x : X) (old middle new : Copying) (r : Result (Box X) E) (o : Option (Box X))
    → IfOk r (λ b. box_value b ≡ x) → IfSome o (λ b. r ≡ Ok b) → OnSome o (new ≡ middle) → Copied old middle t (view x)
    → IfSome o (λ b. Copied old new t (view (box_value b)))
copied_box view t x old middle new r None placed made same copied = tt
copied_box view t x old middle new r (Some b) placed made same copied =
    let is : box_value b ≡ x = rw made at placed in
    unchanged same (rw is copied)

pub optional_box : {X E : Type 0} (view : X → Tree) (b : Box X) (x : X) (old middle new : Copying) (r : Result (Box X) E) (o : Option (Box X))
    → IfOk r (λ b. box_value b ≡ x) → IfSome o (λ b. r ≡ Ok b) → OnSome o (new ≡ middle) → IfNone o (new.is_refused ≡ true) → Copied old middle (view (box_value b)) (view x)
    → Copied old new (optional (λ s. view (box_value s)) (Some b)) (optional (λ s. view (box_value s)) o)
optional_box view b x old middle new r None placed made same wanting copied = refused wanting
optional_box view b x old middle new r (Some d) placed made same wanting copied =
    let inside : Copied old new (view (box_value b)) (view (box_value d)) = copied_box view (view (box_value b)) x old middle new r (Some d) placed made same copied in
    of_kind present (then inside nothing)

-- the kind of a declaration has no number
pub untouched_kind : {s : Copying} (k : DeclarationKind) → Copied s s (kind_tree k) (kind_tree k)
untouched_kind kinds.Const = of_kind const_kind nothing
untouched_kind kinds.Override = of_kind override_kind nothing
untouched_kind kinds.Let = of_kind let_kind nothing
untouched_kind (kinds.Var None) = record { tree = λ _. refl; rest = λ _. refl; noted = λ h. h }
untouched_kind (kinds.Var (Some (a, None))) = record { tree = λ _. refl; rest = λ _. refl; noted = λ h. h }
untouched_kind (kinds.Var (Some (a, Some m))) = record { tree = λ _. refl; rest = λ _. refl; noted = λ h. h }

-- the copy of a statement that is lent out of its box, beside its span
pub lent_statement : (b : Box (Spanned Statement)) (x y : Spanned Statement) (n : Statement) (old new : Copying) → x ≡ box_value b → y ≡ box_value b → Copied old new (statement_view x.node) (statement_view n)
    → Copied old new (statement_tree (box_value b)) (statement_tree (record { node = n; span = y.span }))
lent_statement b x y n old new is same c =
    seen (ap statement_tree (sym is)) (ap (λ (z : Spanned Statement). statement_tree (record { node = n; span = z.span })) (same ∙ sym is)) (of_place statement_view statement_node x n c)
