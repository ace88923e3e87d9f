-- Where no numbers are given, each identifier keeps its own.
use Rattle.std.proofs.Common.{◌≡◌, false, [], refl, ◌∙◌, ap}
use Rattle.std.specs.Prelude.{Err, IfOk, Ok, OnOk, Result}
use Rattle.wesl_tree_syntax.specs.Tree.{Label, Forest, Tree, end, tree, kind, at, ident, text, texts, truth, unary, binary, assignment, space, access, path}
use Rattle.wesl_tree_copies.specs.Copied.{Copied}
use Rattle.wesl_tree_copies.specs.Renumbered.{relabelled, left, after, after_tree, renumbered, renumbered_tree}
use Rattle.wesl_tree_copies.specs.declared.copying.Copying.{Copying}

label_kept : (l : Label) → relabelled l [] ≡ l
label_kept (kind k) = refl
label_kept (at k i j) = refl
label_kept (ident r x) = refl
label_kept (text y) = refl
label_kept (texts y) = refl
label_kept (truth y) = refl
label_kept (unary y) = refl
label_kept (binary y) = refl
label_kept (assignment y) = refl
label_kept (space y) = refl
label_kept (access y) = refl
label_kept (path y) = refl

none_left : (l : Label) → left l [] [] ≡ []
none_left (kind k) = refl
none_left (at k i j) = refl
none_left (ident r x) = refl
none_left (text y) = refl
none_left (texts y) = refl
none_left (truth y) = refl
none_left (unary y) = refl
none_left (binary y) = refl
none_left (assignment y) = refl
none_left (space y) = refl
none_left (access y) = refl
none_left (path y) = refl

none_after : (f : Forest) → after f [] ≡ []
none_after end = refl
none_after (tree l children others) = ap (λ ns. after others (left l [] ns)) (none_after children) ∙ (ap (after others) (none_left l) ∙ none_after others)

-- the parts of a tree
made_of : (l m : Label) (a b c d : Forest) → l ≡ m → a ≡ b → c ≡ d → tree l a c ≡ tree m b d
made_of l m a b c d p q r = rw (p, q, r) refl

kept : (f : Forest) → renumbered f [] ≡ f
kept end = refl
kept (tree l children others) =
    made_of _ _ _ _ _ _ (label_kept l) (kept children)
    (ap (λ ns. renumbered others (left l [] ns)) (none_after children) ∙ (ap (renumbered others) (none_left l) ∙ kept others))

tree_kept : (t : Tree) → renumbered_tree t [] ≡ t
tree_kept t = rw (label_kept t.label, kept t.children) refl

-- so a copy is equal
pub equal_copy : {old new : Copying} {t c : Tree} → old.rest.now ≡ [] → Copied old new t c → new.is_refused ≡ false → c ≡ t
equal_copy {old} {new} {t} none copied noted = copied.tree noted ∙ (ap (renumbered_tree t) none ∙ tree_kept t)

-- and none are left after it
pub none_given : {old new : Copying} {t c : Tree} → old.rest.now ≡ [] → Copied old new t c → new.is_refused ≡ false → new.rest.now ≡ []
none_given {old} {new} {t} none copied noted = copied.rest noted ∙ (ap (after_tree t) none ∙ (ap (left t.label []) (none_after t.children) ∙ none_left t.label))

-- as it is answered at the end
pub equal_copies : {X E : Type 0} (view : X → Tree) {old new : Copying} {t : Tree} {c : X} (r : Result X E) → old.rest.now ≡ [] → Copied old new t (view c) → IfOk r (λ d. d ≡ c) → OnOk r (new.is_refused ≡ false) → IfOk r (λ d. view d ≡ t)
equal_copies view (Err e) none copied given noted = tt
equal_copies view (Ok d) none copied given noted = ap view given ∙ equal_copy none copied noted
