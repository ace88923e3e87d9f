-- What is told of some trees, by what is told of their parts.
use Rattle.std.proofs.Common.{◌≡◌, ℕ, Bool, true, false, List, [], ◌++◌, Result, Ok, Err, is_ok, sym, subst, append_assoc, append-nil}
use Rattle.wesl_cond_chains.specs.Evaluation.{Judges, Refuses}
use Rattle.wesl_cond_chains.specs.Faults.{list_at}
use Rattle.wesl_cond_chains.specs.FormulaFaults.{IsAmong}
use Rattle.wesl_cond_chains.specs.Lists.{Element, judged, is_entered, holds_body}
use Rattle.wesl_cond_features.specs.Features.{Replies}
use Rattle.wesl_cond_faults.proofs.Alike.{clear_refused, clear_told}
use Rattle.wesl_cond_faults.proofs.Listing.{stay, joined, own_alone, inside_alone, leaf_alone}
use Rattle.wesl_cond_faults.specs.Listed.{AreFaults, nothing}
use Rattle.wesl_cond_chains.specs.Places.{Place, list_places}
use Rattle.wesl_cond_faults.specs.Places.{told_of_list}
use Rattle.wesl_cond_faults.specs.Telling.{AddsFaults, AddsAll, IsTold}
use Rattle.wesl_cond_faults.specs.declared.told.Told.{Told}
use Rattle.wesl_tree_names.specs.Path.{Text}
use Rattle.wesl_tree_names.specs.declared.errors.Diagnostic.{Diagnostic}
use Rattle.wesl_tree_syntax.specs.Tree.{Label, Forest, Tree, end, tree, before}
use Rattle.wesl_cond_unit.proofs.Whole.{not_outside}

-- A list that was judged has no fault, or one.
module _ (names : List Text) where
  -- a list that was refused has a fault
  has_some : (fs : List (Place ℕ)) (told : Diagnostic) → Refuses names fs told → fs ≡ [] → ⊥
  has_some fs told h none = subst (IsAmong h.0) none h.1

  pub refused_some : (reply : Replies ℕ) (xs : List (Element ℕ)) (told : Diagnostic) → Refuses names (list_places reply false xs) told → told_of_list reply false xs ≡ [] → ⊥
  refused_some reply xs told h none = has_some (list_places reply false xs) told h (clear_refused reply false xs none)

  clear_judged : {A : Type 0} (fs : List (Place ℕ)) (r : Result A Diagnostic) (b : Bool) → Judges names fs r → b ≡ is_ok r → b ≡ true → fs ≡ []
  clear_judged fs (Ok x) b h e t = h
  clear_judged fs (Err d) b h e t = absurd (not_outside b t e)

  some_judged : {A : Type 0} (fs : List (Place ℕ)) (r : Result A Diagnostic) (b : Bool) → Judges names fs r → b ≡ is_ok r → b ≡ false → fs ≡ [] → ⊥
  some_judged fs (Ok x) b h e d none = not_outside b e d
  some_judged fs (Err told) b h e d none = has_some fs told h none

  module _ {A : Type 0} (reply : Replies ℕ) (xs : List (Element ℕ)) (r : Result A Diagnostic) (b : Bool) where
    pub clear_if : Judges names (list_places reply false xs) r → b ≡ is_ok r → b ≡ true → told_of_list reply false xs ≡ []
    clear_if h e t = clear_told reply false xs (clear_judged (list_places reply false xs) r b h e t)

    pub some_if : Judges names (list_places reply false xs) r → b ≡ is_ok r → b ≡ false → told_of_list reply false xs ≡ [] → ⊥
    some_if h e d none = some_judged (list_places reply false xs) r b h e d (clear_refused reply false xs none)

module _ (names : List Text) where
  pub adds_none : (a : Told) → AddsFaults names [] a a
  adds_none a = λ first h. subst (λ ps. IsTold names ps a) (sym (append-nil first)) h

  pub adds_both : (ps qs : List (Place ℕ)) (a b c : Told) → AddsFaults names ps a b → AddsFaults names qs b c → AddsFaults names (ps ++ qs) a c
  adds_both ps qs a b c p q = λ first h. subst (λ rs. IsTold names rs c) (append_assoc first ps qs) (q (first ++ ps) (p first h))

  pub adds_same : (ps qs : List (Place ℕ)) (a b : Told) → ps ≡ qs → AddsFaults names ps a b → AddsFaults names qs a b
  adds_same ps qs a b e h = subst (λ rs. AddsFaults names rs a b) e h

  module _ (reply : Replies ℕ) where
    pub adds_nothing : (a : Told) → AddsAll names reply end a a
    adds_nothing a = ([], nothing, adds_none a)

    pub adds_then : (t : Tree) (o : Forest) (a b c : Told) → AddsAll names reply (before t end) a b → AddsAll names reply o b c → AddsAll names reply (before t o) a c
    adds_then t o a b c p q = (p.0 ++ q.0, joined reply false t.label t.children o p.0 q.0 p.1 q.1, adds_both p.0 q.0 a b c p.2 q.2)

    -- a first tree without a fault
    pub adds_past : (t : Tree) (o : Forest) (a b : Told) → AreFaults reply false (before t end) [] → AddsAll names reply o a b → AddsAll names reply (before t o) a b
    adds_past t o a b clear h = (h.0, joined reply false t.label t.children o [] h.0 clear h.1, h.2)

    pub adds_skip : (t : Tree) (o : Forest) (a b : Told) → is_entered t.label ≡ false → AddsAll names reply o a b → AddsAll names reply (before t o) a b
    adds_skip t o a b e h = adds_past t o a b (leaf_alone reply false t.label t.children e) h

    -- the list of a node has a fault
    pub adds_own : (l : Label) (c : Forest) (a b : Told) → is_entered l ≡ true → (told_of_list reply false (list_at false l c) ≡ [] → ⊥) → AddsFaults names (told_of_list reply false (list_at false l c)) a b → AddsAll names reply (tree l c end) a b
    adds_own l c a b en some h = (told_of_list reply false (list_at false l c), own_alone reply false l c en some, h)

    -- it has none
    pub adds_inside : (l : Label) (c : Forest) (a b : Told) → is_entered l ≡ true → told_of_list reply false (list_at false l c) ≡ [] → holds_body false l ≡ false → AddsAll names reply (judged (stay reply) false l c) a b → AddsAll names reply (tree l c end) a b
    adds_inside l c a b en none apart h =
        (h.0, inside_alone reply false l c h.0 en none (subst (λ held. AreFaults reply held (judged (stay reply) false l c) h.0) (sym apart) h.1), h.2)

    pub adds_in : (s t : Forest) (a b : Told) → s ≡ t → AddsAll names reply s a b → AddsAll names reply t a b
    adds_in s t a b e h = subst (λ r. AddsAll names reply r a b) e h

    -- Faults of the whole of which those of the rest are still to be told.
    abbrev pub Owes : Forest → Told → Told → Forest → Type 0
    Owes whole a b rest = (ps : List (Place ℕ)) × AddsFaults names ps a b × ((qs : List (Place ℕ)) → AreFaults reply false rest qs → AreFaults reply false whole (ps ++ qs))

    pub owes_all : (whole rest : Forest) (a : Told) → whole ≡ rest → Owes whole a a rest
    owes_all whole rest a e = ([], adds_none a, λ qs h. subst (λ t. AreFaults reply false t qs) (sym e) h)

    pub owes_same : (whole rest more : Forest) (a b : Told) → rest ≡ more → Owes whole a b rest → Owes whole a b more
    owes_same whole rest more a b e h = subst (Owes whole a b) e h

    pub owes_next : (whole : Forest) (t : Tree) (o : Forest) (a b c : Told) → Owes whole a b (before t o) → AddsAll names reply (before t end) b c → Owes whole a c o
    owes_next whole t o a b c h k =
        (h.0 ++ k.0, adds_both h.0 k.0 a b c h.1 k.2, λ qs f. subst (AreFaults reply false whole) (sym (append_assoc h.0 k.0 qs)) (h.2 (k.0 ++ qs) (joined reply false t.label t.children o k.0 qs k.1 f)))

    pub owes_none : (whole : Forest) (a b : Told) → Owes whole a b end → AddsAll names reply whole a b
    owes_none whole a b h = (h.0, subst (AreFaults reply false whole) (append-nil h.0) (h.2 [] nothing), h.1)
