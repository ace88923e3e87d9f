-- Runs over a list that is gone through by an index.
use Rattle.std.proofs.Common.{◌≡◌, ℕ, ◌+◌, ◌<◌, List, [], ◌∷◌, ◌++◌, length, get_or, take, drop, Result, Ok, Err, IfErr, Bor, refl, sym, ap, ◌∙◌, subst}
use Rattle.std.proofs.lemmas.List.{take_more, map-append, take-append-drop}
use Rattle.wesl_tree_syntax.specs.Tree.{Tree}
use Rattle.wesl_visit_collect.specs.Lent.{views}
use Rattle.wesl_visit.specs.Run.{Run, still, next, Begun}

-- what is met is what is to be met
pub all_met : {X : Type 0} (view : X → Tree) (xs ys : List (Bor X)) (zs ws : List Tree) → xs ≡ ys → views view ys ≡ zs → zs ≡ ws → views view xs ≡ ws
all_met view xs ys zs ws e f h = ap (views view) e ∙ f ∙ h

run_push : {S X : Type 0} {Steps : S → X → S → Type 0} {xs : List X} {x : X} {a b c : S} → Run Steps xs a b → Steps b x c → Run Steps (xs ++ x ∷ []) a c
run_push still s = next s still
run_push (next t r) s = next t (run_push r s)

pub run_more : {S X : Type 0} (Steps : S → Tree → S → Type 0) (view : X → Tree) (xs : List (Bor X)) (i : ℕ) (x : Bor X) (a b c : S) → i < length xs → x ≡ get_or xs i x
    → Run Steps (views view (take i xs)) a b → Steps b (view x.now) c → Run Steps (views view (take (i + 1) xs)) a c
run_more Steps view xs i x a b c h e r s =
    let more : views view (take (i + 1) xs) ≡ views view (take i xs) ++ view x.now ∷ [] = ap (views view) (take_more xs i x h) ∙ map-append (λ y. view y.now) (take i xs) (get_or xs i x ∷ []) ∙ ap (λ y. views view (take i xs) ++ view y.now ∷ []) (sym e) in
    subst (λ ys. Run Steps ys a c) (sym more) (run_push r s)

pub begun_by : {S X : Type 0} (Steps : S → Tree → S → Type 0) (Unchanged : S → S → Type 0) (view : X → Tree) (xs : List (Bor X)) (i : ℕ) (ys : List Tree) (a b c : S) → views view xs ≡ ys
    → Run Steps (views view (take i xs)) a b → Unchanged b c → Begun Steps Unchanged ys a c
begun_by Steps Unchanged view xs i ys a b c e r u = record {
  done = views view (take i xs);
  left = views view (drop i xs);
  whole = sym e ∙ ap (views view) (sym (take-append-drop i xs)) ∙ map-append (λ y. view y.now) (take i xs) (drop i xs);
  last = b;
  run = r;
  unchanged = u;
}

pub on_err : {X E P : Type 0} (r : Result X E) → P → IfErr r (λ _. P)
on_err (Ok x) p = tt
on_err (Err e) p = p

pub begun_none : {S X : Type 0} (Steps : S → X → S → Type 0) (Unchanged : S → S → Type 0) (xs : List X) (a : S) → Unchanged a a → Begun Steps Unchanged xs a a
begun_none Steps Unchanged xs a u = record { done = []; left = xs; whole = refl; last = a; run = still; unchanged = u }
