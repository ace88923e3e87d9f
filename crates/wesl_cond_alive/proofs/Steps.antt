-- Steps of the walk, one after the other.
use Rattle.std.proofs.Common.{◌≡◌, ℕ, ◌+◌, ◌<◌, ◌≤◌, false, List, [], length, get_or, drop, map, refl, ap, ◌∙◌, sym, subst, add-one, drop-cons}
use Rattle.std.proofs.lemmas.List.{drop_all}
use Rattle.wesl_tree_syntax.specs.Tree.{Tree, forest_of, before, end}
use Rattle.wesl_cond_alive.specs.Sound.{Outline}
use Rattle.wesl_cond_alive.specs.Walk.{Ahead, listed, Here, State, judged, next, places_in, walk, whole_here}
use Rattle.wesl_cond_alive.specs.Views.{here_view, spot_view, state_of}
use Rattle.wesl_cond_alive.specs.Noted.{Becomes, JudgesList, WalksAs, WalksIn, with_mark, standing_by}
use Rattle.wesl_cond_alive.specs.declared.walk.Here as code
use Rattle.wesl_cond_alive.specs.declared.walk.Walk.{Walk}

-- a tree that stands here, of which this is known
abbrev pub walked_as : Ahead → Here → State ℕ → Tree → State ℕ
walked_as ahead here s t = walk (record { here = here; ahead = ahead }) s (before t end)

-- none at all
pub none : (w : Walk) → Becomes w w (state_of w)
none w = record { noted = λ k. k; found = λ k. refl }

-- one tree more
pub next_tree : {ahead : Ahead} {here : Here} {a b c : Walk} {s : State ℕ} {t : Tree} → Becomes a b s → WalksAs ahead here b c t → Becomes a c (walked_as ahead here s t)
next_tree {ahead} {here} {a} {b} {c} {s} {t} x y = record { noted = λ k. x.noted (y.noted k); found = λ k. y.found k ∙ ap (λ u. walked_as ahead here u t) (x.found (y.noted k)) }

-- they are those over a tree
pub over : {ahead : Ahead} {a b : Walk} {s : State ℕ} {t u : Tree} (here : Here) → Becomes a b s → t ≡ u → s ≡ walked_as ahead here (state_of a) u → WalksAs ahead here a b t
over {ahead} {a} {b} here x is e = record { noted = x.noted; found = λ k. x.found k ∙ (e ∙ ap (walked_as ahead here (state_of a)) (sym is)) }

-- the steps over a node that is known to be this one
pub at : {X : Type 0} {ahead : Ahead} {here : Here} {a b : Walk} {x y : X} (view : X → Tree) → x ≡ y → WalksAs ahead here a b (view x) → WalksAs ahead here a b (view y)
at {X} {ahead} {here} {a} {b} view e w = subst (λ z. WalksAs ahead here a b (view z)) e w

-- the same in a place that is known to be this one
pub from : {ahead : Ahead} {here there : Here} {a b : Walk} {t : Tree} → here ≡ there → WalksAs ahead here a b t → WalksAs ahead there a b t
from {ahead} {here} {there} {a} {b} {t} e w = subst (λ h. WalksAs ahead h a b t) e w

-- the steps over a node in another
pub inside_of : {outer ahead : Ahead} {a b : Walk} {t u v : Tree} (here : Here) → WalksAs ahead here a b t → v ≡ u → walked_as ahead here (state_of a) t ≡ walked_as outer here (state_of a) u → WalksAs outer here a b v
inside_of {outer} {ahead} {a} here w is e = over here (next_tree (none a) w) is e

-- one identifier more
pub one_mark : {a b c : Walk} {s : State ℕ} (here : Here) (x : ℕ) → Becomes a b s → Becomes b c (with_mark here x (state_of b)) → Becomes a c (with_mark here x s)
one_mark {a} {b} {c} {s} here x p q = record { noted = λ k. p.noted (q.noted k); found = λ k. q.found k ∙ ap (with_mark here x) (p.found (q.noted k)) }

-- steps that find nothing, and others
pub one_after : {a b c : Walk} → Becomes a b (state_of a) → Becomes b c (state_of b) → Becomes a c (state_of a)
one_after p q = record { noted = λ k. p.noted (q.noted k); found = λ k. q.found k ∙ p.found (q.noted k) }

-- a list is judged after steps that find nothing
pub judged_from : {holder : ℕ} {a b c : Walk} {xs ys : List (Outline ℕ)} {places : List code.Here} → Becomes a b (state_of a) → JudgesList holder b c xs places → (c.is_refused ≡ false → xs ≡ ys) → JudgesList holder a c ys places
judged_from {holder} {a} {b} {c} {xs} {ys} {places} p j e = record {
  noted = λ k. p.noted (j.noted k);
  found = λ k. j.found k ∙ (ap (judged holder xs) (p.found (j.noted k)) ∙ ap (λ zs. judged holder zs (state_of a)) (e k));
  told = λ k. j.told k ∙ (ap (places_in holder xs) (p.found (j.noted k)) ∙ ap (λ zs. places_in holder zs (state_of a)) (e k));
}

-- ---- a loop over nodes

module _ {X : Type 0} (view : X → Tree) (here : Here) where
  -- what the walk has found after these nodes
  abbrev pub all_walked : Ahead → State ℕ → List X → State ℕ
  all_walked ahead s xs = walk (record { here = whole_here here; ahead = ahead }) s (forest_of (map view xs))

  -- as far as it has come, where these stand one after the other
  pub record Passed (aheads : ℕ → Ahead) (old new : Walk) (xs : List X) (i : ℕ) : Type 0 where
    pub noted : new.is_refused ≡ false → old.is_refused ≡ false
    pub found : new.is_refused ≡ false → all_walked (aheads 0) (state_of old) xs ≡ all_walked (aheads i) (state_of new) (drop i xs)

  pub begun : {aheads : ℕ → Ahead} {w : Walk} {xs : List X} → Passed aheads w w xs 0
  begun = record { noted = λ k. k; found = λ k. refl }

  -- the next node stands where its tree does
  pub gone_on : {aheads : ℕ → Ahead} {a b c : Walk} {xs : List X} {i : ℕ} (x : X) → i < length xs → x ≡ get_or xs i x → Passed aheads a b xs i → next (aheads i) (view x).children ≡ aheads (i + 1)
      → Becomes b c (walked_as (aheads i) (whole_here here) (state_of b) (view x)) → Passed aheads a c xs (i + 1)
  gone_on {aheads} {a} {b} {c} {xs} {i} x h is p step w = record {
    noted = λ k. p.noted (w.noted k);
    found = λ k.
        let s = walked_as (aheads i) (whole_here here) (state_of b) (view x) in
        let one : all_walked (aheads i) (state_of b) (drop i xs) ≡ all_walked (next (aheads i) (view x).children) s (drop (i + 1) xs) = rw (drop-cons xs i x h, ← is, add-one) refl in
        p.found (w.noted k) ∙ (one ∙ (ap (λ z. all_walked z s (drop (i + 1) xs)) step ∙ ap (λ u. all_walked (aheads (i + 1)) u (drop (i + 1) xs)) (sym (w.found k))));
  }

  pub all_passed : {aheads : ℕ → Ahead} {ahead : Ahead} {a b : Walk} {xs ys : List X} {i : ℕ} {t : Tree} → length xs ≤ i → xs ≡ ys → walked_as ahead here (state_of a) t ≡ all_walked (aheads 0) (state_of a) ys → Passed aheads a b xs i → WalksAs ahead here a b t
  all_passed {aheads} {ahead} {a} {b} {xs} {ys} {i} h e is p = record {
    noted = p.noted;
    found = λ k. sym (is ∙ (ap (all_walked (aheads 0) (state_of a)) (sym e) ∙ (p.found k ∙ ap (all_walked (aheads i) (state_of b)) (drop_all i xs h))));
  }

  -- a judged list is passed
  pub judged_passed : {old a b : Walk} {xs : List (Outline ℕ)} {places : List code.Here} {ys : List X} {i : ℕ} {t : Tree} → JudgesList here.set old a xs places
      → Passed (λ j. listed (drop j (map here_view places))) a b ys i → length ys ≤ i
      → walk (record { here = whole_here here; ahead = listed (places_in here.set xs (state_of old)) }) (judged here.set xs (state_of old)) (forest_of (map view ys)) ≡ walked_as (listed []) here (state_of old) t
      → WalksAs (listed []) here old b t
  judged_passed {old} {a} {b} {xs} {places} {ys} {i} {t} j p h is = record {
    noted = λ k. j.noted (p.noted k);
    found = λ k.
        let m = p.noted k in
        sym (sym is ∙ (ap (λ hs. all_walked (listed hs) (judged here.set xs (state_of old)) ys) (sym (j.told m))
        ∙ (ap (λ s. all_walked (listed (map here_view places)) s ys) (sym (j.found m))
        ∙ (p.found k ∙ ap (all_walked (listed (drop i (map here_view places))) (state_of b)) (drop_all i ys h)))));
  }

-- nodes in places that are known are passed
pub listed_passed : {X : Type 0} (view : X → Tree) (h : code.Here) (places : List code.Here) {a b : Walk} {xs : List X} {i : ℕ} → length xs ≤ i
    → Passed view (spot_view h) (λ j. listed (drop j (map here_view places))) a b xs i → WalksIn (standing_by h places) a b (forest_of (map view xs))
listed_passed view h places {a} {b} {xs} {i} le p = record {
  noted = p.noted;
  found = λ k. sym (p.found k ∙ ap (all_walked view (spot_view h) (listed (drop i (map here_view places))) (state_of b)) (drop_all i xs le));
}
