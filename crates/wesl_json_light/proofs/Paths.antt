-- The paths of trees, in parts.
use Rattle.std.proofs.Common.{◌≡◌, Bool, List, [], ◌∷◌, ◌++◌, All, suc, arith, refl, sym, subst}
use Rattle.wesl_tree_names.specs.Path.{Path}
use Rattle.wesl_tree_syntax.specs.Tree.{ForestOf, end, tree, kind, at, ident, text, texts, truth, unary, binary, assignment, space, access, path}
use Rattle.wesl_tree_syntax.specs.Shown.{shown_forest}
use Rattle.wesl_json_form.specs.Schema.{SpelledLabel, SpelledForest}
use Rattle.wesl_json_light.specs.Readable.{HasText, paths}

abbrev pub Each : List Path → Type 0
Each [] = Unit {0}
Each (x ∷ xs) = HasText x × Each xs

abbrev pub HaveTexts : SpelledForest → Type 0
HaveTexts ts = Each (paths ts)

pub each : (xs : List Path) → All HasText xs → Each xs
each [] h = tt
each (x ∷ xs) h = (h 0 x (omega arith), each xs (λ k d low. h (suc k) d (omega arith)))

both : (xs ys : List Path) → Each (xs ++ ys) → Each xs × Each ys
both [] ys h = (tt, h)
both (x ∷ xs) ys h = let r = both xs ys h.1 in ((h.0, r.0), r.1)

pub padded : (xs : List Path) → Each xs → Each (xs ++ [])
padded [] h = tt
padded (x ∷ xs) h = (h.0, padded xs h.1)

-- a tree alone, what is below it, and those after it
pub record Parts (l : SpelledLabel) (c o : SpelledForest) : Type 0 where
  pub alone : HaveTexts (tree l c end)
  pub below : HaveTexts c
  pub after : HaveTexts o

plain : (l : SpelledLabel) (c o : SpelledForest) → ((x : SpelledForest) → paths (tree l c x) ≡ (paths c ++ paths x)) → HaveTexts (tree l c o) → Parts l c o
plain l c o same h =
    let r = both (paths c) (paths o) (subst (λ z. Each z) (same o) h) in
    record { alone = subst (λ z. Each z) (sym (same end)) (padded (paths c) r.0); below = r.0; after = r.1 }

pub parts : (l : SpelledLabel) (c o : SpelledForest) → HaveTexts (tree l c o) → Parts l c o
parts (path p) c o h = let r = both (paths c) (paths o) h.1 in record { alone = (h.0, padded (paths c) r.0); below = r.0; after = r.1 }
parts (kind k) c o h = plain (kind k) c o (λ x. refl) h
parts (at k s e) c o h = plain (at k s e) c o (λ x. refl) h
parts (ident r i) c o h = plain (ident r i) c o (λ x. refl) h
parts (text x) c o h = plain (text x) c o (λ y. refl) h
parts (texts xs) c o h = plain (texts xs) c o (λ x. refl) h
parts (truth b) c o h = plain (truth b) c o (λ x. refl) h
parts (unary x) c o h = plain (unary x) c o (λ y. refl) h
parts (binary x) c o h = plain (binary x) c o (λ y. refl) h
parts (assignment x) c o h = plain (assignment x) c o (λ y. refl) h
parts (space x) c o h = plain (space x) c o (λ y. refl) h
parts (access x) c o h = plain (access x) c o (λ y. refl) h

module _ {I J : Type 0} (spans : Bool) (f : I → J) where
  -- showing spans or leaving them out changes no path
  pub paths_shown : (ts : ForestOf I) → paths ts ≡ paths (shown_forest spans f ts)
  paths_shown end = refl
  paths_shown (tree (path p) children others) = rw (paths_shown children, paths_shown others) refl
  paths_shown (tree (kind k) children others) = rw (paths_shown children, paths_shown others) refl
  paths_shown (tree (at k s e) children others) = rw (paths_shown children, paths_shown others) refl
  paths_shown (tree (ident r i) children others) = rw (paths_shown children, paths_shown others) refl
  paths_shown (tree (text x) children others) = rw (paths_shown children, paths_shown others) refl
  paths_shown (tree (texts xs) children others) = rw (paths_shown children, paths_shown others) refl
  paths_shown (tree (truth b) children others) = rw (paths_shown children, paths_shown others) refl
  paths_shown (tree (unary o) children others) = rw (paths_shown children, paths_shown others) refl
  paths_shown (tree (binary o) children others) = rw (paths_shown children, paths_shown others) refl
  paths_shown (tree (assignment o) children others) = rw (paths_shown children, paths_shown others) refl
  paths_shown (tree (space s) children others) = rw (paths_shown children, paths_shown others) refl
  paths_shown (tree (access a) children others) = rw (paths_shown children, paths_shown others) refl
