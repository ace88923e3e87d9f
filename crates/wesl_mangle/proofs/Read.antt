-- What names are read as, once one more is recorded.
use Rattle.std.proofs.Common.{◌≡◌, ◌⊎◌, Option, Some, None, Bool, true, false, cond, refl, sym, subst, inl, inr}
use Rattle.std.proofs.lemmas.Slice.Eq.{bytes_eq-Decides}
use Rattle.std.specs.Str.{bytes_eq}
use Rattle.wesl_tree_names.specs.Path.{Text, Path}
use Rattle.wesl_mangle_forms.specs.Mangler.{written_if, ReadsOn}
use Rattle.wesl_mangle.specs.Kept.{option_or}

-- what is read as the first of two, where the second is read on
either-read : (name n : Text) (item : Path × Text) (first second next : Option (Path × Text)) → (next ≡ second) ⊎ ((n ≡ name) × (next ≡ Some item))
    → (option_or first next ≡ option_or first second) ⊎ ((n ≡ name) × (option_or first next ≡ Some item))
either-read name n item (Some x) second next h = inl refl
either-read name n item None second next h = h

module _ (name : Text) (item : Path × Text) (held held2 inner inner2 : Text → Option (Path × Text)) (reads : ReadsOn name item inner inner2) where
  written : (n : Text) (is_it : Bool) → (is_it ≡ true → name ≡ n)
      → (option_or (cond is_it (Some item) (held n)) (inner2 n) ≡ option_or (held n) (inner n)) ⊎ ((n ≡ name) × (option_or (cond is_it (Some item) (held n)) (inner2 n) ≡ Some item))
  written n true it = inr (sym (it refl), refl)
  written n false it = either-read name n item (held n) (inner n) (inner2 n) (reads n)

  -- the item is written for the name
  pub reads-written : ((n : Text) → held2 n ≡ written_if true name item held n) → ReadsOn name item (λ n. option_or (held n) (inner n)) (λ n. option_or (held2 n) (inner2 n))
  reads-written is n =
      let Read : Option (Path × Text) → Type 0 = λ o. (option_or o (inner2 n) ≡ option_or (held n) (inner n)) ⊎ ((n ≡ name) × (option_or o (inner2 n) ≡ Some item)) in
      subst Read (sym (is n)) (written n (bytes_eq name n) (bytes_eq-Decides name n).0)
