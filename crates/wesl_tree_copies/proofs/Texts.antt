-- Texts, copied one after the other.
use Rattle.std.proofs.Common.{◌≡◌, false, ℕ, ◌+◌, ◌<◌, ◌≤◌, List, [], ◌∷◌, ◌++◌, length, get_or, map, take, string_bytes, sym, ◌∙◌, ap}
use Rattle.std.proofs.lemmas.List.{map-append, take_all, take_more}
use Rattle.std.specs.Prelude.{String, Vec}
use Rattle.std.specs.declared.alloc.Global.{Global}
use Rattle.wesl_tree_names.specs.Path.{Text}
use Rattle.wesl_tree_syntax.specs.Tree.{Label, Tree, leaf, text, texts}
use Rattle.wesl_tree_syntax.specs.View.{names_tree, text_tree}
use Rattle.wesl_tree_copies.specs.Copied.{Copied}
use Rattle.wesl_tree_copies.specs.declared.copying.Copying.{Copying}

abbrev written : Label → Text
written (text y) = y
written l = []

-- The copies `cs` of the first `i` texts.
pub record TextsSoFar (old new : Copying) (xs : List (String Global)) (i : ℕ) (cs : List (String Global)) : Type 0 where
  pub copied : new.is_refused ≡ false → map string_bytes cs ≡ map string_bytes (take i xs)
  pub rest : new.is_refused ≡ false → new.rest.now ≡ old.rest.now
  pub noted : new.is_refused ≡ false → old.is_refused ≡ false

pub no_texts : (old new : Copying) (xs cs : List (String Global)) → cs ≡ [] → (new.is_refused ≡ false → new ≡ old) → TextsSoFar old new xs 0 cs
no_texts old new xs cs none same = record {
  copied = λ h. ap (map string_bytes) none;
  rest = λ h. ap (λ (s : Copying). s.rest.now) (same h);
  noted = λ h. sym (ap (λ (s : Copying). s.is_refused) (same h)) ∙ h;
}

next_texts : (cs ds xs : List (String Global)) (i : ℕ) (x c : String Global) → i < length xs → x ≡ get_or xs i x → ds ≡ cs ++ c ∷ [] → string_bytes c ≡ string_bytes x
    → map string_bytes cs ≡ map string_bytes (take i xs) → map string_bytes ds ≡ map string_bytes (take (i + 1) xs)
next_texts cs ds xs i x c inside is grown same so =
    ap (map string_bytes) grown
    ∙ (map-append string_bytes cs (c ∷ [])
    ∙ (ap (λ ys. ys ++ string_bytes c ∷ []) so
    ∙ (ap (λ y. map string_bytes (take i xs) ++ y ∷ []) same
    ∙ (sym (map-append string_bytes (take i xs) (x ∷ []))
    ∙ ap (map string_bytes) (ap (λ y. take i xs ++ y ∷ []) is ∙ sym (take_more xs i x inside))))))

-- one more copy, which is added to the list
pub one_more_text : {old s m new : Copying} {xs cs ds : List (String Global)} {i : ℕ} (x c : String Global) → i < length xs → x ≡ get_or xs i x → TextsSoFar old s xs i cs → Copied s m (text_tree x) (text_tree c)
    → (new.is_refused ≡ false → new ≡ m) → (new.is_refused ≡ false → ds ≡ cs ++ c ∷ []) → TextsSoFar old new xs (i + 1) ds
one_more_text {old} {s} {m} {new} {xs} {cs} {ds} {i} x c inside is so copy same grown =
    let before_it = λ (h : new.is_refused ≡ false). sym (ap (λ (t : Copying). t.is_refused) (same h)) ∙ h in
    record {
      copied = λ h. next_texts cs ds xs i x c inside is (grown h) (ap (λ (t : Tree). written t.label) (copy.tree (before_it h))) (so.copied (copy.noted (before_it h)));
      rest = λ h. ap (λ (t : Copying). t.rest.now) (same h) ∙ (copy.rest (before_it h) ∙ so.rest (copy.noted (before_it h)));
      noted = λ h. so.noted (copy.noted (before_it h));
    }

-- all copies
pub all_texts : {old new : Copying} {ys : List (String Global)} {i : ℕ} (xs cs : Vec (String Global) Global) → TextsSoFar old new ys i cs.items → ys ≡ xs.items → length ys ≤ i → Copied old new (names_tree xs) (names_tree cs)
all_texts {old} {new} {ys} {i} xs cs so is past = record {
  tree = λ h. ap (λ ts. leaf (texts ts)) (so.copied h ∙ ap (map string_bytes) (take_all i ys past ∙ is));
  rest = so.rest;
  noted = so.noted;
}
