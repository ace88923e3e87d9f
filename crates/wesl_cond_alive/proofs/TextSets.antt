-- Borrowed texts in order, each once, and one more.
use Rattle.std.proofs.Common.{◌≡◌, Bool, true, false, List, [], ◌∷◌, ◌++◌, ◌||◌, Bor, refl, sym, ap, ◌∙◌, bytes_eq, if◌then◌else◌}
use Rattle.std.specs.List.{list_any}
use Rattle.std.proofs.lemmas.Bool.{false≢true}
use Rattle.std.proofs.lemmas.Slice.Eq.{bytes_eq-Decides}
use Rattle.wesl_tree_base.specs.Borrowed.{texts}
use Rattle.wesl_tree_names.specs.Path.{Text}
use Rattle.wesl_cond_alive.specs.Choices.{among, with_text}

swapped : (a b : Text) → bytes_eq a b ≡ bytes_eq b a
swapped a b = by (bytes_eq a b) (bytes_eq b a) refl refl
  where
    by : (s t : Bool) → bytes_eq a b ≡ s → bytes_eq b a ≡ t → s ≡ t
    by true true e f = refl
    by false false e f = refl
    by true false e f = absurd (false≢true (sym f ∙ (bytes_eq-Decides b a).1 (sym ((bytes_eq-Decides a b).0 e))))
    by false true e f = absurd (false≢true (sym e ∙ (bytes_eq-Decides a b).1 (sym ((bytes_eq-Decides b a).0 f))))

pub with_key : (seen now : List (Bor Text)) (key : Bor Text) → now ≡ (if list_any (λ k. bytes_eq key.now k.now) seen then seen else seen ++ key ∷ []) → texts now ≡ with_text key.now (texts seen)
with_key seen now key e = ap texts e ∙ by (list_any (λ k. bytes_eq key.now k.now) seen) (among key.now (texts seen)) (same seen)
  where
    same : (ks : List (Bor Text)) → list_any (λ k. bytes_eq key.now k.now) ks ≡ among key.now (texts ks)
    same [] = refl
    same (k ∷ ks) = ap (λ t. bytes_eq key.now k.now || t) (same ks) ∙ ap (λ t. t || among key.now (texts ks)) (swapped key.now k.now)

    pushed : (ks : List (Bor Text)) → texts (ks ++ key ∷ []) ≡ texts ks ++ key.now ∷ []
    pushed [] = refl
    pushed (k ∷ ks) = ap (λ ns. k.now ∷ ns) (pushed ks)

    by : (s t : Bool) → s ≡ t → texts (if s then seen else seen ++ key ∷ []) ≡ (if t then texts seen else texts seen ++ key.now ∷ [])
    by true t e = ap (λ b. if b then texts seen else texts seen ++ key.now ∷ []) e
    by false t e = pushed seen ∙ ap (λ b. if b then texts seen else texts seen ++ key.now ∷ []) e
