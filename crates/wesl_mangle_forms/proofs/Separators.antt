-- A text that is cut at each separator.
use Rattle.std.proofs.Common.{◌≡◌, ◌<◌, ◌≤◌, ℕ, zero, suc, Bool, true, false, cond, [], ◌∷◌, ◌++◌, length, take, drop, Option, Some, None, MatchOption, refl, ap, sym, subst, ◌∙◌, arith}
use Rattle.std.proofs.lemmas.List.{take-append-drop}
use Rattle.std.proofs.lemmas.Slice.Eq.{bytes_eq-Decides}
use Rattle.std.proofs.lemmas.Iterator.{YieldsList}
use Rattle.std.proofs.lemmas.Iterator.Splits.{YieldsList-from_shown_while}
use Rattle.std.specs.Str.{bytes_eq}
use Rattle.std.specs.Str.Pattern.{FindsText, LacksTextAt}
use Rattle.std.specs.Str.Iter.{split_steps, split_text, split_has_more, split_pattern}
use denote.Ref.{Bor}
use Rattle.wesl_tree_names.specs.Path.{Text}
use Rattle.wesl_mangle_forms.specs.Unicode.{separator, words_after, words_of}

lacks-first : (b : Bool) (s : Text) → bytes_eq (take 4 s) separator ≡ b → LacksTextAt separator s 0 → bytes_eq (take 4 s) separator ≡ false
lacks-first true s e h =
    let t = (bytes_eq-Decides (take 4 s) separator).0 e in
    absurd (h (drop 4 s) (sym (take-append-drop 4 s) ∙ ap (λ (x : Text). x ++ drop 4 s) t))
lacks-first false s e h = e

first-word : (s : Text) (i : ℕ) (rest : Text) → ((k : ℕ) → k < i → LacksTextAt separator s k) → drop i s ≡ separator ++ rest → words_after 0 s ≡ take i s ∷ words_after 0 rest
first-word s zero rest l e = ap (words_after 0) e
first-word [] (suc i) rest l e = cc
first-word (c ∷ cs) (suc i) rest l e =
    let n = lacks-first (bytes_eq (take 4 (c ∷ cs)) separator) (c ∷ cs) refl (l 0 (omega arith)) in
    rw (n, first-word cs i rest (λ k h. l (suc k) (omega (arith, h))) e) refl

no-word : (s : Text) → ((k : ℕ) → k ≤ length s → LacksTextAt separator s k) → words_after 0 s ≡ s ∷ []
no-word [] l = refl
no-word (c ∷ cs) l =
    let n = lacks-first (bytes_eq (take 4 (c ∷ cs)) separator) (c ∷ cs) refl (l 0 (omega arith)) in
    rw (n, no-word cs (λ k h. l (suc k) (omega (arith, h)))) refl

-- what one step of `split` takes off
step-word : (w x rest : Text) (live : Bool) (o : Option (ℕ × ℕ)) → FindsText separator w o
    → MatchOption o ((x ≡ w) × (live ≡ false)) (λ q. 0 < q.1 → (x ≡ take q.0 w) × (live ≡ true) × (rest ≡ drop q.1 w)) → words_of w ≡ x ∷ cond live (words_of rest) []
step-word w x rest live None f m = no-word w f ∙ ap (λ (t : Text). t ∷ []) (sym m.0) ∙ ap (λ b. x ∷ cond b (words_of rest) []) (sym m.1)
step-word w x rest live (Some q) f m =
    let g = m (omega (arith, f.1.ends)) in
    first-word w q.0 (drop q.1 w) f.0 f.1.split
    ∙ ap (λ (t : Text). t ∷ words_of (drop q.1 w)) (sym g.0)
    ∙ ap (λ (t : Text). x ∷ words_of t) (sym g.2)
    ∙ ap (λ b. x ∷ cond b (words_of rest) []) (sym g.1)

pub YieldsList-from_text_split : {s : _} (bs : Text) → split_text {P = Bor Text} s ≡ bs → split_has_more {P = Bor Text} s ≡ true → (split_pattern {P = Bor Text} s).now ≡ separator
    → YieldsList (split_steps (λ (n : Bor Text). FindsText n.now) (λ n m. m.now ≡ n.now)) (λ x. x.now) s (words_of bs)
YieldsList-from_text_split {s} bs text more pattern =
    let shown = λ (t : _). cond (split_has_more {P = Bor Text} t) (words_of (split_text {P = Bor Text} t)) [] in
    subst (YieldsList (split_steps (λ (n : Bor Text). FindsText n.now) (λ n m. m.now ≡ n.now)) (λ x. x.now) s) (λ i. cond (more i) (words_of (text i)) [])
    (YieldsList-from_shown_while (split_steps (λ (n : Bor Text). FindsText n.now) (λ n m. m.now ≡ n.now)) (λ x. x.now) shown (λ t. (split_pattern {P = Bor Text} t).now ≡ separator)
    (λ t u h k. ap (λ b. length (cond b (words_of (split_text t)) [])) (sym k.0))
    (λ t x u h k.
    let cut = k.1.1.1 in (
      k.1.0 ∙ h,
      ap (λ b. cond b (words_of (split_text t)) []) (sym k.0) ∙ step-word (split_text t) x.now (split_text u) (split_has_more u) cut.0 (subst (λ (d : Text). FindsText d (split_text t) cut.0) h cut.1) cut.2,
    ))
    s pattern)
