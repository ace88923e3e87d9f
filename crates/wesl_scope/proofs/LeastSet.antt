-- What is kept: the least set, and one module.
use Rattle.std.proofs.Common.{◌≡◌, ℕ, ◌<◌, Bool, true, false, List, [], length, sym, ap, ◌∙◌, subst}
use Rattle.std.specs.List.{Contains}
use Rattle.std.proofs.lemmas.List.{ext_get_or}
use Rattle.wesl_tree_names.specs.Path.{Text}
use Rattle.wesl_tree_syntax.specs.Unit.{UnitView, name_in}
use Rattle.wesl_scope_strip.specs.Declarations.{count, declared_in, referred_in, IsKept, named, nameless, reached}
use Rattle.wesl_scope.specs.Strip.{IsStripped, marked}
use Rattle.wesl_scope_strip.specs.Marks.{mark_at}
use Rattle.wesl_scope_numbers.proofs.Verdict.{same_truth}

pub one_way : (keep : List Text) (old a b : UnitView) → IsStripped keep old a → IsStripped keep old b → a.declarations ≡ b.declarations
one_way keep old a b s t =
    let lengths : length s.marks ≡ length t.marks = s.one_each ∙ sym t.one_each in
    let marks : s.marks ≡ t.marks = ext_get_or false s.marks t.marks lengths
    (λ j h. let k : j < length t.marks = subst (λ n. j < n) lengths h in
    same_truth (mark_at s.marks j) (mark_at t.marks j) (λ e. (t.least j k).1 ((s.least j h).0 e)) (λ e. (s.least j h).1 ((t.least j k).0 e))) in
    s.declarations ∙ (ap (λ ms. record { label = old.declarations.label; children = marked ms old.declarations.children }) marks ∙ sym t.declarations)

pub no_more : (u : UnitView) (keep : List Text) (S : ℕ → Bool)
    → ((j m : ℕ) → j < count u → Contains (declared_in u j) m → Contains keep (name_in u.names m) → S j ≡ true)
    → ((j : ℕ) → j < count u → declared_in u j ≡ [] → S j ≡ true)
    → ((i j m : ℕ) → j < count u → S i ≡ true → Contains (referred_in u i) m → Contains (declared_in u j) m → S j ≡ true)
    → (j : ℕ) → IsKept u keep j → S j ≡ true
no_more u keep S a b c _ (named j m l x y) = a j m l x y
no_more u keep S a b c _ (nameless j l x) = b j l x
no_more u keep S a b c _ (reached i j m l k x y) = c i j m l (no_more u keep S a b c i k) x y
