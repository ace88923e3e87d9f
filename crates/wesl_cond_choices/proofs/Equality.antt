-- `==` of two sets of choices tells whether they are one.
use Rattle.std.proofs.Common.{◌≡◌, ◌∙◌, ℕ, Bool, true, ◌&&◌, nat_eq, arith, subst}
use Rattle.std.proofs.lemmas.Bool.{and_from, and_parts}
use Rattle.std.proofs.lemmas.Slice.Eq.{bytes_eq-Decides}
use Rattle.std.specs.Prelude.{bytes_eq}
use Rattle.wesl_cond_choices.specs.Choices.{Choices}
use Rattle.wesl_cond_choices.specs.Equality.{Equality, choices_eq}

pub equality_holds : Equality
equality_holds a b =
    let words = bytes_eq-Decides a.words b.words in (
      λ e.
          let parts = and_parts (nat_eq a.flags b.flags) (bytes_eq a.words b.words) e in
          let f : a.flags ≡ b.flags = grind (arith, parts.0) in
          let w : a.words ≡ b.words = words.0 parts.1 in
          λ i. record { flags = f i; words = w i },
      λ e. subst (λ (c : Choices). choices_eq a c ≡ true) e (and_from (nat_eq a.flags a.flags) (bytes_eq a.words a.words) (grind arith) ((bytes_eq-Decides a.words a.words).1 (λ i. a.words))),
    )
