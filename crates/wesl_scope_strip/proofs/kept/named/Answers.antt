use Rattle.std.proofs.Common.{◌≡◌, ℕ, zero, suc, ◌+◌, ◌<◌, Bool, List, [], ◌∷◌, ◌++◌, length, ap, subst, sym, ◌∙◌, arith}
use Rattle.std.proofs.lemmas.List.{length-append}
use Rattle.wesl_scope_strip.specs.Marks.{mark_at}
use Rattle.wesl_scope_strip.specs.Sets.{is_text_of}
use Rattle.wesl_scope_strip.proofs.kept.named.Goals as goal

-- one more mark, at the end
pushed : (test : ℕ → Bool) (old : List Bool) (b : Bool) → ((m : ℕ) → m < length old → mark_at old m ≡ test m) → b ≡ test (length old) → (m : ℕ) → m < length old + 1 → mark_at (old ++ b ∷ []) m ≡ test m
pushed test [] b h at zero lt = at
pushed test [] b h at (suc m) lt = absurd (omega (arith, lt))
pushed test (x ∷ xs) b h at zero lt = h zero (omega arith)
pushed test (x ∷ xs) b h at (suc m) lt = pushed (λ k. test (suc k)) xs b (λ k l. h (suc k) (omega (arith, l))) at m (omega (arith, lt))

next : (test : ℕ → Bool) (old new : List Bool) (i : ℕ) (b : Bool) → length old ≡ i → ((m : ℕ) → m < i → mark_at old m ≡ test m) → new ≡ old ++ b ∷ [] → b ≡ test i → (m : ℕ) → m < i + 1 → mark_at new m ≡ test m
next test old new i b len h e at m lt =
    subst (λ ms. mark_at ms m ≡ test m) (sym e)
    (pushed test old b (λ k l. h k (subst (λ n. k < n) len l)) (subst (λ n. b ≡ test n) (sym len) at) m (subst (λ n. m < n + 1) (sym len) lt))

pub loop-i-preserved : goal.loop-i-preserved
loop-i-preserved c = record {
  all = ap length c.in_ok-push.ensures.items ∙ length-append c.loop-i.wanted.items (c.contains.result ∷ []) ∙ ap (λ n. n + 1) c.loop-i.invariant.all;
  marked =
      next _ c.loop-i.wanted.items c.push.new.self.items c.loop-i.i c.contains.result c.loop-i.invariant.all c.loop-i.invariant.marked c.in_ok-push.ensures.items
      (c.contains.ensures ∙ c.in_ok-kept.ensures c.name.result ∙ ap (is_text_of c.args.keep.now) c.name.ensures);
}
