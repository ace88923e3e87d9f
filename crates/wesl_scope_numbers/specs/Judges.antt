-- What the handler that judges how names read makes of events.
use Rattle.std.specs.Prelude.{◌≡◌, ℕ, refl, false, Some, None, List, [], ◌∷◌, ◌++◌, length, Bool, Option, get_or}
use Rattle.std.proofs.Common.{sym, ap, ◌∙◌, subst}
use Rattle.wesl_scope_occurrences.specs.Occurrences.{Standing, module_name, parameter, local, reference, word}
use Rattle.wesl_scope_occurrences.specs.Walk.{Here}
use Rattle.wesl_scope_occurrences.specs.Events.{Event, begins, meets, opens, closes, ends}
use Rattle.wesl_scope_open.specs.Table.{row, outer_rows}
use Rattle.wesl_scope_open.specs.Matched.{AreMatched}
use Rattle.wesl_scope_open.proofs.Matched.{matched_first}
use Rattle.wesl_scope_numbers.specs.declared.agreed.Visible.{Visible}
use Rattle.wesl_scope_numbers.specs.Judging.{Row, Judging, seen_here, visible_again, name_at, meeting, judging, judged, apart_at, outside_at, all_below}
use Rattle.wesl_scope_numbers.specs.declared.judge.Judge.{Judge}

-- memory was not wanting
abbrev pub HasMemory : Judge → Type 0
HasMemory j = j.visible.is_refused ≡ false

-- what it knows
abbrev pub known : Judge → Judging
known j = record { visible = row j.visible; outer = outer_rows j.visible; globals = j.globals.items; declares = j.declares.items; bound = j.bound.items; outside = j.outside.items; right = j.is_right }

-- the binders in a function that a reference of number i reads here
abbrev pub read_here : Judge → Here → ℕ → Option Visible
read_here j here i = seen_here here (get_or (row j.visible) (name_at j.alike.items i) None)

-- what it knows after it has met an identifier of number i that stands so
abbrev pub after_meeting : Judge → Standing → Here → ℕ → Judging
after_meeting j r here i = meeting j.alike.items r here i (known j)

-- what it knows after the declaration of a binder of number i in a function has ended
abbrev pub after_end : Judge → Here → ℕ → Judging
after_end j here i = judging j.alike.items (known j) (ends here i)

-- what it says at the end of names of the module: whether those of imports and global declarations that are spelled alike
-- have one number
abbrev pub says_apart : Judge → Bool
says_apart j = all_below (length j.alike.items) (apart_at j.alike.items (known j))

-- what it says at the end of references that read no binder in a function: whether all of them read right
abbrev pub says_outside : Judge → Bool
says_outside j = all_below (length j.alike.items) (outside_at j.alike.items (known j))

-- it knows this now, unless memory was wanting
pub record Becomes (old new : Judge) (now : Judging) : Type 0 where
  pub noted : HasMemory new → HasMemory old
  pub alike : new.alike ≡ old.alike
  pub known_now : HasMemory new → known new ≡ now

-- what these events make of it
pub record Follows (es : List Event) (old new : Judge) : Type 0 where
  pub noted : HasMemory new → HasMemory old
  pub alike : new.alike ≡ old.alike
  pub known_now : HasMemory new → AreMatched (length (outer_rows old.visible)) es → known new ≡ judged old.alike.items (known old) es

-- ---- laws
judged_both : (alike : List ℕ) (s : Judging) (es fs : List Event) → judged alike s (es ++ fs) ≡ judged alike (judged alike s es) fs
judged_both alike s [] fs = refl
judged_both alike s (e ∷ es) fs = judged_both alike (judging alike s e) es fs

still_open : (alike : List ℕ) (s : Judging) (r : Standing) (here : Here) (i : ℕ) → (meeting alike r here i s).outer ≡ s.outer
still_open alike s module_name here i = refl
still_open alike s parameter here i = refl
still_open alike s (local e) here i = refl
still_open alike s (reference None) here i = refl
still_open alike s (reference (Some y)) here i = refl
still_open alike s word here i = refl

matched_judged : (alike : List ℕ) (es fs : List Event) (s : Judging) → AreMatched (length s.outer) (es ++ fs) → AreMatched (length (judged alike s es).outer) fs
matched_judged alike [] fs s h = h
matched_judged alike (begins ∷ es) fs s h = matched_judged alike es fs s h
matched_judged alike (meets here r i ∷ es) fs s h = matched_judged alike es fs (meeting alike r here i s) (subst (λ os. AreMatched (length os) (es ++ fs)) (sym (still_open alike s r here i)) h)
matched_judged alike (opens ∷ es) fs s h = matched_judged alike es fs (judging alike s opens) h
matched_judged alike (closes ∷ es) fs s h = matched_judged alike es fs (visible_again s.outer s) (by s.outer h)
  where
    by : (rs : List Row) → AreMatched (length rs) (closes ∷ (es ++ fs)) → AreMatched (length (visible_again rs s).outer) (es ++ fs)
    by [] g = absurd g
    by (r ∷ rs) g = g
matched_judged alike (ends here i ∷ es) fs s h = matched_judged alike es fs (judging alike s (ends here i)) h

-- without events nothing changes
pub follows_none : (j : Judge) → Follows [] j j
follows_none j = record { noted = λ k. k; alike = refl; known_now = λ k m. refl }

-- where some events make b of a, and others c of b, all of them, one after the other, make c of a
pub follows_more : (es fs : List Event) (a b c : Judge) → Follows es a b → Follows fs b c → Follows (es ++ fs) a c
follows_more es fs a b c x y = record {
  noted = λ k. x.noted (y.noted k);
  alike = y.alike ∙ x.alike;
  known_now = λ k m.
      let first = x.known_now (y.noted k) (matched_first (length (outer_rows a.visible)) es fs m) in
      let rest = subst (λ s. AreMatched (length s.outer) fs) (sym first) (matched_judged a.alike.items es fs (known a) m) in
      y.known_now k rest
      ∙ (ap (λ v. judged v.items (known b) fs) x.alike
      ∙ (ap (λ s. judged a.alike.items s fs) first ∙ sym (judged_both a.alike.items (known a) es fs)));
}
