use Rattle.std.proofs.Common.{◌+◌, ℕ, Option, Some, length, subst, sym, ap, ◌∙◌, refl, arith}
use Rattle.std.proofs.lemmas.Option.{slice_get_read}
use Rattle.wesl_tree_names.specs.Path.{path_view}
use Rattle.wesl_resolve.proofs.RouteLemmas.{IsBest, IsBest-other, IsBest-shorter, IsBest-longer, IsBest-first, IsRoute-from_best, IsRoute-from_none}
use Rattle.wesl_resolve.proofs.router.route.Goals.{then-starts_with+in-Some, then-starts_with+in_default-2, then-starts_with+in_default, else-starts_with}
use Rattle.wesl_resolve.proofs.router.route.Goals as goal

pub loop-place-preserved : goal.loop-place-preserved
loop-place-preserved g c =
    let mounts = c.args.mounts.now in
    let p = path_view c.args.path.now in
    let n = c.loop-place.place in
    let x = c.index-mounts-place.result in
    let there = slice_get_read mounts (length mounts) n x refl c.loop-place-test.true c.index-mounts-place.is in
    let After : Option (ℕ × ℕ) → Type 0 = λ o. IsBest mounts p (n + 1) o in
    let Before : Option (ℕ × ℕ) → Type 0 = λ o. IsBest mounts p n o in
    elim c.if-starts_with.branch [
      | then-starts_with+in-Some w ↦
          subst After (sym (w.best-is ∙ w.in-Some.is))
          (IsBest-shorter mounts p n (w.in-Some.field-0-0, w.in-Some.longest) x there
          (omega (arith, w.depth-len.ensures, w.if-len-longest.true)) (subst Before w.in-Some.is c.loop-place.invariant))
      | then-starts_with+in_default-2 w ↦
          let begins = sym c.starts_with.ensures ∙ w.if-starts_with.true in
          subst After (sym (w.best-is ∙ ap (λ len. Some (n, len)) w.depth-len.ensures))
          (IsBest-longer mounts p n (w.in-Some.field-0-0, w.in-Some.longest) x there begins
          (omega (arith, w.depth-len.ensures, w.if-len-longest.false)) (subst Before w.in-Some.is c.loop-place.invariant))
      | then-starts_with+in_default w ↦
          let begins = sym c.starts_with.ensures ∙ w.if-starts_with.true in
          subst After (sym (w.best-is ∙ ap (λ len. Some (n, len)) w.depth-len.ensures))
          (IsBest-first mounts p n x there begins (subst Before w.in_default.is c.loop-place.invariant))
      | else-starts_with w ↦
          subst After (sym w.best-is) (IsBest-other mounts p n c.loop-place.best x there (sym c.starts_with.ensures ∙ w.if-starts_with.false) c.loop-place.invariant)
    ]

pub returns-in-Some-best : goal.returns-in-Some-best
returns-in-Some-best g c =
    let Seen : Option (ℕ × ℕ) → Type 0 = λ o. IsBest c.args.mounts.now (path_view c.args.path.now) c.loop-place.place o in
    IsRoute-from_best _ _ c.loop-place.place (c.in-Some-best.place, c.in-Some-best.field-0-1) c.loop-place-test.false (subst Seen c.in-Some-best.is c.loop-place.invariant)

pub returns-in-None : goal.returns-in-None
returns-in-None g c =
    let Seen : Option (ℕ × ℕ) → Type 0 = λ o. IsBest c.args.mounts.now (path_view c.args.path.now) c.loop-place.place o in
    IsRoute-from_none _ _ c.loop-place.place c.loop-place-test.false (subst Seen c.in-None.is c.loop-place.invariant)
