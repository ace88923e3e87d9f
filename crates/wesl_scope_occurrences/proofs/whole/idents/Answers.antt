use Rattle.std.proofs.Common.{◌≡◌, ◌∙◌, ◌++◌, ◌∷◌, [], ◌<◌, ◌||◌, Bool, true, false, refl, sym, ap, length, map}
use Rattle.std.specs.Prelude.{Result, Ok, Err, if◌then◌else◌}
use Rattle.std.specs.Result.{is_err, is_ok}
use Rattle.std.proofs.lemmas.List.{map-append}
use Rattle.wesl_scope_occurrences.proofs.Found.{idents_taken}
use Rattle.wesl_scope_occurrences.proofs.whole.idents.Goals as goal

-- what a step has done, where neither it nor one before was refused
done : {X E A : Type 0} (r : Result X E) (before now : Bool) (new more old : A) → now ≡ is_err r → before || now ≡ false → new ≡ (if is_ok r then more else old) → (before ≡ false) × (new ≡ more)
done (Ok x) false now new more old is k e = (refl, e)
done (Ok x) true now new more old is k e = cc
done (Err x) false now new more old is k e = cc
done (Err x) true now new more old is k e = cc

pub loop-occurrence-preserved : goal.loop-occurrence-preserved
loop-occurrence-preserved c = λ k.
    let xs = c.args.found.now in
    let i = c.loop-occurrence.occurrence-index in
    let bound : i < length xs = c.loop-occurrence-test.true in
    let d = done c.push.result c.loop-occurrence.is_refused c.is_err-is_refused.result _ _ _ c.is_err-is_refused.ensures.value k c.push.ensures.items in
    ap (map (λ n. n.0)) d.1
    ∙ (map-append (λ n. n.0) c.loop-occurrence.idents.items (c.occurrence-item.result.ident ∷ [])
    ∙ (ap (λ ns. ns ++ c.occurrence-item.result.ident.0 ∷ []) (c.loop-occurrence.invariant d.0) ∙ sym (idents_taken xs i c.occurrence-item.result bound c.occurrence-item.is)))
