-- Calls that fit nothing by their places are the misfits of the module.
use Rattle.std.proofs.Common.{◌≡◌, ℕ, zero, suc, ◌++◌, List, [], ◌∷◌, length, map, get_or, refl, sym, ap, ◌∙◌, subst}
use Rattle.std.specs.Prelude.{Option, Some, None}
use Rattle.std.proofs.lemmas.List.{map-append}
use Rattle.wesl_tree_syntax.specs.Tree.{Tree, end, trees}
use Rattle.wesl_tree_syntax.specs.Unit.{UnitView}
use Rattle.wesl_scope_strip.specs.Declarations.{count}
use Rattle.wesl_validate_builtins.specs.Builtins.{BuiltinNames}
use Rattle.wesl_validate_rules.specs.Calls.{CallOf, calls_in}
use Rattle.wesl_validate_rules.specs.Valid.{calls_of}
use Rattle.wesl_validate_calls.specs.Verdicts.{AreMisfitsAmong, all_calls, calls_below, misfit_in, numbered}
use Rattle.wesl_validate_calls.specs.declared.misfit.Misfit.{Misfit}
use Rattle.wesl_validate_misfits.specs.Laws.{HavePlaces, PlacedAreMisfits}
use Rattle.wesl_validate_misfits.specs.Placed.{ArePlacedAmong, call_there, placed_misfit}
use Rattle.wesl_validate_misfits.specs.declared.placed.PlacedMisfit.{PlacedMisfit}
use Rattle.wesl_validate_misfits.proofs.Renumbered.{calls_as, calls_at_as, size_as}

itself : (cs : List (CallOf ℕ)) → calls_as (λ n. n) cs ≡ cs
itself [] = refl
itself (c ∷ cs) = ap (λ ds. c ∷ ds) (itself cs)

module _ (u placed : UnitView) (ns : List ℕ) (have : HavePlaces u ns placed) where
  -- a call with its declaration, by the number at its place
  abbrev there : ℕ × CallOf ℕ → ℕ × CallOf ℕ
  there c = (c.0, call_there ns c.1)

  numbered_as : (j : ℕ) (cs : List (CallOf ℕ)) → map there (numbered j cs) ≡ numbered j (map (call_there ns) cs)
  numbered_as j [] = refl
  numbered_as j (c ∷ cs) = ap (λ ds. (j, call_there ns c) ∷ ds) (numbered_as j cs)

  one_declaration : (j : ℕ) → map (call_there ns) (calls_of placed j) ≡ calls_of u j
  one_declaration j =
      calls_at_as (λ p. get_or ns p 0) placed.declarations.children j
      ∙ (ap (λ f. calls_in (get_or (map (λ (t : Tree). t.children) (trees f)) j end)) have
      ∙ (sym (calls_at_as (λ n. n) u.declarations.children j) ∙ itself (calls_of u j)))

  below_back : (n : ℕ) → map there (calls_below placed n) ≡ calls_below u n
  below_back zero = refl
  below_back (suc j) =
      map-append there (calls_below placed j) (numbered j (calls_of placed j))
      ∙ (ap (λ cs. cs ++ map there (numbered j (calls_of placed j))) (below_back j)
      ∙ ap (λ cs. calls_below u j ++ cs) (numbered_as j (calls_of placed j) ∙ ap (numbered j) (one_declaration j)))

  same_count : count placed ≡ count u
  same_count = sym (size_as (λ p. get_or ns p 0) placed.declarations.children) ∙ (ap (λ f. length (trees f)) have ∙ size_as (λ n. n) u.declarations.children)

  calls_back : map there (all_calls placed) ≡ all_calls u
  calls_back = below_back (count placed) ∙ ap (calls_below u) same_count

  -- the misfits
  abbrev pair : PlacedMisfit → ℕ × Misfit
  pair m = (m.declaration, m.misfit)

  one_pair : (j : ℕ) (c : CallOf ℕ) (v : Option Misfit) → map pair (placed_misfit j c v) ≡ misfit_in j v
  one_pair j c None = refl
  one_pair j c (Some m) = refl

  misfits_of : (b : BuiltinNames) (cs : List (ℕ × CallOf ℕ)) (ms : List PlacedMisfit) → ArePlacedAmong u b ns cs ms → AreMisfitsAmong u b (map there cs) (map pair ms)
  misfits_of b [] ms e = ap (map pair) e
  misfits_of b (c ∷ cs) ms (v, rest, is, more, e) = (
    v,
    map pair rest,
    is,
    misfits_of b cs rest more,
    ap (map pair) e ∙ (map-append pair (placed_misfit c.0 c.1 v) rest ∙ ap (λ ps. ps ++ map pair rest) (one_pair c.0 c.1 v)),
  )

pub placed_are_misfits : PlacedAreMisfits
placed_are_misfits u placed b ns ms have are = subst (λ ds. AreMisfitsAmong u b ds (map (λ m. (m.declaration, m.misfit)) ms)) (calls_back u placed ns have) (misfits_of u placed ns have b (all_calls placed) ms are)
