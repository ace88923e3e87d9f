-- Calls that miss are gathered one after the other.
use Rattle.std.proofs.Common.{◌≡◌, ℕ, zero, suc, ◌+◌, ◌<◌, ◌≤◌, ◌++◌, List, [], ◌∷◌, length, map, get_or, take, refl, sym, ap, ◌∙◌, subst, arith, add-one, append_assoc, append-nil, Vec, Global}
use Rattle.std.specs.Prelude.{Option}
use Rattle.wesl_tree_syntax.specs.Tree.{before, end, trees, declaration_node}
use Rattle.wesl_tree_syntax.specs.Unit.{UnitView}
use Rattle.wesl_tree_syntax.specs.View.{global_view, placed, declarations_tree}
use Rattle.wesl_tree_syntax.specs.declared.span.Spanned.{Spanned}
use Rattle.wesl_tree_syntax.specs.declared.declaration.GlobalDeclaration.{GlobalDeclaration}
use Rattle.wesl_scope_strip.specs.Declarations.{count}
use Rattle.wesl_validate_builtins.specs.Builtins.{BuiltinNames}
use Rattle.wesl_validate_rules.specs.Calls.{CallOf, calls_in}
use Rattle.wesl_validate_rules.specs.Valid.{calls_of}
use Rattle.wesl_validate_calls.specs.Made.{call_told}
use Rattle.wesl_validate_calls.specs.Verdicts.{IsVerdict, AreMisfits, AreMisfitsAmong, AddsMisfits, misfit_in, numbered, calls_below}
use Rattle.wesl_validate_calls.specs.declared.calls.Call.{Call}
use Rattle.wesl_validate_calls.specs.declared.misfit.Misfit.{Misfit}
use Rattle.wesl_validate_calls.proofs.Gathering.{calls_at}
use Rattle.wesl_scope_strip.proofs.Keeping.{trees_count}

-- one call after the other
module _ (j : ℕ) where
  call_suc : (xs : List Call) (i : ℕ) (x : Call) → i < length xs → x ≡ get_or xs i x → numbered j (map call_told (take (suc i) xs)) ≡ numbered j (map call_told (take i xs)) ++ (j, call_told x) ∷ []
  call_suc [] i x h is = absurd (omega (arith, h))
  call_suc (y ∷ xs) zero x h is = ap (λ z. (j, call_told z) ∷ []) (sym is)
  call_suc (y ∷ xs) (suc i) x h is = ap (λ ps. (j, call_told y) ∷ ps) (call_suc xs i x (omega (arith, h)) is)

  pub call_next : (xs : List Call) (i : ℕ) (x : Call) → i < length xs → x ≡ get_or xs i x → numbered j (map call_told (take (i + 1) xs)) ≡ numbered j (map call_told (take i xs)) ++ (j, call_told x) ∷ []
  call_next xs i x h is = rw add-one (call_suc xs i x h is)

module _ (u : UnitView) (b : BuiltinNames) where
  joined : (cs ds : List (ℕ × CallOf ℕ)) (ms ns : List (ℕ × Misfit)) → AreMisfitsAmong u b cs ms → AreMisfitsAmong u b ds ns → AreMisfitsAmong u b (cs ++ ds) (ms ++ ns)
  joined [] ds ms ns e h = subst (AreMisfitsAmong u b ds) (ap (λ xs. xs ++ ns) (sym e)) h
  joined (c ∷ cs) ds ms ns (v, rest, is, more, e) h = (v, rest ++ ns, is, joined cs ds rest ns more h, ap (λ xs. xs ++ ns) e ∙ append_assoc (misfit_in c.0 v) rest ns)

  pub adds_none : (old : List (ℕ × Misfit)) → AddsMisfits u b [] old old
  adds_none old = ([], refl, sym (append-nil old))

  pub adds_one : (cs : List (ℕ × CallOf ℕ)) (j : ℕ) (c : CallOf ℕ) (v : Option Misfit) (old now new : List (ℕ × Misfit)) → AddsMisfits u b cs old now → IsVerdict u b c v → new ≡ now ++ misfit_in j v → AddsMisfits u b (cs ++ (j, c) ∷ []) old new
  adds_one cs j c v old now new (ms, are, e) is f = (
    ms ++ misfit_in j v,
    joined cs ((j, c) ∷ []) ms (misfit_in j v) are (v, [], is, refl, sym (append-nil (misfit_in j v))),
    f ∙ (ap (λ xs. xs ++ misfit_in j v) e ∙ append_assoc old ms (misfit_in j v)),
  )

  module _ (v : Vec (Spanned GlobalDeclaration) Global) (same : declarations_tree v ≡ u.declarations) where
    pub more_misfits : (j : ℕ) (d : Spanned GlobalDeclaration) (now new : List (ℕ × Misfit)) → j < length v.items → d ≡ get_or v.items j d
        → AreMisfitsAmong u b (calls_below u j) now → AddsMisfits u b (numbered j (calls_in (before (global_view d.node) end))) now new → AreMisfitsAmong u b (calls_below u (j + 1)) new
    more_misfits j d now new h e are (ms, more, is) =
        let here : AreMisfitsAmong u b (numbered j (calls_of u j)) ms = subst (λ (cs : List (CallOf ℕ)). AreMisfitsAmong u b (numbered j cs) ms) (calls_at u b v same j d h e) more in
        rw add-one (subst (AreMisfitsAmong u b (calls_below u (suc j))) (sym is) (joined (calls_below u j) (numbered j (calls_of u j)) now ms are here))

    pub all_misfits : (j : ℕ) (ms : List (ℕ × Misfit)) → length v.items ≤ j → j ≤ length v.items → AreMisfitsAmong u b (calls_below u j) ms → AreMisfits u b ms
    all_misfits j ms h k are =
        let counts : count u ≡ length v.items = sym (ap (λ t. length (trees t.children)) same) ∙ trees_count (placed global_view declaration_node) v.items in
        let is : j ≡ count u = omega (arith, h, k, counts) in
        subst (λ n. AreMisfitsAmong u b (calls_below u n) ms) is are
