-- Calls are gathered one after the other, and so are those that miss.
use Rattle.std.proofs.Common.{◌≡◌, ℕ, suc, ◌+◌, ◌<◌, ◌≤◌, ◌++◌, List, [], ◌∷◌, length, map, get_or, take, refl, sym, ap, ◌∙◌, subst, arith, add-one, append_assoc, append-nil, Vec, Global}
use Rattle.std.specs.Prelude.{Option}
use Rattle.std.proofs.lemmas.List.{map_more, map_push}
use Rattle.wesl_tree_syntax.specs.Tree.{before, end, trees, declaration_node}
use Rattle.wesl_tree_syntax.specs.Unit.{UnitView}
use Rattle.wesl_tree_syntax.specs.View.{global_view, placed, declarations_tree}
use Rattle.wesl_tree_syntax.specs.declared.span.Spanned.{Spanned}
use Rattle.wesl_tree_syntax.specs.declared.declaration.GlobalDeclaration.{GlobalDeclaration}
use Rattle.wesl_scope_strip.specs.Declarations.{count}
use Rattle.wesl_scope_strip.proofs.Keeping.{trees_count}
use Rattle.wesl_validate_builtins.specs.Builtins.{BuiltinNames}
use Rattle.wesl_validate_rules.specs.Calls.{CallOf, calls_in}
use Rattle.wesl_validate_rules.specs.Valid.{calls_of}
use Rattle.wesl_validate_calls.specs.Made.{call_told}
use Rattle.wesl_validate_calls.specs.Verdicts.{IsVerdict, all_calls, calls_below, numbered}
use Rattle.wesl_validate_calls.specs.declared.calls.Call.{Call}
use Rattle.wesl_validate_calls.specs.declared.misfit.Misfit.{Misfit}
use Rattle.wesl_validate_calls.proofs.Gathering.{calls_at}
use Rattle.wesl_validate_misfits.specs.Placed.{ArePlacedAmong, call_there, calls_view, placed_misfit}
use Rattle.wesl_validate_misfits.specs.declared.placed.PlacedMisfit.{PlacedMisfit}

-- one more call of a declaration
pub more_calls : (j : ℕ) (xs : List Call) (i : ℕ) (d : Call) (old now : List (ℕ × Call)) → i < length xs → calls_view now ≡ calls_view old ++ numbered j (map call_told (take i xs))
    → calls_view (now ++ (j, get_or xs i d) ∷ []) ≡ calls_view old ++ numbered j (map call_told (take (i + 1) xs))
more_calls j xs i d old now h e =
    let last : ℕ × CallOf ℕ = (j, call_told (get_or xs i d)) in
    let first = numbered j (map call_told (take i xs)) in
    let grown : numbered j (map call_told (take (i + 1) xs)) ≡ first ++ last ∷ [] = ap (numbered j) (map_more call_told xs i d h) ∙ map_push (λ (c : CallOf ℕ). (j, c)) (map call_told (take i xs)) (call_told (get_or xs i d)) in
    map_push (λ (c : ℕ × Call). (c.0, call_told c.1)) now (j, get_or xs i d)
    ∙ (ap (λ cs. cs ++ last ∷ []) e ∙ (append_assoc (calls_view old) first (last ∷ []) ∙ ap (λ cs. calls_view old ++ cs) (sym grown)))

-- the calls of one more declaration, and of all
module _ (u : UnitView) (v : Vec (Spanned GlobalDeclaration) Global) (same : declarations_tree v ≡ u.declarations) where
  pub next_declaration : (j : ℕ) (d : Spanned GlobalDeclaration) (now new : List (ℕ × CallOf ℕ)) (found : List (CallOf ℕ)) → j < length v.items → d ≡ get_or v.items j d → found ≡ calls_in (before (global_view d.node) end)
      → now ≡ calls_below u j → new ≡ now ++ numbered j found → new ≡ calls_below u (j + 1)
  next_declaration j d now new found h is are e f =
      let here : found ≡ calls_of u j = are ∙ calls_at u (record { names = []; functions = []; constructors = [] }) v same j d h is in
      let below : new ≡ calls_below u (suc j) = f ∙ (ap (λ ps. ps ++ numbered j found) e ∙ ap (λ ds. calls_below u j ++ numbered j ds) here) in
      rw add-one below

  pub all_declarations : (j : ℕ) (cs : List (ℕ × CallOf ℕ)) → length v.items ≤ j → j ≤ length v.items → cs ≡ calls_below u j → cs ≡ all_calls u
  all_declarations j cs h k e =
      let counts : count u ≡ length v.items = sym (ap (λ t. length (trees t.children)) same) ∙ trees_count (placed global_view declaration_node) v.items in
      let is : j ≡ count u = omega (arith, h, k, counts) in
      e ∙ ap (calls_below u) is

-- one more call of a place
module _ (u : UnitView) (b : BuiltinNames) (numbers : List ℕ) where
  one_more : (cs : List (ℕ × CallOf ℕ)) (ms : List PlacedMisfit) (c : ℕ × CallOf ℕ) (v : Option Misfit) → ArePlacedAmong u b numbers cs ms → IsVerdict u b (call_there numbers c.1) v → ArePlacedAmong u b numbers (cs ++ c ∷ []) (ms ++ placed_misfit c.0 c.1 v)
  one_more [] ms c v e is = (v, [], is, refl, ap (λ xs. xs ++ placed_misfit c.0 c.1 v) e ∙ sym (append-nil (placed_misfit c.0 c.1 v)))
  one_more (d ∷ cs) ms c v (w, rest, was, more, e) is = (
    w,
    rest ++ placed_misfit c.0 c.1 v,
    was,
    one_more cs rest c v more is,
    ap (λ xs. xs ++ placed_misfit c.0 c.1 v) e ∙ append_assoc (placed_misfit d.0 d.1 w) rest (placed_misfit c.0 c.1 v),
  )

  pub next_call : (xs : List (ℕ × Call)) (i : ℕ) (d : ℕ × Call) (c : ℕ × CallOf ℕ) (v : Option Misfit) (now new : List PlacedMisfit) → i < length xs → c ≡ ((get_or xs i d).0, call_told (get_or xs i d).1)
      → ArePlacedAmong u b numbers (calls_view (take i xs)) now → IsVerdict u b (call_there numbers c.1) v → new ≡ now ++ placed_misfit c.0 c.1 v → ArePlacedAmong u b numbers (calls_view (take (i + 1) xs)) new
  next_call xs i d c v now new h e are is f =
      let grown : calls_view (take (i + 1) xs) ≡ calls_view (take i xs) ++ c ∷ [] = map_more (λ (x : ℕ × Call). (x.0, call_told x.1)) xs i d h ∙ ap (λ y. calls_view (take i xs) ++ y ∷ []) (sym e) in
      subst (λ cs. ArePlacedAmong u b numbers cs new) (sym grown)
      (subst (ArePlacedAmong u b numbers (calls_view (take i xs) ++ c ∷ [])) (sym f) (one_more (calls_view (take i xs)) now c v are is))
