-- Turns of a search: what the first of a list have, as the list goes on.
use Rattle.std.proofs.Common.{◌≡◌, ◌⊎◌, inl, inr, ℕ, zero, suc, ◌<◌, ◌≤◌, ◌+◌, List, [], ◌∷◌, ◌++◌, length, slice_get, Some, arith, subst}
use Rattle.std.proofs.lemmas.Bool.{cases_lt}
use Rattle.std.proofs.lemmas.Option.{slice_get_within}
use Rattle.wesl_link_symbols.specs.declared.ids.PathId.{PathId}
use Rattle.wesl_tree_base.specs.declared.ids.NameId.{NameId}
use Rattle.wesl_link_symbols.specs.declared.symbols.Symbol.{Symbol}
use Rattle.wesl_link_symbols.proofs.Lists.{one_at}
use Rattle.wesl_link_reach.specs.Loading.{GoesOn}
use Rattle.wesl_link_reach.proofs.Lists.{contains_at_place}
use Rattle.wesl_link_flaws.specs.declared.given.Given.{Given}
use Rattle.wesl_link_flaws.specs.declared.search.Search.{Search}
use Rattle.wesl_link_flaws.specs.Searching.{Grows, IsModuleDone, IsSymbolDone, ModulesDone, SymbolsDone}
use Rattle.wesl_link_flaws.proofs.Searching.{module_on, at_on}
use Rattle.wesl_link_reach.proofs.Declaring.{place_on}

at_append : {X : Type 0} (xs more : List X) (k : ℕ) (x : X) → slice_get xs k ≡ Some x → slice_get (xs ++ more) k ≡ Some x
at_append [] more k x e = cc
at_append (y ∷ xs) more zero x e = e
at_append (y ∷ xs) more (suc k) x e = at_append xs more k x e

module _ {X : Type 0} (D E : X → Type 0) (xs ys : List X) (on : GoesOn xs ys) (more : (x : X) → D x → E x) where
  pub done_more : (n : ℕ) → n ≤ length xs → ((k : ℕ) (x : X) → k < n → slice_get xs k ≡ Some x → D x) → (k : ℕ) (x : X) → k < n → slice_get ys k ≡ Some x → E x
  done_more n b done k x less at =
      let (y, c, here) = contains_at_place xs k (omega arith) in
      subst E (one_at ys k y x (place_on xs ys k y on here) at) (more y (done k y less here))

  pub done_next : (n : ℕ) (x0 : X) → slice_get xs n ≡ Some x0 → ((k : ℕ) (x : X) → k < n → slice_get xs k ≡ Some x → D x) → E x0
      → (k : ℕ) (x : X) → k < n + 1 → slice_get ys k ≡ Some x → E x
  done_next n x0 there done here k x below at = by (cases_lt k n)
    where
      by : (k < n) ⊎ (n ≤ k) → E x
      by (inl less) = let b = slice_get_within xs n x0 there in done_more n (omega arith) done k x less at
      by (inr past) =
          let same : n ≡ k = omega arith in
          subst E (one_at ys k x0 x (subst (λ (j : ℕ). slice_get ys j ≡ Some x0) same (place_on xs ys n x0 on there)) at) here

module _ (m : Given) (s z : Search) (g : Grows s z) where
  pub modules_more : (n : ℕ) → n ≤ length s.entered.list.items → ModulesDone m s n → ModulesDone m z n
  modules_more n b done = done_more (IsModuleDone m s) (IsModuleDone m z) s.entered.list.items z.entered.list.items g.entered (λ p d. module_on m s z p g d) n b done

  pub modules_next : (n : ℕ) (p : PathId) → slice_get s.entered.list.items n ≡ Some p → ModulesDone m s n → IsModuleDone m z p → ModulesDone m z (n + 1)
  modules_next n p at done here = done_next (IsModuleDone m s) (IsModuleDone m z) s.entered.list.items z.entered.list.items g.entered (λ q d. module_on m s z q g d) n p at done here

  pub symbols_more : (n : ℕ) → n ≤ length s.symbols.list.items → SymbolsDone m s n → SymbolsDone m z n
  symbols_more n b done = done_more (IsSymbolDone m s) (IsSymbolDone m z) s.symbols.list.items z.symbols.list.items g.symbols (λ x d. at_on m s z x.path (Some x.name) g d) n b done

  pub symbols_next : (n : ℕ) (x : Symbol PathId NameId) → slice_get s.symbols.list.items n ≡ Some x → SymbolsDone m s n → IsSymbolDone m z x → SymbolsDone m z (n + 1)
  symbols_next n x at done here = done_next (IsSymbolDone m s) (IsSymbolDone m z) s.symbols.list.items z.symbols.list.items g.symbols (λ y d. at_on m s z y.path (Some y.name) g d) n x at done here
