-- How a walk stands as it goes on.
use Rattle.std.proofs.Common.{◌≡◌, inl, inr, ℕ, ◌≤◌, List, [], ◌∷◌, ◌++◌, reverse, slice_get, Some, Result, Ok, Err, IfOk, IfErr, Contains, arith, subst, sym, refl, ap, rules}
use Rattle.std.proofs.lemmas.List.Elements.{Contains-push_cases}
use Rattle.wesl_link_symbols.specs.declared.ids.PathId.{PathId}
use Rattle.wesl_tree_base.specs.declared.ids.NameId.{NameId}
use Rattle.wesl_link_symbols.specs.declared.symbols.LookUp.{LookUp}
use Rattle.wesl_link_symbols.specs.declared.symbols.Symbol.{Symbol}
use Rattle.wesl_link_symbols.specs.Tables.{Table}
use Rattle.wesl_link_symbols.proofs.Lists.{contains_cases}
use Rattle.wesl_link_reach.specs.World.{HasMet, Hops, Task, Entered}
use Rattle.wesl_link_reach.specs.World.Entered.{asked}
use Rattle.wesl_link_reach.specs.Trodden.{symbol_of}
use Rattle.wesl_link_reach.proofs.Following.{IsTrail, back_in, in_back}
use Rattle.wesl_link_trails.specs.Ends.{IsNotBefore}
use Rattle.wesl_link_flaws.specs.declared.search.Search.{Search}
use Rattle.wesl_link_flaws.specs.declared.told.End.{End}
use Rattle.wesl_link_flaws.specs.Ends.{ComesBy, IsAnswer}
use Rattle.wesl_link_flaws.specs.Flaws.{Halts}
use Rattle.wesl_link_flaws.specs.Searching.{HasEntered, Grows}
use Rattle.wesl_link_flaws.proofs.Searching.{on_has}

module _ {P N : Type 0} {w : List (Table P N)} {task : Task P N} {start current : LookUp P N} {trail : List (LookUp P N)} {questions : List (Symbol P N)} where
  pub trail_enters : IsTrail w task start trail questions current → Entered w task current.path
  trail_enters t = asked start current current.path t.followed (reverse trail, t.walk) refl

  -- what is asked again was met
  pub trail_met : IsTrail w task start trail questions current → Contains questions (symbol_of current) → HasMet (reverse trail) current
  trail_met t there =
      let (b, held, e) = t.asked (symbol_of current) there in
      (b, in_back trail b held, (sym (ap (λ (x : Symbol P N). x.path) e), sym (ap (λ (x : Symbol P N). x.name) e)))

abbrev pub Asked : Type 0
Asked = LookUp PathId NameId

-- all that the walk came by is entered
pub way_entered : (s z : Search) (trail : List Asked) (current : Asked) → Grows s z → ((b : Asked) → Contains trail b → HasEntered s b.path) → HasEntered z current.path
    → (x : Asked) → Contains (current ∷ reverse trail) x → HasEntered z x.path
way_entered s z trail current g before here x h = elim (contains_cases current x (reverse trail) h) [
  | inl e ↦ subst (λ (y : Asked). HasEntered z y.path) e here
  | inr in_trail ↦ on_has _ _ x.path g.entered (before x (back_in trail x in_trail))
]

pub way_longer : (s z : Search) (trail longer : List Asked) (current : Asked) → Grows s z → ((b : Asked) → Contains trail b → HasEntered s b.path) → HasEntered z current.path
    → longer ≡ trail ++ current ∷ [] → (x : Asked) → Contains longer x → HasEntered z x.path
way_longer s z trail longer current g before here e x h = elim (Contains-push_cases trail current x (subst (λ (ys : List Asked). Contains ys x) e h)) [
  | inl old ↦ on_has _ _ x.path g.entered (before x old)
  | inr same ↦ subst (λ (y : Asked). HasEntered z y.path) same here
]

-- the bound of a trail that is one look-up longer
pub bound_longer : {P N : Type 0} (qs more : List (Symbol P N)) (trail longer : List (LookUp P N)) (current : LookUp P N) (bound first lower : ℕ) → more ≡ qs
    → ((b : LookUp P N) → Contains trail b → IsNotBefore qs (symbol_of b) bound) → IsNotBefore more (symbol_of current) first → lower ≤ bound → lower ≤ first → longer ≡ trail ++ current ∷ []
    → (b : LookUp P N) → Contains longer b → IsNotBefore more (symbol_of b) lower
bound_longer {P} {N} qs more trail longer current bound first lower same before here low low2 e b h k at =
    elim (Contains-push_cases trail current b (subst (λ (ys : List (LookUp P N)). Contains ys b) e h)) [
      | inl old ↦ (let far : bound ≤ k = before b old k (subst (λ (xs : List (Symbol P N)). slice_get xs k ≡ Some (symbol_of b)) same at) in omega arith)
      | inr is ↦ (let far : first ≤ k = here k (subst (λ (y : LookUp P N). slice_get more k ≡ Some (symbol_of y)) (sym is) at) in omega arith)
    ]

-- as the walk stands
pub comes_by : {w : List (Table PathId NameId)} {task : Task PathId NameId} {questions : List (Symbol PathId NameId)} (s z : Search) (start current : Asked) (trail : List Asked) → IsTrail w task start trail questions current → Grows s z
    → ((b : Asked) → Contains trail b → HasEntered s b.path) → HasEntered z current.path → ComesBy w z.entered.list.items start trail current
comes_by s z start current trail t g before here = record { walk = t.walk; entered = λ b h. on_has _ _ b.path g.entered (before b h); here = here }

module _ {P N : Type 0} (w : List (Table P N)) (l : LookUp P N) where
  -- what a look-up is answered
  pub answer_of : (r : Result (LookUp P N) (End P N)) → IfOk r (λ n. Hops w l n) → IfErr r (λ e. Halts w l e) → IsAnswer w l r
  answer_of (Ok n) on ended = on
  answer_of (Err e) on ended = ended

  pub answer_on : (r : Result (LookUp P N) (End P N)) → IsAnswer w l r → IfOk r (λ n. Hops w l n)
  answer_on (Ok n) is = is
  answer_on (Err e) is = search rules

  pub answer_ended : (r : Result (LookUp P N) (End P N)) → IsAnswer w l r → IfErr r (λ e. Halts w l e)
  answer_ended (Ok n) is = search rules
  answer_ended (Err e) is = is
