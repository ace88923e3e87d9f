-- What a link is refused with before it begins, and what a name stands for when it has ended.
use Rattle.std.proofs.Common.{◌≡◌, ℕ, true, Some, None, List, [], ◌∷◌, Contains, arith, subst, sym, refl}
use Rattle.wesl_link_symbols.specs.declared.symbols.LookUp.{LookUp}
use Rattle.wesl_link_symbols.specs.declared.symbols.Reference.{Reference}
use Rattle.wesl_link_symbols.specs.declared.symbols.Symbol.{Symbol}
use Rattle.wesl_link_symbols.specs.Tables.{Table}
use Rattle.wesl_link_symbols.specs.Names.{asked_for}
use Rattle.wesl_link_reach.specs.World.{LeadsTo, Task, Entered}
use Rattle.wesl_link_reach.specs.World.Entered.{root as root_entered}
use Rattle.wesl_link_reach.specs.Faults.{Clashes, duplicate, too_many, too_many_flags, Explained}
use Rattle.wesl_link_reach.specs.Faults.AreDistinct.{none, one_more as one_distinct}
use Rattle.wesl_link_reach.specs.Linking.{Linking}
use Rattle.wesl_link_reach.specs.Loading.{IsAnswered}
use Rattle.wesl_link_reach.specs.Keeping.{IsKept, StandsHeld}
use Rattle.wesl_link_symbols.proofs.Lists.{contains_nil, contains_first}
use Rattle.wesl_link_reach.proofs.Growing.{all_of}
use Rattle.wesl_link_reach.proofs.Steps.{world_alone}
use Rattle.wesl_link_reach.proofs.Walks.{leads_to_one}

module _ {P N : Type 0} where
  pub zero_refused : {E : Type 0} (hands : P → Table P N → Type 0) (refuses : P → E → Type 0) (root : Table P N) (task : Task P N) (limit : ℕ) → task.root ≡ root.path → limit ≡ 0
      → Explained hands refuses root task limit (too_many 0)
  zero_refused hands refuses root task limit is e = (
    root ∷ [],
    world_alone hands root,
    (
      sym e,
      root.path ∷ [],
      one_distinct root.path [] (λ h. contains_nil root.path h) none,
      all_of (Entered (root ∷ []) task) root.path [] (root_entered root.path (sym is)) (λ x h. absurd (contains_nil x h)),
      omega arith,
    ),
  )

  pub root_refused : {E : Type 0} (hands : P → Table P N → Type 0) (refuses : P → E → Type 0) (root : Table P N) (task : Task P N) (limit : ℕ) (n : N) → task.root ≡ root.path → Clashes root n
      → Explained hands refuses root task limit (duplicate root.path n)
  root_refused hands refuses root task limit n is clash = (root ∷ [], world_alone hands root, (root, (contains_first root [], refl), root_entered root.path (sym is), clash))

  pub root_crowded : {E : Type 0} (hands : P → Table P N → Type 0) (refuses : P → E → Type 0) (root : Table P N) (task : Task P N) (limit : ℕ) → task.root ≡ root.path → root.is_crowded ≡ true
      → Explained hands refuses root task limit (too_many_flags root.path)
  root_crowded hands refuses root task limit is crowded = (root ∷ [], world_alone hands root, (root, (contains_first root [], refl), root_entered root.path (sym is), crowded))

  -- what a held reference asks for has an answer
  pub has_answer : (k : Linking P N) (answers : List (LookUp P N × Symbol P N)) (t : Table P N) (r : Reference P N) → IsKept k.tables k.symbols answers → Contains k.tables t
      → StandsHeld k t r → IsAnswered answers (asked_for t r)
  has_answer k answers t r kept among (None, stands, held) = kept.asserts t (asked_for t r) among (r, stands, refl)
  has_answer k answers t r kept among (Some n, stands, held) = kept.symbols (record { path = t.path; name = n }) t (asked_for t r) held (among, refl) (r, stands, refl)

  -- an answer is the one symbol that the reference stands for
  pub answer_is : (k : Linking P N) (answers : List (LookUp P N × Symbol P N)) (l : LookUp P N) (s : Symbol P N) → IsKept k.tables k.symbols answers → Contains answers (l, s)
      → (u : Symbol P N) → LeadsTo k.tables l u → s ≡ u
  answer_is k answers l s kept held u leads = leads_to_one k.tables l s u kept.clear (kept.answered l s held) leads

  pub kept_in : (k : Linking P N) (w : List (Table P N)) (ss : List (Symbol P N)) (n : ℕ) (answers : List (LookUp P N × Symbol P N)) → record { tables = w; symbols = ss; turns = n } ≡ k
      → IsKept w ss answers → IsKept k.tables k.symbols answers
  kept_in k w ss n answers e kept = subst (λ (j : Linking P N). IsKept j.tables j.symbols answers) e kept
