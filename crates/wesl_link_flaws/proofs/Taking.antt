-- What is taken with declarations and imports.
use Rattle.std.proofs.Common.{◌≡◌, ℕ, ◌<◌, true, List, length, slice_get, slice_index_or, Option, Some, Contains, subst, sym, refl, ◌∙◌}
use Rattle.std.proofs.lemmas.Option.{slice_get-get_or}
use Rattle.wesl_link_symbols.specs.declared.ids.PathId.{PathId}
use Rattle.wesl_tree_base.specs.declared.ids.NameId.{NameId}
use Rattle.wesl_link_symbols.specs.declared.symbols.Import.{Import}
use Rattle.wesl_link_symbols.specs.declared.symbols.Symbol.{Symbol}
use Rattle.wesl_link_symbols.specs.Tables.{Declaration, Table}
use Rattle.wesl_link_symbols.specs.Names.{Declares}
use Rattle.wesl_link_reach.specs.World.{IsAt, Entered, Reached}
use Rattle.wesl_link_reach.specs.World.Reached.{declared}
use Rattle.wesl_link_flaws.specs.declared.asker.Asker.TheVariants.{Unclear, Imported}
use Rattle.wesl_link_flaws.specs.declared.told.Flaw.TheVariants.{Unsure}
use Rattle.wesl_link_flaws.specs.declared.given.Given.{Given}
use Rattle.wesl_link_flaws.specs.declared.search.Search.{Search}
use Rattle.wesl_link_flaws.specs.Askers.{Brings}
use Rattle.wesl_link_flaws.specs.Flaws.{IsFlaw}
use Rattle.wesl_link_flaws.specs.Searching.{world_in, task_in, IsReady, AreNamedDone, AreDoneAt, IsTakenWhole, BringsImports, HasDeclared}
use Rattle.wesl_link_flaws.specs.Taking.{AreTaken}

pub some_same : {X : Type 0} (o : Option X) (x y : X) → o ≡ Some x → o ≡ Some y → x ≡ y
some_same o x y e f = let g : Some x ≡ Some y = sym e ∙ f in cc

-- the element at a place of an equal list
pub there_at : {X : Type 0} (xs ys : List X) (k : ℕ) (d : X) → xs ≡ ys → k < length xs → slice_get ys k ≡ Some (slice_index_or xs k d)
there_at {X} xs ys k d e b = subst (λ (zs : List X). slice_get zs k ≡ Some (slice_index_or xs k d)) e (slice_get-get_or xs k d b)

module _ (m : Given) (t : Table PathId NameId) where
  pub import_brings : (is : List (Import PathId NameId)) (k : ℕ) (d : Import PathId NameId) → m.is_eager ≡ true → Contains (world_in m) t → Entered (world_in m) (task_in m) t.path
      → is ≡ t.imports → k < length is → Brings (task_in m) (world_in m) (Imported t.path k) (slice_index_or is k d).path
  import_brings is k d eager there entered e b = (eager, entered, t, (there, refl), slice_index_or is k d, there_at is t.imports k d e b, refl)

  pub unclear_flaw : (i : ℕ) (d : Declaration PathId NameId) (ns : List NameId) (k : ℕ) (n : NameId) → AreTaken m t i → slice_get t.declarations i ≡ Some d → ns ≡ d.unclear → k < length ns
      → IsFlaw (task_in m) (world_in m) (Unsure (slice_index_or ns k n)) (Unclear t.path i k) t.path
  unclear_flaw i d ns k n are at e b = (refl, t, d, ((are.there, refl), at, are.taken d at), there_at ns d.unclear k n e b)

  pub named_reached : (n : NameId) → m.is_eager ≡ true → Contains (world_in m) t → Entered (world_in m) (task_in m) t.path → Declares t n
      → Reached (world_in m) (task_in m) (record { path = t.path; name = n })
  named_reached n eager there entered d = declared (record { path = t.path; name = n }) t eager entered (there, refl) d

  one_there : (p : PathId) → IsReady m → IsAt (world_in m) p t → (u : Table PathId NameId) → IsAt (world_in m) p u → t ≡ u
  one_there p ready at u at2 = ready.clear.one_table t u at.0 at2.0 (at.1 ∙ sym at2.1)

  pub done_there : (s : Search) (p : PathId) (name : Option NameId) → IsReady m → IsAt (world_in m) p t → AreNamedDone m s t name → AreDoneAt m s p name
  done_there s p name ready at done u at2 = subst (λ (x : Table PathId NameId). AreNamedDone m s x name) (one_there p ready at u at2) done

  pub whole_there : (s : Search) (p : PathId) → IsReady m → IsAt (world_in m) p t → BringsImports m s t → HasDeclared s t → IsTakenWhole m s p
  whole_there s p ready at brings has u at2 = subst (λ (x : Table PathId NameId). BringsImports m s x × HasDeclared s x) (one_there p ready at u at2) (brings, has)

pub named_held : (ss : List (Symbol PathId NameId)) (p : PathId) (name : Option NameId) (n k : NameId) → name ≡ Some n → name ≡ Some k
    → Contains ss (record { path = p; name = n }) → Contains ss (record { path = p; name = k })
named_held ss p name n k e f h = subst (λ (x : NameId). Contains ss (record { path = p; name = x })) (some_same name n k e f) h
