-- What taking a node keeps.
use Rattle.std.proofs.Common.{◌≡◌, ◌⊎◌, inl, inr, ℕ, ◌<◌, ◌+◌, List, length, true, Option, Some, None, Result, Ok, Err, IfOk, ◌↔◌, Contains, arith, subst, sym, refl, ap, ◌∙◌, below_more}
use Rattle.wesl_link_symbols.specs.declared.ids.PathId.{PathId}
use Rattle.wesl_tree_base.specs.declared.ids.NameId.{NameId}
use Rattle.wesl_link_symbols.specs.declared.symbols.LookUp.{LookUp}
use Rattle.wesl_link_symbols.specs.Tables.{Table}
use Rattle.wesl_link_symbols.specs.Names.{AsksFrom}
use Rattle.wesl_link_symbols.proofs.Lists.{one_at}
use Rattle.wesl_link_reach.specs.World.{IsAt, Finds}
use Rattle.wesl_link_reach.specs.Loading.{symbol_of}
use Rattle.wesl_link_reach.proofs.Lists.{contains_at_place}
use Rattle.wesl_link_reasons.specs.declared.found.Found.{Found}
use Rattle.wesl_link_reasons.specs.declared.findings.Findings.{Findings}
use Rattle.wesl_link_reasons.specs.declared.map.Map.{Map}
use Rattle.wesl_link_reasons.specs.declared.search.Search.{Search}
use Rattle.wesl_link_reasons.specs.declared.node.Node.{Node}
use Rattle.wesl_link_reasons.specs.declared.node.Node.TheVariants.{KeptName, Module, Item}
use Rattle.wesl_link_reasons.specs.Reasons.{IsFirst}
use Rattle.wesl_link_reasons.specs.Found.{IsFoundAt, IsFound, AreIndexed, AddsFound, StaysFound, IsGiven, IsImported, IsDeclared, IsKeptIn}
use Rattle.wesl_link_reasons.specs.Searching.{AsksAt, world_in, task_in, IsReady, IsSound, Grows, IsOnWay, IsDone, IsDoneAt, AreDone, TakesAll, HasFirsts}
use Rattle.wesl_link_reasons.proofs.Adding.{found_on, stays_trans, sound_adds}
use Rattle.wesl_link_reasons.proofs.Passing.{way_module, way_item}

pub grows_itself : (a : Search) → Grows a a
grows_itself a = record { found = record { at = λ k f e. e }; trail = λ l h. h }

pub grows_trans : (a b c : Search) → Grows a b → Grows b c → Grows a c
grows_trans a b c g h = record { found = stays_trans g.found h.found; trail = λ l k. h.trail l (g.trail l k) }

-- it was gone through, or the search stands there
pub started_on : (from to : List (LookUp PathId NameId)) → ((l : LookUp PathId NameId) → Contains from l → Contains to l) → (start current : LookUp PathId NameId) → Contains from start ⊎ (current ≡ start)
    → Contains to current → Contains to start
started_on from to more start current (inl old) here = more start old
started_on from to more start current (inr e) here = subst (λ (l : LookUp PathId NameId). Contains to l) e here

pub ok_map : {A E : Type 0} (r : Result A E) (Q R : A → Type 0) → ((v : A) → Q v → R v) → IfOk r Q → IfOk r R
ok_map (Ok v) Q R more h = more v h
ok_map (Err e) Q R more h = h

module _ (m : Map) where
  done_on : (a b : Search) (x : Node PathId NameId) → Grows a b → IsDone m a x → IsDone m b x
  done_on a b x g done = record {
    look_ups = λ l looks. g.trail l (done.look_ups l looks);
    taken = λ eager p is y takes. found_on g.found y (done.taken eager p is y takes);
  }

  pub done_next : (a b : Search) (n : ℕ) → Grows a b → n < length a.findings.nodes.items → AreDone m a n → IsDoneAt m b n → AreDone m b (n + 1)
  done_next a b n g within done here = below_more (λ (j : ℕ). IsDoneAt m b j) n before here
    where
      before : (j : ℕ) → j < n → IsDoneAt m b j
      before j below f at =
          let (h, in_a, there) = contains_at_place a.findings.nodes.items j (omega arith) in
          let same : h ≡ f = one_at b.findings.nodes.items j h f (g.found.at j h there) at in
          subst (λ (x : Found). IsDone m b x.node) same (done_on a b h.node g (done j below h there))

  -- ---- what is taken with a module

  pub asks_at : IsReady m → (p : PathId) (name : Option NameId) (t : Table PathId NameId) (ls : List (LookUp PathId NameId)) → IsAt (world_in m) p t
      → ((l : LookUp PathId NameId) → Contains ls l ↔ AsksFrom t name l) → (l : LookUp PathId NameId) → Contains ls l ↔ AsksAt (world_in m) p name l
  asks_at ready p name t ls at same l = (
    λ h. (t, at, (same l).0 h),
    λ (u, at2, asks). (same l).1 (subst (λ (y : Table PathId NameId). AsksFrom y name l) (ready.unbroken.one_table u t at2.0 at.0 (at2.1 ∙ sym at.1)) asks),
  )

  pub imports_given : (fs : List Found) (p : PathId) (k : ℕ) (t : Table PathId NameId) → m.is_eager ≡ true → IsFoundAt fs (Module p) k → IsAt (world_in m) p t
      → (x : Node PathId NameId) → IsImported t.imports x → IsGiven (world_in m) (task_in m) fs x (Some k)
  imports_given fs p k t eager (f, at, is) there x (i, held, e) =
      subst (λ (y : Node PathId NameId). IsGiven (world_in m) (task_in m) fs y (Some k)) (sym e) (f, at, inr (eager, (p, is, (t, there, (i, held, refl)))))

  pub declared_given : (fs : List Found) (p : PathId) (k : ℕ) (t : Table PathId NameId) → m.is_eager ≡ true → IsFoundAt fs (Module p) k → IsAt (world_in m) p t
      → (x : Node PathId NameId) → IsDeclared t.path t.declarations x → IsGiven (world_in m) (task_in m) fs x (Some k)
  declared_given fs p k t eager (f, at, is) there x (d, held, (n, named, e)) =
      subst (λ (y : Node PathId NameId). IsGiven (world_in m) (task_in m) fs y (Some k)) (sym e)
      (f, at, inr (eager, (p, is, (sym there.1, (t, (there.0, refl), (d, held, named))))))

  same_at : IsReady m → (p : PathId) (t u : Table PathId NameId) → IsAt (world_in m) p t → IsAt (world_in m) p u → u ≡ t
  same_at ready p t u (h, e) (k, f) = ready.unbroken.one_table u t k h (f ∙ sym e)

  pub taken_by : (fs gs : List Found) (p : PathId) (t : Table PathId NameId) → IsReady m → IsAt (world_in m) p t → ((x : Node PathId NameId) → IsImported t.imports x → IsFound fs x)
      → ((x : Node PathId NameId) → IsDeclared t.path t.declarations x → IsFound gs x) → StaysFound fs gs → TakesAll m gs p
  taken_by fs gs p t ready at imports declares same (KeptName n) takes = absurd takes
  taken_by fs gs p t ready at imports declares same (Module q) (u, at2, (i, held, e)) =
      found_on same (Module q) (imports (Module q) (i, subst (λ (y : Table PathId NameId). Contains y.imports i) (same_at ready p t u at at2) held, ap (λ (r : PathId). Module r) (sym e)))
  taken_by fs gs p t ready at imports declares same (Item s) (is, (u, at2, (d, held, named))) =
      let at3 : IsAt (world_in m) p u = (at2.0, at2.1 ∙ sym is) in
      let one : u ≡ t = same_at ready p t u at at3 in
      declares (Item s) (d, subst (λ (y : Table PathId NameId). Contains y.declarations d) one held, (s.name, named, ap (λ (r : PathId). Item (record { path = r; name = s.name })) (sym (at.1 ∙ is))))

  pub taken_nothing : (fs : List Found) (p : PathId) → ((t : Table PathId NameId) → IsAt (world_in m) p t → ⊥) → TakesAll m fs p
  taken_nothing fs p none (KeptName n) takes = absurd takes
  taken_nothing fs p none (Module q) (u, at, rest) = absurd (none u at)
  taken_nothing fs p none (Item s) (is, (u, at, rest)) = absurd (none u (at.0, at.1 ∙ sym is))

  pub here_on : {a b : List Found} → StaysFound a b → (x : Node PathId NameId) (k : ℕ) → IsFoundAt a x k → IsFoundAt b x k
  here_on same x k (f, at, is) = (f, same.at k f at, is)

  -- ---- what is noted on the way of a look-up

  pub noted_module : (a b : Findings) (k : ℕ) (l : LookUp PathId NameId) → IsSound m a → IsOnWay (world_in m) (task_in m) a.nodes.items k l → AreIndexed b.nodes.items b.places.entries
      → AddsFound a.nodes.items b.nodes.items (Some k) (λ x. x ≡ Module l.path) → IsSound m b
  noted_module a b k l sound way indexed adds = sound_adds m a b (Some k) (λ x. x ≡ Module l.path) sound indexed adds
      (λ x e. subst (λ (y : Node PathId NameId). IsGiven (world_in m) (task_in m) a.nodes.items y (Some k)) (sym e) (way_module (world_in m) (task_in m) a.nodes.items k l way))

  pub noted_item : (a b : Findings) (k : ℕ) (l : LookUp PathId NameId) → IsReady m → IsSound m a → IsOnWay (world_in m) (task_in m) a.nodes.items k l → Finds (world_in m) l (symbol_of l)
      → AreIndexed b.nodes.items b.places.entries → AddsFound a.nodes.items b.nodes.items (Some k) (λ x. x ≡ Item (symbol_of l)) → IsSound m b
  noted_item a b k l ready sound way finds indexed adds = sound_adds m a b (Some k) (λ x. x ≡ Item (symbol_of l)) sound indexed adds
      (λ x e. subst (λ (y : Node PathId NameId). IsGiven (world_in m) (task_in m) a.nodes.items y (Some k)) (sym e)
      (way_item (world_in m) (task_in m) ready.unbroken a.nodes.items k l sound.held way finds))

  -- ---- what is there first

  pub firsts_found : (fs gs : List Found) → ((x : Node PathId NameId) → IsKeptIn m.kept.now x → IsFound fs x) → IsFound gs (Module m.root) → StaysFound fs gs → HasFirsts m gs
  firsts_found fs gs kept root same (KeptName n) held = found_on same (KeptName n) (kept (KeptName n) (n, held, refl))
  firsts_found fs gs kept root same (Module p) e = subst (λ (q : PathId). IsFound gs (Module q)) (sym e) root
  firsts_found fs gs kept root same (Item s) first = absurd first

  pub kept_given : (fs : List Found) (x : Node PathId NameId) → IsKeptIn m.kept.now x → IsGiven (world_in m) (task_in m) fs x None
  kept_given fs x (n, held, e) = subst (λ (y : Node PathId NameId). IsFirst (world_in m) (task_in m) y) (sym e) held

  pub root_given : (fs : List Found) (x : Node PathId NameId) → x ≡ Module m.root → IsGiven (world_in m) (task_in m) fs x None
  root_given fs x e = subst (λ (y : Node PathId NameId). IsFirst (world_in m) (task_in m) y) (sym e) refl
