-- What a search has when it has ended.
use Rattle.std.proofs.Common.{inl, inr, length, Option, Some, None, subst, sym, refl, ◌∙◌}
use Rattle.wesl_link_symbols.specs.declared.ids.PathId.{PathId}
use Rattle.wesl_tree_base.specs.declared.ids.NameId.{NameId}
use Rattle.wesl_link_symbols.specs.declared.symbols.LookUp.{LookUp}
use Rattle.wesl_link_symbols.specs.declared.symbols.Symbol.{Symbol}
use Rattle.wesl_link_symbols.proofs.Lists.{contains_at}
use Rattle.wesl_link_reach.specs.World.{Entered, Reached}
use Rattle.wesl_link_reach.specs.Laws.{IsAskedBy, IsClosed}
use Rattle.wesl_link_reach.proofs.Least.{entered_in, reached_in}
use Rattle.wesl_link_flaws.specs.declared.asker.Asker.{Asker}
use Rattle.wesl_link_flaws.specs.declared.asker.Asker.TheVariants.{Kept, Named, Unclear, Imported, Whole}
use Rattle.wesl_link_flaws.specs.declared.told.Flaw.{Flaw}
use Rattle.wesl_link_flaws.specs.declared.told.Flaw.TheVariants.{Clash, NoModule, Lacking, Hidden, Unsure}
use Rattle.wesl_link_flaws.specs.declared.given.Given.{Given}
use Rattle.wesl_link_flaws.specs.declared.search.Search.{Search}
use Rattle.wesl_link_flaws.specs.Askers.{IsTaken, AsksBy}
use Rattle.wesl_link_flaws.specs.Flaws.{IsFlaw}
use Rattle.wesl_link_flaws.specs.Searching.{world_in, task_in, HasEntered, HasReached, HasTold, IsSound, IsFollowed, AreDoneAt, IsModuleDone, IsSymbolDone, ModulesDone, SymbolsDone, FollowsKept}
use Rattle.wesl_link_flaws.specs.Taking.{IsSearched}

module _ (m : Given) (s : Search) (sound : IsSound m s) (root : HasEntered s m.root) (keeps : FollowsKept m s)
    (modules : ModulesDone m s (length s.entered.list.items)) (symbols : SymbolsDone m s (length s.symbols.list.items)) where
  module_of : (p : PathId) → HasEntered s p → IsModuleDone m s p
  module_of p h = let (k, b, at) = contains_at s.entered.list.items p h in modules k p b at

  symbol_of_list : (x : Symbol PathId NameId) → HasReached s x → IsSymbolDone m s x
  symbol_of_list x h = let (k, b, at) = contains_at s.symbols.list.items x h in symbols k x b at

  -- ---- closed

  abbrev IsFollowedBySome : LookUp PathId NameId → Type 0
  IsFollowedBySome l = (a : Asker PathId NameId) × IsFollowed m s a l

  by_some : (l : LookUp PathId NameId) → IsAskedBy (world_in m) (task_in m) (HasEntered s) (HasReached s) l → IsFollowedBySome l
  by_some l (inl (n, held, e)) = (Kept n, subst (λ (x : LookUp PathId NameId). IsFollowed m s (Kept n) x) (sym e) (keeps n held))
  by_some l (inr (inl (p, t, h, at, (r, (d, held, e, in_d), is)))) =
      let (i, b, at_i) = contains_at t.declarations d held in
      let (k, c, at_k) = contains_at d.references r in_d in
      (Named t.path i k, subst (λ (x : LookUp PathId NameId). IsFollowed m s (Named t.path i k) x) (sym is) (((module_of p h).asserts t at i d at_i e).references k r at_k))
  by_some l (inr (inr (x, t, h, at, (r, (d, held, e, in_d), is)))) =
      let (i, b, at_i) = contains_at t.declarations d held in
      let (k, c, at_k) = contains_at d.references r in_d in
      (Named t.path i k, subst (λ (y : LookUp PathId NameId). IsFollowed m s (Named t.path i k) y) (sym is) ((symbol_of_list x h t at i d at_i e).references k r at_k))

  closed : IsClosed (world_in m) (task_in m) (HasEntered s) (HasReached s)
  closed = record {
    root = λ p e. subst (λ (q : PathId). HasEntered s q) (sym e) root;
    enters = λ l a p by walks e. subst (λ (q : PathId). HasEntered s q) e ((by_some l by).1.paths a walks);
    reaches = λ l x by leads. (by_some l by).1.symbol x leads;
    imports = λ eager q p t i h at held e. (let (k, b, at_k) = contains_at t.imports i held in
        subst (λ (r : PathId). HasEntered s r) e (((module_of q h).whole eager t at).0 k i at_k).0);
    declares = λ eager x t h at d. subst (λ (q : PathId). HasReached s (record { path = q; name = x.name })) at.1 (((module_of x.path h).whole eager t at).1 x.name d);
  }

  has_entered : (p : PathId) → Entered (world_in m) (task_in m) p → HasEntered s p
  has_entered p h = entered_in (HasEntered s) (HasReached s) closed p h

  has_reached : (x : Symbol PathId NameId) → Reached (world_in m) (task_in m) x → HasReached s x
  has_reached x h = reached_in (HasEntered s) (HasReached s) closed x h

  -- ---- all is told

  taken_done : (p : PathId) (name : Option NameId) → IsTaken (task_in m) (world_in m) p name → AreDoneAt m s p name
  taken_done p None h = (module_of p (has_entered p h)).asserts
  taken_done p (Some n) h = symbol_of_list (record { path = p; name = n }) (has_reached (record { path = p; name = n }) h)

  followed : (a : Asker PathId NameId) (l : LookUp PathId NameId) → AsksBy (task_in m) (world_in m) a l → IsFollowed m s a l
  followed (Kept n) l (held, e) = subst (λ (x : LookUp PathId NameId). IsFollowed m s (Kept n) x) (sym e) (keeps n held)
  followed (Named p i k) l (t, d, (at, at_i, taken), r, at_k, is) =
      subst (λ (q : PathId). IsFollowed m s (Named q i k) l) at.1
      (subst (λ (x : LookUp PathId NameId). IsFollowed m s (Named t.path i k) x) (sym is) ((taken_done p d.name taken t at i d at_i refl).references k r at_k))
  followed (Unclear p i k) l h = absurd h
  followed (Imported p k) l h = absurd h
  followed (Whole p) l h = absurd h

  all_told : (g : Flaw NameId) (a : Asker PathId NameId) (q : PathId) → IsFlaw (task_in m) (world_in m) g a q → HasTold s g a q
  all_told (Clash n) a q (is, h, t, at, clash) = subst (λ (x : Asker PathId NameId). HasTold s (Clash n) x q) (sym is) (sound.clashes q t (has_entered q h) at n clash)
  all_told NoModule (Kept n) q ((l, asks, x, walks, e), none) = (followed (Kept n) l asks).told NoModule q ((x, walks, e), none)
  all_told NoModule (Named p i k) q ((l, asks, x, walks, e), none) = (followed (Named p i k) l asks).told NoModule q ((x, walks, e), none)
  all_told NoModule (Unclear p i k) q ((l, asks, x, walks, e), none) = absurd asks
  all_told NoModule (Imported p k) q ((eager, h, t, at, i, at_k, e), none) =
      let brought = ((module_of p (has_entered p h)).whole eager t at).0 k i at_k in
      let here : HasTold s NoModule (Imported t.path k) i.path = brought.1 (λ u there. none u (there.0, there.1 ∙ e)) in
      subst (λ (x : PathId). HasTold s NoModule (Imported p k) x) e (subst (λ (x : PathId). HasTold s NoModule (Imported x k) i.path) at.1 here)
  all_told NoModule (Whole p) q ((l, asks, x, walks, e), none) = absurd asks
  all_told (Lacking n) a q (l, asks, h) = (followed a l asks).told (Lacking n) q h
  all_told (Hidden n) a q (l, asks, h) = (followed a l asks).told (Hidden n) q h
  all_told (Unsure n) (Kept j) q (l, asks, x, e, f, ends) = (followed (Kept j) l asks).told (Unsure n) q (x, e, f, ends)
  all_told (Unsure n) (Named p i k) q (l, asks, x, e, f, ends) = (followed (Named p i k) l asks).told (Unsure n) q (x, e, f, ends)
  all_told (Unsure n) (Unclear p i k) q (is, t, d, (at, at_i, taken), at_k) =
      let here : HasTold s (Unsure n) (Unclear t.path i k) t.path = (taken_done p d.name taken t at i d at_i refl).unclear k n at_k in
      subst (λ (x : PathId). HasTold s (Unsure n) (Unclear p i k) x) (sym is) (subst (λ (x : PathId). HasTold s (Unsure n) (Unclear x i k) x) at.1 here)
  all_told (Unsure n) (Imported p k) q (l, asks, x, e, f, ends) = absurd asks
  all_told (Unsure n) (Whole p) q (l, asks, x, e, f, ends) = absurd asks

  pub searched : IsSearched m s
  searched = record {
    entered = λ p. (λ h. sound.entered p h, λ h. has_entered p h);
    reached = λ x. (λ h. sound.reached x h, λ h. has_reached x h);
    told = λ f. (λ h. sound.told f h, λ h. all_told f.flaw f.asker f.at h);
    entered_once = sound.entered_keys.once;
    reached_once = sound.symbol_keys.once;
    told_once = sound.told_keys.once;
  }
