-- What a router means, once the resolver that a path went to was asked.
use Rattle.std.proofs.Common.{◌≡◌, ◌≤◌, ◌⊎◌, ◌↔◌, ℕ, zero, suc, Bool, true, false, ◌&&◌, List, [], ◌∷◌, ◌++◌, Option, Some, IsSomeAnd, IfSome, slice_get, get_or, set, length, arith, subst, sym, ◌∙◌, inl, inr, ⊎_elim, true≢false, refl, ap}
use Rattle.std.proofs.Math.Seq.{map-set_same}
use Rattle.std.proofs.lemmas.Option.{get_or_from_slice_get, none-some, same_Some}
use Rattle.std.specs.Str.{bytes_eq}
use Rattle.wesl_tree_names.specs.Path.{Text, Path, path_view, starts_with, same_origin, components_begin}
use Rattle.wesl_tree_names.specs.declared.path.ModulePath.{ModulePath}
use Rattle.wesl_resolve.specs.Router.{prefix_length, Takes, TakenByNone, Routed, NoRoute, AllReady, KeepsEach, LeavesOthers}
use Rattle.wesl_resolve.proofs.RouteLemmas.{Holds-set, Holds-before, Routed-held, TakenByNone-held, set-cases, set-others}
use Rattle.std.specs.Vec.{with_item}
use Rattle.wesl_tree_syntax.specs.Unit.{UnitOf}
use Rattle.wesl_tree_names.specs.declared.errors.ResolveError.{ResolveError}
use Rattle.wesl_resolve_base.specs.Resolver.{MeansTheSame}
use Rattle.wesl_resolve_base.specs.Suffixes.{suffix}
use Rattle.wesl_resolve.specs.RouterMeaning.{RouterMeans}
use Rattle.wesl_resolve.specs.declared.router.Router.{Router}
use Rattle.wesl_resolve_base.proofs.ResultLemmas.{both-iff, either-iff}

and-right : (a b : Bool) → (a && b) ≡ true → b ≡ true
and-right true b h = h
and-right false b h = absurd (true≢false (sym h))

components_begin-fits : (xs ys : List Text) → components_begin xs ys ≡ true → length ys ≤ length xs
components_begin-fits [] [] h = omega arith
components_begin-fits (x ∷ xs) [] h = omega arith
components_begin-fits [] (y ∷ ys) h = absurd (true≢false (sym h))
components_begin-fits (x ∷ xs) (y ∷ ys) h = omega (arith, components_begin-fits xs ys (and-right (bytes_eq x y) _ h))

-- a prefix has no more components than the path
pub starts_with-fits : (p prefix : Path) → starts_with p prefix ≡ true → length prefix.components ≤ length p.components
starts_with-fits p prefix h = components_begin-fits p.components prefix.components (and-right (same_origin p.origin prefix.origin) _ h)

module _ {B : Type 0} where
  -- the mount that was read at the place takes the path
  pub Takes-read : (seen mounts : List (ModulePath × B)) (p : Path) (place : ℕ) (m : ModulePath × B) → seen ≡ mounts
      → ((x : ModulePath × B) × Takes seen p place x) → m ≡ get_or mounts place m → Takes mounts p place m
  Takes-read seen mounts p place m same takes read =
      let At : List (ModulePath × B) → Type 0 = λ ms. (x : ModulePath × B) × Takes ms p place x in
      let here = subst At same takes in
      let It : ModulePath × B → Type 0 = λ x. Takes mounts p place x in
      subst It (sym (read ∙ get_or_from_slice_get mounts place here.0 m here.1.there)) here.1

  pub Takes-fits : (mounts : List (ModulePath × B)) (p : Path) (place : ℕ) (m : ModulePath × B) (count : ℕ) → Takes mounts p place m → count ≡ prefix_length m → count ≤ length p.components
  Takes-fits mounts p place m count takes is = omega (arith, is, starts_with-fits p (path_view m.0) takes.begins)

  -- what the mount answers at the names after its prefix is what the router answers
  pub Routed-by : (A : B → Path → Type 0) (mounts : List (ModulePath × B)) (fallback : Option B) (p : Path) (place : ℕ) (m : ModulePath × B) (count : ℕ) → Takes mounts p place m → count ≡ prefix_length m
      → A m.1 (suffix count p) → Routed A mounts fallback p
  Routed-by A mounts fallback p place m count takes is a =
      let At : ℕ → Type 0 = λ n. A m.1 (suffix n p) in
      inl (place, m, takes, subst At is a)

  pub Routed-set : (A : B → Path → Type 0) (mounts : List (ModulePath × B)) (fallback : Option B) (place : ℕ) (m : ModulePath × B) (b : B) (p : Path) → slice_get mounts place ≡ Some m
      → ((q : Path) → A b q ↔ A m.1 q) → Routed A (set mounts place (m.0, b)) fallback p ↔ Routed A mounts fallback p
  Routed-set A mounts fallback place m b p there same =
      let after = set mounts place (m.0, b) in
      let forth = Holds-set A mounts place m b there (λ q. (same q).1) in
      let back = Holds-before A mounts place m b there (λ q. (same q).0) in
      (Routed-held A mounts after fallback p back forth, Routed-held A after mounts fallback p forth back)

  pub NoRoute-set : (mounts : List (ModulePath × B)) (fallback : Option B) (place : ℕ) (m : ModulePath × B) (b : B) (p : Path) → slice_get mounts place ≡ Some m
      → NoRoute (set mounts place (m.0, b)) fallback p ↔ NoRoute mounts fallback p
  NoRoute-set mounts fallback place m b p there =
      let Any : B → Path → Type 0 = λ _ _. Unit {0} in
      let after = set mounts place (m.0, b) in
      let forth = Holds-set Any mounts place m b there (λ q a. a) in
      let back = Holds-before Any mounts place m b there (λ q a. a) in
      ((λ h. (TakenByNone-held Any mounts after p forth h.0, h.1)), (λ h. (TakenByNone-held Any after mounts p back h.0, h.1)))

  pub Routed-fallback : (A : B → Path → Type 0) (mounts : List (ModulePath × B)) (fallback : Option B) (a b : B) (p : Path) → fallback ≡ Some a
      → ((q : Path) → A b q ↔ A a q) → Routed A mounts (Some b) p ↔ Routed A mounts fallback p
  Routed-fallback A mounts fallback a b p is same =
      let Known : Option B → Type 0 = λ o. Routed A mounts (Some b) p ↔ Routed A mounts o p in
      subst Known (sym is)
      (⊎_elim inl (λ h. inr (h.0, (same (suffix 0 p)).0 h.1)), ⊎_elim inl (λ h. inr (h.0, (same (suffix 0 p)).1 h.1)))

  pub NoRoute-fallback : (mounts : List (ModulePath × B)) (fallback : Option B) (a b : B) (p : Path) → fallback ≡ Some a → NoRoute mounts (Some b) p ↔ NoRoute mounts fallback p
  NoRoute-fallback mounts fallback a b p is =
      ((λ h. absurd (none-some b (sym h.1))), (λ h. absurd (none-some a (sym h.1 ∙ is))))

module _ {B : Type 0} where
  -- the mount at the place is the one that takes the path
  Takes-at : (mounts : List (ModulePath × B)) (p : Path) (place k : ℕ) (m other : ModulePath × B) → Takes mounts p place m → slice_get mounts k ≡ Some other → k ≡ place → Takes mounts p k other
  Takes-at mounts p place k m other takes at same =
      let here : slice_get mounts place ≡ Some other = ap (slice_get mounts) (sym same) ∙ at in
      let At : ℕ → Type 0 = λ j. Takes mounts p j other in
      let It : ModulePath × B → Type 0 = λ x. Takes mounts p place x in
      subst At (sym same) (subst It (same_Some m other (sym takes.there ∙ here)) takes)

  -- the mount that takes the path was asked
  pub LeavesOthers-set : (mounts : List (ModulePath × B)) (fallback : Option B) (p : Path) (place : ℕ) (m : ModulePath × B) (b : B) → Takes mounts p place m
      → LeavesOthers p mounts fallback (set mounts place (m.0, b)) fallback
  LeavesOthers-set mounts fallback p place m b takes =
      record {
        prefixes = map-set_same (λ (x : ModulePath × B). x.0) mounts place (m.0, b) m (ap (λ (x : ModulePath × B). x.0) (sym (get_or_from_slice_get mounts place m m takes.there)));
        mounted = λ k other at no. ⊎_elim (λ same. absurd (no (Takes-at mounts p place k m other takes at same))) (λ kept. kept) (set-others mounts place k (m.0, b) other at);
        beside = λ some. refl;
        no_fallback = λ none. none;
      }

  pub TakenByNone-read : (seen mounts : List (ModulePath × B)) (p : Path) → seen ≡ mounts → TakenByNone seen p → TakenByNone mounts p
  TakenByNone-read seen mounts p same none =
      let None-of : List (ModulePath × B) → Type 0 = λ ms. TakenByNone ms p in
      subst None-of same none

  -- the fallback was asked
  pub LeavesOthers-fallback : (mounts : List (ModulePath × B)) (fallback : Option B) (p : Path) (a b : B) → fallback ≡ Some a → TakenByNone mounts p
      → LeavesOthers p mounts fallback mounts (Some b)
  LeavesOthers-fallback mounts fallback p a b is none =
      record {
        prefixes = refl;
        mounted = λ k other at no. at;
        beside = λ some. absurd (some none);
        no_fallback = λ no. absurd (none-some a (sym no ∙ is));
      }

  -- what the fallback answers at the whole path is what the router answers
  pub Routed-beside : (A : B → Path → Type 0) (seen mounts : List (ModulePath × B)) (fallback : Option B) (a : B) (p : Path) → seen ≡ mounts → TakenByNone seen p → fallback ≡ Some a
      → A a (suffix 0 p) → Routed A mounts fallback p
  Routed-beside A seen mounts fallback a p same none is h =
      let Answered : Option B → Type 0 = λ o. IsSomeAnd o (λ b. A b (suffix 0 p)) in
      inr (TakenByNone-read seen mounts p same none, subst Answered (sym is) h)

  -- nothing was asked
  pub LeavesOthers-same : (mounts : List (ModulePath × B)) (fallback : Option B) (p : Path) → LeavesOthers p mounts fallback mounts fallback
  LeavesOthers-same mounts fallback p = record { prefixes = refl; mounted = λ k other at no. at; beside = λ some. refl; no_fallback = λ none. none }

pushed-cases : {X : Type 0} (xs : List X) (y x : X) (k : ℕ) → slice_get (xs ++ y ∷ []) k ≡ Some x → (slice_get xs k ≡ Some x) ⊎ (y ≡ x)
pushed-cases [] y x zero h = inr (same_Some y x h)
pushed-cases [] y x (suc k) h = absurd (none-some x h)
pushed-cases (z ∷ zs) y x zero h = inl h
pushed-cases (z ∷ zs) y x (suc k) h = pushed-cases zs y x k h

module _ {B : Type 0} (ready : B → Type 0) where
  -- the resolver that was asked may be asked again
  pub AllReady-set : (mounts : List (ModulePath × B)) (fallback : Option B) (place : ℕ) (m : ModulePath × B) (b : B) → AllReady ready mounts fallback → ready b
      → AllReady ready (set mounts place (m.0, b)) fallback
  AllReady-set mounts fallback place m b all is =
      let Is : ModulePath × B → Type 0 = λ x. ready x.1 in
      record {
        mounted = λ k x at. ⊎_elim (λ e. subst Is (sym e.1) is) (λ before. all.mounted k x before) (set-cases mounts place k (m.0, b) x at);
        beside = all.beside;
      }

  -- so may the fallback
  pub AllReady-beside : (mounts : List (ModulePath × B)) (fallback : Option B) (b : B) → AllReady ready mounts fallback → ready b → AllReady ready mounts (Some b)
  AllReady-beside mounts fallback b all is = record { mounted = all.mounted; beside = is }

  pub ready-beside : (mounts : List (ModulePath × B)) (fallback : Option B) (a : B) → AllReady ready mounts fallback → fallback ≡ Some a → ready a
  ready-beside mounts fallback a all is =
      let Ready : Option B → Type 0 = λ o. IfSome o ready in
      subst Ready is all.beside

  pub AllReady-push : (mounts after : List (ModulePath × B)) (fallback : Option B) (m : ModulePath × B) → after ≡ mounts ++ m ∷ [] → AllReady ready mounts fallback → ready m.1 → AllReady ready after fallback
  AllReady-push mounts after fallback m is all here =
      let Is : ModulePath × B → Type 0 = λ x. ready x.1 in
      let All : List (ModulePath × B) → Type 0 = λ xs. AllReady ready xs fallback in
      subst All (sym is) (record {
        mounted = λ k x at. ⊎_elim (λ before. all.mounted k x before) (λ e. subst Is e here) (pushed-cases mounts m x k at);
        beside = all.beside;
      })

module _ {B : Type 0} (Same : B → B → Type 0) (itself : (b : B) → Same b b) where
  stands-still : (mounts : List (ModulePath × B)) (k : ℕ) (m after : ModulePath × B) → slice_get mounts k ≡ Some m → slice_get mounts k ≡ Some after → Same m.1 after.1
  stands-still mounts k m after at at_after =
      let To : ModulePath × B → Type 0 = λ x. Same m.1 x.1 in
      subst To (same_Some m after (sym at ∙ at_after)) (itself m.1)

  beside-still : (fallback : Option B) (b after : B) → fallback ≡ Some b → fallback ≡ Some after → Same b after
  beside-still fallback b after at at_after = subst (Same b) (same_Some b after (sym at ∙ at_after)) (itself b)

  -- one mount was asked, and stands so to what it was
  pub KeepsEach-set : (mounts : List (ModulePath × B)) (fallback : Option B) (place : ℕ) (m : ModulePath × B) (b : B) → slice_get mounts place ≡ Some m → Same m.1 b
      → KeepsEach Same mounts fallback (set mounts place (m.0, b)) fallback
  KeepsEach-set mounts fallback place m b there same =
      record {
        mounted = λ k x after at at_after.
            ⊎_elim
            (λ here.
            let is_m : m ≡ x = same_Some m x (sym there ∙ ap (slice_get mounts) (sym here.0) ∙ at) in
            let To : ModulePath × B → Type 0 = λ y. Same x.1 y.1 in
            let From : ModulePath × B → Type 0 = λ y. Same y.1 b in
            subst To (sym here.1) (subst From is_m same))
            (λ kept. stands-still mounts k x after at kept)
            (set-cases mounts place k (m.0, b) after at_after);
        beside = beside-still fallback;
      }

  -- the fallback was asked, and stands so to what it was
  pub KeepsEach-fallback : (mounts : List (ModulePath × B)) (fallback : Option B) (a b : B) → fallback ≡ Some a → Same a b → KeepsEach Same mounts fallback mounts (Some b)
  KeepsEach-fallback mounts fallback a b is same =
      record {
        mounted = stands-still mounts;
        beside = λ x after at at_after.
            let From : B → Type 0 = λ y. Same y b in
            subst (Same x) (same_Some b after at_after) (subst From (same_Some a x (sym is ∙ at)) same);
      }

  -- nothing was asked
  pub KeepsEach-same : (mounts : List (ModulePath × B)) (fallback : Option B) → KeepsEach Same mounts fallback mounts fallback
  KeepsEach-same mounts fallback = record { mounted = stands-still mounts; beside = beside-still fallback }

module _ {B : Type 0} (hands : B → Path → UnitOf Text → Type 0) (refuses : B → Path → ResolveError → Type 0) (source : B → Path → Text → Type 0) (lacks : B → Path → ResolveError → Type 0) (shown : B → Path → Option Text → Type 0) where
  -- one mount was asked, and means what it did
  pub RouterMeans-set : (r : Router B) (place : ℕ) (m : ModulePath × B) (b : B) → slice_get r.mount_points.items place ≡ Some m → MeansTheSame hands refuses source lacks shown m.1 b
      → RouterMeans hands refuses source lacks shown r (record { mount_points = with_item r.mount_points place (m.0, b); fallback = r.fallback })
  RouterMeans-set r place m b there same =
      record {
        units = λ p u. Routed-set (λ b q. hands b q u) r.mount_points.items r.fallback place m b p there (λ q. same.units q u);
        faults = λ p e.
            either-iff (Routed-set (λ b q. refuses b q e) r.mount_points.items r.fallback place m b p there (λ q. same.faults q e))
            (both-iff (NoRoute-set r.mount_points.items r.fallback place m b p there) ((λ x. x), (λ x. x)));
        sources = λ p text. Routed-set (λ b q. source b q text) r.mount_points.items r.fallback place m b p there (λ q. same.sources q text);
        missing = λ p e.
            either-iff (Routed-set (λ b q. lacks b q e) r.mount_points.items r.fallback place m b p there (λ q. same.missing q e))
            (both-iff (NoRoute-set r.mount_points.items r.fallback place m b p there) ((λ x. x), (λ x. x)));
        names = λ p name.
            either-iff (Routed-set (λ b q. shown b q name) r.mount_points.items r.fallback place m b p there (λ q. same.names q name))
            (both-iff (NoRoute-set r.mount_points.items r.fallback place m b p there) ((λ x. x), (λ x. x)));
      }

  -- the fallback was asked, and means what it did
  pub RouterMeans-fallback : (r : Router B) (a b : B) → r.fallback ≡ Some a → MeansTheSame hands refuses source lacks shown a b
      → RouterMeans hands refuses source lacks shown r (record { mount_points = r.mount_points; fallback = Some b })
  RouterMeans-fallback r a b is same =
      record {
        units = λ p u. Routed-fallback (λ b q. hands b q u) r.mount_points.items r.fallback a b p is (λ q. same.units q u);
        faults = λ p e.
            either-iff (Routed-fallback (λ b q. refuses b q e) r.mount_points.items r.fallback a b p is (λ q. same.faults q e))
            (both-iff (NoRoute-fallback r.mount_points.items r.fallback a b p is) ((λ x. x), (λ x. x)));
        sources = λ p text. Routed-fallback (λ b q. source b q text) r.mount_points.items r.fallback a b p is (λ q. same.sources q text);
        missing = λ p e.
            either-iff (Routed-fallback (λ b q. lacks b q e) r.mount_points.items r.fallback a b p is (λ q. same.missing q e))
            (both-iff (NoRoute-fallback r.mount_points.items r.fallback a b p is) ((λ x. x), (λ x. x)));
        names = λ p name.
            either-iff (Routed-fallback (λ b q. shown b q name) r.mount_points.items r.fallback a b p is (λ q. same.names q name))
            (both-iff (NoRoute-fallback r.mount_points.items r.fallback a b p is) ((λ x. x), (λ x. x)));
      }

  -- nothing was asked
  pub RouterMeans-same : (r : Router B) → RouterMeans hands refuses source lacks shown r r
  RouterMeans-same r = record { units = λ p u. ((λ h. h), (λ h. h)); faults = λ p e. ((λ h. h), (λ h. h)); sources = λ p text. ((λ h. h), (λ h. h)); missing = λ p e. ((λ h. h), (λ h. h)); names = λ p name. ((λ h. h), (λ h. h)) }
