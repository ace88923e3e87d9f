-- All is found at the end.
use Rattle.std.proofs.Common.{◌≡◌, ◌⊎◌, inl, inr, ℕ, ◌<◌, ◌≤◌, ◌+◌, false, List, [], ◌∷◌, ◌++◌, length, map, take, slice_get, slice_index_or, Option, Some, None, Contains, arith, subst, sym, refl, ap, ◌∙◌}
use Rattle.std.proofs.lemmas.List.{take_more}
use Rattle.std.proofs.lemmas.List.Elements.{Contains-append_left, Contains-push, Contains-push_cases}
use Rattle.wesl_link_symbols.specs.declared.ids.PathId.{PathId}
use Rattle.wesl_tree_base.specs.declared.ids.NameId.{NameId}
use Rattle.wesl_link_symbols.specs.Tables.{Table}
use Rattle.wesl_link_symbols.proofs.Lists.{contains_nil, contains_first}
use Rattle.wesl_link_reach.specs.World.{IsWorld, Entered}
use Rattle.wesl_link_reach.specs.World.Entered.{root as at_root}
use Rattle.wesl_link_reach.specs.Faults as faults
use Rattle.wesl_link_reach.specs.Faults.AreDistinct.{none as none_distinct, one_more as one_distinct}
use Rattle.wesl_link_reach.specs.Loader.{IsReady}
use Rattle.wesl_link_reach.specs.Loading.{GoesOn}
use Rattle.wesl_link_reach.specs.Linking.{paths}
use Rattle.wesl_link_reach.proofs.Lists.{contains_map, map_contains, contains_one}
use Rattle.wesl_link_reach.proofs.Steps.{world_alone}
use Rattle.wesl_link_flaws.specs.declared.absence.Absence.{Absence}
use Rattle.wesl_link_flaws.specs.declared.asker.Asker.{Asker}
use Rattle.wesl_link_faults.specs.declared.loading.Loaded.{Loaded}
use Rattle.wesl_link_faults.specs.declared.loading.Wanted.{Wanted}
use Rattle.wesl_link_faults.specs.declared.open.Fault.{Fault}
use Rattle.wesl_link_faults.specs.declared.open.Fault.TheVariants.{Duplicate, Absent, Missing, Private, Ambiguous, TooMany}
use Rattle.wesl_link_faults.specs.declared.open.Finding.{Finding}
use Rattle.wesl_link_faults.specs.declared.open.Opened.{Opened}
use Rattle.wesl_link_flaws.specs.declared.told.Flaw.{Flaw}
use Rattle.wesl_link_flaws.specs.declared.told.Flaw.TheVariants.{Clash, NoModule, Lacking, Hidden, Unsure}
use Rattle.wesl_link_flaws.specs.declared.told.Told.{Told}
use Rattle.wesl_link_flaws.specs.declared.world.Findings.{Findings}
use Rattle.wesl_link_flaws.specs.Askers.{Brings, StandsBy}
use Rattle.wesl_link_flaws.specs.Flaws.{IsBare, IsFlaw}
use Rattle.wesl_link_flaws.specs.Found.{AreFindings}
use Rattle.wesl_link_faults.specs.Loading.{HavePlaces, IsLoaded, asked_in, tables_in, task_wanted}
use Rattle.wesl_link_faults.specs.Opened as opened
use Rattle.wesl_link_faults.specs.Opened.{HandsRoomy, IsAbsent, IsToldAbsent, TellsLimit, IsOfName, IsOpened}
use Rattle.wesl_link_faults.specs.Opening.{AreBeyond, AreRight, HasPassed, IsBegun, IsFinished, IsRightAt, absent_fault, fault_at, finding_of, flaw_of, opened_in, told_of}
use Rattle.wesl_link_flaws.proofs.Asking.{all_from, bringer, entered_by}

-- ---- the root alone

module _ {E : Type 0} {hands : PathId → Table PathId NameId → Type 0} {refuses : PathId → E → Type 0} {ready : PathId → Type 0} where
  pub loaded_start : (w : Wanted) (s : Loaded E) (root : Table PathId NameId) → w.root ≡ root.path → root.is_crowded ≡ false → IsReady ready root → 0 < w.limit → IsBegun root s
      → IsLoaded hands refuses ready w s
  loaded_start w s root root_is roomy can room b = record {
    root = root;
    others = [];
    root_first = b.tables;
    root_at = sym root_is;
    roomy = roomy;
    world = subst (λ (ts : List (Table PathId NameId)). IsWorld (HandsRoomy hands refuses) root ts) (sym b.tables) (world_alone (HandsRoomy hands refuses) root);
    once = subst (λ (ts : List (Table PathId NameId)). faults.AreDistinct (paths ts)) (sym b.tables) (one_distinct root.path [] (λ h. contains_nil root.path h) none_distinct);
    asks_ready = λ t h. subst (λ (x : Table PathId NameId). IsReady ready x) (one t h) can;
    tables_asked = λ t h. subst (λ (x : Table PathId NameId). Contains (asked_in s) x.path) (one t h) root_asked;
    keys = b.keys;
    entered = λ p h. at_root p (sym (contains_one root.path p (subst (λ (ps : List PathId). Contains ps p) b.asked h)) ∙ sym root_is);
    room = (let count : length (asked_in s) ≡ 1 = ap length b.asked in omega arith);
    placed = λ p h. inl (root, (root_in, contains_one root.path p (subst (λ (ps : List PathId). Contains ps p) b.asked h)));
    numbered = λ p k h. absurd (contains_nil (p, k) (rw b.absent at h));
    absent_asked = λ p k h. absurd (contains_nil (p, k) (rw b.absent at h));
    bare = λ p k h t at. absurd (contains_nil (p, k) (rw b.absent at h));
    single = λ p k j h g. absurd (contains_nil (p, k) (rw b.absent at h));
  }
    where
      one : (t : Table PathId NameId) → Contains (tables_in s) t → root ≡ t
      one t h = contains_one root t (subst (λ (ts : List (Table PathId NameId)). Contains ts t) b.tables h)

      root_in : Contains (tables_in s) root
      root_in = subst (λ (ts : List (Table PathId NameId)). Contains ts root) (sym b.tables) (contains_first root [])

      root_asked : Contains (asked_in s) root.path
      root_asked = subst (λ (ps : List PathId). Contains ps root.path) (sym b.asked) (contains_first root.path [])

-- a list that goes on from one element begins with it
pub begins_with : {X : Type 0} (xs ys zs : List X) (x y : X) → xs ≡ x ∷ [] → GoesOn xs ys → ys ≡ y ∷ zs → y ≡ x
begins_with {X} xs ys zs x y e (more, f) g = by (sym g ∙ (f ∙ ap (λ (us : List X). us ++ more) e))
  where
    by : y ∷ zs ≡ x ∷ more → y ≡ x
    by h = cc

-- ---- lists of findings

pub passed_on : (asked entered : List PathId) (i : ℕ) (d : PathId) (from to : List PathId) → i < length entered → AreBeyond asked (take i entered) from → HasPassed asked (slice_index_or entered i d) from to
    → AreBeyond asked (take (i + 1) entered) to
passed_on asked entered i d from to b are passed = subst (λ (ps : List PathId). AreBeyond asked ps to) (sym (take_more entered i d b)) record {
  only = λ p h. elim (passed.only p h) [
    | inl old ↦ (Contains-append_left (take i entered) (slice_index_or entered i d ∷ []) p (are.only p old).0, (are.only p old).1)
    | inr new ↦ (
      subst (λ (q : PathId). Contains (take i entered ++ slice_index_or entered i d ∷ []) q) (sym new.0) (Contains-push (take i entered) (slice_index_or entered i d)),
      λ h2. new.1 (subst (λ (q : PathId). Contains asked q) new.0 h2),
    )
  ];
  all = λ p h. elim (Contains-push_cases (take i entered) (slice_index_or entered i d) p h) [
    | inl old ↦ elim (are.all p old) [ inl there ↦ inl there | inr is ↦ inr (passed.kept p is) ]
    | inr e ↦ subst (λ (q : PathId). Contains asked q ⊎ Contains to q) e passed.there
  ];
}

pub named_on : (told : List (Told PathId NameId)) (i : ℕ) (d : Told PathId NameId) (from to : List Finding) (f : Finding) → i < length told → map told_of from ≡ take i told
    → told_of f ≡ slice_index_or told i d → to ≡ from ++ f ∷ [] → map told_of to ≡ take (i + 1) told
named_on told i d from to f b e is g =
    ap (λ (fs : List Finding). map told_of fs) g ∙ (map_push from f ∙ (ap (λ (ts : List (Told PathId NameId)). ts ++ told_of f ∷ []) e
    ∙ (ap (λ (t : Told PathId NameId). take i told ++ t ∷ []) is ∙ sym (take_more told i d b))))
  where
    map_push : (xs : List Finding) (x : Finding) → map told_of (xs ++ x ∷ []) ≡ map told_of xs ++ told_of x ∷ []
    map_push [] x = refl
    map_push (y ∷ xs) x = ap (λ (zs : List (Told PathId NameId)). told_of y ∷ zs) (map_push xs x)

pub told_same : (t : Told PathId NameId) (x : Fault) → flaw_of x ≡ t.flaw → told_of (record { fault = x; asker = t.asker; at = t.at }) ≡ t
told_same t x e = ap (λ (g : Flaw NameId). record { flaw = g; asker = t.asker; at = t.at }) e

pub right_on : (absent : List (PathId × ℕ)) (from to : List Finding) (f : Finding) → AreRight absent from → IsRightAt absent f.at f.fault → to ≡ from ++ f ∷ [] → AreRight absent to
right_on absent from to f are here e x h = elim (Contains-push_cases from f x (subst (λ (fs : List Finding). Contains fs x) e h)) [
  | inl old ↦ are x old
  | inr same ↦ subst (λ (y : Finding). IsRightAt absent y.at y.fault) same here
]

distinct_map : {X A B : Type 0} (f : X → A) (g : X → B) (back : B → A) → ((x : X) → back (g x) ≡ f x) → (xs : List X) → faults.AreDistinct (map f xs) → faults.AreDistinct (map g xs)
distinct_map f g back is [] d = none_distinct
distinct_map {X} {A} {B} f g back is (x ∷ xs) (one_distinct _ _ fresh d) =
    one_distinct (g x) (map g xs)
    (λ h. (let (y, held, e) = contains_map g xs (g x) h in
    let same : f y ≡ f x = sym (is y) ∙ (ap back e ∙ is x) in
    fresh (subst (λ (a : A). Contains (map f xs) a) same (map_contains f xs y held))))
    (distinct_map f g back is xs d)

-- ---- all that is found

module _ {E : Type 0} (es : List (Absence E)) (limit : ℕ) where
  abbrev flaw_from : faults.Fault PathId NameId (Absence E) → Flaw NameId
  flaw_from (faults.duplicate p n) = Clash n
  flaw_from (faults.refused e) = NoModule
  flaw_from (faults.missing p n) = Lacking n
  flaw_from (faults.private n p) = Hidden n
  flaw_from (faults.too_many k) = NoModule
  flaw_from (faults.ambiguous n) = Unsure n
  flaw_from (faults.too_many_flags p) = NoModule

  abbrev told_back : opened.Finding PathId NameId E → Told PathId NameId
  told_back f = record { flaw = flaw_from f.fault; asker = f.asker; at = f.at }

  absent_flaw : (p : PathId) (o : Option (Absence E)) → flaw_from (absent_fault p o) ≡ NoModule
  absent_flaw p None = refl
  absent_flaw p (Some e) = refl

  back_flaw : (p : PathId) (x : Fault) → flaw_from (fault_at es limit p x) ≡ flaw_of x
  back_flaw p (Duplicate n) = refl
  back_flaw p (Absent k) = absent_flaw p (slice_get es k)
  back_flaw p (Missing n) = refl
  back_flaw p (Private n) = refl
  back_flaw p (Ambiguous n) = refl
  back_flaw p TooMany = refl

  back_is : (f : Finding) → told_back (finding_of es limit f) ≡ told_of f
  back_is f = ap (λ (g : Flaw NameId). record { flaw = g; asker = f.asker; at = f.at }) (back_flaw f.at f.fault)

  -- ---- the fault of a flaw

  abbrev Seen : PathId → Fault → faults.Fault PathId NameId (Absence E) → Type 0
  Seen p x y = fault_at es limit p x ≡ y

  seen_clash : (p : PathId) (x : Fault) (n : NameId) → flaw_of x ≡ Clash n → Seen p x (faults.duplicate p n)
  seen_clash p (Duplicate m) n e = cc
  seen_clash p (Absent k) n e = absurd cc
  seen_clash p (Missing m) n e = absurd cc
  seen_clash p (Private m) n e = absurd cc
  seen_clash p (Ambiguous m) n e = absurd cc
  seen_clash p TooMany n e = absurd cc

  seen_missing : (p : PathId) (x : Fault) (n : NameId) → flaw_of x ≡ Lacking n → Seen p x (faults.missing p n)
  seen_missing p (Duplicate m) n e = absurd cc
  seen_missing p (Absent k) n e = absurd cc
  seen_missing p (Missing m) n e = cc
  seen_missing p (Private m) n e = absurd cc
  seen_missing p (Ambiguous m) n e = absurd cc
  seen_missing p TooMany n e = absurd cc

  seen_private : (p : PathId) (x : Fault) (n : NameId) → flaw_of x ≡ Hidden n → Seen p x (faults.private n p)
  seen_private p (Duplicate m) n e = absurd cc
  seen_private p (Absent k) n e = absurd cc
  seen_private p (Missing m) n e = absurd cc
  seen_private p (Private m) n e = cc
  seen_private p (Ambiguous m) n e = absurd cc
  seen_private p TooMany n e = absurd cc

  seen_ambiguous : (p : PathId) (x : Fault) (n : NameId) → flaw_of x ≡ Unsure n → Seen p x (faults.ambiguous n)
  seen_ambiguous p (Duplicate m) n e = absurd cc
  seen_ambiguous p (Absent k) n e = absurd cc
  seen_ambiguous p (Missing m) n e = absurd cc
  seen_ambiguous p (Private m) n e = absurd cc
  seen_ambiguous p (Ambiguous m) n e = cc
  seen_ambiguous p TooMany n e = absurd cc

  -- the number of an absence of the path, which has one
  seen_absent : (absent : List (PathId × ℕ)) (p : PathId) (x : Fault) (k : ℕ) (e : Absence E) → ((j : ℕ) → Contains absent (p, j) → j ≡ k) → flaw_of x ≡ NoModule → IsRightAt absent p x
      → Contains absent (p, k) → slice_get es k ≡ Some e → Seen p x (faults.refused e)
  seen_absent absent p (Duplicate m) k e one f right held at = absurd cc
  seen_absent absent p (Absent j) k e one f right held at =
      ap (λ (o : Option (Absence E)). absent_fault p o) (subst (λ (i : ℕ). slice_get es i ≡ Some e) (sym (one j right)) at)
  seen_absent absent p (Missing m) k e one f right held at = absurd cc
  seen_absent absent p (Private m) k e one f right held at = absurd cc
  seen_absent absent p (Ambiguous m) k e one f right held at = absurd cc
  seen_absent absent p TooMany k e one f right held at = absurd (right k held)

  seen_beyond : (absent : List (PathId × ℕ)) (p : PathId) (x : Fault) → ((j : ℕ) → Contains absent (p, j) → ⊥) → flaw_of x ≡ NoModule → IsRightAt absent p x → Seen p x (faults.too_many limit)
  seen_beyond absent p (Duplicate m) free f right = absurd cc
  seen_beyond absent p (Absent j) free f right = absurd (free j right)
  seen_beyond absent p (Missing m) free f right = absurd cc
  seen_beyond absent p (Private m) free f right = absurd cc
  seen_beyond absent p (Ambiguous m) free f right = absurd cc
  seen_beyond absent p TooMany free f right = refl

module _ {E : Type 0} (hands : PathId → Table PathId NameId → Type 0) (refuses : PathId → E → Type 0) (ready : PathId → Type 0) (w : Wanted) (s : Loaded E) (r : Findings) (k : Opened E)
    (l : IsLoaded hands refuses ready w s) (found : AreFindings (tables_in s) (task_wanted w) r) (there : HavePlaces w s r.entered.items) (done : IsFinished s r k) where
  abbrev Whom : Type 0
  Whom = Asker PathId NameId

  abbrev view : Finding → opened.Finding PathId NameId E
  view f = finding_of s.absences.items w.limit f

  abbrev told : List (opened.Finding PathId NameId E)
  told = map view k.told.items

  abbrev seen_as : faults.Fault PathId NameId (Absence E) → Whom → PathId → opened.Finding PathId NameId E
  seen_as x a q = record { fault = x; asker = a; at = q }

  none_at : (p : PathId) → (Contains (asked_in s) p → ⊥) → IsBare (tables_in s) p
  none_at p fresh t at = fresh (subst (λ (q : PathId). Contains (asked_in s) q) at.1 (l.tables_asked t at.0))

  -- a flaw is told by a finding, whose fault is this one where it is that of each such finding
  told_as : (g : Flaw NameId) (a : Whom) (q : PathId) (y : faults.Fault PathId NameId (Absence E)) → IsFlaw (task_wanted w) (tables_in s) g a q
      → ((x : Fault) → flaw_of x ≡ g → IsRightAt s.absent.entries q x → fault_at s.absences.items w.limit q x ≡ y) → Contains told (seen_as y a q)
  told_as g a q y flaw seen =
      let in_told : Contains (map told_of k.told.items) (record { flaw = g; asker = a; at = q }) =
      subst (λ (fs : List (Told PathId NameId)). Contains fs (record { flaw = g; asker = a; at = q })) (sym done.same) ((found.told (record { flaw = g; asker = a; at = q })).1 flaw) in
      let (f, held, e) = contains_map told_of k.told.items (record { flaw = g; asker = a; at = q }) in_told in
      subst (λ (z : opened.Finding PathId NameId E). Contains told z) (same f e held) (map_contains view k.told.items f held)
    where
      same : (f : Finding) → told_of f ≡ record { flaw = g; asker = a; at = q } → Contains k.told.items f → view f ≡ seen_as y a q
      same f e held =
          let at : f.at ≡ q = ap (λ (x : Told PathId NameId). x.at) e in
          let by : f.asker ≡ a = ap (λ (x : Told PathId NameId). x.asker) e in
          let is : flaw_of f.fault ≡ g = ap (λ (x : Told PathId NameId). x.flaw) e in
          let right : IsRightAt s.absent.entries q f.fault = subst (λ (p : PathId). IsRightAt s.absent.entries p f.fault) at (done.right f held) in
          subst (λ (b : Whom). view f ≡ seen_as y b q) by
          (subst (λ (p : PathId). view f ≡ seen_as y f.asker p) at
          (ap (λ (x : faults.Fault PathId NameId (Absence E)). seen_as x f.asker f.at)
          (subst (λ (p : PathId). fault_at s.absences.items w.limit p f.fault ≡ y) (sym at) (seen f.fault is right))))

  full : (p : PathId) → Contains k.beyond.items p → length (asked_in s) ≡ w.limit
  full p h = let (in_entered, fresh) = done.beyond.only p h in
      elim (there p in_entered) [ inl asked ↦ absurd (fresh asked) | inr no_room ↦ (let room : length (asked_in s) ≤ w.limit = l.room in omega arith) ]

  tells : (p : PathId) → Entered (tables_in s) (task_wanted w) p → Contains k.beyond.items p
      → (f : opened.Finding PathId NameId E) × Contains told f × (f.fault ≡ faults.too_many w.limit)
  tells p h b = by (bringer (task_wanted w) (tables_in s) p h)
    where
      fresh : Contains (asked_in s) p → ⊥
      fresh = (done.beyond.only p b).1

      by : (p ≡ w.root) ⊎ ((a : Whom) × Brings (task_wanted w) (tables_in s) a p) → (f : opened.Finding PathId NameId E) × Contains told f × (f.fault ≡ faults.too_many w.limit)
      by (inl e) = absurd (fresh (subst (λ (q : PathId). Contains (asked_in s) q) (l.root_at ∙ sym e) (l.tables_asked l.root l.world.root_in)))
      by (inr (a, brings)) = (
        seen_as (faults.too_many w.limit) a p,
        told_as NoModule a p (faults.too_many w.limit) (brings, none_at p fresh)
            (λ x is right. seen_beyond s.absences.items w.limit s.absent.entries p x (λ j held. fresh (l.absent_asked p j held)) is right),
        refl,
      )

  tells_absent : (p : PathId) (n : ℕ) → Contains s.absent.entries (p, n)
      → (e : Absence E) × ((a : Whom) → Brings (task_wanted w) (tables_in s) a p → Contains told (seen_as (faults.refused e) a p))
  tells_absent p n held = let (e, at, is) = l.numbered p n held in (
    e,
    λ a brings. told_as NoModule a p (faults.refused e) (brings, l.bare p n held)
        (λ x same right. seen_absent s.absences.items w.limit s.absent.entries p x n e (λ j held2. l.single p j n held2 held) same right held at),
  )

  stands_by : (x : Fault) (a : Whom) (q : PathId) → IsFlaw (task_wanted w) (tables_in s) (flaw_of x) a q → IsRightAt s.absent.entries q x
      → StandsBy (task_wanted w) (tables_in s) (IsAbsent hands refuses) w.limit (fault_at s.absences.items w.limit q x) a q
  stands_by (Duplicate n) a q (is, h, t, at, clash) right = (refl, is, h, t, at, clash)
  stands_by (Absent j) a q (brings, none) right =
      let (e, at, is) = l.numbered q j right in
      subst (λ (o : Option (Absence E)). StandsBy (task_wanted w) (tables_in s) (IsAbsent hands refuses) w.limit (absent_fault q o) a q) (sym at) (brings, none, is)
  stands_by (Missing n) a q (u, asks, h) right = (refl, u, asks, h)
  stands_by (Private n) a q (u, asks, h) right = (refl, u, asks, h)
  stands_by (Ambiguous n) a q h right = h
  stands_by TooMany a q (brings, none) right = (refl, brings, asked_in s, l.keys.once, all_from (Entered (tables_in s) (task_wanted w)) (asked_in s) l.entered, filled, fresh)
    where
      fresh : Contains (asked_in s) q → ⊥
      fresh held = elim (l.placed q held) [ inl here ↦ none here.0 here.1 | inr number ↦ right number.0 number.1 ]

      filled : length (asked_in s) ≡ w.limit
      filled = elim (done.beyond.all q ((found.entered q).1 (entered_by (task_wanted w) (tables_in s) a q brings))) [ inl held ↦ absurd (fresh held) | inr b ↦ full q b ]

  stands : (f : opened.Finding PathId NameId E) → Contains told f → StandsBy (task_wanted w) (tables_in s) (IsAbsent hands refuses) w.limit f.fault f.asker f.at
  stands f h =
      let (g, held, e) = contains_map view k.told.items f h in
      let flaw : IsFlaw (task_wanted w) (tables_in s) (flaw_of g.fault) g.asker g.at =
      (found.told (told_of g)).0 (subst (λ (fs : List (Told PathId NameId)). Contains fs (told_of g)) done.same (map_contains told_of k.told.items g held)) in
      subst (λ (x : opened.Finding PathId NameId E). StandsBy (task_wanted w) (tables_in s) (IsAbsent hands refuses) w.limit x.fault x.asker x.at) e
      (stands_by g.fault g.asker g.at flaw (done.right g held))

  named_told : (x : faults.Fault PathId NameId (Absence E)) (a : Whom) (q : PathId) → IsOfName x → StandsBy (task_wanted w) (tables_in s) (IsAbsent hands refuses) w.limit x a q → Contains told (seen_as x a q)
  named_told (faults.duplicate p n) a q name (e, is, h, t, at, clash) =
      subst (λ (z : PathId). Contains told (seen_as (faults.duplicate p n) a z)) (sym e)
      (told_as (Clash n) a p (faults.duplicate p n) (is, h, t, at, clash) (λ x same right. seen_clash s.absences.items w.limit p x n same))
  named_told (faults.refused e) a q name h = absurd name
  named_told (faults.missing p n) a q name (e, u, asks, h) =
      subst (λ (z : PathId). Contains told (seen_as (faults.missing p n) a z)) (sym e)
      (told_as (Lacking n) a p (faults.missing p n) (u, asks, h) (λ x same right. seen_missing s.absences.items w.limit p x n same))
  named_told (faults.private n p) a q name (e, u, asks, h) =
      subst (λ (z : PathId). Contains told (seen_as (faults.private n p) a z)) (sym e)
      (told_as (Hidden n) a p (faults.private n p) (u, asks, h) (λ x same right. seen_private s.absences.items w.limit p x n same))
  named_told (faults.too_many j) a q name h = absurd name
  named_told (faults.ambiguous n) a q name h = told_as (Unsure n) a q (faults.ambiguous n) h (λ x same right. seen_ambiguous s.absences.items w.limit q x n same)
  named_told (faults.too_many_flags p) a q name h = absurd name

  abbrev Opens : Table PathId NameId → List (Table PathId NameId) → List PathId → List (Absence E) → Type 0
  Opens root ts ps es = IsOpened hands refuses root (task_wanted w) w.limit (record { tables = ts; asked = ps; told = map (finding_of es w.limit) k.told.items; beyond = k.beyond.items })

  base : Opens l.root (tables_in s) (asked_in s) s.absences.items
  base = record {
    root_fits = (l.root_at, l.roomy);
    world = l.world;
    root_first = (l.others, l.root_first);
    tables_once = l.once;
    tables_asked = l.tables_asked;
    places = (l.keys.once, all_from (Entered (tables_in s) (task_wanted w)) (asked_in s) l.entered, l.room);
    beyond = λ p h. ((found.entered p).0 (done.beyond.only p h).0, (done.beyond.only p h).1, full p h);
    all = λ p h. elim (done.beyond.all p ((found.entered p).1 h)) [ inl held ↦ inl held | inr b ↦ inr (b, tells p h b) ];
    absent = λ p h. elim (l.placed p h) [ inl here ↦ inl here | inr number ↦ inr (tells_absent p number.0 number.1) ];
    once = distinct_map told_of view (told_back s.absences.items w.limit) (back_is s.absences.items w.limit) k.told.items
        (subst (λ (fs : List (Told PathId NameId)). faults.AreDistinct fs) (sym done.same) found.told_once);
    stands = stands;
    told = λ f name h. named_told f.fault f.asker f.at name h;
  }

  pub opens : (root : Table PathId NameId) → l.root ≡ root → IsOpened hands refuses root (task_wanted w) w.limit (opened_in w.limit k)
  opens root e =
      subst (λ (x : Table PathId NameId). Opens x k.tables.items k.asked.items k.absences.items) e
      (subst (λ (ts : List (Table PathId NameId)). Opens l.root ts k.asked.items k.absences.items) (sym done.tables)
      (subst (λ (ps : List PathId). Opens l.root (tables_in s) ps k.absences.items) (sym done.asked)
      (subst (λ (es : List (Absence E)). Opens l.root (tables_in s) (asked_in s) es) (sym done.absences) base)))
