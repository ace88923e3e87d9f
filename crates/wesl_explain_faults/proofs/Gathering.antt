-- How faults are gathered with all that ask for each.
use Rattle.std.proofs.Common.{◌≡◌, inl, inr, ℕ, ◌<◌, ◌+◌, List, [], ◌∷◌, ◌++◌, length, slice_get, slice_index_or, Option, Some, None, IfSome, IfNone, Contains, map, take, arith, subst, sym, ap, refl, ◌∙◌, ◌≤◌}
use Rattle.std.proofs.lemmas.List.{get_or-map, length-map, take_all, take_more}
use Rattle.std.proofs.lemmas.List.Elements.{Contains-push, Contains-push_cases, Contains-append_left}
use Rattle.std.proofs.lemmas.Option.{slice_get-get_or}
use Rattle.wesl_link_symbols.specs.declared.ids.PathId.{PathId}
use Rattle.wesl_tree_base.specs.declared.ids.NameId.{NameId}
use Rattle.wesl_link_symbols.specs.Index.{Chains, HasAt, IsKeyed, IsLast}
use Rattle.wesl_link_symbols.specs.Keyed.{Puts, PutsKey}
use Rattle.wesl_link_symbols.proofs.Indexing.{chains_more, last_of}
use Rattle.wesl_link_symbols.proofs.Lists.{at_contains, contains_at, contains_nil, one_at}
use Rattle.wesl_link_flaws.specs.declared.asker.Asker.{Asker}
use Rattle.wesl_link_faults.specs.declared.open.Finding.{Finding}
use Rattle.wesl_link_reach.specs.Faults.{AreDistinct}
use Rattle.wesl_link_flaws.proofs.Over.{IsOver, all, next, over_with, start, within}
use Rattle.wesl_explain_faults.specs.declared.faults.FaultAt.{FaultAt}
use Rattle.wesl_explain_faults.specs.declared.faults.Wrong.{Wrong}
use Rattle.wesl_explain_faults.specs.Gathering.{AreAskers, AreWrongs, HaveAskers, IsFoundIn, wrong_in}
use Rattle.wesl_link_flaws.proofs.Searching.{puts_cases, puts_keep}
use Rattle.wesl_link_reach.proofs.Following.{puts_has}

-- that one asks for the fault in one of the findings
abbrev pub IsAskedIn : List Finding → Wrong → Asker PathId NameId → Type 0
IsAskedIn told w a = (f : Finding) × Contains told f × (wrong_in f ≡ w) × (f.asker ≡ a)

-- one finding more is tied
pub tie_next : (told : List Finding) (i : ℕ) (d : Finding) (k : Wrong) (o : Option ℕ) (latest fresh : List (Wrong × ℕ)) (earlier longer : List (Option ℕ))
    → i < length told → k ≡ wrong_in (slice_index_or told i d) → Chains wrong_in told i latest earlier
    → IfSome o (λ j. Contains latest (k, j)) → IfNone o ((j : ℕ) → Contains latest (k, j) → ⊥) → Puts latest k i fresh → longer ≡ earlier ++ o ∷ []
    → Chains wrong_in told (i + 1) fresh longer
tie_next told i d k o latest fresh earlier longer b is chains some none put e =
    chains_more wrong_in told i (slice_index_or told i d) o latest fresh earlier longer (slice_get-get_or told i d b) chains
    (subst (λ (q : Wrong). IsLast (IsKeyed wrong_in q) told i o) is (last_of wrong_in told i latest earlier k o chains some none))
    (subst (λ (q : Wrong). Puts latest q i fresh) is put) e

-- one finding more
found_more : (told : List Finding) (f : Finding) (old new : List Wrong) → Contains told f → PutsKey old (wrong_in f) new → ((w : Wrong) → Contains old w → IsFoundIn told w)
    → (w : Wrong) → Contains new w → IsFoundIn told w
found_more told f old new there put before w h = elim (puts_cases old new (wrong_in f) w put h) [
  | inl was ↦ before w was
  | inr is ↦ (f, there, is)
]

pub found_next : (told : List Finding) (i : ℕ) (d : Finding) (old new : List Wrong) (k : Wrong) → i < length told → k ≡ wrong_in (slice_index_or told i d) → PutsKey old k new
    → ((w : Wrong) → Contains old w → IsFoundIn told w) → (w : Wrong) → Contains new w → IsFoundIn told w
found_next told i d old new k b is put before =
    found_more told (slice_index_or told i d) old new (at_contains told i (slice_index_or told i d) (slice_get-get_or told i d b))
    (subst (λ (q : Wrong). PutsKey old q new) is put) before

-- what is wrong in the first of the findings is there, and in one more
pub first_next : (told : List Finding) (i : ℕ) (d : Finding) (old new : List Wrong) (k : Wrong) → i < length told → k ≡ wrong_in (slice_index_or told i d) → PutsKey old k new
    → ((f : Finding) → Contains (take i told) f → Contains old (wrong_in f)) → (f : Finding) → Contains (take (i + 1) told) f → Contains new (wrong_in f)
first_next told i d old new k b is put before f h =
    elim (Contains-push_cases (take i told) (slice_index_or told i d) f (subst (λ (fs : List Finding). Contains fs f) (take_more told i d b) h)) [
      | inl was ↦ puts_keep old new k (wrong_in f) put (before f was)
      | inr same ↦ subst (λ (q : Wrong). Contains new q) (is ∙ ap wrong_in same) (puts_has old new k put)
    ]

-- after the last finding all are there
pub all_found : (told : List Finding) (n : ℕ) (ws items : List Wrong) → length told ≤ n → items ≡ ws → AreDistinct ws
    → ((f : Finding) → Contains (take n told) f → Contains ws (wrong_in f)) → ((w : Wrong) → Contains ws w → IsFoundIn told w) → AreWrongs told items
all_found told n ws items past e once all only = subst (λ (xs : List Wrong). AreWrongs told xs) (sym e) (record { once = once; found = λ w. (only w, from w) })
  where
    from : (w : Wrong) → IsFoundIn told w → Contains ws w
    from w (f, there, is) = subst (λ (x : Wrong). Contains ws x) is (all f (subst (λ (fs : List Finding). Contains fs f) (sym (take_all n told past)) there))

-- one asker more
pub asked_more : (told : List Finding) (w : Wrong) (f : Finding) (old new : List (Asker PathId NameId)) → Contains told f → wrong_in f ≡ w → new ≡ old ++ f.asker ∷ []
    → ((a : Asker PathId NameId) → Contains old a → IsAskedIn told w a) → (a : Asker PathId NameId) → Contains new a → IsAskedIn told w a
asked_more told w f old new there is e before a h = elim (Contains-push_cases old f.asker a (subst (λ (xs : List (Asker PathId NameId)). Contains xs a) e h)) [
  | inl was ↦ before a was
  | inr same ↦ (f, there, is, same)
]

-- one fault more
pub have_more : (told : List Finding) (old new : List FaultAt) (g : FaultAt) → new ≡ old ++ g ∷ [] → HaveAskers told old → AreAskers told g.wrong g.askers.items → HaveAskers told new
have_more told old new g e before here x h = elim (Contains-push_cases old g x (subst (λ (gs : List FaultAt). Contains gs x) e h)) [
  | inl was ↦ before x was
  | inr same ↦ subst (λ (y : FaultAt). AreAskers told y.wrong y.askers.items) same here
]

-- one more of a list whose images are the first of another
pub map_on : {A B : Type 0} (f : A → B) (ys : List B) (i : ℕ) (d : B) (from to : List A) (x : A) → i < length ys → map f from ≡ take i ys → f x ≡ slice_index_or ys i d → to ≡ from ++ x ∷ []
    → map f to ≡ take (i + 1) ys
map_on {A} {B} f ys i d from to x b e is g =
    ap (λ (xs : List A). map f xs) g ∙ (map_push from x ∙ (ap (λ (ts : List B). ts ++ f x ∷ []) e ∙ (ap (λ (t : B). take i ys ++ t ∷ []) is ∙ sym (take_more ys i d b))))
  where
    map_push : (xs : List A) (y : A) → map f (xs ++ y ∷ []) ≡ map f xs ++ f y ∷ []
    map_push [] y = refl
    map_push (z ∷ xs) y = ap (λ (zs : List B). f z ∷ zs) (map_push xs y)

-- one more of a list whose images are those of the first of another
pub maps_on : {A B C : Type 0} (f : A → C) (g : B → C) (ys : List B) (i : ℕ) (from to : List A) (x : A) (y : B) → i < length ys → y ≡ slice_index_or ys i y → f x ≡ g y
    → map f from ≡ take i (map g ys) → to ≡ from ++ x ∷ [] → map f to ≡ take (i + 1) (map g ys)
maps_on f g ys i from to x y b at is e p =
    map_on f (map g ys) i (g y) from to x (let l = length-map ys g in omega arith) e (is ∙ (ap g at ∙ sym (get_or-map g ys i y (g y) b))) p

-- ---- all that ask for a fault, from the last finding on

-- those that ask in the findings of the fault from that one on were added, and no others
pub record IsAsking (told : List Finding) (w : Wrong) (askers : List (Asker PathId NameId)) (at : Option ℕ) : Type 0 where
  pub over : IsOver (IsKeyed wrong_in w) (λ (i : ℕ) (f : Finding). Contains askers f.asker) told at
  pub only : (a : Asker PathId NameId) → Contains askers a → IsAskedIn told w a

pub ask_start : (told : List Finding) (w : Wrong) (askers : List (Asker PathId NameId)) (at : Option ℕ) → askers ≡ [] → IsLast (IsKeyed wrong_in w) told (length told) at → IsAsking told w askers at
ask_start told w askers at e last = record {
  over = start (IsKeyed wrong_in w) (λ (i : ℕ) (f : Finding). Contains askers f.asker) told at last;
  only = λ a h. absurd (contains_nil a (subst (λ (xs : List (Asker PathId NameId)). Contains xs a) e h));
}

pub has_at : {X : Type 0} (Q : X → Type 0) (R : ℕ → X → Type 0) (xs : List X) (at : Option ℕ) (i : ℕ) → at ≡ Some i → IsOver Q R xs at → HasAt Q xs i
has_at {X} Q R xs at i is (n, last, room, over) = let here : IsLast Q xs n (Some i) = subst (λ (q : Option ℕ). IsLast Q xs n q) is last in here.1

pub ask_within : (told : List Finding) (w : Wrong) (askers : List (Asker PathId NameId)) (at : Option ℕ) (i : ℕ) → at ≡ Some i → IsAsking told w askers at → i < length told
ask_within told w askers at i is s = within (IsKeyed wrong_in w) (λ (j : ℕ) (f : Finding). Contains askers f.asker) told at i is s.over

ask_next : (told : List Finding) (w : Wrong) (at : Option ℕ) (i : ℕ) (f : Finding) (o : Option ℕ) (old new : List (Asker PathId NameId))
    → at ≡ Some i → slice_get told i ≡ Some f → IsLast (IsKeyed wrong_in w) told i o → new ≡ old ++ f.asker ∷ [] → IsAsking told w old at → IsAsking told w new o
ask_next told w at i f o old new is here last e s =
    let has : HasAt (IsKeyed wrong_in w) told i = has_at (IsKeyed wrong_in w) (λ (j : ℕ) (x : Finding). Contains old x.asker) told at i is s.over in
    let (g, there, key) = has in
    record {
      over = next (IsKeyed wrong_in w) (λ (j : ℕ) (x : Finding). Contains new x.asker) told at i o is
          (over_with (IsKeyed wrong_in w) (λ (j : ℕ) (x : Finding). Contains old x.asker) (λ (j : ℕ) (x : Finding). Contains new x.asker) told at
          (λ j x h. subst (λ (xs : List (Asker PathId NameId)). Contains xs x.asker) (sym e) (Contains-append_left old (f.asker ∷ []) x.asker h)) s.over)
          (λ x atx. subst (λ (y : Finding). Contains new y.asker) (one_at told i f x here atx) (subst (λ (xs : List (Asker PathId NameId)). Contains xs f.asker) (sym e) (Contains-push old f.asker)))
          last;
      only = asked_more told w f old new (at_contains told i f here) (ap wrong_in (one_at told i f g here there) ∙ key) e s.only;
    }

pub ask_more : (told : List Finding) (w : Wrong) (at : Option ℕ) (i : ℕ) (d : Finding) (o : Option ℕ) (old new : List (Asker PathId NameId))
    → at ≡ Some i → IsLast (IsKeyed wrong_in w) told i o → new ≡ old ++ (slice_index_or told i d).asker ∷ [] → IsAsking told w old at → IsAsking told w new o
ask_more told w at i d o old new is last e s = ask_next told w at i (slice_index_or told i d) o old new is (slice_get-get_or told i d (ask_within told w old at i is s)) last e s

pub ask_all : (told : List Finding) (w : Wrong) (askers : List (Asker PathId NameId)) (at : Option ℕ) → at ≡ None → IsAsking told w askers at → AreAskers told w askers
ask_all told w askers at is s = record {
  all = λ f there key. let (k, b, e) = contains_at told f there in all (IsKeyed wrong_in w) (λ (j : ℕ) (x : Finding). Contains askers x.asker) told at is s.over k f e key;
  only = s.only;
}
