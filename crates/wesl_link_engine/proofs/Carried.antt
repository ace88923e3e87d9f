-- What leads, enters, reaches and stands in a world of tables does so in one that says the same in other paths and names,
-- where these correspond one to one.
use Rattle.std.proofs.Common.{◌≡◌, ◌⊎◌, inl, inr, ℕ, zero, suc, ◌<◌, ◌≤◌, true, Option, Some, None, List, [], ◌∷◌, length, Contains, All, refl, sym, subst, ap, ◌∙◌, arith}
use Rattle.wesl_cond_choices.specs.declared.place.Place.{Place}
use Rattle.wesl_cond_choices.specs.declared.place.Place.TheVariants.{Always}
use Rattle.wesl_cond_choices.specs.Places.{together}
use Rattle.wesl_link_symbols.specs.declared.symbols.Import.{Import}
use Rattle.wesl_link_symbols.specs.declared.symbols.Reference.{Reference}
use Rattle.wesl_link_symbols.specs.declared.symbols.Symbol.{Symbol}
use Rattle.wesl_link_symbols.specs.declared.symbols.LookUp.{LookUp}
use Rattle.wesl_link_symbols.specs.declared.symbols.Answer.{Answer}
use Rattle.wesl_link_symbols.specs.declared.symbols.Answer.TheVariants.{Declared, Next, Missing, Private, Ambiguous}
use Rattle.wesl_link_symbols.specs.Tables.{Declaration, Table}
use Rattle.wesl_link_symbols.specs.Names.{Declares, Imports, SameTarget, IsOwn, asked_for, asked_by, AsksFrom, IsUnclearFrom, Shows, Sees, DeclaresTo, IsOpenTo, IsHiddenFrom, IsAskedTo, Answers}
use Rattle.wesl_link_reach.specs.World.{IsAt, Finds, Hops, Reaches, EndsWith, LeadsTo, HasMet, Walk, WalksTo, IsMissingAt, IsPrivateAt, IsAmbiguousAt, Task, IsKept, Entered, Reached, Followed}
use Rattle.wesl_link_reach.specs.World.Walk.{begin, step}
use Rattle.wesl_link_reach.specs.World.Entered.{root, asked, imported}
use Rattle.wesl_link_reach.specs.World.Reached.{led_to, declared}
use Rattle.wesl_link_reach.specs.World.Followed.{kept, by_assert, by_symbol}
use Rattle.wesl_link_reach.specs.Faults.{Fault, duplicate, refused, missing, private, too_many, ambiguous, too_many_flags, Meet, Clashes, AreDistinct, Stands}
use Rattle.wesl_link_reach.specs.Faults.AreDistinct.{none as none_distinct, one_more as one_distinct}
use Rattle.wesl_link_symbols.proofs.Lists.{contains_nil, contains_later, contains_first, contains_cases}
use Rattle.wesl_link_tables.specs.Numbering.{AreRelated, IsRelatedOption, SameImport, SameReference, SameDeclaration, SameTable}

-- ---- lists and options

module _ {X Y : Type 0} (R : X → Y → Type 0) where
  pub related_in : (xs : List X) (ys : List Y) (x : X) → AreRelated R xs ys → Contains xs x → (y : Y) × Contains ys y × R x y
  related_in [] ys x h c = absurd (contains_nil x c)
  related_in (z ∷ xs) [] x h c = absurd h
  related_in (z ∷ xs) (y ∷ ys) x h c = by (contains_cases z x xs c) (related_in xs ys x h.1)
    where
      by : (z ≡ x) ⊎ Contains xs x → (Contains xs x → (u : Y) × Contains ys u × R x u) → (u : Y) × Contains (y ∷ ys) u × R x u
      by (inl e) rest = (y, contains_first y ys, subst (λ (w : X). R w y) e h.0)
      by (inr c) rest = let (u, d, k) = rest c in (u, contains_later y u ys d, k)

  pub option_of : (o : Option X) (p : Option Y) (x : X) → IsRelatedOption R o p → o ≡ Some x → (y : Y) × (p ≡ Some y) × R x y
  option_of None None x h e = absurd (cc)
  option_of None (Some y) x h e = absurd h
  option_of (Some z) None x h e = absurd h
  option_of (Some z) (Some y) x h e = let f : z ≡ x = cc in (y, refl, subst (λ (w : X). R w y) f h)

module _ {X Y : Type 0} where
  abbrev pub Back : (X → Y → Type 0) → Y → X → Type 0
  Back R y x = R x y

  pub related_back : (R : X → Y → Type 0) (S : Y → X → Type 0) → ((x : X) (y : Y) → R x y → S y x) → (xs : List X) (ys : List Y) → AreRelated R xs ys → AreRelated S ys xs
  related_back R S turn [] [] h = tt
  related_back R S turn (x ∷ xs) (y ∷ ys) h = (turn x y h.0, related_back R S turn xs ys h.1)
  related_back R S turn [] (y ∷ ys) h = absurd h
  related_back R S turn (x ∷ xs) [] h = absurd h

  pub option_back : (R : X → Y → Type 0) (o : Option X) (p : Option Y) → IsRelatedOption R o p → IsRelatedOption (Back R) p o
  option_back R None None h = tt
  option_back R (Some x) (Some y) h = h
  option_back R None (Some y) h = absurd h
  option_back R (Some x) None h = absurd h

-- each stands for one at most, both ways
pub record IsOneToOne {X Y : Type 0} (R : X → Y → Type 0) : Type 0 where
  pub one : (x : X) (y z : Y) → R x y → R x z → y ≡ z
  pub other : (x w : X) (y : Y) → R x y → R w y → x ≡ w

pub one_back : {X Y : Type 0} (R : X → Y → Type 0) → IsOneToOne R → IsOneToOne (Back R)
one_back R h = record { one = λ y x w a b. h.other x w y a b; other = λ y z x a b. h.one x y z a b }

option_one : {X Y : Type 0} (R : X → Y → Type 0) → IsOneToOne R → (o : Option X) (p q : Option Y) → IsRelatedOption R o p → IsRelatedOption R o q → p ≡ q
option_one R one None None None h k = refl
option_one R one (Some x) (Some y) (Some z) h k = ap Some (one.one x y z h k)
option_one R one None (Some y) q h k = absurd h
option_one R one None None (Some z) h k = absurd k
option_one R one (Some x) None q h k = absurd h
option_one R one (Some x) (Some y) None h k = absurd k

-- ---- tables, turned round

module _ {P N Q M : Type 0} (R : P → Q → Type 0) (S : N → M → Type 0) where
  import_back : (i : Import P N) (j : Import Q M) → SameImport R S i j → SameImport (Back R) (Back S) j i
  import_back i j h = record { bound = h.bound; path = h.path; item = h.item; published = sym h.published; place = sym h.place; from = sym h.from; order = sym h.order }

  reference_back : (r : Reference P N) (s : Reference Q M) → SameReference R S r s → SameReference (Back R) (Back S) s r
  reference_back r s h = record { path = h.path; name = h.name; from = sym h.from }

  declaration_back : (d : Declaration P N) (e : Declaration Q M) → SameDeclaration R S d e → SameDeclaration (Back R) (Back S) e d
  declaration_back d e h = record {
    name = option_back S d.name e.name h.name;
    place = sym h.place;
    references = related_back (SameReference R S) (SameReference (Back R) (Back S)) reference_back d.references e.references h.references;
    unclear = related_back S (Back S) (λ x y s. s) d.unclear e.unclear h.unclear;
  }

  pub table_back : (t : Table P N) (u : Table Q M) → SameTable R S t u → SameTable (Back R) (Back S) u t
  table_back t u h = record {
    path = h.path;
    imports = related_back (SameImport R S) (SameImport (Back R) (Back S)) import_back t.imports u.imports h.imports;
    declarations = related_back (SameDeclaration R S) (SameDeclaration (Back R) (Back S)) declaration_back t.declarations u.declarations h.declarations;
    together = λ a b. sym (h.together a b);
    crowded = sym h.crowded;
  }

  pub record SameLookUp (l : LookUp P N) (k : LookUp Q M) : Type 0 where
    pub asker : IsRelatedOption R l.asker k.asker
    pub path : R l.path k.path
    pub name : S l.name k.name
    pub from : l.from ≡ k.from

  pub record SameSymbol (s : Symbol P N) (u : Symbol Q M) : Type 0 where
    pub path : R s.path u.path
    pub name : S s.name u.name

  pub record SameTask (a : Task P N) (b : Task Q M) : Type 0 where
    pub root : R a.root b.root
    pub kept : AreRelated S a.kept b.kept
    pub eager : a.is_eager ≡ b.is_eager

  -- each table of the first world is in the second, in its paths and names
  pub record Covers (w : List (Table P N)) (v : List (Table Q M)) : Type 0 where
    pub covered : (t : Table P N) → Contains w t → (u : Table Q M) × Contains v u × SameTable R S t u

  abbrev pub SameFault : {E : Type 0} → Fault P N E → Fault Q M E → Type 0
  SameFault (duplicate p n) (duplicate q m) = R p q × S n m
  SameFault (refused e) (refused f) = e ≡ f
  SameFault (missing p n) (missing q m) = R p q × S n m
  SameFault (private n p) (private m q) = S n m × R p q
  SameFault (too_many k) (too_many l) = k ≡ l
  SameFault (ambiguous n) (ambiguous m) = S n m
  SameFault (too_many_flags p) (too_many_flags q) = R p q
  SameFault _ _ = ⊥

look_up_back : {P N Q M : Type 0} (R : P → Q → Type 0) (S : N → M → Type 0) (l : LookUp P N) (k : LookUp Q M) → SameLookUp R S l k → SameLookUp (Back R) (Back S) k l
look_up_back R S l k h = record { asker = option_back R l.asker k.asker h.asker; path = h.path; name = h.name; from = sym h.from }

-- ---- one table, one way

module _ {P N Q M : Type 0} (R : P → Q → Type 0) (S : N → M → Type 0) (rs : IsOneToOne R) (ss : IsOneToOne S) (t : Table P N) (u : Table Q M) (same : SameTable R S t u) where
  own_to : (i : Import P N) (j : Import Q M) → SameImport R S i j → IsOwn t.path i → IsOwn u.path j
  own_to i j h (p, n) = (
    rs.one t.path j.path u.path (subst (λ (x : P). R x j.path) p h.path) same.path,
    ss.one i.bound j.item j.bound (subst (λ (x : N). S x j.item) n h.item) h.bound,
  )

  target_to : (i i2 : Import P N) (j j2 : Import Q M) → SameImport R S i j → SameImport R S i2 j2 → SameTarget i i2 → SameTarget j j2
  target_to i i2 j j2 h k (p, n) = (
    rs.one i2.path j.path j2.path (subst (λ (x : P). R x j.path) p h.path) k.path,
    ss.one i2.item j.item j2.item (subst (λ (x : N). S x j.item) n h.item) k.item,
  )

  asked_by_to : (i i2 : Import P N) (j j2 : Import Q M) → SameImport R S i j → SameImport R S i2 j2 → asked_by t i ≡ asked_by t i2 → asked_by u j ≡ asked_by u j2
  asked_by_to i i2 j j2 h k e =
      let p : i.path ≡ i2.path = ap (λ (x : LookUp P N). x.path) e in
      let n : i.item ≡ i2.item = ap (λ (x : LookUp P N). x.name) e in
      let f : i.from ≡ i2.from = ap (λ (x : LookUp P N). x.from) e in
      let (q, m) = target_to i i2 j j2 h k (p, n) in
      ap (λ (x : Q). record { asker = Some u.path; path = x; name = j.item; from = j.from }) q
      ∙ (ap (λ (x : M). record { asker = Some u.path; path = j2.path; name = x; from = j.from }) m
      ∙ ap (λ (x : Place). record { asker = Some u.path; path = j2.path; name = j2.item; from = x }) (sym h.from ∙ (f ∙ k.from)))

  asked_same : (i : Import P N) (j : Import Q M) → SameImport R S i j → SameLookUp R S (asked_by t i) (asked_by u j)
  asked_same i j h = record { asker = same.path; path = h.path; name = h.item; from = h.from }

  -- a place is seen from another in both
  seen_to : (a b : Place) (c d : Place) → a ≡ c → b ≡ d → Sees t a b → Sees u c d
  seen_to a b c d e f (inl g) = inl (sym f ∙ g)
  seen_to a b c d e f (inr g) =
      inr (subst (λ (x : Place). together u.alive x d ≡ true) e (subst (λ (x : Place). together u.alive a x ≡ true) f (sym (same.together a b) ∙ g)))

  meet_to : (a b : Place) (c d : Place) → a ≡ c → b ≡ d → Meet t a b → Meet u c d
  meet_to a b c d e f (inl g) = inl (sym e ∙ g)
  meet_to a b c d e f (inr g) = inr (seen_to a b c d e f g)

  named_to : (d : Declaration P N) (n : N) (m : M) → S n m → Contains t.declarations d → d.name ≡ Some n → (f : Declaration Q M) × Contains u.declarations f × (f.name ≡ Some m) × SameDeclaration R S d f
  named_to d n m s c e =
      let (f, g, h) = related_in (SameDeclaration R S) t.declarations u.declarations d same.declarations c in
      let (x, is, also) = option_of S d.name f.name n h.name e in
      (f, g, is ∙ ap Some (ss.one n x m also s), h)

  imports_to : (n : N) (m : M) (i : Import P N) → S n m → Imports t n i → (j : Import Q M) × Imports u m j × SameImport R S i j
  imports_to n m i s (c, e) =
      let (j, d, h) = related_in (SameImport R S) t.imports u.imports i same.imports c in
      (j, (d, ss.one n j.bound m (subst (λ (x : N). S x j.bound) e h.bound) s), h)

  -- what stands in the declarations of a name
  from_to : (n : Option N) (m : Option M) (d : Declaration P N) → IsRelatedOption S n m → Contains t.declarations d → d.name ≡ n → (f : Declaration Q M) × Contains u.declarations f × (f.name ≡ m) × SameDeclaration R S d f
  from_to n m d s c e =
      let (f, g, h) = related_in (SameDeclaration R S) t.declarations u.declarations d same.declarations c in
      (f, g, option_one S ss n f.name m (subst (λ (o : Option N). IsRelatedOption S o f.name) e h.name) s, h)

  pub asks_from_to : (n : Option N) (m : Option M) (l : LookUp P N) → IsRelatedOption S n m → AsksFrom t n l → (k : LookUp Q M) × AsksFrom u m k × SameLookUp R S l k
  asks_from_to n m l s (r, (d, c, e, g), is) =
      let (f, x, named, h) = from_to n m d s c e in
      let (q, y, k) = related_in (SameReference R S) d.references f.references r h.references g in (
        asked_for u q,
        (q, (f, x, named, y), refl),
        subst (λ (z : LookUp P N). SameLookUp R S z (asked_for u q)) (sym is) (record { asker = same.path; path = k.path; name = k.name; from = k.from }),
      )

  unclear_from_to : (n : Option N) (m : Option M) (x : N) → IsRelatedOption S n m → IsUnclearFrom t n x → (y : M) × S x y × IsUnclearFrom u m y
  unclear_from_to n m x s (d, c, e, g) =
      let (f, there, named, h) = from_to n m d s c e in
      let (y, held, k) = related_in S d.unclear f.unclear x h.unclear g in (y, k, (f, there, named, held))

  module _ (l : LookUp P N) (k : LookUp Q M) (look : SameLookUp R S l k) where
    shows_to : (i : Import P N) (j : Import Q M) → SameImport R S i j → Shows l.asker t.path i → Shows k.asker u.path j
    shows_to i j h (inl e) = inl (sym h.published ∙ e)
    shows_to i j h (inr e) = let (q, is, also) = option_of R l.asker k.asker t.path look.asker e in inr (is ∙ ap Some (rs.one t.path q u.path also same.path))

    declares_to : DeclaresTo t l → DeclaresTo u k
    declares_to (d, c, e, s) = let (f, g, named, h) = named_to d l.name k.name look.name c e in (f, g, named, seen_to l.from d.place k.from f.place look.from h.place s)

    open_to : (i : Import P N) → IsOpenTo t l i → (j : Import Q M) × IsOpenTo u k j × SameImport R S i j
    open_to i (m, shows, seen) = let (j, n, h) = imports_to l.name k.name i look.name m in (j, (n, shows_to i j h shows, seen_to l.from i.place k.from j.place look.from h.place seen), h)

-- ---- one table, both ways

module _ {P N Q M : Type 0} (R : P → Q → Type 0) (S : N → M → Type 0) (rs : IsOneToOne R) (ss : IsOneToOne S) (t : Table P N) (u : Table Q M) (same : SameTable R S t u) where
  turned : SameTable (Back R) (Back S) u t
  turned = table_back R S t u same

  turn : (i : Import P N) (j : Import Q M) → SameImport (Back R) (Back S) j i → SameImport R S i j
  turn i j h = record { bound = h.bound; path = h.path; item = h.item; published = sym h.published; place = sym h.place; from = sym h.from; order = sym h.order }

  pub declares_from : (n : N) (m : M) → S n m → Declares u m → Declares t n
  declares_from n m s (f, c, e) = let (d, g, is, h) = named_to (Back R) (Back S) (one_back R rs) (one_back S ss) u t turned f m n s c e in (d, g, is)

  own_from : (i : Import P N) (j : Import Q M) → SameImport R S i j → IsOwn u.path j → IsOwn t.path i
  own_from i j h own = own_to (Back R) (Back S) (one_back R rs) (one_back S ss) u t turned j i (import_back R S i j h) own

  target_from : (i i2 : Import P N) (j j2 : Import Q M) → SameImport R S i j → SameImport R S i2 j2 → SameTarget j j2 → SameTarget i i2
  target_from i i2 j j2 h h2 e = target_to (Back R) (Back S) (one_back R rs) (one_back S ss) u t turned j j2 i i2 (import_back R S i j h) (import_back R S i2 j2 h2) e

  asked_by_from : (i i2 : Import P N) (j j2 : Import Q M) → SameImport R S i j → SameImport R S i2 j2 → asked_by u j ≡ asked_by u j2 → asked_by t i ≡ asked_by t i2
  asked_by_from i i2 j j2 h h2 e = asked_by_to (Back R) (Back S) (one_back R rs) (one_back S ss) u t turned j j2 i i2 (import_back R S i j h) (import_back R S i2 j2 h2) e

  least : {a b x y : ℕ} → a ≡ x → b ≡ y → a ≤ b → x ≤ y
  least e f h = omega arith

  module _ (l : LookUp P N) (k : LookUp Q M) (look : SameLookUp R S l k) where
    turned_look : SameLookUp (Back R) (Back S) k l
    turned_look = look_up_back R S l k look

    open_from : (j : Import Q M) → IsOpenTo u k j → (i : Import P N) × IsOpenTo t l i × SameImport R S i j
    open_from j seen = let (i, o, h) = open_to (Back R) (Back S) (one_back R rs) (one_back S ss) u t turned k l turned_look j seen in (i, o, turn i j h)

    asked_to : (i : Import P N) → IsAskedTo t l i → (j : Import Q M) × IsAskedTo u k j × SameImport R S i j
    asked_to i (o, all) =
        let (j, seen, h) = open_to R S rs ss t u same l k look i o in
        (j, (seen, λ j2 seen2. let (i2, o2, h2) = open_from j2 seen2 in least h.order h2.order (all i2 o2)), h)

    asked_from : (j : Import Q M) → IsAskedTo u k j → (i : Import P N) × IsAskedTo t l i × SameImport R S i j
    asked_from j (o, all) =
        let (i, seen, h) = open_from j o in
        (i, (seen, λ i2 seen2. let (j2, o2, h2) = open_to R S rs ss t u same l k look i2 seen2 in least (sym h.order) (sym h2.order) (all j2 o2)), h)

    undeclared : (DeclaresTo t l → ⊥) → DeclaresTo u k → ⊥
    undeclared none d = none (declares_to (Back R) (Back S) (one_back R rs) (one_back S ss) u t turned k l turned_look d)

    closed_to : ((i : Import P N) → IsOpenTo t l i → ⊥) → (j : Import Q M) → IsOpenTo u k j → ⊥
    closed_to closed j o = let (i, seen, h) = open_from j o in closed i seen

    hidden_to : (i : Import P N) → IsHiddenFrom t l i → (j : Import Q M) × IsHiddenFrom u k j
    hidden_to i (held, hidden) =
        let (j, n, h) = imports_to R S rs ss t u same l.name k.name i look.name held in
        (j, (n, λ shows. hidden (shows_to (Back R) (Back S) (one_back R rs) (one_back S ss) u t turned k l turned_look j i (import_back R S i j h) shows)))

    hidden_from : (j : Import Q M) → IsHiddenFrom u k j → (i : Import P N) × IsHiddenFrom t l i
    hidden_from j (held, hidden) =
        let (i, n, h) = imports_to (Back R) (Back S) (one_back R rs) (one_back S ss) u t turned k.name l.name j look.name held in
        (i, (n, λ shows. hidden (shows_to R S rs ss t u same l k look i j (turn i j h) shows)))

    -- ---- a table that says the same answers the same

    next_to : (n : LookUp P N) → Answers t l (Next n) → (m : LookUp Q M) × Answers u k (Next m) × SameLookUp R S n m
    next_to n (none, alike, (i, first, is), all) =
        let (j, first2, h) = asked_to i first in (
          asked_by u j,
          (
            undeclared none,
            λ j1 j2 o1 o2. let (i1, s1, h1) = open_from j1 o1 in let (i2, s2, h2) = open_from j2 o2 in target_to R S rs ss t u same i1 i2 j1 j2 h1 h2 (alike i1 i2 s1 s2),
            (j, first2, refl),
            λ j1 a1. let (i1, s1, h1) = asked_from j1 a1 in asked_by_to R S rs ss t u same i i1 j j1 h h1 (sym is ∙ all i1 s1),
          ),
          subst (λ (x : LookUp P N). SameLookUp R S x (asked_by u j)) (sym is) (asked_same R S rs ss t u same i j h),
        )

    declared_same : Answers t l Declared → Answers u k Declared
    declared_same (d, own) = (declares_to R S rs ss t u same l k look d, λ j o. let (i, seen, h) = open_from j o in own_to R S rs ss t u same i j h (own i seen))

    missing_same : Answers t l Missing → Answers u k Missing
    missing_same (none, closed, shown) = (undeclared none, closed_to closed, λ j hidden. let (i, h) = hidden_from j hidden in shown i h)

    private_same : Answers t l Private → Answers u k Private
    private_same (none, closed, (i, hidden)) = (undeclared none, closed_to closed, hidden_to i hidden)

    ambiguous_same : Answers t l Ambiguous → Answers u k Ambiguous
    ambiguous_same (inl (d, i, seen, other)) =
        let (j, o, h) = open_to R S rs ss t u same l k look i seen in inl (declares_to R S rs ss t u same l k look d, j, o, λ own. other (own_from i j h own))
    ambiguous_same (inr (inl (none, i, i2, seen, seen2, other))) =
        let (j, o, h) = open_to R S rs ss t u same l k look i seen in
        let (j2, o2, h2) = open_to R S rs ss t u same l k look i2 seen2 in
        inr (inl (undeclared none, j, j2, o, o2, λ e. other (target_from i i2 j j2 h h2 e)))
    ambiguous_same (inr (inr (none, i, i2, first, second, other))) =
        let (j, o, h) = asked_to i first in
        let (j2, o2, h2) = asked_to i2 second in
        inr (inr (undeclared none, j, j2, o, o2, λ e. other (asked_by_from i i2 j j2 h h2 e)))

-- ---- worlds

module _ {P N Q M : Type 0} (R : P → Q → Type 0) (S : N → M → Type 0) (rs : IsOneToOne R) (ss : IsOneToOne S) (w : List (Table P N)) (v : List (Table Q M)) (covers : Covers R S w v) where
  pub at_to : (p : P) (q : Q) (t : Table P N) → R p q → IsAt w p t → (u : Table Q M) × IsAt v q u × SameTable R S t u
  at_to p q t h (c, e) =
      let (u, d, same) = covers.covered t c in
      (u, (d, rs.one p u.path q (subst (λ (x : P). R x u.path) e same.path) h), same)

  finds_to : (l : LookUp P N) (k : LookUp Q M) (s : Symbol P N) → SameLookUp R S l k → Finds w l s → (x : Symbol Q M) × Finds v k x × SameSymbol R S s x
  finds_to l k s h (t, at, d, e) =
      let (u, at2, same) = at_to l.path k.path t h.path at in (
        record { path = k.path; name = k.name },
        (u, at2, declared_same R S rs ss t u same l k h d, refl),
        subst (λ (x : Symbol P N). SameSymbol R S x (record { path = k.path; name = k.name })) (sym e) (record { path = h.path; name = h.name }),
      )

  hops_to : (a b : LookUp P N) (c : LookUp Q M) → SameLookUp R S a c → Hops w a b → (d : LookUp Q M) × Hops v c d × SameLookUp R S b d
  hops_to a b c h (t, at, next) =
      let (u, at2, same) = at_to a.path c.path t h.path at in
      let (d, there, k) = next_to R S rs ss t u same a c h b next in (d, (u, at2, there), k)

  met_from : (met : List (LookUp P N)) (met2 : List (LookUp Q M)) (a : LookUp P N) (b : LookUp Q M) → AreRelated (SameLookUp R S) met met2 → SameLookUp R S a b → HasMet met2 b → HasMet met a
  met_from met met2 a b hs h (c, held, (ep, en)) =
      let (d, held2, same) = related_in (Back (SameLookUp R S)) met2 met c (related_back (SameLookUp R S) (Back (SameLookUp R S)) (λ x y k. k) met met2 hs) held in
      (d, held2, (rs.other a.path d.path c.path (subst (λ (q : Q). R a.path q) ep h.path) same.path, ss.other a.name d.name c.name (subst (λ (m : M). S a.name m) en h.name) same.name))

  met_to : (met : List (LookUp P N)) (met2 : List (LookUp Q M)) (a : LookUp P N) (b : LookUp Q M) → AreRelated (SameLookUp R S) met met2 → SameLookUp R S a b → HasMet met a → HasMet met2 b
  met_to met met2 a b hs h (c, held, (ep, en)) =
      let (d, held2, same) = related_in (SameLookUp R S) met met2 c hs held in
      (d, held2, (rs.one c.path b.path d.path (subst (λ (p : P). R p b.path) ep h.path) same.path, ss.one c.name b.name d.name (subst (λ (n : N). S n b.name) en h.name) same.name))

  walk_to : (l : LookUp P N) (k : LookUp Q M) (met : List (LookUp P N)) (a : LookUp P N) → SameLookUp R S l k → Walk w l met a
      → (met2 : List (LookUp Q M)) × (b : LookUp Q M) × Walk v k met2 b × SameLookUp R S a b × AreRelated (SameLookUp R S) met met2
  walk_to l k met a h (begin _ e) = ([], k, begin k refl, subst (λ (x : LookUp P N). SameLookUp R S x k) (sym e) h, tt)
  walk_to l k met a h (step before b _ r new hop) =
      let (before2, c, walk, same, all) = walk_to l k before b h r in
      let (d, hop2, same_d) = hops_to b a c same hop in
      (c ∷ before2, d, step before2 c d walk (λ m. new (met_from before before2 b c all same m)) hop2, same_d, (same, all))

  pub comes_to : (l : LookUp P N) (k : LookUp Q M) (a : LookUp P N) → SameLookUp R S l k → WalksTo w l a → (b : LookUp Q M) × WalksTo v k b × SameLookUp R S a b
  comes_to l k a h (met, walk) = let (met2, b, walk2, same, all) = walk_to l k met a h walk in (b, (met2, walk2), same)

  reaches_to : (l : LookUp P N) (k : LookUp Q M) (a : LookUp P N) → SameLookUp R S l k → Reaches w l a → (b : LookUp Q M) × Reaches v k b × SameLookUp R S a b
  reaches_to l k a h (met, walk, new) =
      let (met2, b, walk2, same, all) = walk_to l k met a h walk in (b, (met2, walk2, λ m. new (met_from met met2 a b all same m)), same)

  pub leads_to : (l : LookUp P N) (k : LookUp Q M) (s : Symbol P N) → SameLookUp R S l k → LeadsTo w l s → (x : Symbol Q M) × LeadsTo v k x × SameSymbol R S s x
  leads_to l k s h (a, reached, found) =
      let (b, there, same) = reaches_to l k a h reached in
      let (x, g, same_s) = finds_to a b s same found in (x, (b, there, g), same_s)

  -- it ends as well, where the tables there answer the same
  ends_to : (x : Answer P N) (y : Answer Q M) → ((t : Table P N) (u : Table Q M) → SameTable R S t u → (a : LookUp P N) (b : LookUp Q M) → SameLookUp R S a b → Answers t a x → Answers u b y)
      → (l : LookUp P N) (k : LookUp Q M) (a : LookUp P N) → SameLookUp R S l k → EndsWith w l a x → (b : LookUp Q M) × EndsWith v k b y × SameLookUp R S a b
  ends_to x y answers l k a h (reached, (t, at, ans)) =
      let (b, there, same) = reaches_to l k a h reached in
      let (u, at2, same_t) = at_to a.path b.path t same.path at in (b, (there, (u, at2, answers t u same_t a b same ans)), same)

  missing_to : (l : LookUp P N) (k : LookUp Q M) (p : P) (n : N) → SameLookUp R S l k → IsMissingAt w l p n → (q : Q) × (m : M) × R p q × S n m × IsMissingAt v k q m
  missing_to l k p n h (a, ep, en, inl ends) =
      let (b, there, same) = ends_to Missing Missing (missing_same R S rs ss) l k a h ends in
      (b.path, b.name, subst (λ (x : P). R x b.path) ep same.path, subst (λ (x : N). S x b.name) en same.name, (b, refl, refl, inl there))
  missing_to l k p n h (a, ep, en, inr (met, walk, again)) =
      let (met2, b, walk2, same, all) = walk_to l k met a h walk in
      (b.path, b.name, subst (λ (x : P). R x b.path) ep same.path, subst (λ (x : N). S x b.name) en same.name, (b, refl, refl, inr (met2, walk2, met_to met met2 a b all same again)))

  private_to : (l : LookUp P N) (k : LookUp Q M) (n : N) (p : P) → SameLookUp R S l k → IsPrivateAt w l n p → (q : Q) × (m : M) × R p q × S n m × IsPrivateAt v k m q
  private_to l k n p h (a, ep, en, ends) =
      let (b, there, same) = ends_to Private Private (private_same R S rs ss) l k a h ends in
      (b.path, b.name, subst (λ (x : P). R x b.path) ep same.path, subst (λ (x : N). S x b.name) en same.name, (b, refl, refl, there))

  ambiguous_to : (l : LookUp P N) (k : LookUp Q M) (n : N) → SameLookUp R S l k → IsAmbiguousAt w l n → (m : M) × S n m × IsAmbiguousAt v k m
  ambiguous_to l k n h (a, en, ends) =
      let (b, there, same) = ends_to Ambiguous Ambiguous (ambiguous_same R S rs ss) l k a h ends in (b.name, subst (λ (x : N). S x b.name) en same.name, (b, refl, there))

  module _ (a : Task P N) (b : Task Q M) (same : SameTask R S a b) where
    pub kept_to : (l : LookUp P N) → IsKept a l → (k : LookUp Q M) × IsKept b k × SameLookUp R S l k
    kept_to l (n, c, e) =
        let (m, d, h) = related_in S a.kept b.kept n same.kept c in (
          record { asker = None; path = b.root; name = m; from = Always },
          (m, d, refl),
          subst (λ (x : LookUp P N). SameLookUp R S x (record { asker = None; path = b.root; name = m; from = Always })) (sym e) (record { asker = tt; path = same.root; name = h; from = refl }),
        )

    mutual
      pub entered_to : (p : P) → Entered w a p → (q : Q) × R p q × Entered v b q
      entered_to p (root _ e) = (b.root, subst (λ (x : P). R x b.root) (sym e) same.root, root b.root refl)
      entered_to p (asked l c _ f come e) =
          let (k, h, g) = followed_to l f in
          let (d, come2, h2) = comes_to l k c h come in
          (d.path, subst (λ (x : P). R x d.path) e h2.path, asked k d d.path g come2 refl)
      entered_to p (imported q _ t i eager h at held e) =
          let (x, rq, g) = entered_to q h in
          let (u, at2, same_t) = at_to q x t rq at in
          let (j, held2, k) = related_in (SameImport R S) t.imports u.imports i same_t.imports held in
          (j.path, subst (λ (y : P). R y j.path) e k.path, imported x j.path u j (sym same.eager ∙ eager) g at2 held2 refl)

      pub reached_to : (s : Symbol P N) → Reached w a s → (x : Symbol Q M) × SameSymbol R S s x × Reached v b x
      reached_to s (led_to l _ f r) =
          let (k, h, g) = followed_to l f in
          let (x, lead, same_s) = leads_to l k s h r in (x, same_s, led_to k x g lead)
      reached_to s (declared _ t eager h at d) =
          let (q, rq, g) = entered_to s.path h in
          let (u, at2, same_t) = at_to s.path q t rq at in
          let (e, c, k) = related_in (SameDeclaration R S) t.declarations u.declarations d.0 same_t.declarations d.1 in
          let (m, is, also) = option_of S d.0.name e.name s.name k.name d.2 in
          (record { path = q; name = m }, record { path = rq; name = also }, declared (record { path = q; name = m }) u (sym same.eager ∙ eager) g at2 (e, c, is))

      pub followed_to : (l : LookUp P N) → Followed w a l → (k : LookUp Q M) × SameLookUp R S l k × Followed v b k
      followed_to l (kept _ i) = let (k, j, h) = kept_to l i in (k, h, kept k j)
      followed_to l (by_assert p t _ h at asks) =
          let (q, rq, g) = entered_to p h in
          let (u, at2, same_t) = at_to p q t rq at in
          let (k, asks2, same_l) = asks_from_to R S rs ss t u same_t None None l tt asks in
          (k, same_l, by_assert q u k g at2 asks2)
      followed_to l (by_symbol s t _ h at asks) =
          let (x, same_s, g) = reached_to s h in
          let (u, at2, same_t) = at_to s.path x.path t same_s.path at in
          let (k, asks2, same_l) = asks_from_to R S rs ss t u same_t (Some s.name) (Some x.name) l same_s.name asks in
          (k, same_l, by_symbol x u k g at2 asks2)

    -- ---- faults

    entered_at : (t : Table P N) (u : Table Q M) → SameTable R S t u → Entered w a t.path → Entered v b u.path
    entered_at t u same_t h = let (q, rq, g) = entered_to t.path h in subst (λ (x : Q). Entered v b x) (rs.one t.path q u.path rq same_t.path) g

    clashes_to : (n : N) (t : Table P N) (u : Table Q M) → SameTable R S t u → Clashes t n → (m : M) × S n m × Clashes u m
    clashes_to n t u same_t (inl (i, j, im, jm, meet, differ)) =
        let (x, held_x, si) = related_in (SameImport R S) t.imports u.imports i same_t.imports im.0 in
        let sn : S n x.bound = subst (λ (z : N). S z x.bound) im.1 si.bound in
        let (y, ym, sj) = imports_to R S rs ss t u same_t n x.bound j sn jm in
        (x.bound, sn, inl (x, y, (held_x, refl), ym, meet_to R S rs ss t u same_t i.place j.place x.place y.place si.place sj.place meet, λ same_xy. differ (target_from R S rs ss t u same_t i j x y si sj same_xy)))
    clashes_to n t u same_t (inr (d, i, held, named, im, meet, differ)) =
        let (x, held_x, si) = related_in (SameImport R S) t.imports u.imports i same_t.imports im.0 in
        let sn : S n x.bound = subst (λ (z : N). S z x.bound) im.1 si.bound in
        let (e, held_e, is, sd) = named_to R S rs ss t u same_t d n x.bound sn held named in
        (x.bound, sn, inr (e, x, held_e, is, (held_x, refl), meet_to R S rs ss t u same_t d.place i.place e.place x.place sd.place si.place meet, λ own. differ (own_from R S rs ss t u same_t i x si own)))

    entered_all : (ps : List P) → AreDistinct ps → All (Entered w a) ps → (qs : List Q) × AreRelated R ps qs × AreDistinct qs × All (Entered v b) qs
    entered_all [] d h = ([], tt, none_distinct, (λ k e x. absurd (omega arith)))
    entered_all (p ∷ ps) (one_distinct _ _ fresh d) h =
        let (q, rq, g) = entered_to p (h zero p (omega arith)) in
        let (qs, rel, e, all) = entered_all ps d (λ k x c. h (suc k) x (omega arith)) in
        (q ∷ qs, (rq, rel), one_distinct q qs (λ held. fresh (back q rq qs rel held)) e, first_all q qs g all)
      where
        back : (q : Q) → R p q → (qs : List Q) → AreRelated R ps qs → Contains qs q → Contains ps p
        back q rq qs rel held =
            let (x, c, k) = related_in (Back R) qs ps q (related_back R (Back R) (λ x y z. z) ps qs rel) held in
            subst (λ (z : P). Contains ps z) (rs.other x p q k rq) c

        first_all : (q : Q) (qs : List Q) → Entered v b q → All (Entered v b) qs → All (Entered v b) (q ∷ qs)
        first_all q qs g all zero x c = g
        first_all q qs g all (suc k) x c = all k x (omega arith)

    related_length : (ps : List P) (qs : List Q) → AreRelated R ps qs → length ps ≡ length qs
    related_length [] [] h = refl
    related_length (p ∷ ps) (q ∷ qs) h = ap suc (related_length ps qs h.1)
    related_length [] (q ∷ qs) h = absurd h
    related_length (p ∷ ps) [] h = absurd h

    module _ (back : Covers (Back R) (Back S) v w) {E : Type 0} (refuses : P → E → Type 0) (refuses2 : Q → E → Type 0) (refused_to : (p : P) (q : Q) (e : E) → R p q → refuses p e → refuses2 q e) (limit : ℕ) where
      absent_to : (p : P) (q : Q) → R p q → ((t : Table P N) → IsAt w p t → ⊥) → (u : Table Q M) → IsAt v q u → ⊥
      absent_to p q rp none u (c, e) =
          let (t, d, same_u) = back.covered u c in
          none t (d, rs.other t.path p q (subst (λ (z : Q). R t.path z) e same_u.path) rp)

      pub stands_to : (f : Fault P N E) → Stands refuses a limit w f → (g : Fault Q M E) × SameFault R S f g × Stands refuses2 b limit v g
      stands_to (duplicate p n) (t, at, h, clash) =
          let (q, rq, g) = entered_to p h in
          let (u, at2, same_t) = at_to p q t rq at in
          let (m, sn, there) = clashes_to n t u same_t clash in (duplicate q m, (rq, sn), (u, at2, g, there))
      stands_to (refused e) (p, h, none, why) =
          let (q, rq, g) = entered_to p h in (refused e, refl, (q, g, absent_to p q rq none, refused_to p q e rq why))
      stands_to (missing p n) (l, f, why) =
          let (k, same_l, g) = followed_to l f in
          let (q, m, rq, sn, there) = missing_to l k p n same_l why in (missing q m, (rq, sn), (k, g, there))
      stands_to (private n p) (l, f, why) =
          let (k, same_l, g) = followed_to l f in
          let (q, m, rq, sn, there) = private_to l k n p same_l why in (private m q, (sn, rq), (k, g, there))
      stands_to (too_many k) (e, ps, d, all, more) =
          let (qs, rel, d2, all2) = entered_all ps d all in
          (too_many k, refl, (e, qs, d2, all2, subst (λ (n : ℕ). limit < n) (related_length ps qs rel) more))
      stands_to (ambiguous n) (inl (t, held, h, unclear)) =
          let (u, c, same_t) = covers.covered t held in
          let (m, sn, there) = unclear_from_to R S rs ss t u same_t None None n tt unclear in (ambiguous m, sn, inl (u, c, entered_at t u same_t h, there))
      stands_to (ambiguous n) (inr (inl (s, t, r, at, unclear))) =
          let (x, same_s, g) = reached_to s r in
          let (u, at2, same_t) = at_to s.path x.path t same_s.path at in
          let (m, sn, there) = unclear_from_to R S rs ss t u same_t (Some s.name) (Some x.name) n same_s.name unclear in (ambiguous m, sn, inr (inl (x, u, g, at2, there)))
      stands_to (ambiguous n) (inr (inr (l, f, why))) =
          let (k, same_l, g) = followed_to l f in
          let (m, sn, there) = ambiguous_to l k n same_l why in (ambiguous m, sn, inr (inr (k, g, there)))
      stands_to (too_many_flags p) (t, at, h, crowded) =
          let (q, rq, g) = entered_to p h in
          let (u, at2, same_t) = at_to p q t rq at in (too_many_flags q, rq, (u, at2, g, sym same_t.crowded ∙ crowded))
