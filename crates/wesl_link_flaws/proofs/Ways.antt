-- Ways of look-ups, and the hops of which the ends are kept.
use Rattle.std.proofs.Common.{◌≡◌, ◌⊎◌, inl, inr, ℕ, zero, suc, ◌<◌, ◌≤◌, ◌+◌, List, [], ◌∷◌, ◌++◌, length, reverse, take, drop, slice_get, Some, Contains, arith, subst, sym, refl, ap, ◌∙◌, append_assoc}
use Rattle.std.proofs.lemmas.List.{append-nil, drop_more, reverse-append, reverse-reverse, take-append-drop, take_more}
use Rattle.std.proofs.lemmas.List.Elements.{Contains-append_left, Contains-append_right, Contains-append_cases}
use Rattle.std.proofs.lemmas.Option.{get_or_from_slice_get, slice_get_within}
use Rattle.wesl_link_symbols.specs.declared.ids.PathId.{PathId}
use Rattle.wesl_tree_base.specs.declared.ids.NameId.{NameId}
use Rattle.wesl_link_symbols.specs.declared.symbols.LookUp.{LookUp}
use Rattle.wesl_link_symbols.specs.declared.symbols.Symbol.{Symbol}
use Rattle.wesl_link_symbols.specs.Keyed.{PutsKey}
use Rattle.wesl_link_symbols.specs.Tables.{Table}
use Rattle.wesl_link_symbols.proofs.Lists.{contains_nil, contains_first, contains_later, contains_cases, contains_at}
use Rattle.wesl_link_reach.specs.World.{Hops, HasMet, Walk}
use Rattle.wesl_link_reach.specs.World.Walk.{begin, step}
use Rattle.wesl_link_reach.specs.Laws.{IsClear}
use Rattle.wesl_link_reach.specs.Loading.{GoesOn}
use Rattle.wesl_link_reach.specs.Trodden.{symbol_of}
use Rattle.wesl_link_reach.proofs.Following.{puts_has, puts_on, back_in, in_back}
use Rattle.wesl_link_reach.proofs.Growing.{contains_take, goes_on_length, goes_on_trans, within_on}
use Rattle.wesl_link_reach.proofs.Lists.{contains_one}
use Rattle.wesl_link_reach.proofs.Treading.{joined, walk_end, same_symbol}
use Rattle.wesl_link_trails.specs.declared.ends.Ending.{Ending}
use Rattle.wesl_link_trails.specs.declared.ends.Ends.{Ends}
use Rattle.wesl_link_trails.specs.Ends.{AreNumbered, IsAmong, IsNotBefore, KeepsEnd}
use Rattle.wesl_link_flaws.specs.declared.told.Flaw.TheVariants.{Lacking}
use Rattle.wesl_link_flaws.specs.declared.told.End.{End}
use Rattle.wesl_link_flaws.specs.declared.told.End.TheVariants.{Flawed}
use Rattle.wesl_link_flaws.specs.Ends.{AreKept, EndsWithin, HopEnds, IsBack, IsBehind, IsNoted, IsRing, IsWay, ComesBy, Stops}
use Rattle.wesl_link_flaws.specs.Flaws.{EndsAs, Halts}
use Rattle.wesl_link_flaws.proofs.Halting.{ends_ring, ends_halted, trail_ring, trail_halted}

-- ---- the first questions

place_on : {X : Type 0} (xs more : List X) (k : ℕ) (x : X) → slice_get xs k ≡ Some x → slice_get (xs ++ more) k ≡ Some x
place_on [] more k x e = cc
place_on (y ∷ xs) more zero x e = e
place_on (y ∷ xs) more (suc k) x e = place_on xs more k x e

pub among_on : {Q : Type 0} (xs ys : List Q) (n m : ℕ) (q : Q) → GoesOn xs ys → n ≤ m → IsAmong xs n q → IsAmong ys m q
among_on {Q} xs ys n m q (more, e) low (k, b, at) = (k, omega arith, subst (λ (zs : List Q). slice_get zs k ≡ Some q) (sym e) (place_on xs more k q at))

pub among_all : {Q : Type 0} (xs : List Q) (n : ℕ) (q : Q) → IsAmong xs n q → IsAmong xs (length xs) q
among_all xs n q (k, b, at) = (k, slice_get_within xs k q at, at)

pub among_held : {Q : Type 0} (xs : List Q) (q : Q) → Contains xs q → IsAmong xs (length xs) q
among_held xs q h = contains_at xs q h

-- ---- walks

module _ {P N : Type 0} where
  -- what asks the same is met where the other is
  same_met : (met : List (LookUp P N)) (x c a : LookUp P N) → symbol_of c ≡ symbol_of x → HasMet (met ++ x ∷ []) a → HasMet (met ++ c ∷ []) a
  same_met met x c a e (b, held, q) = elim (Contains-append_cases met (x ∷ []) b held) [
    | inl k ↦ (b, Contains-append_left met (c ∷ []) b k, q)
    | inr k ↦ (
        let is : x ≡ b = contains_one x b k in
        (c, Contains-append_right met (c ∷ []) c (contains_first c []), (q.0 ∙ (ap (λ (y : LookUp P N). y.path) (sym is) ∙ ap (λ (s : Symbol P N). s.path) (sym e)), q.1 ∙ (ap (λ (y : LookUp P N). y.name) (sym is) ∙ ap (λ (s : Symbol P N). s.name) (sym e))))
        )
  ]

  -- a look-up is met by what asks the same
  met_here : (met : List (LookUp P N)) (x a : LookUp P N) → symbol_of x ≡ symbol_of a → HasMet (met ++ x ∷ []) a
  met_here met x a e = (x, Contains-append_right met (x ∷ []) x (contains_first x []), (ap (λ (s : Symbol P N). s.path) (sym e), ap (λ (s : Symbol P N). s.name) (sym e)))

  met_left : (met before : List (LookUp P N)) (a : LookUp P N) → HasMet met a → HasMet (met ++ before) a
  met_left met before a (b, held, q) = (b, Contains-append_left met before b held, q)

  met_right : (met before : List (LookUp P N)) (a : LookUp P N) → HasMet before a → HasMet (met ++ before) a
  met_right met before a (b, held, q) = (b, Contains-append_right met before b held, q)

  met_cases : (met before : List (LookUp P N)) (a : LookUp P N) → HasMet (met ++ before) a → HasMet met a ⊎ HasMet before a
  met_cases met before a (b, held, q) = elim (Contains-append_cases met before b held) [ inl k ↦ inl (b, k, q) | inr k ↦ inr (b, k, q) ]

  met_first : (x : LookUp P N) (before : List (LookUp P N)) (a : LookUp P N) → HasMet (x ∷ []) a → HasMet (x ∷ before) a
  met_first x before a (b, held, q) = (b, subst (λ (y : LookUp P N). Contains (x ∷ before) y) (contains_one x b held) (contains_first x before), q)

  met_later : (x : LookUp P N) (before : List (LookUp P N)) (a : LookUp P N) → HasMet before a → HasMet (x ∷ before) a
  met_later x before a (b, held, q) = (b, contains_later x b before held, q)

  -- both ask the same of one another
  met_back : (x a : LookUp P N) (met : List (LookUp P N)) → Contains met a → HasMet (x ∷ []) a → HasMet met x
  met_back x a met held (b, one, q) =
      let is : x ≡ b = contains_one x b one in
      (a, held, (ap (λ (y : LookUp P N). y.path) is ∙ sym q.0, ap (λ (y : LookUp P N). y.name) is ∙ sym q.1))

  met_alike : (met : List (LookUp P N)) (a c : LookUp P N) → symbol_of a ≡ symbol_of c → HasMet met a → HasMet met c
  met_alike met a c e (b, held, q) = (b, held, (ap (λ (s : Symbol P N). s.path) (sym e) ∙ q.0, ap (λ (s : Symbol P N). s.name) (sym e) ∙ q.1))

  nothing_met : (a : LookUp P N) → HasMet [] a → ⊥
  nothing_met a (b, held, q) = contains_nil b held

  pub noted_on : (ps qs : List P) (asked more : List (Symbol P N)) (n m : ℕ) (b : LookUp P N) → ((p : P) → Contains ps p → Contains qs p) → GoesOn asked more → n ≤ m → IsNoted ps asked n b → IsNoted qs more m b
  noted_on ps qs asked more n m b kept on low (there, among) = (kept b.path there, among_on asked more n m (symbol_of b) on low among)

  all_longer : (Q : LookUp P N → Type 0) (last x : LookUp P N) (met : List (LookUp P N)) → ((b : LookUp P N) → Contains (last ∷ met) b → Q b) → Q x → (b : LookUp P N) → Contains (last ∷ (met ++ x ∷ [])) b → Q b
  all_longer Q last x met all here b held = elim (contains_cases last b (met ++ x ∷ []) held) [
    | inl is ↦ subst Q is (all last (contains_first last met))
    | inr k ↦ elim (Contains-append_cases met (x ∷ []) b k) [
      | inl j ↦ all b (contains_later last b met j)
      | inr j ↦ subst Q (contains_one x b j) here
    ]
  ]

  back_one : (rest trail : List (LookUp P N)) (x : LookUp P N) → trail ≡ rest ++ x ∷ [] → reverse trail ≡ x ∷ reverse rest
  back_one rest trail x e = ap (λ (xs : List (LookUp P N)). reverse xs) e ∙ reverse-append rest (x ∷ [])

  unrolled : (trail members : List (LookUp P N)) (entry : LookUp P N) → reverse (trail ++ entry ∷ reverse members) ≡ members ++ entry ∷ reverse trail
  unrolled trail members entry =
      reverse-append trail (entry ∷ reverse members) ∙ (ap (λ (xs : List (LookUp P N)). xs ++ reverse trail)
      (reverse-append (entry ∷ []) (reverse members) ∙ ap (λ (xs : List (LookUp P N)). xs ++ entry ∷ []) (reverse-reverse members)) ∙ append_assoc members (entry ∷ []) (reverse trail))

  left_first : (ms : List (LookUp P N)) (i : ℕ) (x current : LookUp P N) → i < length ms → slice_get ms i ≡ Some x → drop i ms ++ current ∷ take i ms ≡ x ∷ (drop (i + 1) ms ++ current ∷ take i ms)
  left_first ms i x current b at =
      ap (λ (xs : List (LookUp P N)). xs ++ current ∷ take i ms) (drop_more ms i x b ∙ ap (λ (y : LookUp P N). y ∷ drop (i + 1) ms) (get_or_from_slice_get ms i x x at))

  done_last : (ms : List (LookUp P N)) (i : ℕ) (x current : LookUp P N) → i < length ms → slice_get ms i ≡ Some x → (drop (i + 1) ms ++ current ∷ take i ms) ++ x ∷ [] ≡ drop (i + 1) ms ++ current ∷ take (i + 1) ms
  done_last ms i x current b at =
      append_assoc (drop (i + 1) ms) (current ∷ take i ms) (x ∷ []) ∙ ap (λ (xs : List (LookUp P N)). drop (i + 1) ms ++ current ∷ xs)
      (sym (take_more ms i x b ∙ ap (λ (y : LookUp P N). take i ms ++ y ∷ []) (get_or_from_slice_get ms i x x at)))

  module _ (w : List (Table P N)) where
    -- the same as `joined`, where the last may ask what was met before
    joined_to : (start current last : LookUp P N) (met before : List (LookUp P N)) → Walk w start before current → Walk w current met last → ((b : LookUp P N) → Contains met b → HasMet before b → ⊥)
        → Walk w start (met ++ before) last
    joined_to start current last met before r (begin _ e) apart = subst (λ (x : LookUp P N). Walk w start before x) (sym e) r
    joined_to start current last met before r (step m a _ more new h) apart =
        step (m ++ before) a last (joined start current a m before r more apart) (λ met_there. elim (met_cases m before a met_there) [
          | inl k ↦ new k
          | inr k ↦ apart a (contains_first a m) k
        ]) h

    one_hop : (c next : LookUp P N) → Hops w c next → Walk w c (c ∷ []) next
    one_hop c next h = step [] c next (begin c refl) (nothing_met c) h

    last_hop : (start x next : LookUp P N) (before : List (LookUp P N)) → Walk w start (x ∷ before) next → Walk w start before x × (HasMet before x → ⊥) × Hops w x next
    last_hop start x next before (step _ _ _ r new h) = (r, new, h)

    walk_to : (start x last : LookUp P N) (met before : List (LookUp P N)) → Walk w start (met ++ x ∷ before) last → Walk w start before x
    walk_to start x last [] before (step _ _ _ r new h) = r
    walk_to start x last (y ∷ met) before (step _ _ _ r new h) = walk_to start x y met before r

    -- what comes later on a walk asks nothing that was met before
    later_new : (start last : LookUp P N) (met before : List (LookUp P N)) → Walk w start (met ++ before) last → (b : LookUp P N) → Contains met b → HasMet before b → ⊥
    later_new start last [] before r b held met_there = contains_nil b held
    later_new start last (y ∷ met) before (step _ _ _ r new h) b held met_there = elim (contains_cases y b met held) [
      | inl is ↦ new (subst (λ (z : LookUp P N). HasMet (met ++ before) z) (sym is) (met_right met before b met_there))
      | inr k ↦ later_new start y met before r b k met_there
    ]

    stops_longer : (met before : List (LookUp P N)) (last : LookUp P N) (e : End P N) → (HasMet before last → ⊥) → Stops w met last e → Stops w (met ++ before) last e
    stops_longer met before last e apart (inl both) = inl (met_left met before last both.0, both.1)
    stops_longer met before last e apart (inr both) = inr ((λ there. elim (met_cases met before last there) [ inl k ↦ both.0 k | inr k ↦ apart k ]), both.1)

    stops_same : (met : List (LookUp P N)) (x c last : LookUp P N) (e : End P N) → symbol_of c ≡ symbol_of x → Stops w (met ++ x ∷ []) last e → Stops w (met ++ c ∷ []) last e
    stops_same met x c last e same (inl both) = inl (same_met met x c last same both.0, both.1)
    stops_same met x c last e same (inr both) = inr ((λ there. both.0 (same_met met c x last (sym same) there)), both.1)

    -- ---- what the walk of a look-up ends with

    pub stops_end : (l last : LookUp P N) (met : List (LookUp P N)) (e : End P N) → IsClear w → Walk w l met last → Stops w met last e → EndsAs w l e
    stops_end l last met e clear r (inl both) = subst (λ (z : End P N). EndsAs w l z) (sym both.1) (ends_ring w clear l met last r both.0)
    stops_end l last met e clear r (inr both) = ends_halted w clear l met last e r both.0 both.1

    pub stops_trail : (l last : LookUp P N) (met : List (LookUp P N)) (e : End P N) → IsClear w → Walk w l met last → Stops w met last e → (n : List (LookUp P N)) (b : LookUp P N) → Walk w l n b
        → Contains (last ∷ met) b
    stops_trail l last met e clear r (inl both) n b s = trail_ring w clear l met n last b r both.0 s
    stops_trail l last met e clear r (inr both) n b s = trail_halted w clear l met n last b e r both.0 both.1 s

    pub way_map : {Q R : LookUp P N → Type 0} (l : LookUp P N) (e : End P N) → ((b : LookUp P N) → Q b → R b) → IsWay w Q l e → IsWay w R l e
    way_map l e more way = record { met = way.met; last = way.last; walk = way.walk; stops = way.stops; all = λ b h. more b (way.all b h) }

    -- whoever asks what the look-up asks and is led to the same one ends so
    pub hop_ends : (ps : List P) (asked : List (Symbol P N)) (x next last : LookUp P N) (met : List (LookUp P N)) (e : End P N) (n : ℕ) → Walk w next met last
        → ((b : LookUp P N) → Contains met b → HasMet (x ∷ []) b → ⊥) → Stops w (met ++ x ∷ []) last e → ((b : LookUp P N) → Contains (last ∷ met) b → IsNoted ps asked n b) → IsNoted ps asked n x
        → HopEnds w ps asked (symbol_of x) next e n
    hop_ends ps asked x next last met e n r apart stops all here = λ c same h. record {
      met = met ++ c ∷ [];
      last = last;
      walk = joined_to c next last met (c ∷ []) (one_hop c next h) r (λ b held there. apart b held (same_met [] c x b (sym same) there));
      stops = stops_same met x c last e same stops;
      all = all_longer (IsNoted ps asked n) last c met all (noted c same);
    }
      where
        noted : (c : LookUp P N) → symbol_of c ≡ symbol_of x → IsNoted ps asked n c
        noted c same = (
          subst (λ (p : P). Contains ps p) (ap (λ (s : Symbol P N). s.path) (sym same)) here.0,
          subst (λ (s : Symbol P N). IsAmong asked n s) (sym same) here.1,
        )

    pub hop_on : (ps qs : List P) (asked more : List (Symbol P N)) (q : Symbol P N) (next : LookUp P N) (e : End P N) (n : ℕ) → ((p : P) → Contains ps p → Contains qs p) → GoesOn asked more
        → HopEnds w ps asked q next e n → HopEnds w qs more q next e n
    hop_on ps qs asked more q next e n kept on ends = λ l same hops. way_map l e (λ b. noted_on ps qs asked more n n b kept on (omega arith)) (ends l same hops)

    -- ---- the hops of a trail, from its end

    module _ {ps : List P} {start : LookUp P N} {e : End P N} where
      back_pieces : {asked : List (Symbol P N)} (rest trail : List (LookUp P N)) (x next : LookUp P N) → trail ≡ rest ++ x ∷ [] → IsBack w ps asked start trail next e
          → Walk w start (reverse rest) x × (HasMet (reverse rest) x → ⊥) × Hops w x next
      back_pieces rest trail x next is back = last_hop start x next (reverse rest) (subst (λ (xs : List (LookUp P N)). Walk w start xs next) (back_one rest trail x is) back.behind)

      back_apart : {asked : List (Symbol P N)} (rest trail : List (LookUp P N)) (x next : LookUp P N) → trail ≡ rest ++ x ∷ [] → (back : IsBack w ps asked start trail next e)
          → (b : LookUp P N) → Contains (back.way.last ∷ back.way.met) b → HasMet (x ∷ reverse rest) b → ⊥
      back_apart rest trail x next is back b held there = back.apart b held (subst (λ (xs : List (LookUp P N)). HasMet xs b) (sym (back_one rest trail x is)) there)

      back_noted : {asked more : List (Symbol P N)} (rest trail : List (LookUp P N)) (x next : LookUp P N) → trail ≡ rest ++ x ∷ [] → IsBack w ps asked start trail next e → PutsKey asked (symbol_of x) more
          → IsNoted ps more (length more) x
      back_noted {asked} {more} rest trail x next is back put = (
        back.entered x (subst (λ (xs : List (LookUp P N)). Contains xs x) (sym is) (Contains-append_right rest (x ∷ []) x (contains_first x []))),
        among_held more (symbol_of x) (puts_has asked more (symbol_of x) put),
      )

      back_all : {asked more : List (Symbol P N)} (trail : List (LookUp P N)) (x next : LookUp P N) → (back : IsBack w ps asked start trail next e) → PutsKey asked (symbol_of x) more
          → (b : LookUp P N) → Contains (back.way.last ∷ back.way.met) b → IsNoted ps more (length more) b
      back_all {asked} {more} trail x next back put b held =
          noted_on ps ps asked more (length asked) (length more) b (λ p h. h) (puts_on asked more (symbol_of x) put) (goes_on_length asked more (puts_on asked more (symbol_of x) put)) (back.way.all b held)

      pub back_hop : (asked more : List (Symbol P N)) (rest trail : List (LookUp P N)) (x next : LookUp P N) → trail ≡ rest ++ x ∷ [] → IsBack w ps asked start trail next e → PutsKey asked (symbol_of x) more
          → HopEnds w ps more (symbol_of x) next e (length more)
      back_hop asked more rest trail x next is back put =
          hop_ends ps more x next back.way.last back.way.met e (length more) back.way.walk
          (λ b held there. back_apart rest trail x next is back b (contains_later back.way.last b back.way.met held) (met_first x (reverse rest) b there))
          (stops_longer back.way.met (x ∷ []) back.way.last e (λ there. back_apart rest trail x next is back back.way.last (contains_first back.way.last back.way.met) (met_first x (reverse rest) back.way.last there)) back.way.stops)
          (back_all trail x next back put) (back_noted rest trail x next is back put)

      pub back_next : (asked more : List (Symbol P N)) (rest trail : List (LookUp P N)) (x next : LookUp P N) → trail ≡ rest ++ x ∷ [] → IsBack w ps asked start trail next e → PutsKey asked (symbol_of x) more
          → IsBack w ps more start rest x e
      back_next asked more rest trail x next is back put =
          let (r, new, h) = back_pieces rest trail x next is back in
          record {
            way = record {
              met = back.way.met ++ x ∷ [];
              last = back.way.last;
              walk = joined x next back.way.last back.way.met (x ∷ []) (one_hop x next h) back.way.walk (λ b held there. back_apart rest trail x next is back b held (met_first x (reverse rest) b there));
              stops = stops_longer back.way.met (x ∷ []) back.way.last e (λ there. back_apart rest trail x next is back back.way.last (contains_first back.way.last back.way.met) (met_first x (reverse rest) back.way.last there)) back.way.stops;
              all = all_longer (IsNoted ps more (length more)) back.way.last x back.way.met (back_all trail x next back put) (back_noted rest trail x next is back put);
            };
            behind = r;
            apart = all_longer (λ b. HasMet (reverse rest) b → ⊥) back.way.last x back.way.met (λ b held there. back_apart rest trail x next is back b held (met_later x (reverse rest) b there)) new;
            entered = λ b held. back.entered b (subst (λ (xs : List (LookUp P N)). Contains xs b) (sym is) (Contains-append_left rest (x ∷ []) b held));
          }

    -- ---- a trail that comes to a look-up of which the end is known

    module _ (ps : List P) (asked : List (Symbol P N)) (trail : List (LookUp P N)) (start current : LookUp P N) (bound : ℕ) (e : End P N) where
      -- what the look-up's walk asks, the trail does not ask
      pub way_apart : (HasMet (reverse trail) current → ⊥) → ((b : LookUp P N) → Contains trail b → IsNotBefore asked (symbol_of b) bound) → (z : EndsWithin w ps asked bound current e)
          → (b : LookUp P N) → Contains (z.last ∷ z.met) b → HasMet (reverse trail) b → ⊥
      way_apart fresh bounded z b held (c, met, q) = elim (z.all b held).1 [
        | inl same ↦ fresh (c, met, (ap (λ (s : Symbol P N). s.path) (sym same) ∙ q.0, ap (λ (s : Symbol P N). s.name) (sym same) ∙ q.1))
        | inr among ↦ (
            let (k, low, at) = among in
            let far : bound ≤ k = bounded c (back_in trail c met) k (subst (λ (s : Symbol P N). slice_get asked k ≡ Some s) (same_symbol b c q.0 q.1) at) in
            absurd (omega arith)
            )
      ]

      pub back_way : (more : List (Symbol P N)) → ComesBy w ps start trail current → (HasMet (reverse trail) current → ⊥)
          → ((b : LookUp P N) → Contains trail b → IsNotBefore asked (symbol_of b) bound) → EndsWithin w ps asked bound current e → PutsKey asked (symbol_of current) more
          → IsBack w ps more start trail current e
      back_way more by fresh bounded z put = record {
        way = record {
          met = z.met;
          last = z.last;
          walk = z.walk;
          stops = z.stops;
          all = λ b held. (
            (z.all b held).0,
            elim (z.all b held).1 [
              | inl same ↦ subst (λ (s : Symbol P N). IsAmong more (length more) s) (sym same) (among_held more (symbol_of current) (puts_has asked more (symbol_of current) put))
              | inr among ↦ among_all more bound (symbol_of b) (among_on asked more bound bound (symbol_of b) (puts_on asked more (symbol_of current) put) (omega arith) among)
            ],
          );
        };
        behind = by.walk;
        apart = way_apart fresh bounded z;
        entered = by.entered;
      }

      pub way_ends : IsClear w → Walk w start (reverse trail) current → (HasMet (reverse trail) current → ⊥)
          → ((b : LookUp P N) → Contains trail b → IsNotBefore asked (symbol_of b) bound) → EndsWithin w ps asked bound current e → EndsAs w start e
      way_ends clear r fresh bounded z =
          let apart : (b : LookUp P N) → Contains (z.last ∷ z.met) b → HasMet (reverse trail) b → ⊥ = way_apart fresh bounded z in
          stops_end start z.last (z.met ++ reverse trail) e clear (joined start current z.last z.met (reverse trail) r z.walk apart)
          (stops_longer z.met (reverse trail) z.last e (apart z.last (contains_first z.last z.met)) z.stops)

      pub way_paths : IsClear w → ComesBy w ps start trail current → (HasMet (reverse trail) current → ⊥)
          → ((b : LookUp P N) → Contains trail b → IsNotBefore asked (symbol_of b) bound) → EndsWithin w ps asked bound current e
          → (n : List (LookUp P N)) (x : LookUp P N) → Walk w start n x → Contains ps x.path
      way_paths clear by fresh bounded z n x s =
          let apart : (b : LookUp P N) → Contains (z.last ∷ z.met) b → HasMet (reverse trail) b → ⊥ = way_apart fresh bounded z in
          let on : Contains (z.last ∷ (z.met ++ reverse trail)) x =
          stops_trail start z.last (z.met ++ reverse trail) e clear (joined start current z.last z.met (reverse trail) by.walk z.walk apart)
          (stops_longer z.met (reverse trail) z.last e (apart z.last (contains_first z.last z.met)) z.stops) n x s in
          elim (Contains-append_cases (z.last ∷ z.met) (reverse trail) x on) [
            | inl k ↦ (z.all x k).0
            | inr k ↦ by.entered x (back_in trail x k)
          ]

    pub halts_within : (ps : List P) (asked : List (Symbol P N)) (l : LookUp P N) (bound : ℕ) (e : End P N) → Contains ps l.path → Halts w l e → EndsWithin w ps asked bound l e
    halts_within ps asked l bound e here halts = record {
      met = [];
      last = l;
      walk = begin l refl;
      stops = inr (nothing_met l, halts);
      all = λ b held. subst (λ (y : LookUp P N). Contains ps y.path × ((symbol_of y ≡ symbol_of l) ⊎ IsAmong asked bound (symbol_of y))) (contains_one l b held) (here, inl refl);
    }

    pub kept_within : (ps : List P) (asked : List (Symbol P N)) (l next : LookUp P N) (n bound : ℕ) (e : End P N) → n ≤ bound → HopEnds w ps asked (symbol_of l) next e n → Hops w l next
        → EndsWithin w ps asked bound l e
    kept_within ps asked l next n bound e low ends h = way_map l e (λ b (there, among). (there, inr (let (k, up, at) = among in (k, omega arith, at)))) (ends l refl h)

    -- ---- rings

    -- a ring is gone round from the member before
    pub turned : (x z : LookUp P N) (m : List (LookUp P N)) → Walk w x (z ∷ m) x → Walk w z (m ++ z ∷ []) z
    turned x z m r =
        let (walk, new, h) = last_hop x z x m r in joined_to z x z m (z ∷ []) (one_hop z x h) walk (λ b held there. new (met_back z b m held there))

    pub member_ends : (ps : List P) (asked : List (Symbol P N)) (x z : LookUp P N) (m : List (LookUp P N)) (n : ℕ) → Walk w x (z ∷ m) x → ((b : LookUp P N) → Contains (z ∷ m) b → IsNoted ps asked n b)
        → HopEnds w ps asked (symbol_of z) x (Flawed (Lacking z.name) z.path) n
    member_ends ps asked x z m n r all =
        let (walk, new, h) = last_hop x z x m r in
        hop_ends ps asked z x z m (Flawed (Lacking z.name) z.path) n walk (λ b held there. new (met_back z b m held there)) (inl (met_here m z z refl, refl)) all (all z (contains_first z m))

    -- a walk that asks again what the entry of a ring asked: the walk to the entry, its hop, and the way round
    pub record IsEntered (start entry current : LookUp P N) (before members : List (LookUp P N)) (b : LookUp P N) : Type 0 where
      pub to : Walk w start before entry
      pub new : HasMet before entry → ⊥
      pub hop : Hops w entry b
      pub round : Walk w b members current
      pub apart : (c : LookUp P N) → Contains members c → HasMet (entry ∷ before) c → ⊥

    pub ring_entered : (start entry current : LookUp P N) (before members : List (LookUp P N)) (b : LookUp P N) → Walk w start (members ++ entry ∷ before) current → IsBehind members current b
        → IsEntered start entry current before members b
    ring_entered start entry current before members b r (inl both) =
        let (to, new, h) = last_hop start entry current before (subst (λ (ms : List (LookUp P N)). Walk w start (ms ++ entry ∷ before) current) both.0 r) in
        subst (λ (ms : List (LookUp P N)). IsEntered start entry current before ms b) (sym both.0) (subst (λ (x : LookUp P N). IsEntered start entry current before [] x) (sym both.1) record {
          to = to;
          new = new;
          hop = h;
          round = begin current refl;
          apart = λ c held. absurd (contains_nil c held);
        })
    ring_entered start entry current before members b r (inr (rest, is)) =
        let whole : Walk w start ((rest ++ b ∷ []) ++ entry ∷ before) current = subst (λ (ms : List (LookUp P N)). Walk w start (ms ++ entry ∷ before) current) is r in
        let long : Walk w start (rest ++ b ∷ entry ∷ before) current = subst (λ (ms : List (LookUp P N)). Walk w start ms current) (append_assoc rest (b ∷ []) (entry ∷ before)) whole in
        let (to, new, h) = last_hop start entry b before (walk_to start b current rest (entry ∷ before) long) in
        subst (λ (ms : List (LookUp P N)). IsEntered start entry current before ms b) (sym is) record {
          to = to;
          new = new;
          hop = h;
          round = walk_end start b current rest (entry ∷ before) long;
          apart = later_new start current (rest ++ b ∷ []) (entry ∷ before) whole;
        }

    module _ (ps : List P) (trail members : List (LookUp P N)) (start entry current : LookUp P N) where
      pub comes_entered : (b : LookUp P N) → ComesBy w ps start (trail ++ entry ∷ reverse members) current → IsBehind members current b → IsEntered start entry current (reverse trail) members b
      comes_entered b by is = ring_entered start entry current (reverse trail) members b (subst (λ (xs : List (LookUp P N)). Walk w start xs current) (unrolled trail members entry) by.walk) is

      pub members_noted : (first mid last : List (Symbol P N)) → ComesBy w ps start (trail ++ entry ∷ reverse members) current → symbol_of entry ≡ symbol_of current
          → ((l : LookUp P N) → Contains members l → Contains first (symbol_of l)) → PutsKey first (symbol_of entry) mid → GoesOn mid last
          → (c : LookUp P N) → Contains (current ∷ members) c → IsNoted ps last (length last) c
      members_noted first mid last by same asked put on c held = elim (contains_cases current c members held) [
        | inl is ↦ subst (λ (y : LookUp P N). IsNoted ps last (length last) y) is (
          by.here,
          subst (λ (s : Symbol P N). IsAmong last (length last) s) same (among_held last (symbol_of entry) ((within_on mid last on).held (symbol_of entry) (puts_has first mid (symbol_of entry) put))),
        )
        | inr k ↦ (
          by.entered c (Contains-append_right trail (entry ∷ reverse members) c (contains_later entry c (reverse members) (in_back members c k))),
          among_held last (symbol_of c) ((within_on mid last on).held (symbol_of c) ((within_on first mid (puts_on first mid (symbol_of entry) put)).held (symbol_of c) (asked c k))),
        )
      ]

      pub entry_noted : (first mid last : List (Symbol P N)) → ComesBy w ps start (trail ++ entry ∷ reverse members) current → PutsKey first (symbol_of entry) mid → GoesOn mid last
          → IsNoted ps last (length last) entry
      entry_noted first mid last by put on = (
        by.entered entry (Contains-append_right trail (entry ∷ reverse members) entry (contains_first entry (reverse members))),
        among_held last (symbol_of entry) ((within_on mid last on).held (symbol_of entry) (puts_has first mid (symbol_of entry) put)),
      )

      module _ (asked : List (Symbol P N)) (b : LookUp P N) (same : symbol_of entry ≡ symbol_of current) (z : IsEntered start entry current (reverse trail) members b)
          (all : (c : LookUp P N) → Contains (current ∷ members) c → IsNoted ps asked (length asked) c) where
        pub entry_ends : IsNoted ps asked (length asked) entry → HopEnds w ps asked (symbol_of entry) b (Flawed (Lacking current.name) current.path) (length asked)
        entry_ends here =
            hop_ends ps asked entry b current members (Flawed (Lacking current.name) current.path) (length asked) z.round (λ c held there. z.apart c held (met_first entry (reverse trail) c there))
            (inl (met_here members entry current same, refl)) all here

        pub ring_turns : Hops w current b → IsRing w ps asked members current
        ring_turns h = record {
          walk = joined_to current b current members (current ∷ []) (one_hop current b h) z.round
              (λ c held there. z.apart c held (met_first entry (reverse trail) c (same_met [] current entry c same there)));
          noted = all;
        }

        pub entry_back : IsNoted ps asked (length asked) entry → ((c : LookUp P N) → Contains trail c → Contains ps c.path) → IsBack w ps asked start trail entry (Flawed (Lacking current.name) current.path)
        entry_back here entered = record {
          way = record {
            met = members ++ entry ∷ [];
            last = current;
            walk = joined_to entry b current members (entry ∷ []) (one_hop entry b z.hop) z.round (λ c held there. z.apart c held (met_first entry (reverse trail) c there));
            stops = inl (met_here members entry current same, refl);
            all = all_longer (IsNoted ps asked (length asked)) current entry members all here;
          };
          behind = z.to;
          apart = all_longer (λ c. HasMet (reverse trail) c → ⊥) current entry members (λ c held there. elim (contains_cases current c members held) [
            | inl is ↦ z.new (met_alike (reverse trail) c entry (ap symbol_of (sym is) ∙ sym same) there)
            | inr k ↦ z.apart c k (met_later entry (reverse trail) c there)
          ]) z.new;
          entered = entered;
        }

    -- ---- the members of a ring, one after the other

    pub ring_turn : (ms : List (LookUp P N)) (i : ℕ) (x next current : LookUp P N) → slice_get ms i ≡ Some x → Walk w next (drop i ms ++ current ∷ take i ms) next
        → Walk w x (drop (i + 1) ms ++ current ∷ take (i + 1) ms) x
    ring_turn ms i x next current at r =
        let b : i < length ms = slice_get_within ms i x at in
        subst (λ (xs : List (LookUp P N)). Walk w x xs x) (done_last ms i x current b at)
        (turned next x (drop (i + 1) ms ++ current ∷ take i ms) (subst (λ (xs : List (LookUp P N)). Walk w next xs next) (left_first ms i x current b at) r))

    pub ring_member : (ps : List P) (asked : List (Symbol P N)) (ms : List (LookUp P N)) (i : ℕ) (x next current : LookUp P N) → slice_get ms i ≡ Some x
        → Walk w next (drop i ms ++ current ∷ take i ms) next → ((c : LookUp P N) → Contains (current ∷ ms) c → IsNoted ps asked (length asked) c)
        → HopEnds w ps asked (symbol_of x) next (Flawed (Lacking x.name) x.path) (length asked)
    ring_member ps asked ms i x next current at r all =
        let b : i < length ms = slice_get_within ms i x at in
        let first : drop i ms ++ current ∷ take i ms ≡ x ∷ (drop (i + 1) ms ++ current ∷ take i ms) = left_first ms i x current b at in
        member_ends ps asked next x (drop (i + 1) ms ++ current ∷ take i ms) (length asked) (subst (λ (xs : List (LookUp P N)). Walk w next xs next) first r)
        (λ c held. all c (elim (Contains-append_cases (drop i ms) (current ∷ take i ms) c (subst (λ (xs : List (LookUp P N)). Contains xs c) (sym first) held)) [
          | inl left ↦ contains_later current c ms (subst (λ (xs : List (LookUp P N)). Contains xs c) (take-append-drop i ms) (Contains-append_right (take i ms) (drop i ms) c left))
          | inr k ↦ elim (contains_cases current c (take i ms) k) [
            | inl is ↦ subst (λ (y : LookUp P N). Contains (current ∷ ms) y) is (contains_first current ms)
            | inr done ↦ contains_later current c ms (contains_take i ms c done)
          ]
        ]))

-- ---- what is kept

abbrev Kept : Type 0
Kept = LookUp PathId NameId × Ending (End PathId NameId)

module _ {w : List (Table PathId NameId)} {ps : List PathId} where
  -- more questions are asked
  pub kept_noted : (old new : Ends (End PathId NameId)) → AreNumbered new.asked.items new.firsts.entries → GoesOn old.asked.items new.asked.items → new.kept ≡ old.kept → AreKept w ps old → AreKept w ps new
  kept_noted old new numbered on e a = record {
    numbered = numbered;
    kept = λ next k there. hop_on w ps ps old.asked.items new.asked.items k.asked next k.end k.until (λ p x. x) on (a.kept next k (rw e at there));
  }

  -- one more end is kept
  pub kept_more : (old new : Ends (End PathId NameId)) (x next : LookUp PathId NameId) (e : End PathId NameId) → AreNumbered new.asked.items new.firsts.entries
      → PutsKey old.asked.items (symbol_of x) new.asked.items
      → KeepsEnd old.kept.entries next (record { asked = symbol_of x; end = e; until = length new.asked.items }) new.kept.entries
      → HopEnds w ps new.asked.items (symbol_of x) next e (length new.asked.items) → AreKept w ps old → AreKept w ps new
  kept_more old new x next e numbered put keeps ends a = record { numbered = numbered; kept = λ l k there. by l k there keeps }
    where
      Right : LookUp PathId NameId → Ending (End PathId NameId) → Type 0
      Right l k = HopEnds w ps new.asked.items k.asked l k.end k.until

      before : (l : LookUp PathId NameId) (k : Ending (End PathId NameId)) → Contains old.kept.entries (l, k) → Right l k
      before l k there = hop_on w ps ps old.asked.items new.asked.items k.asked l k.end k.until (λ p x. x) (puts_on old.asked.items new.asked.items (symbol_of x) put) (a.kept l k there)

      by : (l : LookUp PathId NameId) (k : Ending (End PathId NameId)) → Contains new.kept.entries (l, k)
          → KeepsEnd old.kept.entries next (record { asked = symbol_of x; end = e; until = length new.asked.items }) new.kept.entries → Right l k
      by l k there (inl stay) = before l k (subst (λ (xs : List Kept). Contains xs (l, k)) stay.0 there)
      by l k there (inr puts) = elim (puts.only l k there) [
        | inl both ↦ subst (λ (y : LookUp PathId NameId). Right y k) (sym both.0) (subst (λ (y : Ending (End PathId NameId)). Right next y) (sym both.1) ends)
        | inr both ↦ before l k both.1
      ]

  -- more paths are entered
  pub kept_entered : (qs : List PathId) (ends : Ends (End PathId NameId)) → ((p : PathId) → Contains ps p → Contains qs p) → AreKept w ps ends → AreKept w qs ends
  kept_entered qs ends more a = record {
    numbered = a.numbered;
    kept = λ next k there. hop_on w ps qs ends.asked.items ends.asked.items k.asked next k.end k.until more ([], sym (append-nil ends.asked.items)) (a.kept next k there);
  }

-- ---- a walk that asks again what it asked

module _ {w : List (Table PathId NameId)} {ps : List PathId} (trail members : List (LookUp PathId NameId)) (start entry current b : LookUp PathId NameId) (e : End PathId NameId)
    (is : e ≡ Flawed (Lacking current.name) current.path) (by : ComesBy w ps start (trail ++ entry ∷ reverse members) current) (same : symbol_of entry ≡ symbol_of current) (behind : IsBehind members current b) where
  module _ (first mid last : List (Symbol PathId NameId)) (asked : (l : LookUp PathId NameId) → Contains members l → Contains first (symbol_of l)) (put : PutsKey first (symbol_of entry) mid) (on : GoesOn mid last) where
    way_round : IsEntered w start entry current (reverse trail) members b
    way_round = comes_entered w ps trail members start entry current b by behind

    noted_round : (c : LookUp PathId NameId) → Contains (current ∷ members) c → IsNoted ps last (length last) c
    noted_round = members_noted w ps trail members start entry current first mid last by same asked put on

    noted_entry : IsNoted ps last (length last) entry
    noted_entry = entry_noted w ps trail members start entry current first mid last by put on

    pub entry_hop : HopEnds w ps last (symbol_of entry) b e (length last)
    entry_hop =
        subst (λ (x : End PathId NameId). HopEnds w ps last (symbol_of entry) b x (length last)) (sym is)
        (entry_ends w ps trail members start entry current last b same way_round noted_round noted_entry)

    pub ring_there : Hops w current b → IsRing w ps last members current
    ring_there h = ring_turns w ps trail members start entry current last b same way_round noted_round h

    pub entry_way : IsBack w ps last start trail entry e
    entry_way =
        subst (λ (x : End PathId NameId). IsBack w ps last start trail entry x) (sym is)
        (entry_back w ps trail members start entry current last b same way_round noted_round noted_entry (λ c held. by.entered c (Contains-append_left trail (entry ∷ reverse members) c held)))

  pub entry_kept : (first mid : Ends (End PathId NameId)) → AreNumbered mid.asked.items mid.firsts.entries → ((l : LookUp PathId NameId) → Contains members l → Contains first.asked.items (symbol_of l))
      → PutsKey first.asked.items (symbol_of entry) mid.asked.items → KeepsEnd first.kept.entries b (record { asked = symbol_of entry; end = e; until = length mid.asked.items }) mid.kept.entries
      → AreKept w ps first → AreKept w ps mid
  entry_kept first mid numbered asked put keeps a =
      kept_more first mid entry b e numbered put keeps (entry_hop first.asked.items mid.asked.items mid.asked.items asked put ([], sym (append-nil mid.asked.items))) a

-- a member of a ring comes to itself again
pub member_kept : {w : List (Table PathId NameId)} {ps : List PathId} (from : List (Symbol PathId NameId)) (old new : Ends (End PathId NameId)) (ms : List (LookUp PathId NameId)) (i : ℕ) (x next current : LookUp PathId NameId)
    (e : End PathId NameId) → slice_get ms i ≡ Some x → e ≡ Flawed (Lacking x.name) x.path → IsRing w ps from ms current → GoesOn from old.asked.items → Walk w next (drop i ms ++ current ∷ take i ms) next
    → AreNumbered new.asked.items new.firsts.entries → PutsKey old.asked.items (symbol_of x) new.asked.items
    → KeepsEnd old.kept.entries next (record { asked = symbol_of x; end = e; until = length new.asked.items }) new.kept.entries → AreKept w ps old → AreKept w ps new
member_kept {w} {ps} from old new ms i x next current e at is ring on r numbered put keeps a =
    let further : GoesOn from new.asked.items = goes_on_trans from old.asked.items new.asked.items on (puts_on old.asked.items new.asked.items (symbol_of x) put) in
    kept_more old new x next e numbered put keeps
    (subst (λ (y : End PathId NameId). HopEnds w ps new.asked.items (symbol_of x) next y (length new.asked.items)) (sym is)
    (ring_member w ps new.asked.items ms i x next current at r (λ c held. noted_on ps ps from new.asked.items (length from) (length new.asked.items) c (λ p h. h) further (goes_on_length from new.asked.items further) (ring.noted c held)))) a
