-- What is left of the nodes of a list is meant where the list is, where nothing is pending before it.
use Rattle.std.proofs.Common.{◌≡◌, Bool, true, [], ◌∷◌, ◌++◌, Some, None, option_map, refl, sym as turned, ap, ◌∙◌, subst}
use Rattle.wesl_tree_names.specs.Path.{Text}
use Rattle.wesl_tree_syntax.specs.Tree.{kind, end, tree, attributes}
use Rattle.wesl_text_tokens.specs.declared.symbol.Symbol.TheVariants as is
use Rattle.wesl_text_form.specs.Productions.{Sort, nothing, own, run, commas}
use Rattle.wesl_text_form.specs.Spelling.{Label, Forest, Slots, spells, followed, signed, trailing, first_slots, is_end}
use Rattle.wesl_text_reading.proofs.Filled.{no_true}
use Rattle.wesl_text_reading.proofs.KindsAgain.{end_is}
use Rattle.wesl_text_writable.proofs.Quiet.{mark_first}
use Rattle.wesl_text_writable.proofs.Clear.{are_hard}
use Rattle.wesl_text_writable.proofs.HardTrees.{rows_are_hard}
use Rattle.wesl_text_respell.specs.Joined.{AreWritableAs}
use Rattle.wesl_cond_features.specs.declared.chain.Role.{Role}
use Rattle.wesl_cond_features.specs.Features.{Replies}
use Rattle.wesl_cond_chains.specs.Conditions.{attributes_in}
use Rattle.wesl_text_left.specs.Apart.{is_of_list, ends_before_target}
use Rattle.wesl_text_left.proofs.Begins.{node_hard, children_left, IsClear, nodes_follow}
use Rattle.wesl_text_judged.proofs.Flagged.{FollowsAt, Brings, Calm, Starts, brings_comes, calm_hard, starts_hard, at_self, at_asked, at_then, at_follows, at_writable, at_behind, at_before, at_both, at_gone, last_is, trailing_fewest}
use Rattle.wesl_text_judged.proofs.Resting.{node_rests}
use Rattle.wesl_text_judged.proofs.Walks.{asks}

-- ---- what comes behind

pub all_calm : (s : Sort) (f : Forest) → Calm ((spells f).all s)
all_calm s f = calm_hard ((spells f).all s) (subst (λ z. are_hard true z ≡ true) (last_is ((spells f).all s)) (rows_are_hard (tree (kind attributes) f end) (run attributes s nothing) true refl))

calm_untrailed : (a : Slots) → Calm (option_map trailing a) → Calm a
calm_untrailed None h = tt
calm_untrailed (Some ss) h = λ vs m. ap (λ z. mark_first (z ++ vs)) (turned (trailing_fewest ss)) ∙ h vs m

separate_calm : (s : Sort) (f : Forest) → Calm ((spells f).separate s)
separate_calm s f =
    let a : Slots = (spells f).separate s in
    calm_untrailed a (calm_hard (option_map trailing a) (subst (λ z. are_hard true z ≡ true) (last_is (option_map trailing a)) (rows_are_hard (tree (kind attributes) f end) (commas attributes s nothing) true refl)))

-- a comma before others
abbrev comma : Slots
comma = Some (signed is.Comma ∷ [])

calm_comma : (a : Slots) → Calm (followed comma a)
calm_comma None = tt
calm_comma (Some ss) = λ vs m. refl

-- none behind
abbrev calm_nothing : Calm (Some [])
calm_nothing = λ vs m. m

behind_none : (b : Bool) (a c : Slots) → FollowsAt b (followed a None) c
behind_none b None c = tt
behind_none b (Some ss) c = tt

-- ---- lists

-- what may close a list, if it is there
abbrev pub closing_slots : Sort → Forest → Slots
closing_slots s end = Some []
closing_slots s (tree l c o) = (spells (tree l c o)).row (own s nothing)

pub record ListFollows (f g : Forest) : Type 0 where
  pub all : (s : Sort) → is_of_list s ≡ true → FollowsAt true ((spells f).all s) ((spells g).all s)
  pub separate : (s : Sort) → is_of_list s ≡ true → FollowsAt true ((spells f).separate s) ((spells g).separate s)
  pub closing : (s : Sort) → is_of_list s ≡ true → FollowsAt true ((spells f).row (own s nothing)) (closing_slots s g)
  pub parts : (s : Sort) → is_of_list s ≡ true → AreWritableAs s f → AreWritableAs s g
  pub ended : is_end f ≡ true → is_end g ≡ true

pub none_left : ListFollows end end
none_left = record { all = λ s i. at_self true (Some []); separate = λ s i. at_self true (Some []); closing = λ s i. tt; parts = λ s i w. tt; ended = λ e. refl }

module _ (l : Label) (c o p : Forest) (x : ListFollows o p) where
  abbrev node : Sort → Slots
  node s = first_slots l c (spells c) s

  node_starts : (s : Sort) → Starts (node s)
  node_starts s = starts_hard (node s) (node_hard s l c)

  node_brings : (s : Sort) → is_of_list s ≡ true → Brings true true (node s)
  node_brings s i = brings_comes true (node s) (node_rests s l c i)

  -- ---- a node that goes

  gone_separate : (s : Sort) → is_of_list s ≡ true → (q : Forest) → o ≡ q → FollowsAt true ((spells q).separate s) ((spells p).separate s) → FollowsAt true ((spells (tree l c q)).separate s) ((spells p).separate s)
  gone_separate s i end e f = subst (λ z. FollowsAt true z ((spells p).separate s)) (last_is (node s)) (at_gone (node s) (Some []) ((spells p).separate s) (node_starts s) calm_nothing (node_brings s i) f)
  gone_separate s i (tree m d q) e f =
      let a : Slots = (spells (tree m d q)).separate s in
      at_gone (node s) (followed comma a) ((spells p).separate s) (node_starts s) (calm_comma a) (node_brings s i)
      (at_gone comma a ((spells p).separate s) refl (separate_calm s (tree m d q)) (brings_comes true comma refl) f)

  gone_closing : (s : Sort) → is_of_list s ≡ true → (q : Forest) → (is_end q ≡ true → is_end p ≡ true) → FollowsAt true ((spells (tree l c q)).row (own s nothing)) (closing_slots s p)
  gone_closing s i end e =
      subst (λ z. FollowsAt true (followed (node s) (Some [])) (closing_slots s z)) (turned (end_is p (e refl))) (at_gone (node s) (Some []) (Some []) (node_starts s) calm_nothing (node_brings s i) (at_self true (Some [])))
  gone_closing s i (tree m d q) e = behind_none true (node s) (closing_slots s p)

  pub gone_follows : ListFollows (tree l c o) p
  gone_follows = record {
    all = λ s i. at_gone (node s) ((spells o).all s) ((spells p).all s) (node_starts s) (all_calm s o) (node_brings s i) (x.all s i);
    separate = λ s i. gone_separate s i o refl (x.separate s i);
    closing = λ s i. gone_closing s i o x.ended;
    parts = λ s i w. x.parts s i w.1;
    ended = λ e. absurd (no_true e);
  }

  -- ---- a node that stays

  module _ (n : Forest) (stays : (s : Sort) → is_of_list s ≡ true → FollowsAt true (first_slots l c (spells c) s) (first_slots l n (spells n) s)) where
    abbrev other : Sort → Slots
    other s = first_slots l n (spells n) s

    other_brings : (s : Sort) → is_of_list s ≡ true → Brings true true (other s)
    other_brings s i = brings_comes true (other s) (node_rests s l n i)

    stays_separate : (s : Sort) → is_of_list s ≡ true → (q r : Forest) → (is_end q ≡ true → is_end r ≡ true) → FollowsAt true ((spells q).separate s) ((spells r).separate s)
        → FollowsAt true ((spells (tree l c q)).separate s) ((spells (tree l n r)).separate s)
    stays_separate s i end end e f = stays s i
    stays_separate s i end (tree m d r) e f = absurd (no_true (e refl))
    stays_separate s i (tree m d q) end e f =
        let a : Slots = (spells (tree m d q)).separate s in
        subst (λ z. FollowsAt true (followed (node s) (followed comma a)) z) (last_is (other s))
        (at_both true true (node s) (other s) (followed comma a) (Some []) (calm_comma a) (stays s i) (other_brings s i) (at_gone comma a (Some []) refl (separate_calm s (tree m d q)) (brings_comes true comma refl) f))
    stays_separate s i (tree m d q) (tree k h r) e f =
        let a : Slots = (spells (tree m d q)).separate s in
        let b : Slots = (spells (tree k h r)).separate s in
        at_both true true (node s) (other s) (followed comma a) (followed comma b) (calm_comma a) (stays s i) (other_brings s i) (at_behind true true comma a b (brings_comes true comma refl) f)

    stays_closing : (s : Sort) → is_of_list s ≡ true → (q r : Forest) → (is_end q ≡ true → is_end r ≡ true) → FollowsAt true ((spells (tree l c q)).row (own s nothing)) (closing_slots s (tree l n r))
    stays_closing s i end end e = at_before true (node s) (other s) (Some []) calm_nothing (stays s i)
    stays_closing s i end (tree m d r) e = absurd (no_true (e refl))
    stays_closing s i (tree m d q) r e = behind_none true (node s) (closing_slots s (tree l n r))

    pub stays_follows : ListFollows (tree l c o) (tree l n p)
    stays_follows = record {
      all = λ s i. at_both true true (node s) (other s) ((spells o).all s) ((spells p).all s) (all_calm s o) (stays s i) (other_brings s i) (x.all s i);
      separate = λ s i. stays_separate s i o p x.ended (x.separate s i);
      closing = λ s i. stays_closing s i o p x.ended;
      parts = λ s i w. (at_writable (node s) (other s) (stays s i) w.0, x.parts s i w.1);
      ended = λ e. absurd (no_true e);
    }

-- a node that is left in a role, of which what is left inside follows
pub role_follows : (reply : Replies Text) (role : Role) (l : Label) (c d : Forest) → IsClear reply role (attributes_in (tree l d end)) → ends_before_target l (children_left reply role l d) ≡ true
    → (s : Sort) → is_of_list s ≡ true → FollowsAt (asks s) (first_slots l c (spells c) s) (first_slots l d (spells d) s)
    → FollowsAt true (first_slots l c (spells c) s) (first_slots l (children_left reply role l d) (spells (children_left reply role l d)) s)
role_follows reply role l c d q a s i f =
    let n : Forest = children_left reply role l d in
    at_then true (first_slots l c (spells c) s) (first_slots l d (spells d) s) (first_slots l n (spells n) s)
    (at_asked (asks s) true (first_slots l c (spells c) s) (first_slots l d (spells d) s) (λ e. refl) f)
    (at_follows (first_slots l d (spells d) s) (first_slots l n (spells n) s) (nodes_follow reply role s l d i q a))
