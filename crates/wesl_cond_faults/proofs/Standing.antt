-- What the lists of faults promise.
use Rattle.std.proofs.Common.{◌≡◌, Bool, true, false, List, [], ◌∷◌, ◌++◌, ◌⊎◌, inl, inr, sym, ap, ◌∙◌, subst}
use Rattle.wesl_cond_chains.specs.Faults.{here, inside as stands_inside, beside, list_at}
use Rattle.wesl_cond_chains.specs.FormulaFaults.{IsAmong}
use Rattle.wesl_cond_chains.specs.Lists.{is_entered, holds_body, judged}
use Rattle.wesl_cond_features.specs.Features.{Replies}
use Rattle.wesl_cond_faults.proofs.Listing.{stay, parts}
use Rattle.wesl_cond_faults.specs.Listed.{AreFaults, nothing, own, inside, apart, ListsAllThatStand, IsOneList}
use Rattle.wesl_cond_chains.specs.Places.{Place}
use Rattle.wesl_cond_faults.specs.Places.{StandsTold, told_of_list}
use Rattle.wesl_tree_syntax.specs.Tree.{ForestOf, end, tree}

module _ {I : Type 0} where
  among_both : (p : Place I) (xs ys : List (Place I)) → IsAmong p xs ⊎ IsAmong p ys → IsAmong p (xs ++ ys)
  among_both p [] ys (inl h) = absurd h
  among_both p [] ys (inr h) = h
  among_both p (x ∷ xs) ys (inl (inl e)) = inl e
  among_both p (x ∷ xs) ys (inl (inr h)) = inr (among_both p xs ys (inl h))
  among_both p (x ∷ xs) ys (inr h) = inr (among_both p xs ys (inr h))

  among_either : (p : Place I) (xs ys : List (Place I)) → IsAmong p (xs ++ ys) → IsAmong p xs ⊎ IsAmong p ys
  among_either p [] ys h = inr h
  among_either p (x ∷ xs) ys (inl e) = inl (inl e)
  among_either p (x ∷ xs) ys (inr h) = elim (among_either p xs ys h) [
    | inl a ↦ inl (inr a)
    | inr b ↦ inr b
  ]

  module _ (reply : Replies I) where
    abbrev Standing : Bool → ForestOf I → Place I → Type 0
    Standing held end f = ⊥
    Standing held (tree l c o) f =
        ((is_entered l ≡ true) × IsAmong f (told_of_list reply false (list_at held l c)))
        ⊎ (((is_entered l ≡ true) × (told_of_list reply false (list_at held l c) ≡ []) × StandsTold reply (holds_body held l) (judged (stay reply) held l c) f) ⊎ StandsTold reply held o f)

    standing : (held : Bool) (t : ForestOf I) (f : Place I) → StandsTold reply held t f → Standing held t f
    standing held t f (here e h) = inl (e, h)
    standing held t f (stands_inside e n s) = inr (inl (e, n, s))
    standing held t f (beside s) = inr (inr s)

    both : (b : Bool) → b ≡ true → b ≡ false → ⊥
    both b e d = cc

    pub each_is_among : (held : Bool) (t : ForestOf I) (ps : List (Place I)) → AreFaults reply held t ps → (f : Place I) → StandsTold reply held t f → IsAmong f ps
    each_is_among held t ps nothing f s = absurd (standing held end f s)
    each_is_among held t ps (own {l = l} {children = c} {others = o} {rest = rest} e ne more) f s = among_both f (told_of_list reply false (list_at held l c)) rest (elim (standing held (tree l c o) f s) [
      | inl h ↦ inl h.1
      | inr (inl h) ↦ absurd (ne h.1)
      | inr (inr h) ↦ inr (each_is_among held o rest more f h)
    ])
    each_is_among held t ps (inside {l = l} {children = c} {others = o} {inner = inner} {rest = rest} e none within more) f s = among_both f inner rest (elim (standing held (tree l c o) f s) [
      | inl h ↦ absurd (subst (IsAmong f) none h.1)
      | inr (inl h) ↦ inl (each_is_among (holds_body held l) (judged (stay reply) held l c) inner within f h.2)
      | inr (inr h) ↦ inr (each_is_among held o rest more f h)
    ])
    each_is_among held t ps (apart {l = l} {children = c} {others = o} e more) f s = elim (standing held (tree l c o) f s) [
      | inl h ↦ absurd (both (is_entered l) h.0 e)
      | inr (inl h) ↦ absurd (both (is_entered l) h.0 e)
      | inr (inr h) ↦ each_is_among held o ps more f h
    ]

    pub each_stands : (held : Bool) (t : ForestOf I) (ps : List (Place I)) → AreFaults reply held t ps → (f : Place I) → IsAmong f ps → StandsTold reply held t f
    each_stands held t ps nothing f h = absurd h
    each_stands held t ps (own {l = l} {children = c} {others = o} {rest = rest} e ne more) f h = elim (among_either f (told_of_list reply false (list_at held l c)) rest h) [
      | inl a ↦ here e a
      | inr b ↦ beside (each_stands held o rest more f b)
    ]
    each_stands held t ps (inside {l = l} {children = c} {others = o} {inner = inner} {rest = rest} e none within more) f h = elim (among_either f inner rest h) [
      | inl a ↦ stands_inside e none (each_stands (holds_body held l) (judged (stay reply) held l c) inner within f a)
      | inr b ↦ beside (each_stands held o rest more f b)
    ]
    each_stands held t ps (apart {others = o} e more) f h = beside (each_stands held o ps more f h)

    -- one list
    pub one_list : (held : Bool) (t : ForestOf I) (ps qs : List (Place I)) → AreFaults reply held t ps → AreFaults reply held t qs → ps ≡ qs
    one_list held t ps qs nothing h = sym (parts reply held end qs h)
    one_list held t ps qs (own {l = l} {children = c} {others = o} {rest = rest} e ne more) h = elim (parts reply held (tree l c o) qs h) [
      | inl k ↦ ap (λ r. told_of_list reply false (list_at held l c) ++ r) (one_list held o rest k.2 more k.3) ∙ sym k.4
      | inr (inl k) ↦ absurd (ne k.1)
      | inr (inr k) ↦ absurd (both (is_entered l) e k.0)
    ]
    one_list held t ps qs (inside {l = l} {children = c} {others = o} {inner = inner} {rest = rest} e none within more) h = elim (parts reply held (tree l c o) qs h) [
      | inl k ↦ absurd (k.1 none)
      | inr (inl k) ↦ ap (λ r. r ++ rest) (one_list (holds_body held l) (judged (stay reply) held l c) inner k.2 within k.4) ∙ ap (λ r. k.2 ++ r) (one_list held o rest k.3 more k.5) ∙ sym k.6
      | inr (inr k) ↦ absurd (both (is_entered l) e k.0)
    ]
    one_list held t ps qs (apart {l = l} {children = c} {others = o} e more) h = elim (parts reply held (tree l c o) qs h) [
      | inl k ↦ absurd (both (is_entered l) k.0 e)
      | inr (inl k) ↦ absurd (both (is_entered l) k.0 e)
      | inr (inr k) ↦ one_list held o ps qs more k.1
    ]

pub lists_all : ListsAllThatStand
lists_all reply held t ps h f = (each_is_among reply held t ps h f, each_stands reply held t ps h f)

pub is_one_list : IsOneList
is_one_list reply held t ps qs h k = one_list reply held t ps qs h k
