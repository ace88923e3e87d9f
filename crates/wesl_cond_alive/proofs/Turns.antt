-- What a choice keeps of a list, node by node.
use Rattle.std.proofs.Common.{◌≡◌, Bool, true, false, not, ◌&&◌, cond, List, [], ◌∷◌, ◌++◌, map, filter, refl, sym, ap, ◌∙◌}
use Rattle.std.specs.List.{flat_map}
use Rattle.wesl_cond_features.specs.declared.chain.Role.TheVariants.{Plain}
use Rattle.wesl_cond_features.specs.declared.features.Feature.TheVariants.{Keep}
use Rattle.wesl_cond_chains.specs.Chains.{Condition, none, on, else_on, otherwise, follows_on, Judged, is_node, is_branch, attach, chains}
use Rattle.wesl_cond_chains.specs.Conditions.{condition_at, first_condition, or_next, attributes_in}
use Rattle.wesl_cond_chains.specs.Faults.{condition_faults, and_rest, conditions, opens, place_faults, list_faults}
use Rattle.wesl_cond_chains.specs.FormulaFaults.{Fault}
use Rattle.wesl_cond_chains.specs.Lists.{Element}
use Rattle.wesl_cond_chains.specs.Picked.{Choice, chosen, is_true, picked_chain}
use Rattle.wesl_tree_syntax.specs.Tree.{ForestOf, end, tree}
use Rattle.wesl_cond_alive.specs.Kept.{is_faultless, kept_chain, kept_list}
use Rattle.wesl_cond_alive.specs.Sound.{Outline, are_clean, outline_of, is_conditional, opens_chain, is_rest_sound, is_chain_sound, is_whole}
use mathlib.Core.Bool.{and-false}

-- what becomes of a node: it goes, or stays as it is, or stays without its condition
pub data Verdict : Type 0 where
  goes : Verdict
  stays : Verdict
  picked : Verdict

abbrev pub verdict : Bool → Verdict
verdict true = picked
verdict false = goes

module _ {I : Type 0} (choice : Choice I) where
  -- `whole` where the node before stays whole, `free` where no branch before in its chain was true
  abbrev pub verdicts : Bool → Bool → List (Outline I) → List Verdict
  verdicts whole free [] = []
  verdicts whole free (x ∷ xs) =
      let left = cond (follows_on x.condition) free true in
      cond x.is_void (goes ∷ verdicts whole free xs)
      (cond (is_whole whole x xs) (stays ∷ verdicts true free xs)
      (verdict (left && is_true choice x.condition) ∷ verdicts false (left && not (is_true choice x.condition)) xs))

pub faultless_both : {I : Type 0} (xs ys : List (Fault I)) → is_faultless (xs ++ ys) ≡ (is_faultless xs && is_faultless ys)
faultless_both [] ys = refl
faultless_both (x ∷ xs) ys = refl

and_right : (a b c : Bool) → (a && (b && c)) ≡ ((a && b) && c)
and_right true b c = refl
and_right false b c = refl

module _ {I : Type 0} where
  abbrev formulas : List (Condition I) → List (Fault I)
  formulas cs = flat_map (condition_faults (λ flag. Keep)) cs

  -- conditions, and the first of them
  data AreHeaded : List (Condition I) → Condition I → Type 0 where
    unheaded : AreHeaded [] none
    headed : {c : Condition I} {cs : List (Condition I)} → is_conditional c ≡ true → AreHeaded (c ∷ cs) c

  headed_next : (c : Condition I) (cs : List (Condition I)) (first : Condition I) → AreHeaded cs first → AreHeaded (and_rest c cs) (or_next c first)
  headed_next none cs first h = h
  headed_next (on x) cs first h = headed refl
  headed_next (else_on x) cs first h = headed refl
  headed_next otherwise cs first h = headed refl

  are_headed : (a : ForestOf I) → AreHeaded (conditions a) (first_condition a)
  are_headed end = unheaded
  are_headed (tree l a o) = headed_next (condition_at a) (conditions o) (first_condition o) (are_headed o)

  -- a node is without fault where it has one condition at most, which is a formula and does not go on with a chain that is not open
  abbrev fits : Bool → Condition I → Bool
  fits opened c = cond (follows_on c) opened true

  one_fits : (opened : Bool) (c : Condition I) → is_faultless (place_faults opened (c ∷ [])) ≡ fits opened c
  one_fits opened none = refl
  one_fits opened (on x) = refl
  one_fits true (else_on x) = refl
  one_fits false (else_on x) = refl
  one_fits true otherwise = refl
  one_fits false otherwise = refl

  two_fail : (opened : Bool) (c d : Condition I) (cs : List (Condition I)) → is_conditional c ≡ true → is_faultless (place_faults opened (c ∷ d ∷ cs)) ≡ false
  two_fail opened none d cs e = cc
  two_fail opened (on x) d cs e = refl
  two_fail opened (else_on x) d cs e = refl
  two_fail opened otherwise d cs e = refl

  one_opens : (c : Condition I) → opens (c ∷ []) ≡ opens_chain c
  one_opens none = refl
  one_opens (on x) = refl
  one_opens (else_on x) = refl
  one_opens otherwise = refl

  abbrev rest_is : Bool → List (Condition I) → (Bool → Bool) → Bool
  rest_is opened cs rest = is_faultless (place_faults opened cs) && (is_faultless (formulas cs) && rest (opens cs))

  node_sound : (opened : Bool) (cs : List (Condition I)) (c : Condition I) → AreHeaded cs c → (rest : Bool → Bool) → rest_is opened cs rest ≡ (fits opened c && (are_clean cs && rest (opens_chain c)))
  node_sound opened [] c unheaded rest = refl
  node_sound opened (c ∷ []) d (headed e) rest = rw (one_fits opened c, one_opens c, faultless_both (condition_faults (λ flag. Keep) c) []) refl
  node_sound opened (c ∷ d ∷ cs) b (headed e) rest = rw (two_fail opened c d cs e, and-false (is_faultless (condition_faults (λ flag. Keep) c))) (sym (and-false (fits opened c)))

  module _ {N : Type 0} (J : Judged I N) (as_element : N → Element I) where
    abbrev outline : N → Outline I
    outline n = outline_of (as_element n)

    abbrev conditions_in : N → List (Condition I)
    conditions_in n = conditions (attributes_in (tree (as_element n).label (as_element n).children end))

    -- nodes are told as their elements are
    pub record IsTold : Type 0 where
      pub voids : (n : N) → J.is_void n ≡ (outline n).is_void
      pub conditions : (n : N) → J.condition_of n ≡ (outline n).condition

    -- what goes on with a chain, and what comes after that
    abbrev front : List (List N) → List N
    front [] = []
    front ([] ∷ cs) = []
    front ((m ∷ c) ∷ cs) = cond (is_branch J m) (m ∷ c) []

    abbrev behind : List (List N) → List (List N)
    behind [] = []
    behind ([] ∷ cs) = cs
    behind ((m ∷ c) ∷ cs) = cond (is_branch J m) cs ((m ∷ c) ∷ cs)

    cut_at : (n m : N) (c : List N) (cs : List (List N)) (b : Bool) → is_branch J m ≡ b → attach J n ((m ∷ c) ∷ cs) ≡ (n ∷ front ((m ∷ c) ∷ cs)) ∷ behind ((m ∷ c) ∷ cs)
    cut_at n m c cs true e = rw e refl
    cut_at n m c cs false e = rw e refl

    cut : (n : N) (cs : List (List N)) → attach J n cs ≡ (n ∷ front cs) ∷ behind cs
    cut n [] = refl
    cut n ([] ∷ cs) = refl
    cut n ((m ∷ c) ∷ cs) = cut_at n m c cs (is_branch J m) refl

    abbrev chains_of : List N → List (List N)
    chains_of ns = chains J (filter (is_node J) ns)

    abbrev faults_of : Bool → List N → List (Fault I)
    faults_of opened c = list_faults (λ flag. Keep) opened (map as_element c)

    module _ (told : IsTold) where
      follows_is : (n : N) → is_branch J n ≡ follows_on (outline n).condition
      follows_is n = ap follows_on (told.conditions n)

      -- a node before others of its chain
      node_faults : (opened : Bool) (n : N) (c : List N) → (outline n).is_void ≡ false
          → is_faultless (faults_of opened (n ∷ c)) ≡ (fits opened (outline n).condition && ((outline n).is_clean && is_faultless (faults_of (opens_chain (outline n).condition) c)))
      node_faults opened n c e =
          rw e (faultless_both (place_faults opened (conditions_in n) ++ formulas (conditions_in n)) (faults_of (opens (conditions_in n)) c)
          ∙ ap (λ b. b && is_faultless (faults_of (opens (conditions_in n)) c)) (faultless_both (place_faults opened (conditions_in n)) (formulas (conditions_in n)))
          ∙ sym (and_right (is_faultless (place_faults opened (conditions_in n))) (is_faultless (formulas (conditions_in n))) (is_faultless (faults_of (opens (conditions_in n)) c)))
          ∙ node_sound opened (conditions_in n) (outline n).condition (are_headed (attributes_in (tree (as_element n).label (as_element n).children end))) (λ b. is_faultless (faults_of b c)))

      not_void : (n : N) (b : Bool) → (outline n).is_void ≡ b → is_node J n ≡ not b
      not_void n b e = ap not (told.voids n ∙ e)

      rest_at : (opened : Bool) (n : N) (ns : List N) (v f : Bool) → (outline n).is_void ≡ v → follows_on (outline n).condition ≡ f
          → ((o : Bool) → is_rest_sound o (map outline ns) ≡ is_faultless (faults_of o (front (chains_of ns))))
          → is_rest_sound opened (map outline (n ∷ ns)) ≡ is_faultless (faults_of opened (front (chains_of (n ∷ ns))))
      rest_at opened n ns true f e d ih = rw (e, not_void n true e) (ih opened)
      rest_at opened n ns false false e d ih =
          rw (e, not_void n false e) (rw (cut n (chains_of ns)) (rw (follows_is n ∙ d) (rw d refl)))
      rest_at opened n ns false true e d ih =
          rw (not_void n false e) (rw (cut n (chains_of ns)) (rw (follows_is n ∙ d)
          (sym (node_faults opened n (front (chains_of ns)) e ∙ rw (e, d, ← ih (opens_chain (outline n).condition)) refl))))

      rest_sound : (opened : Bool) (ns : List N) → is_rest_sound opened (map outline ns) ≡ is_faultless (faults_of opened (front (chains_of ns)))
      rest_sound opened [] = refl
      rest_sound opened (n ∷ ns) = rest_at opened n ns (outline n).is_void (follows_on (outline n).condition) refl refl (λ o. rest_sound o ns)

      front_none_at : (n : N) (ns : List N) (v f : Bool) → (outline n).is_void ≡ v → follows_on (outline n).condition ≡ f
          → (is_rest_sound false (map outline ns) ≡ true → front (chains_of ns) ≡ []) → is_rest_sound false (map outline (n ∷ ns)) ≡ true → front (chains_of (n ∷ ns)) ≡ []
      front_none_at n ns true f e d ih h = rw (not_void n true e) (ih (rw e at h))
      front_none_at n ns false false e d ih h = rw (not_void n false e) (rw (cut n (chains_of ns)) (rw (follows_is n ∙ d) refl))
      front_none_at n ns false true e d ih h = let k = (rw (e, d) at h) in cc

      -- nothing goes on with a chain that is not open
      front_none : (ns : List N) → is_rest_sound false (map outline ns) ≡ true → front (chains_of ns) ≡ []
      front_none [] h = refl
      front_none (n ∷ ns) h = front_none_at n ns (outline n).is_void (follows_on (outline n).condition) refl refl (front_none ns) h

      module _ (choice : Choice I) (plain : (n : N) → (outline n).condition ≡ none → J.in_role (chosen choice) Plain n ≡ n) where
        abbrev pub become : Verdict → N → List N
        become goes n = []
        become stays n = n ∷ []
        become picked n = J.in_role (chosen choice) Plain n ∷ []

        abbrev pub all_become : List Verdict → List N → List N
        all_become [] ns = []
        all_become (v ∷ vs) [] = []
        all_become (v ∷ vs) (n ∷ ns) = become v n ++ all_become vs ns

        abbrev kept_front : Bool → Bool → List N → List N
        kept_front true free c = c
        kept_front false true c = picked_chain J choice c
        kept_front false false c = []

        abbrev kept_chains : List (List N) → List N
        kept_chains cs = flat_map (kept_chain J as_element choice) cs

        abbrev kept_rest : Bool → Bool → List (List N) → List N
        kept_rest whole free cs = kept_front whole free (front cs) ++ kept_chains (behind cs)

        -- a branch of a chain that does not stay whole
        pick : (n : N) (free t : Bool) (c : List N) (rest : List N) → is_true choice (J.condition_of n) ≡ t
            → become (verdict (free && t)) n ++ (kept_front false (free && not t) c ++ rest) ≡ kept_front false free (n ∷ c) ++ rest
        pick n true true c rest e = rw e refl
        pick n true false c rest e = rw e refl
        pick n false t c rest e = refl

        front_empty : (whole free : Bool) → kept_front whole free [] ≡ []
        front_empty true free = refl
        front_empty false true = refl
        front_empty false false = refl

        abbrev Becomes : Bool → Bool → List N → Type 0
        Becomes whole free ns = all_become (verdicts choice whole free (map outline ns)) ns ≡ kept_rest whole free (chains_of ns)

        abbrev chain_is : N → List N → Type 0
        chain_is n ns = is_faultless (faults_of false (n ∷ front (chains_of ns))) ≡ is_chain_sound (outline n) (map outline ns)

        sound_is : (n : N) (ns : List N) → (outline n).is_void ≡ false → follows_on (outline n).condition ≡ false → chain_is n ns
        sound_is n ns e d = node_faults false n (front (chains_of ns)) e ∙ rw (d, ← rest_sound (opens_chain (outline n).condition) ns) refl

        kept_sound : (n : N) (c : List N) → is_faultless (faults_of false (n ∷ c)) ≡ true → kept_chain J as_element choice (n ∷ c) ≡ picked_chain J choice (n ∷ c)
        kept_sound n c e = rw e refl

        kept_whole : (n : N) (c : List N) → is_faultless (faults_of false (n ∷ c)) ≡ false → kept_chain J as_element choice (n ∷ c) ≡ n ∷ c
        kept_whole n c e = rw e refl

        unconditional : (c : Condition I) → is_conditional c ≡ false → c ≡ none
        unconditional none e = refl
        unconditional (on x) e = cc
        unconditional (else_on x) e = cc
        unconditional otherwise e = cc

        and_true_right : (a b : Bool) → (a && b) ≡ true → b ≡ true
        and_true_right true b e = e
        and_true_right false b e = cc

        -- a node without condition, or the first of a chain at fault, stays as it is, and what goes on with its chain too
        stays_whole : (n : N) (ns : List N) (c b : Bool) → (outline n).is_void ≡ false → follows_on (outline n).condition ≡ false
            → is_conditional (outline n).condition ≡ c → is_chain_sound (outline n) (map outline ns) ≡ b → (c && b) ≡ false → kept_chain J as_element choice (n ∷ front (chains_of ns)) ≡ n ∷ front (chains_of ns)
        stays_whole n ns c false v f e d k = kept_whole n (front (chains_of ns)) (sound_is n ns v f ∙ d)
        stays_whole n ns true true v f e d k = cc
        stays_whole n ns false true v f e d k =
            let bare : (outline n).condition ≡ none = unconditional (outline n).condition e in
            let alone : front (chains_of ns) ≡ [] = front_none ns (ap (λ x. is_rest_sound (opens_chain x) (map outline ns)) (sym bare) ∙ and_true_right (outline n).is_clean _ d) in
            kept_sound n (front (chains_of ns)) (sound_is n ns v f ∙ d)
            ∙ rw (told.conditions n ∙ bare, alone) (ap (λ m. m ∷ []) (plain n bare))

        next : (whole free : Bool) (n : N) (ns : List N) (v f s : Bool) → (outline n).is_void ≡ v → follows_on (outline n).condition ≡ f
            → (is_conditional (outline n).condition && is_chain_sound (outline n) (map outline ns)) ≡ s
            → ((w r : Bool) → Becomes w r ns) → Becomes whole free (n ∷ ns)
        next w r n ns true f s e d k ih = rw (e, not_void n true e) (ih w r)
        next true r n ns false true s e d k ih =
            rw (e, d) (rw (not_void n false e) (rw (cut n (chains_of ns)) (rw (follows_is n ∙ d) (ap (λ xs. n ∷ xs) (ih true r)))))
        next false r n ns false true s e d k ih =
            let t = is_true choice (outline n).condition in
            rw (e, d) (rw (not_void n false e) (rw (cut n (chains_of ns)) (rw (follows_is n ∙ d)
            (ap (λ xs. become (verdict (r && t)) n ++ xs) (ih false (r && not t)) ∙ pick n r t (front (chains_of ns)) (kept_chains (behind (chains_of ns))) (ap (is_true choice) (told.conditions n))))))
        next w r n ns false false true e d k ih =
            let t = is_true choice (outline n).condition in
            rw (e, d, k) (rw (not_void n false e) (rw (cut n (chains_of ns)) (rw (follows_is n ∙ d, front_empty w r)
            (ap (λ xs. become (verdict t) n ++ xs) (ih false (not t)) ∙ pick n true t (front (chains_of ns)) (kept_chains (behind (chains_of ns))) (ap (is_true choice) (told.conditions n))
            ∙ ap (λ xs. xs ++ kept_chains (behind (chains_of ns))) (sym (kept_sound n (front (chains_of ns)) (sound_is n ns e d ∙ and_true_right _ _ k)))))))
        next w r n ns false false false e d k ih =
            rw (e, d, k) (rw (not_void n false e) (rw (cut n (chains_of ns)) (rw (follows_is n ∙ d, front_empty w r)
            (ap (λ xs. n ∷ xs) (ih true r) ∙ ap (λ xs. xs ++ kept_chains (behind (chains_of ns))) (sym (stays_whole n ns _ _ e d refl refl k))))))

        becomes : (whole free : Bool) (ns : List N) → Becomes whole free ns
        becomes true free [] = refl
        becomes false true [] = refl
        becomes false false [] = refl
        becomes w r (n ∷ ns) = next w r n ns (outline n).is_void (follows_on (outline n).condition) _ refl refl refl (λ w' r'. becomes w' r' ns)

        -- a chain that begins a list with an @elif or an @else is at fault
        starts_at : (n : N) (ns : List N) (v f : Bool) → (outline n).is_void ≡ v → follows_on (outline n).condition ≡ f
            → kept_rest true true (chains_of ns) ≡ kept_chains (chains_of ns) → kept_rest true true (chains_of (n ∷ ns)) ≡ kept_chains (chains_of (n ∷ ns))
        starts_at n ns true f e d ih = rw (not_void n true e) ih
        starts_at n ns false false e d ih = rw (not_void n false e) (rw (cut n (chains_of ns)) (rw (follows_is n ∙ d) refl))
        starts_at n ns false true e d ih =
            rw (not_void n false e) (rw (cut n (chains_of ns)) (rw (follows_is n ∙ d)
            (ap (λ xs. xs ++ kept_chains (behind (chains_of ns))) (sym (kept_whole n (front (chains_of ns)) (node_faults false n (front (chains_of ns)) e ∙ rw d refl))))))

        starts : (ns : List N) → kept_rest true true (chains_of ns) ≡ kept_chains (chains_of ns)
        starts [] = refl
        starts (n ∷ ns) = starts_at n ns (outline n).is_void (follows_on (outline n).condition) refl refl (starts ns)

        -- what is kept of a list, node by node
        pub kept_is : (ns : List N) → kept_list J as_element choice ns ≡ all_become (verdicts choice true true (map outline ns)) ns
        kept_is ns = sym (becomes true true ns ∙ starts ns)
