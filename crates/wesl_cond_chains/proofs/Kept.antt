-- What holds of each node of a list holds of those that stay, and of those that stay in a later stage.
use Rattle.std.proofs.Common.{◌≡◌, Bool, true, false, not, cond, List, [], ◌∷◌, ◌++◌, map, filter, refl, sym, ap, ◌∙◌, subst}
use Rattle.std.specs.List.{flat_map}
use Rattle.std.proofs.lemmas.List.{map-append}
use Rattle.wesl_cond_chains.specs.Conditions.{first_condition}
use Rattle.wesl_tree_syntax.specs.Tree.{end, tree}
use Rattle.wesl_cond_features.specs.declared.chain.Role.{Role}
use Rattle.wesl_cond_chains.specs.Chains.{Judged, follows_on, holds, is_node, is_branch, branch, is_not_false, until, up_to_true, first_role, later_role, attach, chains, live, headed, later, residual_chain, residual_list, staying}
use Rattle.wesl_cond_chains.specs.Lists.{Element, element}
use Rattle.wesl_cond_chains.proofs.ChainStages.{holds-yes, holds-no}
use Rattle.wesl_cond_chains.proofs.ChainTurns.{live-yes, live-no, live-undecided}
use Rattle.wesl_cond_chains.proofs.Passing.{inside, void_inside, attributes_through}
use Rattle.wesl_cond_features.specs.Answers.{Answers, in_stages}
use Rattle.wesl_cond_features.specs.declared.features.Truth.{Truth}
use Rattle.wesl_cond_features.specs.declared.features.Truth.TheVariants.{Yes, No, Undecided}

module _ {N : Type 0} (Q : N → Type 0) where
  -- Q holds of each
  abbrev pub Each : List N → Type 0
  Each [] = Unit {0}
  Each (n ∷ ns) = Q n × Each ns

  abbrev EachOf : List (List N) → Type 0
  EachOf [] = Unit {0}
  EachOf (c ∷ cs) = Each c × EachOf cs

  pub each_join : (xs ys : List N) → Each xs → Each ys → Each (xs ++ ys)
  each_join [] ys h k = k
  each_join (x ∷ xs) ys h k = (h.0, each_join xs ys h.1 k)

  pub each_front : (xs ys : List N) → Each (xs ++ ys) → Each xs
  each_front [] ys h = tt
  each_front (x ∷ xs) ys h = (h.0, each_front xs ys h.1)

  pub each_back : (xs ys : List N) → Each (xs ++ ys) → Each ys
  each_back [] ys h = h
  each_back (x ∷ xs) ys h = each_back xs ys h.1

  one_filtered : (b : Bool) (x : N) (ys : List N) → Q x → Each ys → Each (cond b (x ∷ ys) ys)
  one_filtered true x ys q h = (q, h)
  one_filtered false x ys q h = h

  each_filtered : (test : N → Bool) (xs : List N) → Each xs → Each (filter test xs)
  each_filtered test [] h = tt
  each_filtered test (x ∷ xs) h = one_filtered (test x) x (filter test xs) h.0 (each_filtered test xs h.1)

  module _ {I : Type 0} (J : Judged I N) (known : Answers I) where
    attached_at : (b : Bool) (n m : N) (c : List N) (cs : List (List N)) → Q n → Each (m ∷ c) → EachOf cs → EachOf (cond b ((n ∷ m ∷ c) ∷ cs) ((n ∷ []) ∷ (m ∷ c) ∷ cs))
    attached_at true n m c cs q h k = ((q, h), k)
    attached_at false n m c cs q h k = ((q, tt), (h, k))

    each_attached : (n : N) (cs : List (List N)) → Q n → EachOf cs → EachOf (attach J n cs)
    each_attached n [] q h = ((q, tt), tt)
    each_attached n ([] ∷ cs) q h = ((q, tt), h.1)
    each_attached n ((m ∷ c) ∷ cs) q h = attached_at (is_branch J m) n m c cs q h.0 h.1

    each_in_chains : (ns : List N) → Each ns → EachOf (chains J ns)
    each_in_chains [] h = tt
    each_in_chains (n ∷ ns) h = each_attached n (chains J ns) h.0 (each_in_chains ns h.1)

    one_until : (t : Truth) (n : N) (ns : List N) → Q n → Each ns → Each (until J t n ns)
    one_until Yes n ns q h = (q, tt)
    one_until No n ns q h = (q, h)
    one_until Undecided n ns q h = (q, h)

    each_up_to : (c : List N) → Each c → Each (up_to_true J known c)
    each_up_to [] h = tt
    each_up_to (n ∷ ns) h = one_until (branch J known n) n (up_to_true J known ns) h.0 (each_up_to ns h.1)

    each_live : (c : List N) → Each c → Each (live J known c)
    each_live c h = each_filtered (λ n. is_not_false (branch J known n)) (up_to_true J known c) (each_up_to c h)

    each_of_lives : (cs : List (List N)) → EachOf cs → Each (flat_map (live J known) cs)
    each_of_lives [] h = tt
    each_of_lives (c ∷ cs) h = each_join (live J known c) (flat_map (live J known) cs) (each_live c h.0) (each_of_lives cs h.1)

    -- of those that stay
    pub each_stays : (ns : List N) → Each ns → Each (staying J known ns)
    each_stays ns h = each_of_lives (chains J (filter (is_node J) ns)) (each_in_chains (filter (is_node J) ns) (each_filtered (is_node J) ns h))

    -- of what is left, where a role changes nothing of it
    module _ (in_any_role : (r : Role) (n : N) → Q n → Q (J.in_role known r n)) where
      each_later : (ns : List N) → Each ns → Each (map (later J known) ns)
      each_later [] h = tt
      each_later (n ∷ ns) h = (in_any_role (later_role (branch J known n)) n h.0, each_later ns h.1)

      each_headed : (ns : List N) → Each ns → Each (headed J known ns)
      each_headed [] h = tt
      each_headed (n ∷ ns) h = (in_any_role (first_role (branch J known n)) n h.0, each_later ns h.1)

      each_of_residuals : (cs : List (List N)) → Each (flat_map (live J known) cs) → Each (flat_map (residual_chain J known) cs)
      each_of_residuals [] h = tt
      each_of_residuals (c ∷ cs) h =
          each_join (residual_chain J known c) (flat_map (residual_chain J known) cs)
          (each_headed (live J known c) (each_front (live J known c) (flat_map (live J known) cs) h)) (each_of_residuals cs (each_back (live J known c) (flat_map (live J known) cs) h))

      pub each_left : (ns : List N) → Each (staying J known ns) → Each (residual_list J known ns)
      each_left ns h = each_of_residuals (chains J (filter (is_node J) ns)) h

  -- What stays in both stages at once stays in the first.
  module _ {I : Type 0} (J : Judged I N) (F G : Answers I) where
    live_at : (t u : Truth) (n : N) (c : List N) → branch J F n ≡ t → branch J (in_stages F G) n ≡ u → (Each (live J F c) → Each (live J (in_stages F G) c)) → Each (live J F (n ∷ c)) → Each (live J (in_stages F G) (n ∷ c))
    live_at Yes u n c e d ih h = subst Each (live-yes J F n c e ∙ sym (live-yes J (in_stages F G) n c (holds-yes F G (J.condition_of n) e))) h
    live_at No u n c e d ih h = subst Each (sym (live-no J (in_stages F G) n c (holds-no F G (J.condition_of n) e))) (ih (subst Each (live-no J F n c e) h))
    live_at Undecided Yes n c e d ih h = let k : Each (n ∷ live J F c) = subst Each (live-undecided J F n c e) h in subst Each (sym (live-yes J (in_stages F G) n c d)) (k.0, tt)
    live_at Undecided No n c e d ih h = let k : Each (n ∷ live J F c) = subst Each (live-undecided J F n c e) h in subst Each (sym (live-no J (in_stages F G) n c d)) (ih k.1)
    live_at Undecided Undecided n c e d ih h = let k : Each (n ∷ live J F c) = subst Each (live-undecided J F n c e) h in subst Each (sym (live-undecided J (in_stages F G) n c d)) (k.0, ih k.1)

    live_in_both : (c : List N) → Each (live J F c) → Each (live J (in_stages F G) c)
    live_in_both [] h = tt
    live_in_both (n ∷ c) h = live_at _ _ n c refl refl (live_in_both c) h

    lives_in_both : (cs : List (List N)) → Each (flat_map (live J F) cs) → Each (flat_map (live J (in_stages F G)) cs)
    lives_in_both [] h = tt
    lives_in_both (c ∷ cs) h =
        each_join (live J (in_stages F G) c) (flat_map (live J (in_stages F G)) cs)
        (live_in_both c (each_front (live J F c) (flat_map (live J F) cs) h)) (lives_in_both cs (each_back (live J F c) (flat_map (live J F) cs) h))

    pub stays_in_both : (ns : List N) → Each (staying J F ns) → Each (staying J (in_stages F G) ns)
    stays_in_both ns h = lives_in_both (chains J (filter (is_node J) ns)) h

-- Nodes changed where no condition looks, or for others whose conditions are told alike.
module _ {I N I' N' : Type 0} (J : Judged I N) (J' : Judged I' N') (i : N → N') (known : Answers I) (known' : Answers I') (v : (n : N) → J'.is_void (i n) ≡ J.is_void n)
    (follows : (n : N) → is_branch J' (i n) ≡ is_branch J n) (branch_same : (n : N) → branch J' known' (i n) ≡ branch J known n) where
  filtered_at : (test : N → Bool) (test' : N' → Bool) (b d : Bool) (n : N) (ns : List N) → d ≡ b → filter test' (map i ns) ≡ map i (filter test ns) → cond d (i n ∷ filter test' (map i ns)) (filter test' (map i ns)) ≡ map i (cond b (n ∷ filter test ns) (filter test ns))
  filtered_at test test' true d n ns e ih = rw (e, ih) refl
  filtered_at test test' false d n ns e ih = rw (e, ih) refl

  filtered_map : (test : N → Bool) (test' : N' → Bool) → ((n : N) → test' (i n) ≡ test n) → (ns : List N) → filter test' (map i ns) ≡ map i (filter test ns)
  filtered_map test test' same [] = refl
  filtered_map test test' same (n ∷ ns) = filtered_at test test' (test n) (test' (i n)) n ns (same n) (filtered_map test test' same ns)

  attach_cond : (b d : Bool) (n m : N) (ms : List N) (cs : List (List N)) → d ≡ b → cond d ((i n ∷ i m ∷ map i ms) ∷ map (map i) cs) ((i n ∷ []) ∷ (i m ∷ map i ms) ∷ map (map i) cs) ≡ map (map i) (cond b ((n ∷ m ∷ ms) ∷ cs) ((n ∷ []) ∷ (m ∷ ms) ∷ cs))
  attach_cond true d n m ms cs e = rw e refl
  attach_cond false d n m ms cs e = rw e refl

  attach_map : (n : N) (cs : List (List N)) → attach J' (i n) (map (map i) cs) ≡ map (map i) (attach J n cs)
  attach_map n [] = refl
  attach_map n ([] ∷ cs) = refl
  attach_map n ((m ∷ ms) ∷ cs) = attach_cond (is_branch J m) (is_branch J' (i m)) n m ms cs (follows m)

  chains_map : (ns : List N) → chains J' (map i ns) ≡ map (map i) (chains J ns)
  chains_map [] = refl
  chains_map (n ∷ ns) = ap (attach J' (i n)) (chains_map ns) ∙ attach_map n (chains J ns)

  until_map : (t : Truth) (n : N) (ns : List N) → until J' t (i n) (map i ns) ≡ map i (until J t n ns)
  until_map Yes n ns = refl
  until_map No n ns = refl
  until_map Undecided n ns = refl

  up_to_map : (ns : List N) → up_to_true J' known' (map i ns) ≡ map i (up_to_true J known ns)
  up_to_map [] = refl
  up_to_map (n ∷ ns) =
      ap (λ t. until J' t (i n) (up_to_true J' known' (map i ns))) (branch_same n)
      ∙ ap (until J' (branch J known n) (i n)) (up_to_map ns)
      ∙ until_map (branch J known n) n (up_to_true J known ns)

  live_map : (ns : List N) → live J' known' (map i ns) ≡ map i (live J known ns)
  live_map ns =
      ap (filter (λ n. is_not_false (branch J' known' n))) (up_to_map ns) ∙ filtered_map (λ n. is_not_false (branch J known n)) (λ n. is_not_false (branch J' known' n)) (λ n. ap is_not_false (branch_same n)) (up_to_true J known ns)

  lives_map : (cs : List (List N)) → flat_map (live J' known') (map (map i) cs) ≡ map i (flat_map (live J known) cs)
  lives_map [] = refl
  lives_map (d ∷ cs) = ap (λ xs. xs ++ flat_map (live J' known') (map (map i) cs)) (live_map d) ∙ ap (λ ys. map i (live J known d) ++ ys) (lives_map cs) ∙ sym (map-append i (live J known d) (flat_map (live J known) cs))

  pub staying_map : (ns : List N) → staying J' known' (map i ns) ≡ map i (staying J known ns)
  staying_map ns =
      ap (λ xs. flat_map (live J' known') (chains J' xs)) (filtered_map (is_node J) (is_node J') (λ n. ap not (v n)) ns)
      ∙ ap (flat_map (live J' known')) (chains_map (filter (is_node J) ns))
      ∙ lives_map (chains J (filter (is_node J) ns))

-- what stays, judged inside
pub staying_inside : {I : Type 0} (g : List (Element I) → List (Element I)) (known : Answers I) (xs : List (Element I)) → staying element known (map (inside g) xs) ≡ map (inside g) (staying element known xs)
staying_inside {I} g known xs =
    let same = λ (x : Element I). ap first_condition (attributes_through g false (tree x.label x.children end)) in
    staying_map element element (inside g) known known (λ x. void_inside g x.label x.children) (λ x. ap follows_on (same x)) (λ x. ap (holds known) (same x)) xs
