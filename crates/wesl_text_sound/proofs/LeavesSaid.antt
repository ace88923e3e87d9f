-- What is read of leaves is said: names, words, numbers and rules.
use Rattle.std.proofs.Common.{◌≡◌, ℕ, suc, Bool, true, false, not, ◌&&◌, ◌==◌, if◌then◌else◌, List, [], ◌∷◌, ◌++◌, length, nat_le, le-leb, Some, None, option_and_then, refl, sym as turned, ap, ◌∙◌, subst, codes, bytes_eq, arith}
use Rattle.std.proofs.lemmas.Slice.Eq.{bytes_eq-Decides}
use Rattle.wesl_tree_base.specs.Pieces.{cut, before_first}
use Rattle.wesl_tree_names.specs.Path.{Text}
use Rattle.wesl_tree_syntax.specs.Tree.{Role, binder, reference, word, ident, text, texts, truth}
use Rattle.wesl_tree_syntax.specs.Kinds.{same_role}
use Rattle.wesl_text_tokens.specs.declared.symbol.Symbol.TheVariants as is
use Rattle.wesl_text_tokens.specs.Tokens.{Token, name, number, symbol}
use Rattle.wesl_text_sound.proofs.EachToken.{lacks}
use Rattle.wesl_text_form.specs.Slots.{Slot, must, may, left}
use Rattle.wesl_text_form.specs.Names.{is_among, is_word, is_number, is_free, is_name, are_words, are_names, known_attributes}
use Rattle.wesl_text_form.specs.Productions.{Leaf, an_ident, an_item, a_name, a_word, a_custom, a_literal, a_rule, some_words, one_or_two, steps, a_path}
use Rattle.wesl_text_form.specs.Spelling.{Label, Forest, dot, is_one_or_two, named, signed, parted, trailing, stepped, provided, item_role, leaf_slots}
use Rattle.wesl_text_reading.specs.Leaves.{are_free, words, step_words, item_role_by, read_leaf}
use Rattle.wesl_text_sound.specs.Laws.{AreTokens}
use Rattle.wesl_text_reading.proofs.Filled.{no_some, of_some, no_true, fill}
use Rattle.wesl_text_sound.proofs.TakenApart.{with_rest, where_some}
use Rattle.wesl_text_sound.proofs.Words.{word_lacks}
use Rattle.std.proofs.lemmas.Bool.{and_from, and_parts}

-- what was read as a leaf before other trees, is said
abbrev pub LeafSaid : Leaf → Forest → List Token → Label × List Token → Type 0
LeafSaid f o ts x = fill (leaf_slots f x.0 o) ts ≡ Some x.1

pub same_text : (t : Text) → bytes_eq t t ≡ true
same_text t = (bytes_eq-Decides t t).1 refl

-- a name fills its slot, before others
pub name_then : (t : Text) (ss : List Slot) (ts us : List Token) → left ss ts ≡ Some us → left (named t ∷ ss) (name t ∷ ts) ≡ Some us
name_then t ss ts us h = ap (λ b. option_and_then (left ss) (if b then Some ts else None)) (same_text t) ∙ h

pub when_provided : (b : Bool) (ss : List Slot) (ts us : List Token) → b ≡ true → left ss ts ≡ Some us → fill (provided b ss) ts ≡ Some us
when_provided b ss ts us e h = ap (λ z. fill (provided z ss) ts) e ∙ h

role_same : (r : Role) → same_role r r ≡ true
role_same binder = refl
role_same reference = refl
role_same word = refl

-- ---- one token

ident_said : (r : Role) (o : Forest) (ts : List Token) (x : Label × List Token) → AreTokens ts → read_leaf (an_ident r) ts ≡ Some x → LeafSaid (an_ident r) o ts x
ident_said r o (name t ∷ ts) x a h =
    let y : (is_free t ≡ true) × (with_rest (ident r t) ts ≡ x) = where_some (is_free t) (ident r t) ts x h in
    subst (λ z. LeafSaid (an_ident r) o (name t ∷ ts) z) y.1 (when_provided (same_role r r && is_name t) (named t ∷ []) (name t ∷ ts) ts (and_from (same_role r r) (is_name t) (role_same r) (and_from (is_word t) (is_free t) a.0 y.0)) (name_then t [] ts ts refl))
ident_said r o ts x a h = absurd (no_some x h)

-- what an import brings in, where its role is told by what comes next
pub item_said : (o : Forest) (ts : List Token) (x : Label × List Token) → AreTokens ts → item_role o ≡ item_role_by x.1 → read_leaf an_item ts ≡ Some x → LeafSaid an_item o ts x
item_said o (name t ∷ ts) x a e h =
    let y : (is_free t ≡ true) × (with_rest (ident (item_role_by ts) t) ts ≡ x) = where_some (is_free t) (ident (item_role_by ts) t) ts x h in
    let r : Role = item_role_by ts in
    let q : item_role o ≡ r = e ∙ ap (λ z. item_role_by z.1) (turned y.1) in
    subst (λ z. LeafSaid an_item o (name t ∷ ts) z) y.1 (when_provided (same_role (item_role o) r && is_name t) (named t ∷ []) (name t ∷ ts) ts (and_from (same_role (item_role o) r) (is_name t) (ap (λ z. same_role z r) q ∙ role_same r) (and_from (is_word t) (is_free t) a.0 y.0)) (name_then t [] ts ts refl))
item_said o ts x a e h = absurd (no_some x h)

name_said : (o : Forest) (ts : List Token) (x : Label × List Token) → AreTokens ts → read_leaf a_name ts ≡ Some x → LeafSaid a_name o ts x
name_said o (name t ∷ ts) x a h =
    let y : (is_free t ≡ true) × (with_rest (text t) ts ≡ x) = where_some (is_free t) (text t) ts x h in
    subst (λ z. LeafSaid a_name o (name t ∷ ts) z) y.1 (when_provided (is_name t) (named t ∷ []) (name t ∷ ts) ts (and_from (is_word t) (is_free t) a.0 y.0) (name_then t [] ts ts refl))
name_said o ts x a h = absurd (no_some x h)

word_said : (o : Forest) (ts : List Token) (x : Label × List Token) → AreTokens ts → read_leaf a_word ts ≡ Some x → LeafSaid a_word o ts x
word_said o (name t ∷ ts) x a h = subst (λ z. LeafSaid a_word o (name t ∷ ts) z) (of_some (with_rest (text t) ts) x h) (when_provided (is_word t) (named t ∷ []) (name t ∷ ts) ts a.0 (name_then t [] ts ts refl))
word_said o ts x a h = absurd (no_some x h)

custom_said : (o : Forest) (ts : List Token) (x : Label × List Token) → AreTokens ts → read_leaf a_custom ts ≡ Some x → LeafSaid a_custom o ts x
custom_said o (name t ∷ ts) x a h =
    let y : (not (is_among known_attributes t) ≡ true) × (with_rest (text t) ts ≡ x) = where_some (not (is_among known_attributes t)) (text t) ts x h in
    subst (λ z. LeafSaid a_custom o (name t ∷ ts) z) y.1 (when_provided (is_word t && not (is_among known_attributes t)) (named t ∷ []) (name t ∷ ts) ts (and_from (is_word t) (not (is_among known_attributes t)) a.0 y.0) (name_then t [] ts ts refl))
custom_said o ts x a h = absurd (no_some x h)

literal_said : (o : Forest) (ts : List Token) (x : Label × List Token) → AreTokens ts → read_leaf a_literal ts ≡ Some x → LeafSaid a_literal o ts x
literal_said o (number t ∷ ts) x a h =
    subst (λ z. LeafSaid a_literal o (number t ∷ ts) z) (of_some (with_rest (text t) ts) x h) (when_provided (is_number t) (must (number t) ∷ []) (number t ∷ ts) ts a.0 (ap (λ b. option_and_then (left []) (if b then Some ts else None)) (same_text t)))
literal_said o (name t ∷ ts) x a h = by (bytes_eq t (codes "true")) (bytes_eq t (codes "false")) refl refl h where
  truth_said : (b : Bool) → t ≡ (if b then codes "true" else codes "false") → Some (with_rest (truth b) ts) ≡ Some x → LeafSaid a_literal o (name t ∷ ts) x
  truth_said b q k =
      subst (λ z. LeafSaid a_literal o (name t ∷ ts) z) (of_some (with_rest (truth b) ts) x k)
      (subst (λ w. left (named w ∷ []) (name t ∷ ts) ≡ Some ts) q (name_then t [] ts ts refl))

  by : (b c : Bool) → bytes_eq t (codes "true") ≡ b → bytes_eq t (codes "false") ≡ c → (if b then Some (truth true, ts) else if c then Some (truth false, ts) else None) ≡ Some x → LeafSaid a_literal o (name t ∷ ts) x
  by true c e g k = truth_said true ((bytes_eq-Decides t (codes "true")).0 e) k
  by false true e g k = truth_said false ((bytes_eq-Decides t (codes "false")).0 g) k
  by false false e g k = absurd (no_some x k)
literal_said o ts x a h = absurd (no_some x h)

-- ---- words that are cut

-- a text without a byte is not cut there
pub cut_one : (c : ℕ) (t : Text) → lacks c t ≡ true → cut c t ≡ t ∷ []
cut_one c [] h = refl
cut_one c (x ∷ xs) h = at (cut_one c xs) (x == c) h where
  at : (lacks c xs ≡ true → cut c xs ≡ xs ∷ []) → (b : Bool) → (not b && lacks c xs) ≡ true → (if b then [] ∷ cut c xs else before_first x (cut c xs)) ≡ (x ∷ xs) ∷ []
  at k true g = absurd (no_true g)
  at k false g = ap (before_first x) (k g)

-- and before that byte and others, it is the first piece
pub cut_two : (c : ℕ) (t u : Text) → lacks c t ≡ true → (c == c) ≡ true → cut c (t ++ c ∷ u) ≡ t ∷ cut c u
cut_two c [] u h e = ap (λ b. if b then [] ∷ cut c u else before_first c (cut c u)) e
cut_two c (x ∷ xs) u h e = at (λ g. cut_two c xs u g e) (x == c) h where
  at : (lacks c xs ≡ true → cut c (xs ++ c ∷ u) ≡ xs ∷ cut c u) → (b : Bool) → (not b && lacks c xs) ≡ true → (if b then [] ∷ cut c (xs ++ c ∷ u) else before_first x (cut c (xs ++ c ∷ u))) ≡ (x ∷ xs) ∷ cut c u
  at k true g = absurd (no_true g)
  at k false g = ap (before_first x) (k g)

rule_said : (o : Forest) (ts : List Token) (x : Label × List Token) → AreTokens ts → read_leaf a_rule ts ≡ Some x → LeafSaid a_rule o ts x
rule_said o ts x a h = by ts a h where
  one : (t : Text) (us : List Token) → is_word t ≡ true → fill (leaf_slots a_rule (text t) o) (name t ∷ us) ≡ Some us
  one t us w =
      subst (λ ws. fill (provided (are_words ws && is_one_or_two (length ws)) (parted is.Period ws)) (name t ∷ us) ≡ Some us) (turned (cut_one dot t (word_lacks t w).0))
      (when_provided (are_words (t ∷ []) && is_one_or_two 1) (named t ∷ []) (name t ∷ us) us (and_from (is_word t && true) true (and_from (is_word t) true w refl) refl) (name_then t [] us us refl))

  two : (t u : Text) (us : List Token) → is_word t ≡ true → is_word u ≡ true → fill (leaf_slots a_rule (text (t ++ dot ∷ u)) o) (name t ∷ symbol is.Period ∷ name u ∷ us) ≡ Some us
  two t u us w v =
      subst (λ ws. fill (provided (are_words ws && is_one_or_two (length ws)) (parted is.Period ws)) (name t ∷ symbol is.Period ∷ name u ∷ us) ≡ Some us) (turned (cut_two dot t u (word_lacks t w).0 refl ∙ ap (λ z. t ∷ z) (cut_one dot u (word_lacks u v).0)))
      (when_provided (are_words (t ∷ u ∷ []) && is_one_or_two 2) (named t ∷ signed is.Period ∷ named u ∷ []) (name t ∷ symbol is.Period ∷ name u ∷ us) us (and_from (is_word t && (is_word u && true)) true (and_from (is_word t) (is_word u && true) w (and_from (is_word u) true v refl)) refl)
      (name_then t (signed is.Period ∷ named u ∷ []) (symbol is.Period ∷ name u ∷ us) us (name_then u [] us us refl)))

  by : (ts : List Token) → AreTokens ts → read_leaf a_rule ts ≡ Some x → LeafSaid a_rule o ts x
  by (name t ∷ symbol is.Period ∷ name u ∷ us) b k = subst (λ z. LeafSaid a_rule o (name t ∷ symbol is.Period ∷ name u ∷ us) z) (of_some (with_rest (text (t ++ dot ∷ u)) us) x k) (two t u us b.0 b.1.1.0)
  by (name t ∷ us) b k = subst (λ z. LeafSaid a_rule o (name t ∷ us) z) (of_some (with_rest (text t) us) x k) (one t us b.0)
  by us b k = absurd (no_some x k)

-- ---- words with commas between

comma_behind : (t w : Text) (ws : List Text) → trailing (parted is.Comma (t ∷ w ∷ ws)) ≡ named t ∷ signed is.Comma ∷ trailing (parted is.Comma (w ∷ ws))
comma_behind t w [] = refl
comma_behind t w (v ∷ vs) = refl

abbrev WordsSaid : List Token → List Text × List Token → Type 0
WordsSaid ts x = (are_words x.0 ≡ true) × (left (trailing (parted is.Comma x.0)) ts ≡ Some x.1)

words_said : (ts : List Token) → AreTokens ts → WordsSaid ts (words ts)
words_said (name t ∷ symbol is.Comma ∷ ts) a = by (words ts) (words_said ts a.1.1) where
  by : (x : List Text × List Token) → WordsSaid ts x → WordsSaid (name t ∷ symbol is.Comma ∷ ts) (t ∷ x.0, x.1)
  by x h = at x.0 x.1 h.0 h.1 where
    at : (ws : List Text) (us : List Token) → are_words ws ≡ true → left (trailing (parted is.Comma ws)) ts ≡ Some us → WordsSaid (name t ∷ symbol is.Comma ∷ ts) (t ∷ ws, us)
    at [] us w k = (and_from (is_word t) true a.0 refl, name_then t (may (symbol is.Comma) ∷ []) (symbol is.Comma ∷ ts) us k)
    at (v ∷ vs) us w k = (
      and_from (is_word t) (are_words (v ∷ vs)) a.0 w,
      ap (λ ss. left ss (name t ∷ symbol is.Comma ∷ ts)) (comma_behind t v vs) ∙ name_then t (signed is.Comma ∷ trailing (parted is.Comma (v ∷ vs))) (symbol is.Comma ∷ ts) us k,
    )
words_said (name t ∷ ts) a = (and_from (is_word t) true a.0 refl, name_then t (may (symbol is.Comma) ∷ []) ts ts refl)
words_said ts a = (refl, refl)

one_word : (t : Text) (ts : List Token) → nat_le 1 (length (words (name t ∷ ts)).0) ≡ true
one_word t (symbol is.Comma ∷ ts) = le-leb 1 (suc (length (words ts).0)) (omega arith)
one_word t ts = refl

some_said : (o : Forest) (ts : List Token) (x : Label × List Token) → AreTokens ts → read_leaf some_words ts ≡ Some x → LeafSaid some_words o ts x
some_said o (name t ∷ ts) x a h =
    let x1 : WordsSaid (name t ∷ ts) (words (name t ∷ ts)) = words_said (name t ∷ ts) a in
    subst (λ z. LeafSaid some_words o (name t ∷ ts) z) (of_some (with_rest (texts (words (name t ∷ ts)).0) (words (name t ∷ ts)).1) x h)
    (when_provided (are_words (words (name t ∷ ts)).0 && nat_le 1 (length (words (name t ∷ ts)).0)) (trailing (parted is.Comma (words (name t ∷ ts)).0)) (name t ∷ ts) (words (name t ∷ ts)).1 (and_from (are_words (words (name t ∷ ts)).0) (nat_le 1 (length (words (name t ∷ ts)).0)) x1.0 (one_word t ts)) x1.1)
some_said o ts x a h = absurd (no_some x h)

few_said : (o : Forest) (ts : List Token) (x : Label × List Token) → AreTokens ts → read_leaf one_or_two ts ≡ Some x → LeafSaid one_or_two o ts x
few_said o ts x a h =
    let w : WordsSaid ts (words ts) = words_said ts a in
    let y : (is_one_or_two (length (words ts).0) ≡ true) × (with_rest (texts (words ts).0) (words ts).1 ≡ x) = where_some (is_one_or_two (length (words ts).0)) (texts (words ts).0) (words ts).1 x h in
    subst (λ z. LeafSaid one_or_two o ts z) y.1 (when_provided (are_words (words ts).0 && is_one_or_two (length (words ts).0)) (trailing (parted is.Comma (words ts).0)) ts (words ts).1 (and_from (are_words (words ts).0) (is_one_or_two (length (words ts).0)) w.0 y.0) w.1)

-- ---- steps

abbrev pub StepsSaid : List Token → List Text × List Token → Type 0
StepsSaid ts x = (are_words x.0 ≡ true) × (left (stepped x.0) ts ≡ Some x.1)

pub steps_said : (ts : List Token) → AreTokens ts → StepsSaid ts (step_words ts)
steps_said (name t ∷ symbol is.ColonColon ∷ ts) a = by (step_words ts) (steps_said ts a.1.1) where
  by : (x : List Text × List Token) → StepsSaid ts x → StepsSaid (name t ∷ symbol is.ColonColon ∷ ts) (t ∷ x.0, x.1)
  by x h = (and_from (is_word t) (are_words x.0) a.0 h.0, name_then t (signed is.ColonColon ∷ stepped x.0) (symbol is.ColonColon ∷ ts) x.1 h.1)
steps_said ts a = (refl, refl)

-- free words are names
pub free_names : (ts : List Text) → are_words ts ≡ true → are_free ts ≡ true → are_names ts ≡ true
free_names [] w f = refl
free_names (t ∷ ts) w f =
    let x : (is_word t ≡ true) × (are_words ts ≡ true) = and_parts (is_word t) (are_words ts) w in
    let y : (is_free t ≡ true) × (are_free ts ≡ true) = and_parts (is_free t) (are_free ts) f in
    and_from (is_name t) (are_names ts) (and_from (is_word t) (is_free t) x.0 y.0) (free_names ts x.1 y.1)

names_said : (o : Forest) (ts : List Token) (x : Label × List Token) → AreTokens ts → read_leaf steps ts ≡ Some x → LeafSaid steps o ts x
names_said o ts x a h =
    let w : StepsSaid ts (step_words ts) = steps_said ts a in
    let y : (are_free (step_words ts).0 ≡ true) × (with_rest (texts (step_words ts).0) (step_words ts).1 ≡ x) = where_some (are_free (step_words ts).0) (texts (step_words ts).0) (step_words ts).1 x h in
    subst (λ z. LeafSaid steps o ts z) y.1 (when_provided (are_names (step_words ts).0) (stepped (step_words ts).0) ts (step_words ts).1 (free_names (step_words ts).0 w.0 y.0) w.1)

-- ---- the leaves that are told by their tokens alone

abbrev pub is_told_alone : Leaf → Bool
is_told_alone an_item = false
is_told_alone (a_path slashes) = false
is_told_alone f = true

pub leaf_said : (f : Leaf) → is_told_alone f ≡ true → (o : Forest) (ts : List Token) (x : Label × List Token) → AreTokens ts → read_leaf f ts ≡ Some x → LeafSaid f o ts x
leaf_said (an_ident r) e o ts x a h = ident_said r o ts x a h
leaf_said a_name e o ts x a h = name_said o ts x a h
leaf_said a_word e o ts x a h = word_said o ts x a h
leaf_said a_custom e o ts x a h = custom_said o ts x a h
leaf_said a_literal e o ts x a h = literal_said o ts x a h
leaf_said a_rule e o ts x a h = rule_said o ts x a h
leaf_said some_words e o ts x a h = some_said o ts x a h
leaf_said one_or_two e o ts x a h = few_said o ts x a h
leaf_said steps e o ts x a h = names_said o ts x a h
leaf_said f e o ts x a h = absurd (no_true e)
