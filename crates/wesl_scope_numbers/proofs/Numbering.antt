-- Numbers given one by one, with the list of the keys that have one.
use Rattle.std.proofs.Common.{◌≡◌, ◌≢◌, ℕ, ◌+◌, ◌<◌, ◌≤◌, List, [], ◌∷◌, ◌++◌, length, refl, sym, ◌∙◌, ap, arith, length-append, ◌⊎◌, inl, inr}
use Rattle.std.proofs.lemmas.Grind.{common_steps}
use Rattle.std.proofs.lemmas.Bool.{cases_lt}
use Rattle.std.specs.Prelude.{slice_index_or}
use Rattle.wesl_scope_meanings.specs.Scopes.{Key, free}
use Rattle.wesl_tree_syntax.specs.Numbers.{AreNumbers, number_at}
use Rattle.wesl_scope_occurrences.proofs.Joined.{at_end, before_end}

abbrev pub key_at : List Key → ℕ → Key
key_at ks i = slice_index_or ks i (free [])

pub record Numbered (keys : List Key) (numbers : List ℕ) (seen : List Key) : Type 0 where
  pub one_each : length numbers ≡ length keys
  pub in_seen : (i : ℕ) → i < length keys → number_at numbers i < length seen
  pub means : (i : ℕ) → i < length keys → key_at seen (number_at numbers i) ≡ key_at keys i
  pub used : (m : ℕ) → m < length seen → (j : ℕ) × (j < length keys) × (number_at numbers j ≡ m)
  pub apart : (m n : ℕ) → m < length seen → n < length seen → key_at seen m ≡ key_at seen n → m ≡ n
  pub first : (i m : ℕ) → i < length keys → m < number_at numbers i → (j : ℕ) × (j < i) × (number_at numbers j ≡ m)

pub last_or_before : (i n : ℕ) → i < n + 1 → (i < n) ⊎ (i ≡ n)
last_or_before i n h = by_order (cases_lt i n) where
  by_order : (i < n) ⊎ (n ≤ i) → (i < n) ⊎ (i ≡ n)
  by_order (inl l) = inl l
  by_order (inr l) = inr (omega arith)

other_default : (ks : List Key) (i : ℕ) (d e : Key) → i < length ks → slice_index_or ks i d ≡ slice_index_or ks i e
other_default ks i d e h = grind (arith, common_steps)

pub none_numbered : Numbered [] [] []
none_numbered = record {
  one_each = refl;
  in_seen = λ i h. absurd (omega (arith, h));
  means = λ i h. absurd (omega (arith, h));
  used = λ m h. absurd (omega (arith, h));
  apart = λ m n h. absurd (omega (arith, h));
  first = λ i m h. absurd (omega (arith, h));
}

pub numbered : (keys : List Key) (numbers : List ℕ) (seen : List Key) → Numbered keys numbers seen → AreNumbers keys numbers
numbered keys numbers seen s = record {
  one_each = s.one_each;
  equal_where_keys = λ d i j hi hj. (
    λ e. other_default keys i d (free []) hi ∙ (sym (s.means i hi) ∙ (ap (key_at seen) e ∙ (s.means j hj ∙ other_default keys j (free []) d hj))),
    λ e. s.apart (number_at numbers i) (number_at numbers j) (s.in_seen i hi) (s.in_seen j hj)
        (s.means i hi ∙ (other_default keys i (free []) d hi ∙ (e ∙ (other_default keys j d (free []) hj ∙ sym (s.means j hj))))),
  );
  by_first = s.first;
}

-- one more key, with the number n, where the list of keys that have one may have grown by it
pub numbered_more : (keys : List Key) (numbers : List ℕ) (seen grown : List Key) (k : Key) (n : ℕ) → Numbered keys numbers seen
    → length seen ≤ length grown → ((m : ℕ) → m < length seen → key_at grown m ≡ key_at seen m)
    → n < length grown → key_at grown n ≡ k → n ≤ length seen → ((m : ℕ) → m < length grown → (m < length seen) ⊎ (m ≡ n))
    → ((m o : ℕ) → m < length grown → o < length grown → key_at grown m ≡ key_at grown o → m ≡ o)
    → Numbered (keys ++ k ∷ []) (numbers ++ n ∷ []) grown
numbered_more keys numbers seen grown k n s longer grows in' is low covered apart =
    let numbers' = numbers ++ n ∷ [] in
    let keys' = keys ++ k ∷ [] in
    let old : (i : ℕ) → i < length keys → number_at numbers' i ≡ number_at numbers i = λ i h. before_end numbers n 0 i (omega (arith, s.one_each)) in
    let new : (i : ℕ) → i ≡ length keys → number_at numbers' i ≡ n = λ i h. at_end numbers n 0 i (omega (arith, s.one_each)) in
    let cases : (i : ℕ) → i < length keys' → (i < length keys) ⊎ (i ≡ length keys) = λ i h. last_or_before i (length keys) (omega (arith, length-append keys (k ∷ []))) in
    let found : (m : ℕ) → m < length seen → (j : ℕ) × (j < length keys) × (number_at numbers' j ≡ m) = λ m h.
    let u = s.used m h in (u.0, u.1, old u.0 u.1 ∙ u.2) in
    record {
      one_each = length-append numbers (n ∷ []) ∙ (ap (λ m. m + 1) s.one_each ∙ sym (length-append keys (k ∷ [])));
      in_seen = λ i h. in_grown i (cases i h) old new;
      means = λ i h. grown_means i (cases i h) old new;
      used = λ m h. used_at m (covered m h) found (new (length keys) refl);
      apart = apart;
      first = λ i m h l. earlier i m (cases i h) l old new found;
    } where
      in_grown : (i : ℕ) → (i < length keys) ⊎ (i ≡ length keys) → ((i : ℕ) → i < length keys → number_at (numbers ++ n ∷ []) i ≡ number_at numbers i) → ((i : ℕ) → i ≡ length keys → number_at (numbers ++ n ∷ []) i ≡ n) → number_at (numbers ++ n ∷ []) i < length grown
      in_grown i (inl h) old new = omega (arith, old i h, s.in_seen i h)
      in_grown i (inr e) old new = omega (arith, new i e)

      grown_means : (i : ℕ) → (i < length keys) ⊎ (i ≡ length keys) → ((i : ℕ) → i < length keys → number_at (numbers ++ n ∷ []) i ≡ number_at numbers i) → ((i : ℕ) → i ≡ length keys → number_at (numbers ++ n ∷ []) i ≡ n) → key_at grown (number_at (numbers ++ n ∷ []) i) ≡ key_at (keys ++ k ∷ []) i
      grown_means i (inl h) old new =
          ap (key_at grown) (old i h) ∙ (grows (number_at numbers i) (s.in_seen i h) ∙ (s.means i h ∙ sym (before_end keys k (free []) i h)))
      grown_means i (inr e) old new = ap (key_at grown) (new i e) ∙ (is ∙ sym (at_end keys k (free []) i e))

      used_at : (m : ℕ) → (m < length seen) ⊎ (m ≡ n) → ((m : ℕ) → m < length seen → (j : ℕ) × (j < length keys) × (number_at (numbers ++ n ∷ []) j ≡ m)) → number_at (numbers ++ n ∷ []) (length keys) ≡ n → (j : ℕ) × (j < length (keys ++ k ∷ [])) × (number_at (numbers ++ n ∷ []) j ≡ m)
      used_at m (inl h) found new = let u = found m h in (u.0, omega (arith, u.1, length-append keys (k ∷ [])), u.2)
      used_at m (inr e) found new = (length keys, omega (arith, length-append keys (k ∷ [])), new ∙ sym e)

      earlier : (i m : ℕ) → (i < length keys) ⊎ (i ≡ length keys) → m < number_at (numbers ++ n ∷ []) i → ((i : ℕ) → i < length keys → number_at (numbers ++ n ∷ []) i ≡ number_at numbers i) → ((i : ℕ) → i ≡ length keys → number_at (numbers ++ n ∷ []) i ≡ n) → ((m : ℕ) → m < length seen → (j : ℕ) × (j < length keys) × (number_at (numbers ++ n ∷ []) j ≡ m)) → (j : ℕ) × (j < i) × (number_at (numbers ++ n ∷ []) j ≡ m)
      earlier i m (inl h) l old new found =
          let u = s.first i m h (omega (arith, old i h)) in (u.0, u.1, old u.0 (omega (arith, u.1)) ∙ u.2)
      earlier i m (inr e) l old new found =
          let u = found m (omega (arith, new i e)) in (u.0, omega (arith, u.1), u.2)

-- a key that has a number
pub numbered_again : (keys : List Key) (numbers : List ℕ) (seen : List Key) (k : Key) (n : ℕ) → Numbered keys numbers seen → n < length seen → key_at seen n ≡ k → Numbered (keys ++ k ∷ []) (numbers ++ n ∷ []) seen
numbered_again keys numbers seen k n s h e =
    numbered_more keys numbers seen seen k n s (omega arith) (λ m l. refl) h e (omega arith) (λ m l. inl l) s.apart

-- a new key
pub numbered_new : (keys : List Key) (numbers : List ℕ) (seen : List Key) (k : Key) (n : ℕ) → Numbered keys numbers seen → n ≡ length seen → ((m : ℕ) → m < length seen → key_at seen m ≢ k) → Numbered (keys ++ k ∷ []) (numbers ++ n ∷ []) (seen ++ k ∷ [])
numbered_new keys numbers seen k n s e none =
    let grown = seen ++ k ∷ [] in
    let len = length-append seen (k ∷ []) in
    let cases : (m : ℕ) → m < length grown → (m < length seen) ⊎ (m ≡ length seen) = λ m h. last_or_before m (length seen) (omega (arith, len)) in
    numbered_more keys numbers seen grown k n s (omega (arith, len)) (λ m l. before_end seen k (free []) m l) (omega (arith, len)) (at_end seen k (free []) n e) (omega arith)
    (λ m l. covered m (cases m l))
    (λ m o hm ho same. apart m o (cases m hm) (cases o ho) same) where
      covered : (m : ℕ) → (m < length seen) ⊎ (m ≡ length seen) → (m < length seen) ⊎ (m ≡ n)
      covered m (inl l) = inl l
      covered m (inr l) = inr (omega arith)

      apart : (m o : ℕ) → (m < length seen) ⊎ (m ≡ length seen) → (o < length seen) ⊎ (o ≡ length seen) → key_at (seen ++ k ∷ []) m ≡ key_at (seen ++ k ∷ []) o → m ≡ o
      apart m o (inl a) (inl b) same = s.apart m o a b (sym (before_end seen k (free []) m a) ∙ (same ∙ before_end seen k (free []) o b))
      apart m o (inl a) (inr b) same = absurd (none m a (sym (before_end seen k (free []) m a) ∙ (same ∙ at_end seen k (free []) o b)))
      apart m o (inr a) (inl b) same = absurd (none o b (sym (before_end seen k (free []) o b) ∙ (sym same ∙ at_end seen k (free []) m a)))
      apart m o (inr a) (inr b) same = a ∙ sym b
