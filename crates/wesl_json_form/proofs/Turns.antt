-- The grammar's loops as data, a turn at a time.
use Rattle.std.proofs.Common.{◌≡◌, ℕ, zero, suc, ◌-◌, ◌<◌, ◌≤◌, List, [], ◌∷◌, length, Bool, Option, Some, None, option_map, option_and_then, refl, ap, ◌∙◌, arith}
use Rattle.json.specs.Token.{Token}
use Rattle.json.specs.Json as json
use Rattle.json.specs.Json.{Parse, parse_map, after_end_array, read_key, items_step, members_step, items, members, value}
use Rattle.json.proofs.Grammar.{value_is, value-begin_array, value-begin_object, items_end, members_end, members_no_key}
use Rattle.serde_json.specs.Data.{Data, array, object, no_items, item, Members, no_members, put}
use Rattle.serde_json.specs.Read.{of_json, of_items, of_members, converted}
use Rattle.wesl_json_form.specs.Text.{value_at, items_at, members_at}

-- ---- what may fail, then what may fail

none_follows : {A B : Type 0} (x : Option A) → None ≡ option_and_then {U = B} (λ a. None) x
none_follows None = refl
none_follows (Some a) = refl

mapped_later : {A B C : Type 0} (f : B → C) (g : A → Option B) (x : Option A) → option_map f (option_and_then g x) ≡ option_and_then (λ a. option_map f (g a)) x
mapped_later f g None = refl
mapped_later f g (Some a) = refl

then_mapped : {A B C : Type 0} (f : A → B) (g : B → Option C) (x : Option A) → option_and_then (λ a. g (f a)) x ≡ option_and_then g (option_map f x)
then_mapped f g None = refl
then_mapped f g (Some a) = refl

with_rest : {A B : Type 0} (f : A → B) (r : List Token) (x : Option A) → option_map (λ b. (b, r)) (option_map f x) ≡ parse_map f (option_map (λ a. (a, r)) x)
with_rest f r None = refl
with_rest f r (Some a) = refl

under : {A B C : Type 0} (f : B → C) (g : A → Option B) (o : Option (A × List Token)) → converted (λ a. option_map f (g a)) o ≡ parse_map f (converted g o)
under f g None = refl
under f g (Some q) = with_rest f q.1 (g q.0)

-- ---- a token that opens nothing

pub nothing_at : (depth : ℕ) → value depth [] ≡ None
nothing_at depth = value_is depth []

pub text_at : (depth : ℕ) (s : List ℕ) (ts : List Token) → value depth (Token.string s ∷ ts) ≡ Some (json.string s, ts)
text_at depth s ts = value_is depth (Token.string s ∷ ts)

pub number_at : (depth : ℕ) (s : List ℕ) (ts : List Token) → value depth (Token.number s ∷ ts) ≡ Some (json.number s, ts)
number_at depth s ts = value_is depth (Token.number s ∷ ts)

pub truth_at : (depth : ℕ) (b : Bool) (ts : List Token) → value depth (Token.boolean b ∷ ts) ≡ Some (json.boolean b, ts)
truth_at depth b ts = value_is depth (Token.boolean b ∷ ts)

pub null_at : (depth : ℕ) (ts : List Token) → value depth (Token.null ∷ ts) ≡ Some (json.null, ts)
null_at depth ts = value_is depth (Token.null ∷ ts)

pub ruleset at_tokens = (nothing_at, text_at, number_at, truth_at, null_at)

-- ---- arrays and objects

array_is : (o : Option (json.Items × List Token)) → converted of_json (parse_map json.array o) ≡ parse_map array (converted of_items o)
array_is None = refl
array_is (Some q) = with_rest array q.1 (of_items q.0)

object_is : (o : Option (json.Members × List Token)) → converted of_json (parse_map json.object o) ≡ parse_map object (converted (λ ms. of_members ms no_members) o)
object_is None = refl
object_is (Some q) = with_rest object q.1 (of_members q.0 no_members)

pub array_at : (depth : ℕ) (ts : List Token) → 0 < depth → value_at depth (Token.begin_array ∷ ts) ≡ parse_map array (items_at (depth - 1) ts)
array_at depth ts some = ap (converted of_json) (value-begin_array depth ts some) ∙ array_is (items (value (depth - 1)) (length ts) ts)

pub object_at : (depth : ℕ) (ts : List Token) → 0 < depth → value_at depth (Token.begin_object ∷ ts) ≡ parse_map object (members_at (depth - 1) ts)
object_at depth ts some = ap (converted of_json) (value-begin_object depth ts some) ∙ object_is (members (value (depth - 1)) (length ts) ts)

pub array_too_deep : (depth : ℕ) (ts : List Token) → depth ≡ 0 → value_at depth (Token.begin_array ∷ ts) ≡ None
unfolding value
array_too_deep depth ts none = ap (λ n. value_at n (Token.begin_array ∷ ts)) none

pub object_too_deep : (depth : ℕ) (ts : List Token) → depth ≡ 0 → value_at depth (Token.begin_object ∷ ts) ≡ None
unfolding value
object_too_deep depth ts none = ap (λ n. value_at n (Token.begin_object ∷ ts)) none

-- ---- a value, then more: `join` puts them together, `whole` reads what was put together, and `later d` what comes after d

module _ {M B : Type 0} (join : json.Json → M → M) (whole : M → Option B) (later : Data → M → Option B) (splits : (j : json.Json) (m : M) → whole (join j m) ≡ option_and_then (λ d. later d m) (of_json j)) where
  joined : (j : json.Json) (o : Option (M × List Token)) → converted whole (parse_map (join j) o) ≡ option_and_then (λ d. converted (later d) o) (of_json j)
  joined j None = none_follows (of_json j)
  joined j (Some q) = ap (option_map (λ b. (b, q.1))) (splits j q.0) ∙ mapped_later (λ b. (b, q.1)) (λ d. later d q.0) (of_json j)

  turn : (more : Parse M) (o : Option (json.Json × List Token)) → converted whole (option_and_then (λ q. parse_map (join q.0) (more q.1)) o) ≡ option_and_then (λ q. converted (later q.0) (more q.1)) (converted of_json o)
  turn more None = refl
  turn more (Some q) = joined q.0 (more q.1) ∙ then_mapped (λ d. (d, q.1)) (λ a. converted (later a.0) (more a.1)) (of_json q.0)

module _ (p : Parse json.Json) where
  -- ---- items

  pub item_read : (n : ℕ) (ts r : List Token) (d : Data) → 0 < n → after_end_array ts ≡ None → converted of_json (p ts) ≡ Some (d, r)
      → converted of_items (items p n ts) ≡ parse_map (item d) (converted of_items (items p (n - 1) r))
  unfolding items
  item_read zero ts r d some going is = absurd (omega arith)
  item_read (suc n) ts r d some going is =
      let less : n ≡ suc n - 1 = omega arith in
      let later = λ (e : Data) (js : json.Items). option_map (item e) (of_items js) in
      ap (λ o. converted of_items (items_step p (items p n) ts o)) going ∙ turn json.item of_items later (λ j js. refl) (items p n) (p ts)
      ∙ ap (option_and_then (λ q. converted (later q.0) (items p n q.1))) is ∙ under (item d) of_items (items p n r) ∙ ap (λ m. parse_map (item d) (converted of_items (items p m r))) less

  pub item_refused : (n : ℕ) (ts : List Token) → after_end_array ts ≡ None → converted of_json (p ts) ≡ None → converted of_items (items p n ts) ≡ None
  unfolding items
  item_refused zero ts going is = refl
  item_refused (suc n) ts going is =
      let later = λ (e : Data) (js : json.Items). option_map (item e) (of_items js) in
      ap (λ o. converted of_items (items_step p (items p n) ts o)) going ∙ turn json.item of_items later (λ j js. refl) (items p n) (p ts) ∙ ap (option_and_then (λ q. converted (later q.0) (items p n q.1))) is

  pub items_over : (n : ℕ) (ts r : List Token) → length ts ≤ n → after_end_array ts ≡ Some r → converted of_items (items p n ts) ≡ Some (no_items, r)
  items_over n ts r enough is = ap (converted of_items) (items_end p n ts r enough is)

  -- ---- members

  module _ (found : Members) where
    read_on : List ℕ → Data → json.Members → Option Members
    read_on k d ms = of_members ms (put k d found)

    pub member_read : (n : ℕ) (k : List ℕ) (ts s r : List Token) (d : Data) → 0 < n → read_key ts ≡ Some (Some k, s) → converted of_json (p s) ≡ Some (d, r)
        → converted (λ ms. of_members ms found) (members p n ts) ≡ converted (λ ms. of_members ms (put k d found)) (members p (n - 1) r)
    unfolding members read_on
    member_read zero k ts s r d some key is = absurd (omega arith)
    member_read (suc n) k ts s r d some key is =
        let less : n ≡ suc n - 1 = omega arith in
        ap (λ o. converted (λ ms. of_members ms found) (option_and_then (λ q. members_step p (members p n) q.0 q.1) o)) key
        ∙ turn (json.member k) (λ ms. of_members ms found) (read_on k) (λ j ms. refl) (members p n) (p s)
        ∙ ap (option_and_then (λ q. converted (read_on k q.0) (members p n q.1))) is ∙ ap (λ m. converted (read_on k d) (members p m r)) less

    pub member_refused : (n : ℕ) (k : List ℕ) (ts s : List Token) → read_key ts ≡ Some (Some k, s) → converted of_json (p s) ≡ None → converted (λ ms. of_members ms found) (members p n ts) ≡ None
    unfolding members read_on
    member_refused zero k ts s key is = refl
    member_refused (suc n) k ts s key is =
        ap (λ o. converted (λ ms. of_members ms found) (option_and_then (λ q. members_step p (members p n) q.0 q.1) o)) key
        ∙ turn (json.member k) (λ ms. of_members ms found) (read_on k) (λ j ms. refl) (members p n) (p s)
        ∙ ap (option_and_then (λ q. converted (read_on k q.0) (members p n q.1))) is

    pub key_refused : (n : ℕ) (ts : List Token) → read_key ts ≡ None → converted (λ ms. of_members ms found) (members p n ts) ≡ None
    key_refused n ts is = ap (converted (λ ms. of_members ms found)) (members_no_key p n ts is)

    pub members_over : (n : ℕ) (ts r : List Token) → length ts ≤ n → read_key ts ≡ Some (None, r) → converted (λ ms. of_members ms found) (members p n ts) ≡ Some (found, r)
    members_over n ts r enough is = ap (converted (λ ms. of_members ms found)) (members_end p n ts r enough is)
