-- Tokens that touch are joined as they are where they stand apart, if those are read as meant.
use Rattle.std.proofs.Common.{◌≡◌, ℕ, suc, Bool, true, false, not, ◌&&◌, ◌||◌, if◌then◌else◌, List, [], ◌∷◌, ◌++◌, map, length, Option, Some, None, is_some, refl, sym as turned, ap, ◌∙◌, codes, append-nil, append_assoc, length-append, bytes_eq, arith}
use Rattle.std.proofs.lemmas.Bool.{false≢true, and_parts, not-true}
use Rattle.std.proofs.lemmas.Slice.Eq.{bytes_eq-Decides}
use Rattle.wesl_tree_base.specs.Pieces.{is_empty}
use Rattle.wesl_tree_names.specs.Path.{Text}
use Rattle.wesl_text_tokens.specs.declared.symbol.Symbol.{Symbol}
use Rattle.wesl_text_tokens.specs.declared.symbol.Symbol.TheVariants as is
use Rattle.wesl_text_tokens.specs.Characters.{is_one_of}
use Rattle.wesl_text_tokens.specs.Pieces.{What, a_name, a_number, a_sign, Bit}
use Rattle.wesl_text_tokens.specs.Symbols.{symbol_of, symbol_text}
use Rattle.wesl_text_tokens.specs.Tokens.{Token, name, number, symbol, open_list, close_list, Made, Held, let_go, joins, more, Joined, behind, join, made_from, tokens_of_bits}
use Rattle.wesl_text_tokens.specs.Brackets.{Known, brackets}
use Rattle.wesl_text_tokens.proofs.Placing.{let_go_text}
use Rattle.wesl_text_tokens.proofs.SymbolTexts.{each, text_of_symbol}
use Rattle.wesl_text_form.specs.Says.{bits_apart, sign_bits, token_bits}
use Rattle.wesl_text_sink.specs.declared.kind.Kind.{Kind}
use Rattle.wesl_text_sink.specs.declared.kind.Kind.TheVariants as kinds
use Rattle.wesl_text_sink.specs.Layout.{Laid, are_apart, are_blanks, are_laid, is_spelled, kind_of, laid_tokens}
use Rattle.wesl_text_sink.specs.Touching.{first_of, last_of, may_touch, runs_on}
use Rattle.wesl_text_sink.proofs.Assembled.{all_glued, bits_apart_first, laid_bits, one_apart, set_glue}
use Rattle.wesl_text_sink.proofs.Bracketed.{brackets_laid, first_what, sign_of}
use Rattle.wesl_text_sink.proofs.Touched.{each_two, or_else}

-- ---- lists of tokens

abbrev pub made_tokens : List Made → List Token
made_tokens ms = map (λ m. m.token) ms

both_tokens : (ms ns : List Made) → made_tokens (ms ++ ns) ≡ made_tokens ms ++ made_tokens ns
both_tokens [] ns = refl
both_tokens (m ∷ ms) ns = ap (λ ts. m.token ∷ ts) (both_tokens ms ns)

tail_same : (t u : Token) (ts us : List Token) → t ∷ ts ≡ u ∷ us → (t ≡ u) × (ts ≡ us)
tail_same t u ts us h = (cc, cc)

-- what stands behind the same is the same
cancel : (xs ys zs : List Token) → xs ++ ys ≡ xs ++ zs → ys ≡ zs
cancel [] ys zs h = h
cancel (x ∷ xs) ys zs h = cancel xs ys zs (tail_same x x (xs ++ ys) (xs ++ zs) h).1

-- where what is held is let go first, what comes behind it is what is meant
behind_held : (ms ns : List Made) (ts : List Token) → made_tokens (ms ++ ns) ≡ made_tokens ms ++ ts → made_tokens ns ≡ ts
behind_held ms ns ts h = cancel (made_tokens ms) (made_tokens ns) ts (turned (both_tokens ms ns) ∙ h)

-- one token behind what is held
one_behind : (h : Option Held) (u t : Token) (ms : List Made) (ts : List Token) → made_tokens ((behind h u).done ++ ms) ≡ made_tokens (let_go h) ++ t ∷ ts → (u ≡ t) × (made_tokens ms ≡ ts)
one_behind h u t ms ts e =
    let m : Made = record { token = u; count = 1 } in
    tail_same u t (made_tokens ms) ts (behind_held (let_go h) (m ∷ ms) (t ∷ ts) (ap made_tokens (turned (append_assoc (let_go h) (m ∷ []) ms)) ∙ e))

-- ---- bits of a token, one after another

-- what is held behind bits, and the number of the next one
abbrev held_after : Known → ℕ → Option Held → List Bit → Option Held
held_after K i h [] = h
held_after K i h (b ∷ bs) = held_after K (suc i) (join (is_one_of K.opened i) (is_one_of K.closed i) h b.is_glued b.what).held bs

abbrev index_after : ℕ → List Bit → ℕ
index_after i [] = i
index_after i (b ∷ bs) = index_after (suc i) bs

made_swap : (K : Known) (bs xs ys : List Bit) (i : ℕ) (h : Option Held) → made_from (index_after i bs) K (held_after K i h bs) xs ≡ made_from (index_after i bs) K (held_after K i h bs) ys → made_from i K h (bs ++ xs) ≡ made_from i K h (bs ++ ys)
made_swap K [] xs ys i h e = e
made_swap K (b ∷ bs) xs ys i h e =
    let j : Joined = join (is_one_of K.opened i) (is_one_of K.closed i) h b.is_glued b.what in
    ap (λ ms. j.done ++ ms) (made_swap K bs xs ys (suc i) j.held e)

joins_apart : (h : Option Held) (t : Text) → joins h t false ≡ false
joins_apart None t = refl
joins_apart (Some h) t = refl

-- what a sign does, by whether it opens, closes or joins
abbrev sign_step : Bool → Bool → Bool → Option Held → Text → Joined
sign_step o c z h t =
    if o then behind h open_list
    else if c then behind h close_list
    else if z then record { done = []; held = more h t }
    else record { done = let_go h; held = more None t }

-- ---- a symbol that is held comes first

-- the first of what is made is a symbol
abbrev BeginsSymbol : List Made → Type 0
BeginsSymbol ms = (q : Symbol) × (ns : List Token) × (made_tokens ms ≡ symbol q ∷ ns)

abbrev LetsGo : List Made → Option Held → Type 0
LetsGo ms h = (ns : List Made) × (ms ≡ let_go h ++ ns)

goes_behind : (h : Option Held) (t : Token) (ms : List Made) → LetsGo ((behind h t).done ++ ms) h
goes_behind h t ms = (record { token = t; count = 1 } ∷ ms, append_assoc (let_go h) (record { token = t; count = 1 } ∷ []) ms)

held_first : (q : Symbol) (t : Text) (n : ℕ) (ms : List Made) → symbol_of t ≡ Some q → LetsGo ms (Some (record { text = t; count = n })) → (ns : List Token) × (made_tokens ms ≡ symbol q ∷ ns)
held_first q t n ms e g =
    let go : let_go (Some (record { text = t; count = n })) ≡ record { token = symbol q; count = n } ∷ [] = ap (λ (o : Option Symbol). elim o as (λ _. List Made) [ None ↦ [] | Some s ↦ record { token = symbol s; count = n } ∷ [] ]) e in
    (made_tokens g.0, ap made_tokens (g.1 ∙ ap (λ xs. xs ++ g.0) go))

begins_symbol : (q : Symbol) (t : Text) (n : ℕ) (ms : List Made) → symbol_of t ≡ Some q → LetsGo ms (Some (record { text = t; count = n })) → BeginsSymbol ms
begins_symbol q t n ms e g = let x : (ns : List Token) × (made_tokens ms ≡ symbol q ∷ ns) = held_first q t n ms e g in (q, x.0, x.1)

abbrev is_known : Option Symbol → Bool
is_known None = false
is_known (Some s) = true

known_is : (x : Option Symbol) → is_known x ≡ true → (r : Symbol) × (x ≡ Some r)
known_is None h = absurd (false≢true h)
known_is (Some r) h = (r, refl)

some_known : (x : Option Symbol) (g : Bool) → (g && is_some x) ≡ true → is_known x ≡ true
some_known None true h = absurd (false≢true h)
some_known (Some r) g h = refl
some_known None false h = absurd (false≢true h)

sign_begins : (K : Known) (j : ℕ) (p d : Text) (n : ℕ) (q : Symbol) (rest : List Bit) → symbol_of p ≡ Some q → ((r : Symbol) → symbol_of (p ++ d) ≡ Some r → BeginsSymbol (made_from (suc j) K (Some (record { text = p ++ d; count = suc n })) rest))
    → (o c z : Bool) → (z ≡ true → is_known (symbol_of (p ++ d)) ≡ true) → BeginsSymbol ((sign_step o c z (Some (record { text = p; count = n })) d).done ++ made_from (suc j) K (sign_step o c z (Some (record { text = p; count = n })) d).held rest)
sign_begins K j p d n q rest e again true c z k = begins_symbol q p n _ e (goes_behind (Some (record { text = p; count = n })) open_list _)
sign_begins K j p d n q rest e again false true z k = begins_symbol q p n _ e (goes_behind (Some (record { text = p; count = n })) close_list _)
sign_begins K j p d n q rest e again false false true k = let r : (x : Symbol) × (symbol_of (p ++ d) ≡ Some x) = known_is (symbol_of (p ++ d)) (k refl) in again r.0 r.1
sign_begins K j p d n q rest e again false false false k = begins_symbol q p n _ e (made_from (suc j) K (more None d) rest, refl)

symbol_comes : (K : Known) (rest : List Bit) (j : ℕ) (p : Text) (n : ℕ) (q : Symbol) → symbol_of p ≡ Some q → BeginsSymbol (made_from j K (Some (record { text = p; count = n })) rest)
symbol_comes K [] j p n q e = begins_symbol q p n _ e ([], turned (append-nil (let_go (Some (record { text = p; count = n })))))
symbol_comes K (b ∷ rest) j p n q e = by b.what b.is_glued (λ d r x. symbol_comes K rest (suc j) (p ++ d) (suc n) r x) where
  by : (u : What) (g : Bool) → ((d : Text) (r : Symbol) → symbol_of (p ++ d) ≡ Some r → BeginsSymbol (made_from (suc j) K (Some (record { text = p ++ d; count = suc n })) rest))
      → BeginsSymbol ((join (is_one_of K.opened j) (is_one_of K.closed j) (Some (record { text = p; count = n })) g u).done ++ made_from (suc j) K (join (is_one_of K.opened j) (is_one_of K.closed j) (Some (record { text = p; count = n })) g u).held rest)
  by (a_name t) g again = begins_symbol q p n _ e (goes_behind (Some (record { text = p; count = n })) (name t) _)
  by (a_number t) g again = begins_symbol q p n _ e (goes_behind (Some (record { text = p; count = n })) (number t) _)
  by (a_sign d) g again = sign_begins K j p d n q rest e (again d) (is_one_of K.opened j) (is_one_of K.closed j) (joins (Some (record { text = p; count = n })) d g) (some_known (symbol_of (p ++ d)) g)

-- ---- what is meant

-- what is held behind a token of a kind
abbrev IsHeld : Option Kind → Option Held → Type 0
IsHeld None h = h ≡ None
IsHeld (Some kinds.Name) h = h ≡ None
IsHeld (Some kinds.Number) h = h ≡ None
IsHeld (Some (kinds.Symbol s)) h = (n : ℕ) × (h ≡ Some (record { text = symbol_text s; count = n }))
IsHeld (Some kinds.OpenList) h = h ≡ None
IsHeld (Some kinds.CloseList) h = h ≡ None

-- bits are read as these tokens, behind what is held
abbrev IsMeant : Known → ℕ → Option Held → List Bit → List Token → Type 0
IsMeant K i h bs ts = made_tokens (made_from i K h bs) ≡ made_tokens (let_go h) ++ ts

-- one token on
record Onwards (K : Known) (i : ℕ) (h : Option Held) (t : Token) (rest : List Bit) (ts : List Token) : Type 0 where
  held : IsHeld (Some (kind_of t)) (held_after K i h (token_bits t))
  meant : IsMeant K (index_after i (token_bits t)) (held_after K i h (token_bits t)) rest ts

-- a bracket of a template list, which is one sign
list_step : (K : Known) (i : ℕ) (h : Option Held) (t : Text) (q : Symbol) (u : Token) (rest : List Bit) (ts : List Token) → symbol_of t ≡ Some q → ((r : Symbol) → symbol r ≡ u → ⊥) → (o c z : Bool) → z ≡ false → made_tokens ((sign_step o c z h t).done ++ made_from (suc i) K (sign_step o c z h t).held rest) ≡ made_tokens (let_go h) ++ u ∷ ts → ((sign_step o c z h t).held ≡ None) × (made_tokens (made_from (suc i) K (sign_step o c z h t).held rest) ≡ ts)
list_step K i h t q u rest ts e n true c z f m = (refl, (one_behind h open_list u _ ts m).1)
list_step K i h t q u rest ts e n false true z f m = (refl, (one_behind h close_list u _ ts m).1)
list_step K i h t q u rest ts e n false false true f m = absurd (false≢true (turned f))
list_step K i h t q u rest ts e n false false false f m =
    let x : BeginsSymbol (made_from (suc i) K (more None t) rest) = symbol_comes K rest (suc i) t 1 q e in
    absurd (n x.0 (tail_same (symbol x.0) u x.1 ts (turned x.2 ∙ behind_held (let_go h) (made_from (suc i) K (more None t) rest) (u ∷ ts) m)).0)

-- ---- the signs of a symbol

abbrev bits_text : List Bit → Text
bits_text [] = []
bits_text (b ∷ bs) = sign_of b.what ++ bits_text bs

abbrev is_a_sign : What → Bool
is_a_sign (a_sign t) = not (is_empty t)
is_a_sign _ = false

abbrev all_signs : List Bit → Bool
all_signs [] = true
all_signs (b ∷ bs) = is_a_sign b.what && all_signs bs

longer : (p d r : Text) → is_empty d ≡ false → p ≡ p ++ (d ++ r) → ⊥
longer p [] r e h = false≢true (turned e)
longer p (c ∷ d) r e h = omega (arith, ap length h, length-append p ((c ∷ d) ++ r))

-- what is found of the signs that are left of a symbol
record HeldOn (K : Known) (j : ℕ) (g : Option Held) (bs : List Bit) (s : Symbol) (rest : List Bit) (ts : List Token) : Type 0 where
  count : ℕ
  held : held_after K j g bs ≡ Some (record { text = symbol_text s; count = count })
  meant : made_tokens (made_from (index_after j bs) K (held_after K j g bs) rest) ≡ symbol s ∷ ts

-- one sign more
on_step : (K : Known) (j : ℕ) (p d : Text) (n : ℕ) (q s : Symbol) (bs rest : List Bit) (ts : List Token) → symbol_of p ≡ Some q → is_empty d ≡ false → symbol_text s ≡ p ++ (d ++ bits_text bs)
    → ((r : Symbol) → symbol_of (p ++ d) ≡ Some r → made_tokens (made_from (suc j) K (Some (record { text = p ++ d; count = suc n })) (bs ++ rest)) ≡ symbol s ∷ ts → HeldOn K (suc j) (Some (record { text = p ++ d; count = suc n })) bs s rest ts)
    → (o c z : Bool) → z ≡ is_some (symbol_of (p ++ d)) → made_tokens ((sign_step o c z (Some (record { text = p; count = n })) d).done ++ made_from (suc j) K (sign_step o c z (Some (record { text = p; count = n })) d).held (bs ++ rest)) ≡ symbol s ∷ ts
    → HeldOn K (suc j) (sign_step o c z (Some (record { text = p; count = n })) d).held bs s rest ts
on_step K j p d n q s bs rest ts e f w again o c z k m = by o c z k m where
  early : (ms : List Made) → LetsGo ms (Some (record { text = p; count = n })) → made_tokens ms ≡ symbol s ∷ ts → ⊥
  early ms l h =
      let first : (ns : List Token) × (made_tokens ms ≡ symbol q ∷ ns) = held_first q p n ms e l in
      let same : symbol q ≡ symbol s = (tail_same (symbol q) (symbol s) first.0 ts (turned first.1 ∙ h)).0 in
      let one : q ≡ s = cc in
      longer p d (bits_text bs) f (turned (text_of_symbol p q e) ∙ (ap symbol_text one ∙ w))

  some_is : (x : Option Symbol) → true ≡ is_some x → (r : Symbol) × (x ≡ Some r)
  some_is None h = absurd (false≢true (turned h))
  some_is (Some r) h = (r, refl)

  by : (o c z : Bool) → z ≡ is_some (symbol_of (p ++ d)) → made_tokens ((sign_step o c z (Some (record { text = p; count = n })) d).done ++ made_from (suc j) K (sign_step o c z (Some (record { text = p; count = n })) d).held (bs ++ rest)) ≡ symbol s ∷ ts → HeldOn K (suc j) (sign_step o c z (Some (record { text = p; count = n })) d).held bs s rest ts
  by true c z k m = absurd (early _ (goes_behind (Some (record { text = p; count = n })) open_list _) m)
  by false true z k m = absurd (early _ (goes_behind (Some (record { text = p; count = n })) close_list _) m)
  by false false false k m = absurd (early _ (made_from (suc j) K (more None d) (bs ++ rest), refl) m)
  by false false true k m = let r : (x : Symbol) × (symbol_of (p ++ d) ≡ Some x) = some_is (symbol_of (p ++ d)) k in again r.0 r.1 m

one_on : (K : Known) (b : Bit) (bs : List Bit) (j : ℕ) (p : Text) (n : ℕ) (s : Symbol) (rest : List Bit) (ts : List Token) → HeldOn K (suc j) (join (is_one_of K.opened j) (is_one_of K.closed j) (Some (record { text = p; count = n })) b.is_glued b.what).held bs s rest ts → HeldOn K j (Some (record { text = p; count = n })) (b ∷ bs) s rest ts
one_on K b bs j p n s rest ts x = record { count = x.count; held = x.held; meant = x.meant }

-- the signs that are left
held_on : (K : Known) (bs : List Bit) (j : ℕ) (p : Text) (n : ℕ) (q s : Symbol) (rest : List Bit) (ts : List Token) → symbol_of p ≡ Some q → all_glued bs ≡ true → all_signs bs ≡ true → symbol_text s ≡ p ++ bits_text bs → made_tokens (made_from j K (Some (record { text = p; count = n })) (bs ++ rest)) ≡ symbol s ∷ ts → HeldOn K j (Some (record { text = p; count = n })) bs s rest ts
held_on K [] j p n q s rest ts e a b w m = record { count = n; held = ap (λ (t : Text). let o : Option Held = Some (record { text = t; count = n }) in o) (turned (w ∙ append-nil p)); meant = m }
held_on K (b ∷ bs) j p n q s rest ts e a k w m =
    one_on K b bs j p n s rest ts (by b.what b.is_glued (and_parts b.is_glued (all_glued bs) a).0 (and_parts (is_a_sign b.what) (all_signs bs) k).0 w m
    (λ d r x v y. held_on K bs (suc j) (p ++ d) (suc n) r s rest ts x (and_parts b.is_glued (all_glued bs) a).1 (and_parts (is_a_sign b.what) (all_signs bs) k).1 v y)) where
      by : (u : What) (g : Bool) → g ≡ true → is_a_sign u ≡ true → symbol_text s ≡ p ++ (sign_of u ++ bits_text bs)
          → made_tokens ((join (is_one_of K.opened j) (is_one_of K.closed j) (Some (record { text = p; count = n })) g u).done ++ made_from (suc j) K (join (is_one_of K.opened j) (is_one_of K.closed j) (Some (record { text = p; count = n })) g u).held (bs ++ rest)) ≡ symbol s ∷ ts
          → ((d : Text) (r : Symbol) → symbol_of (p ++ d) ≡ Some r → symbol_text s ≡ (p ++ d) ++ bits_text bs → made_tokens (made_from (suc j) K (Some (record { text = p ++ d; count = suc n })) (bs ++ rest)) ≡ symbol s ∷ ts → HeldOn K (suc j) (Some (record { text = p ++ d; count = suc n })) bs s rest ts)
          → HeldOn K (suc j) (join (is_one_of K.opened j) (is_one_of K.closed j) (Some (record { text = p; count = n })) g u).held bs s rest ts
      by (a_name t) g x y v z again = absurd (false≢true y)
      by (a_number t) g x y v z again = absurd (false≢true y)
      by (a_sign d) g x y v z again =
          on_step K j p d n q s bs rest ts e (not-true (is_empty d) y) v (λ r l o. again d r l (v ∙ turned (append_assoc p d (bits_text bs))) o)
          (is_one_of K.opened j) (is_one_of K.closed j) (joins (Some (record { text = p; count = n })) d g) (ap (λ (f : Bool). f && is_some (symbol_of (p ++ d))) x) z

-- ---- one token on

symbol_first : (K : Known) (i : ℕ) (h : Option Held) (t : Text) (q s : Symbol) (bs rest : List Bit) (ts : List Token) → symbol_of t ≡ Some q → all_glued bs ≡ true → all_signs bs ≡ true → symbol_text s ≡ t ++ bits_text bs → (o c z : Bool) → z ≡ false
    → made_tokens ((sign_step o c z h t).done ++ made_from (suc i) K (sign_step o c z h t).held (bs ++ rest)) ≡ made_tokens (let_go h) ++ symbol s ∷ ts → HeldOn K (suc i) (sign_step o c z h t).held bs s rest ts
symbol_first K i h t q s bs rest ts e a k w true c z f m = let no : ⊥ = cc (one_behind h open_list (symbol s) _ ts m).0 in absurd no
symbol_first K i h t q s bs rest ts e a k w false true z f m = let no : ⊥ = cc (one_behind h close_list (symbol s) _ ts m).0 in absurd no
symbol_first K i h t q s bs rest ts e a k w false false true f m = absurd (false≢true (turned f))
symbol_first K i h t q s bs rest ts e a k w false false false f m = held_on K bs (suc i) t 1 q s rest ts e a k w (behind_held (let_go h) (made_from (suc i) K (more None t) (bs ++ rest)) (symbol s ∷ ts) m)

-- the first bit of a symbol is a sign that is a symbol of its own, and the others are signs
abbrev first_known : List Bit → Bool
first_known [] = false
first_known (b ∷ bs) = is_a_sign b.what && (is_known (symbol_of (sign_of b.what)) && all_signs bs)

symbol_bits : (K : Known) (bs : List Bit) (i : ℕ) (h : Option Held) (s : Symbol) (rest : List Bit) (ts : List Token) → one_apart bs ≡ true → first_known bs ≡ true → symbol_text s ≡ bits_text bs → made_tokens (made_from i K h (bs ++ rest)) ≡ made_tokens (let_go h) ++ symbol s ∷ ts → HeldOn K i h bs s rest ts
symbol_bits K [] i h s rest ts a k w m = absurd (false≢true a)
symbol_bits K (b ∷ bs) i h s rest ts a k w m =
    let x : (is_a_sign b.what ≡ true) × ((is_known (symbol_of (sign_of b.what)) && all_signs bs) ≡ true) = and_parts _ _ k in
    let y : (is_known (symbol_of (sign_of b.what)) ≡ true) × (all_signs bs ≡ true) = and_parts _ _ x.1 in
    let z : (not b.is_glued ≡ true) × (all_glued bs ≡ true) = and_parts _ _ a in
    let r : HeldOn K (suc i) (join (is_one_of K.opened i) (is_one_of K.closed i) h b.is_glued b.what).held bs s rest ts = by b.what b.is_glued (not-true b.is_glued z.0) x.0 y.0 y.1 z.1 w m in
    record { count = r.count; held = r.held; meant = r.meant } where
      by : (u : What) (g : Bool) → g ≡ false → is_a_sign u ≡ true → is_known (symbol_of (sign_of u)) ≡ true → all_signs bs ≡ true → all_glued bs ≡ true → symbol_text s ≡ sign_of u ++ bits_text bs
          → made_tokens ((join (is_one_of K.opened i) (is_one_of K.closed i) h g u).done ++ made_from (suc i) K (join (is_one_of K.opened i) (is_one_of K.closed i) h g u).held (bs ++ rest)) ≡ made_tokens (let_go h) ++ symbol s ∷ ts
          → HeldOn K (suc i) (join (is_one_of K.opened i) (is_one_of K.closed i) h g u).held bs s rest ts
      by (a_name t) g e p q r l v n = absurd (false≢true p)
      by (a_number t) g e p q r l v n = absurd (false≢true p)
      by (a_sign t) g e p q r l v n =
          let d : (x : Symbol) × (symbol_of t ≡ Some x) = known_is (symbol_of t) q in
          symbol_first K i h t d.0 s bs rest ts d.1 l r v (is_one_of K.opened i) (is_one_of K.closed i) (joins h t g) (ap (joins h t) e ∙ joins_apart h t) n

signs_all : (s : Symbol) → symbol_text s ≡ bits_text (sign_bits (symbol_text s))
signs_all s = turned ((bytes_eq-Decides (bits_text (sign_bits (symbol_text s))) (symbol_text s)).0 (each (λ y. bytes_eq (bits_text (sign_bits (symbol_text y))) (symbol_text y)) refl s))

-- what is meant goes on behind each token
onwards : (K : Known) (i : ℕ) (h : Option Held) (t : Token) (rest : List Bit) (ts : List Token) → IsMeant K i h (token_bits t ++ rest) (t ∷ ts) → Onwards K i h t rest ts
onwards K i h (name t) rest ts m = record { held = refl; meant = (one_behind h (name t) (name t) (made_from (suc i) K None rest) ts m).1 }
onwards K i h (number t) rest ts m = record { held = refl; meant = (one_behind h (number t) (number t) (made_from (suc i) K None rest) ts m).1 }
onwards K i h (symbol s) rest ts m =
    let r : HeldOn K i h (sign_bits (symbol_text s)) s rest ts =
    symbol_bits K (sign_bits (symbol_text s)) i h s rest ts (bits_apart_first (symbol s)) (each (λ y. first_known (sign_bits (symbol_text y))) refl s) (signs_all s) m in
    record {
      held = (r.count, r.held);
      meant = r.meant ∙ turned (ap (λ (ms : List Made). made_tokens ms ++ ts) (ap let_go r.held ∙ let_go_text s r.count));
    }
onwards K i h open_list rest ts m =
    let r : ((join (is_one_of K.opened i) (is_one_of K.closed i) h false (a_sign (codes "<"))).held ≡ None) × (made_tokens (made_from (suc i) K (join (is_one_of K.opened i) (is_one_of K.closed i) h false (a_sign (codes "<"))).held rest) ≡ ts) =
    list_step K i h (codes "<") is.Less open_list rest ts refl no_open (is_one_of K.opened i) (is_one_of K.closed i) (joins h (codes "<") false) (joins_apart h (codes "<")) m in
    record { held = r.0; meant = r.1 ∙ turned (ap (λ (x : Option Held). made_tokens (let_go x) ++ ts) r.0) } where
      no_open : (r : Symbol) → symbol r ≡ open_list → ⊥
      no_open r e = cc
onwards K i h close_list rest ts m =
    let r : ((join (is_one_of K.opened i) (is_one_of K.closed i) h false (a_sign (codes ">"))).held ≡ None) × (made_tokens (made_from (suc i) K (join (is_one_of K.opened i) (is_one_of K.closed i) h false (a_sign (codes ">"))).held rest) ≡ ts) =
    list_step K i h (codes ">") is.Greater close_list rest ts refl no_close (is_one_of K.opened i) (is_one_of K.closed i) (joins h (codes ">") false) (joins_apart h (codes ">")) m in
    record { held = r.0; meant = r.1 ∙ turned (ap (λ (x : Option Held). made_tokens (let_go x) ++ ts) r.0) } where
      no_close : (r : Symbol) → symbol r ≡ close_list → ⊥
      no_close r e = cc

-- ---- the first bit of a token that may touch

abbrev apart_or_runs : Symbol → Symbol → Bool
apart_or_runs a b = runs_on (last_of (symbol_text a)) (first_of (symbol_text b)) || not (is_some (symbol_of (symbol_text a ++ sign_of (first_what (sign_bits (symbol_text b))))))

no_symbol : (a b : Symbol) → not (runs_on (last_of (symbol_text a)) (first_of (symbol_text b))) ≡ true → is_some (symbol_of (symbol_text a ++ sign_of (first_what (sign_bits (symbol_text b))))) ≡ false
no_symbol a b h = not-true _ (or_else (runs_on (last_of (symbol_text a)) (first_of (symbol_text b))) _ (each_two apart_or_runs refl a b) h)

by_none : (h : Option Held) (t : Text) (g : Bool) → h ≡ None → joins h t g ≡ false
by_none h t g e = ap (λ (x : Option Held). joins x t g) e

by_symbol : (h : Option Held) (s : Symbol) (n : ℕ) (t : Text) (g : Bool) → h ≡ Some (record { text = symbol_text s; count = n }) → is_some (symbol_of (symbol_text s ++ t)) ≡ false → joins h t g ≡ false
by_symbol h s n t g e f = ap (λ (x : Option Held). joins x t g) e ∙ (ap (λ (b : Bool). g && b) f ∙ last g) where
  last : (g : Bool) → (g && false) ≡ false
  last true = refl
  last false = refl

-- the sign is one of a symbol
touches_sign : (j : Kind) (h : Option Held) (g : Bool) (r : Symbol) → IsHeld (Some j) h → may_touch j (kinds.Symbol r) ≡ true → joins h (sign_of (first_what (sign_bits (symbol_text r)))) g ≡ false
touches_sign kinds.Name h g r e m = by_none h _ g e
touches_sign kinds.Number h g r e m = by_none h _ g e
touches_sign (kinds.Symbol s) h g r e m = by_symbol h s e.0 _ g e.1 (no_symbol s r m)
touches_sign kinds.OpenList h g r e m = by_none h _ g e
touches_sign kinds.CloseList h g r e m = by_none h _ g e

-- the same of the brackets of template lists
touches_open : (j : Kind) (h : Option Held) (g : Bool) → IsHeld (Some j) h → may_touch j kinds.OpenList ≡ true → joins h (codes "<") g ≡ false
touches_open kinds.Name h g e m = by_none h _ g e
touches_open kinds.Number h g e m = by_none h _ g e
touches_open (kinds.Symbol s) h g e m = by_symbol h s e.0 _ g e.1 (no_symbol s is.Less m)
touches_open kinds.OpenList h g e m = by_none h _ g e
touches_open kinds.CloseList h g e m = by_none h _ g e

touches_close : (j : Kind) (h : Option Held) (g : Bool) → IsHeld (Some j) h → may_touch j kinds.CloseList ≡ true → joins h (codes ">") g ≡ false
touches_close kinds.Name h g e m = by_none h _ g e
touches_close kinds.Number h g e m = by_none h _ g e
touches_close (kinds.Symbol s) h g e m = by_symbol h s e.0 _ g e.1 (no_symbol s is.Greater m)
touches_close kinds.OpenList h g e m = by_none h _ g e
touches_close kinds.CloseList h g e m = by_none h _ g e

-- a sign that does not join does the same, whether it touches or not
abbrev GlueIsNothing : Option Held → Bool → Token → Type 0
GlueIsNothing h g u = (o c : Bool) → join o c h g (first_what (token_bits u)) ≡ join o c h false (first_what (token_bits u))

what_joins : (h : Option Held) (g : Bool) (w : What) (o c : Bool) → joins h (sign_of w) g ≡ false → join o c h g w ≡ join o c h false w
what_joins h g (a_name t) o c e = refl
what_joins h g (a_number t) o c e = refl
what_joins h g (a_sign t) o c e = ap (λ (z : Bool). sign_step o c z h t) (e ∙ turned (joins_apart h t))

touching : (h : Option Held) (g : Bool) (j : Kind) (u : Token) → IsHeld (Some j) h → may_touch j (kind_of u) ≡ true → GlueIsNothing h g u
touching h g j (name t) e m o c = refl
touching h g j (number t) e m o c = refl
touching h g j (symbol s) e m o c = what_joins h g (first_what (sign_bits (symbol_text s))) o c (touches_sign j h g s e m)
touching h g j open_list e m o c = what_joins h g (a_sign (codes "<")) o c (touches_open j h g e m)
touching h g j close_list e m o c = what_joins h g (a_sign (codes ">")) o c (touches_close j h g e m)

glue_nothing : (before : Option Kind) (h : Option Held) (g : Bool) (blanks : Text) (u : Token) → IsHeld before h → are_apart before blanks (kind_of u) ≡ true → GlueIsNothing h (g && is_empty blanks) u
glue_nothing None h g blanks u e a = λ o c. what_joins h (g && is_empty blanks) (first_what (token_bits u)) o c (by_none h _ (g && is_empty blanks) e)
glue_nothing (Some j) h g blanks u e a = by g (is_empty blanks) a where
  by : (f b : Bool) → (not b || may_touch j (kind_of u)) ≡ true → GlueIsNothing h (f && b) u
  by false b k o c = refl
  by true false k o c = refl
  by true true k o c = touching h true j u e k o c

glued_same : (K : Known) (i : ℕ) (h : Option Held) (g : Bool) (bs rest : List Bit) → one_apart bs ≡ true → ((o c : Bool) → join o c h g (first_what bs) ≡ join o c h false (first_what bs)) → made_from i K h (set_glue g bs ++ rest) ≡ made_from i K h (bs ++ rest)
glued_same K i h g [] rest a f = refl
glued_same K i h g (b ∷ bs) rest a f =
    let go : Joined → List Made = λ (j : Joined). j.done ++ made_from (suc i) K j.held (bs ++ rest) in
    ap go (f (is_one_of K.opened i) (is_one_of K.closed i))
    ∙ turned (ap (λ (x : Bool). go (join (is_one_of K.opened i) (is_one_of K.closed i) h x b.what)) (not-true b.is_glued (and_parts (not b.is_glued) _ a).0))

-- ---- all tokens

-- the parts of what is laid out
laid_parts : (before : Option Kind) (l : Laid) (ls : List Laid) → are_laid before (l ∷ ls) ≡ true → (are_apart before l.blanks (kind_of l.token) ≡ true) × (are_laid (Some (kind_of l.token)) ls ≡ true)
laid_parts before l ls a =
    let x : ((are_blanks l.blanks && is_spelled l.token) ≡ true) × ((are_apart before l.blanks (kind_of l.token) && are_laid (Some (kind_of l.token)) ls) ≡ true) = and_parts _ _ a in
    and_parts (are_apart before l.blanks (kind_of l.token)) (are_laid (Some (kind_of l.token)) ls) x.1

-- the first token does the same, whether it touches the one before or not
first_same : (K : Known) (l : Laid) (rest : List Bit) (g : Bool) (before : Option Kind) (i : ℕ) (h : Option Held) → are_apart before l.blanks (kind_of l.token) ≡ true → IsHeld before h → made_from i K h (set_glue (g && is_empty l.blanks) (token_bits l.token) ++ rest) ≡ made_from i K h (token_bits l.token ++ rest)
first_same K l rest g before i h a e = glued_same K i h (g && is_empty l.blanks) (token_bits l.token) rest (bits_apart_first l.token) (glue_nothing before h g l.blanks l.token e a)

-- where they are meant apart
joined_apart : (K : Known) (ls : List Laid) (g : Bool) (before : Option Kind) (i : ℕ) (h : Option Held) → are_laid before ls ≡ true → IsHeld before h → IsMeant K i h (bits_apart (laid_tokens ls)) (laid_tokens ls) → made_from i K h (laid_bits g ls) ≡ made_from i K h (bits_apart (laid_tokens ls))
joined_apart K [] g before i h a e m = refl
joined_apart K (l ∷ ls) g before i h a e m =
    let y : (are_apart before l.blanks (kind_of l.token) ≡ true) × (are_laid (Some (kind_of l.token)) ls ≡ true) = laid_parts before l ls a in
    let bs : List Bit = token_bits l.token in
    let on : Onwards K i h l.token (bits_apart (laid_tokens ls)) (laid_tokens ls) = onwards K i h l.token (bits_apart (laid_tokens ls)) (laid_tokens ls) m in
    first_same K l (laid_bits true ls) g before i h y.0 e
    ∙ made_swap K bs (laid_bits true ls) (bits_apart (laid_tokens ls)) i h (joined_apart K ls true (Some (kind_of l.token)) (index_after i bs) (held_after K i h bs) y.1 on.held on.meant)

-- where they are meant as they are laid out
joined_laid : (K : Known) (ls : List Laid) (g : Bool) (before : Option Kind) (i : ℕ) (h : Option Held) → are_laid before ls ≡ true → IsHeld before h → IsMeant K i h (laid_bits g ls) (laid_tokens ls) → made_from i K h (laid_bits g ls) ≡ made_from i K h (bits_apart (laid_tokens ls))
joined_laid K [] g before i h a e m = refl
joined_laid K (l ∷ ls) g before i h a e m =
    let y : (are_apart before l.blanks (kind_of l.token) ≡ true) × (are_laid (Some (kind_of l.token)) ls ≡ true) = laid_parts before l ls a in
    let bs : List Bit = token_bits l.token in
    let same : made_from i K h (laid_bits g (l ∷ ls)) ≡ made_from i K h (bs ++ laid_bits true ls) = first_same K l (laid_bits true ls) g before i h y.0 e in
    let on : Onwards K i h l.token (laid_bits true ls) (laid_tokens ls) = onwards K i h l.token (laid_bits true ls) (laid_tokens ls) (ap made_tokens (turned same) ∙ m) in
    same ∙ made_swap K bs (laid_bits true ls) (bits_apart (laid_tokens ls)) i h (joined_laid K ls true (Some (kind_of l.token)) (index_after i bs) (held_after K i h bs) y.1 on.held on.meant)

known_same : (ls : List Laid) → are_laid None ls ≡ true → tokens_of_bits (laid_bits false ls) ≡ made_tokens (made_from 0 (brackets (bits_apart (laid_tokens ls))) None (laid_bits false ls))
known_same ls a = ap (λ (k : Known). made_tokens (made_from 0 k None (laid_bits false ls))) (brackets_laid ls a)

-- laid out tokens are read as they are where they are read so apart, and there alone
pub read_as_meant : (ls : List Laid) → are_laid None ls ≡ true → tokens_of_bits (bits_apart (laid_tokens ls)) ≡ laid_tokens ls → tokens_of_bits (laid_bits false ls) ≡ laid_tokens ls
read_as_meant ls a m = known_same ls a ∙ (ap made_tokens (joined_apart (brackets (bits_apart (laid_tokens ls))) ls false None 0 None a refl m) ∙ m)

pub meant_as_read : (ls : List Laid) → are_laid None ls ≡ true → tokens_of_bits (laid_bits false ls) ≡ laid_tokens ls → tokens_of_bits (bits_apart (laid_tokens ls)) ≡ laid_tokens ls
meant_as_read ls a m =
    let there : made_tokens (made_from 0 (brackets (bits_apart (laid_tokens ls))) None (laid_bits false ls)) ≡ laid_tokens ls = turned (known_same ls a) ∙ m in
    turned (ap made_tokens (joined_laid (brackets (bits_apart (laid_tokens ls))) ls false None 0 None a refl there)) ∙ there
